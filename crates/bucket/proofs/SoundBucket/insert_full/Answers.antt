use mathlib.Core.Path.{◌≡◌, sym, ap, ◌∙◌, subst}
use mathlib.Core.Option.{none}
use Prim.Native.Nat.{◌+◌}
use native.Mathlib.Omega.{arith}
use lib.ListN.{get_or}
use Rattle.model.specs.Bucket as rules
use Rattle.key.specs.Key.{Words}
use Rattle.node.specs.declared.Node.{Node}
use Rattle.node.specs.Node.{node_of, zero_node}
use Rattle.node.proofs.Stored.{stored_node_of}
use Rattle.std.proofs.Common.{Some}
use Rattle.bucket.specs.declared.PendingNode.{PendingNode}
use Rattle.bucket.specs.Bucket.{pending_of, bucket_of, settings_of, Becomes}
use Rattle.bucket.proofs.Steps.{done, pending_becomes, some_disconnected}
use Rattle.bucket.proofs.Answers.{waits}
use Rattle.bucket.proofs.Rules.{none_is, full_becomes_pending}
use Rattle.bucket.proofs.SoundBucket.insert_full.Goals as goal
use Rattle.bucket.proofs.SoundBucket.insert_full.Goals.{After-with_pending}

module _ (c : After-with_pending) where
  abbrev waiting : PendingNode
  waiting = record { node = c.args.node.node; deadline = c.args.now + c.args.self.bucket.settings.pending_timeout }

  pends : Becomes (settings_of c.args.self.bucket) (rules.with_pending (pending_of (Some waiting)) (bucket_of c.args.self.bucket)) c.with_pending.result
  pends =
      let b = c.args.self.bucket in
      let words : Words c.args.node.node.key = omega arith in
      subst (Becomes (settings_of b) (rules.with_pending (pending_of (Some waiting)) (bucket_of b))) (sym c.with_pending.ensures)
      (pending_becomes b c.args.self.sound (Some waiting) (pending_of (Some waiting))
      (ap (λ (y : Node). Some (record { node = y; deadline = waiting.deadline })) (sym (stored_node_of c.args.node.node words c.args.node.codes))) c.requires.self_value)

pub invariant_of-result : goal.invariant_of-result
invariant_of-result c = record { sound = (pends (goal.at.invariant_of-result c).After-with_pending).sound }

pub returns : goal.returns
returns c =
    let b = c.args.self.bucket in
    let s = settings_of b in
    let m = bucket_of b in
    let n = node_of c.args.node.node in
    let now = c.args.now in
    let rest = some_disconnected b c.args.self.sound (omega (arith, c.if-b-eq0.false)) in
    let empty : m.pending ≡ none = none_is m.pending (waits b.pending ∙ sym c.is_some.ensures ∙ c.if-is_some.false) in
    done
    (full_becomes_pending s now n m (node_of (get_or b.nodes 0 zero_node)) rest.0 (sym c.is_connected.ensures ∙ c.if-not-is_connected.false) rest.1 empty)
    (pends (goal.at.returns c).After-with_pending)
