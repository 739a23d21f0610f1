use mathlib.Core.Path.{refl, sym, ap, ◌∙◌, subst}
use mathlib.Core.Option.{some}
use Rattle.std.proofs.Common.{Some}
use Rattle.model.specs.Bucket as rules
use Rattle.model.specs.Node as model
use Rattle.model.specs.Call.{is_one}
use Rattle.node.specs.declared.Node.{Node}
use borrow.Author.Tests.{leb-true}
use Rattle.node.proofs.Tests.{and_both}
use Rattle.node.specs.Node.{node_of}
use Rattle.bucket.specs.Bucket.{pending_of, bucket_of, settings_of, Becomes}
use Rattle.node.proofs.Stored.{stored_restated}
use Rattle.bucket.proofs.Sound.{becomes_itself}
use Rattle.bucket.proofs.Answers.{pending_unchanged, pending_restated, pending_stored, pending_changed}
use Rattle.bucket.proofs.SoundBucket.update_pending.Goals as goal
use Rattle.bucket.proofs.SoundBucket.update_pending.Goals.{After-with_pending}

pub returns-in_default : goal.returns-in_default
returns-in_default c =
    let b = c.args.self.bucket in
    let st = c.args.status.status in
    subst (λ (m : rules.Bucket). Becomes (settings_of b) m b)
    (sym (pending_unchanged (is_one st.state) (is_one st.direction) (bucket_of b) (ap pending_of c.in_default.is)))
    (becomes_itself b c.args.self.sound)

module _ (c : After-with_pending) where
  changed : Becomes (settings_of c.args.self.bucket) (rules.update_pending (is_one c.args.status.status.state) (is_one c.args.status.status.direction) (bucket_of c.args.self.bucket)) c.with_pending.result
  changed =
      let b = c.args.self.bucket in
      let st = c.args.status.status in
      let codes = and_both _ _ c.args.status.codes in
      let p = c.in-Some.pending in
      let n : Node = p.node in
      let u = is_one st.state in
      let x : model.Node = model.with_status u (some (is_one st.direction)) (node_of n) in
      let m : rules.Bucket = rules.with_pending (some (record { node = x; deadline = p.deadline })) (bucket_of b) in
      subst (λ (y : rules.Bucket). Becomes (settings_of b) y c.with_pending.result)
      (sym (pending_restated u (is_one st.direction) (bucket_of b) _ (ap pending_of c.in-Some.is)))
      (subst (Becomes (settings_of b) m) (sym c.with_pending.ensures)
      (pending_changed b c.args.self.sound p c.in-Some.is c.with_status-node.result x refl
      (c.with_status-node.ensures ∙ stored_restated st.state (Some st.direction) n (pending_stored b c.args.self.sound p c.in-Some.is) (leb-true st.state 1 codes.0) (leb-true st.direction 1 codes.1))))

pub invariant_of-result : goal.invariant_of-result
invariant_of-result c = record { sound = (changed (goal.at.invariant_of-result c).After-with_pending).sound }

pub returns : goal.returns
returns c = changed (goal.at.returns c).After-with_pending
