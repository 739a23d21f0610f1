use mathlib.Core.Path.{◌≡◌, refl, ap, ◌∙◌}
use Rattle.model.specs.Bucket as rules
use Rattle.key.specs.Key.{num}
use Rattle.laws.proofs.Applied.{apply_none}
use Rattle.node.specs.declared.Node.{Node}
use Rattle.node.specs.Node.{node_of}
use Rattle.bucket.specs.Bucket.{pending_of, bucket_of, settings_of, records_first}
use mathlib.Core.List.{[]}
use Rattle.node.proofs.Stored.{stored_codes}
use Rattle.bucket.proofs.Sound.{becomes_itself}
use Rattle.bucket.proofs.Steps.{by_apply, told, then_does}
use Rattle.bucket.proofs.Rules.{apply_later, apply_due_lem}
use Rattle.bucket.proofs.Answers.{pending_stored, pending_apart}
use Rattle.bucket.proofs.SoundBucket.apply_pending.Goals.{in_default-via-in-Some+else-pending-now, in_default-via-in_default}
use Rattle.bucket.proofs.SoundBucket.apply_pending.Goals as goal

pub invariant_of-node : goal.invariant_of-node
invariant_of-node c =
    record { codes = stored_codes c.in-Some.pending.node (pending_stored c.args.self.bucket c.args.self.sound c.in-Some.pending c.in-Some.is) }

pub apply_due-requires : goal.apply_due-requires
apply_due-requires c =
    let b = c.args.self.bucket in
    let p = c.in-Some.pending in
    let n : Node = p.node in
    let x = c.without_pending.ensures in
    record {
      pending_value = ap (λ (m : rules.Bucket). m.pending) x.bucket;
      self_value = told x (λ (s : rules.BucketSettings) (m : rules.Bucket). rules.holds (num n.key) m) ∙ pending_apart b c.args.self.sound p c.in-Some.is;
    }

pub returns-in-Some : goal.returns-in-Some
returns-in-Some c =
    let b = c.args.self.bucket in
    let s = settings_of b in
    let now = c.args.now in
    let n : Node = c.in-Some.pending.node in
    let x = c.without_pending.ensures in
    by_apply (apply_due_lem s now (bucket_of b) _ (ap pending_of c.in-Some.is) c.if-pending-now.true)
    (then_does x (λ (s' : rules.BucketSettings) (m' : rules.Bucket). records_first (rules.apply_due s' now (node_of n) m')) (c.apply_due.ensures now))

pub returns-in_default : goal.returns-in_default
returns-in_default c =
    let b = c.args.self.bucket in
    let s = settings_of b in
    let m = bucket_of b in
    let later : rules.apply_pending s c.args.now m ≡ (m, []) =
    elim c.in_default.branch [
      | in_default-via-in-Some+else-pending-now w ↦ apply_later s c.args.now m _ (ap pending_of w.in-Some.is) w.if-pending-now.false
      | in_default-via-in_default w ↦ apply_none s c.args.now m (ap pending_of w.in_default.is)
    ] in
    rw c.stays.ensures (by_apply later (record { result_value = refl; becomes = becomes_itself b c.args.self.sound }))
