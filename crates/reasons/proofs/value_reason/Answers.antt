use Prim.Native.Nat.{ℕ}
use mathlib.Core.Path.{ap, ◌∙◌}
use Rattle.model.specs.Explain.{value_reason}
use Rattle.key.specs.Key.{num}
use Rattle.node.specs.Node.{value_of}
use Rattle.bucket.specs.Bucket.{bucket_of, settings_of}
use Rattle.bucket.proofs.Held.{found, absent}
use Rattle.reasons.proofs.Rules.{value_absent}
use Rattle.reasons.proofs.value_reason.Goals as goal

pub returns-in-Some : goal.returns-in-Some
returns-in-Some c =
    let b = c.args.b.now in
    c.value_reason_at.ensures
    ∙ ap (λ (j : ℕ). value_reason (settings_of b.bucket) j (value_of c.args.value) (bucket_of b.bucket))
    (found b.bucket (num c.args.key) c.position.ensures c.in-Some.is).1

pub returns-in-None : goal.returns-in-None
returns-in-None c =
    let b = c.args.b.now in
    c.pending_reason.ensures
    ∙ value_absent (settings_of b.bucket) (num c.args.key) (value_of c.args.value) (bucket_of b.bucket)
    (absent b.bucket (num c.args.key) c.position.ensures c.in-None.is)
