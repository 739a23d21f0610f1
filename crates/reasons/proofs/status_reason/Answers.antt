use Prim.Native.Nat.{ℕ}
use mathlib.Core.Path.{ap, ◌∙◌}
use Rattle.model.specs.Call.{is_one}
use Rattle.model.specs.Explain.{status_reason}
use Rattle.key.specs.Key.{num}
use Rattle.node.specs.Status.{optional_of}
use Rattle.bucket.specs.Bucket.{bucket_of, settings_of}
use Rattle.bucket.proofs.Held.{found, absent}
use Rattle.reasons.proofs.Rules.{status_absent}
use Rattle.reasons.proofs.status_reason.Goals as goal

pub returns-in-Some : goal.returns-in-Some
returns-in-Some c =
    let b = c.args.b.now in
    let status = c.args.status in
    c.status_reason_at.ensures
    ∙ ap (λ (j : ℕ). status_reason (settings_of b.bucket) j (is_one status.state) (optional_of status.direction) (bucket_of b.bucket))
    (found b.bucket (num c.args.key) c.position.ensures c.in-Some.is).1

pub returns-in-None : goal.returns-in-None
returns-in-None c =
    let b = c.args.b.now in
    let status = c.args.status in
    c.pending_reason.ensures
    ∙ status_absent (settings_of b.bucket) (num c.args.key) (is_one status.state) (optional_of status.direction) (bucket_of b.bucket)
    (absent b.bucket (num c.args.key) c.position.ensures c.in-None.is)
