use mathlib.Core.Path.{◌≡◌, sym, ap, ◌∙◌}
use Rattle.model.specs.Bucket as rules
use Rattle.model.specs.Question.{first_failed}
use Rattle.bucket.specs.Bucket.{bucket_of, settings_of}
use Rattle.bucket.proofs.Entry.{refused, accepted}
use mathlib.Core.Bool.{Bool, ◌&&◌}
use Rattle.node.specs.Status.{optional_of}
use mathlib.Core.Option.{none}
use lib.Dec.{leb}
use Rattle.model.specs.Call.{is_one, optional}
use Rattle.key.specs.Key.{num}
use Rattle.bucket.specs.Calls.{questions, update_result_of, update_status_call}
use Rattle.bucket.proofs.KBucket.update_status.Goals as goal

pub returns-in-Ok : goal.returns-in-Ok
unfolding update_status_call
returns-in-Ok c =
    let b = c.args.self in
    let codes = ap (λ (t : Bool). first_failed (questions b t none)) (sym c.of.ensures.passes) in
    let same : (c.in-Ok.status.state ≡ c.args.state) × (optional_of c.in-Ok.status.direction ≡ optional c.args.direction) =
    rw c.in-Ok.ensures.passed.1 at c.of.ensures.value in
    accepted b (first_failed (questions b (leb c.args.state 1 && leb c.args.direction 2) none)) (rules.update_status (settings_of b) (num c.args.key) (is_one c.args.state) (optional c.args.direction) (bucket_of b)) update_result_of c.answered.result _ _
    (codes ∙ sym c.in-Ok.ensures.value) c.answered.ensures (rw (same.0, same.1) at c.update_status.ensures)

pub returns-in-Err : goal.returns-in-Err
unfolding update_status_call
returns-in-Err c =
    let b = c.args.self in
    let codes = ap (λ (t : Bool). first_failed (questions b t none)) c.of.ensures.passes in
    refused b (first_failed (questions b (leb c.args.state 1 && leb c.args.direction 2) none)) (rules.update_status (settings_of b) (num c.args.key) (is_one c.args.state) (optional c.args.direction) (bucket_of b)) update_result_of c.refused.result c.in-Err.refusal
    (c.in-Err.ensures.value ∙ codes) c.refused.ensures
