use mathlib.Core.Path.{◌≡◌, sym, ap, ◌∙◌}
use mathlib.Core.Bool.{Bool}
use mathlib.Core.Option.{none}
use Rattle.model.specs.Bucket as rules
use Rattle.model.specs.Question.{first_failed}
use Rattle.key.specs.Key.{num}
use Rattle.node.specs.Node.{value_of, value_codes}
use Rattle.bucket.specs.Bucket.{bucket_of, settings_of}
use Rattle.bucket.specs.Calls.{questions, update_result_of, update_value_call}
use Rattle.bucket.proofs.Entry.{refused, accepted}
use Rattle.bucket.proofs.KBucket.update_value.Goals as goal

pub returns-in-Ok : goal.returns-in-Ok
unfolding update_value_call
returns-in-Ok c =
    let b = c.args.self in
    let codes = ap (λ (t : Bool). first_failed (questions b t none)) (sym c.of.ensures.passes) in
    let same : c.in-Ok.value.value ≡ c.args.value = rw c.in-Ok.ensures.passed.1 at c.of.ensures.value in
    accepted b (first_failed (questions b (value_codes c.args.value) none))
    (rules.update_value (settings_of b) (num c.args.key) (value_of c.args.value) (bucket_of b)) update_result_of c.answered.result _ _
    (codes ∙ sym c.in-Ok.ensures.value) c.answered.ensures (rw same at c.update_value.ensures)

pub returns-in-Err : goal.returns-in-Err
unfolding update_value_call
returns-in-Err c =
    let b = c.args.self in
    let codes = ap (λ (t : Bool). first_failed (questions b t none)) c.of.ensures.passes in
    refused b (first_failed (questions b (value_codes c.args.value) none))
    (rules.update_value (settings_of b) (num c.args.key) (value_of c.args.value) (bucket_of b)) update_result_of c.refused.result c.in-Err.refusal
    (c.in-Err.ensures.value ∙ codes) c.refused.ensures
