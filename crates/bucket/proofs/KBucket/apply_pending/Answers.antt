use mathlib.Core.Path.{refl, sym, ap, ◌∙◌}
use mathlib.Core.Bool.{true}
use mathlib.Core.List.{List}
use mathlib.Core.Option.{some}
use Rattle.model.specs.Node as model
use Rattle.model.specs.Bucket as bucket_rules
use Rattle.model.specs.Question.{first_failed}
use Rattle.bucket.specs.Bucket.{bucket_of, settings_of}
use Rattle.bucket.specs.Calls.{questions, records_of, apply_pending_call}
use Rattle.bucket.proofs.Entry.{refused, accepted}
use Rattle.bucket.proofs.KBucket.apply_pending.Goals as goal

pub returns-in-Ok : goal.returns-in-Ok
unfolding apply_pending_call
returns-in-Ok c =
    let b = c.args.self in
    let r = bucket_rules.apply_pending (settings_of b) c.args.now (bucket_of b) in
    let x : List model.EndedPending × bucket_rules.Bucket = (model.placed_of r.1, r.0) in
    accepted b (first_failed (questions b true (some c.args.now))) x records_of _ _ _ (sym c.in-Ok.ensures.value) refl
    (record { result_value = c.only_placed.ensures ∙ ap model.placed_of c.apply_pending-step.ensures.result_value; becomes = c.apply_pending-step.ensures.becomes })

pub returns-in-Err : goal.returns-in-Err
unfolding apply_pending_call
returns-in-Err c =
    let b = c.args.self in
    let r = bucket_rules.apply_pending (settings_of b) c.args.now (bucket_of b) in
    let x : List model.EndedPending × bucket_rules.Bucket = (model.placed_of r.1, r.0) in
    refused b (first_failed (questions b true (some c.args.now))) x records_of c.refused.result c.in-Err.refusal c.in-Err.ensures.value c.refused.ensures
