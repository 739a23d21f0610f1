use mathlib.Core.Path.{sym}
use Rattle.model.specs.Bucket as rules
use Rattle.model.specs.Question.{first_failed}
use Rattle.bucket.specs.Bucket.{bucket_of, settings_of}
use Rattle.bucket.proofs.Entry.{refused, accepted}
use mathlib.Core.Bool.{Bool, true}
use mathlib.Core.Option.{some}
use Rattle.key.specs.Key.{num}
use Rattle.bucket.specs.Calls.{questions, remove_call}
use Rattle.bucket.proofs.KBucket.remove.Goals as goal

pub returns-in-Ok : goal.returns-in-Ok
unfolding remove_call
returns-in-Ok c =
    let b = c.args.self in
    accepted b (first_failed (questions b (true) (some c.args.now))) (rules.remove (settings_of b) c.args.now (num c.args.key) (bucket_of b)) (λ (found : Bool). found) c.answered.result _ _
    (sym c.in-Ok.ensures.value) c.answered.ensures c.remove.ensures

pub returns-in-Err : goal.returns-in-Err
unfolding remove_call
returns-in-Err c =
    let b = c.args.self in
    refused b (first_failed (questions b (true) (some c.args.now))) (rules.remove (settings_of b) c.args.now (num c.args.key) (bucket_of b)) (λ (found : Bool). found) c.refused.result c.in-Err.refusal
    c.in-Err.ensures.value c.refused.ensures
