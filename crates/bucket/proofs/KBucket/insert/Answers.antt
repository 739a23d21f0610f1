use mathlib.Core.Path.{◌≡◌, sym, ap, ◌∙◌}
use mathlib.Core.Bool.{Bool}
use Rattle.model.specs.Bucket as rules
use Rattle.model.specs.Question.{first_failed}
use Rattle.bucket.specs.Bucket.{bucket_of, settings_of}
use Rattle.bucket.proofs.Entry.{refused, accepted}
use mathlib.Core.Option.{some}
use Rattle.node.specs.Node.{node_of, node_codes}
use Rattle.bucket.specs.Calls.{questions, insert_result_of, insert_call}
use Rattle.bucket.proofs.KBucket.insert.Goals as goal

pub returns-in-Ok : goal.returns-in-Ok
unfolding insert_call
returns-in-Ok c =
    let b = c.args.self in
    let codes = ap (λ (t : Bool). first_failed (questions b t (some c.args.now))) (sym c.of.ensures.passes) in
    let same : c.in-Ok.node.node ≡ c.args.node = rw c.in-Ok.ensures.passed.1 at c.of.ensures.value in
    accepted b (first_failed (questions b (node_codes c.args.node) (some c.args.now))) (rules.insert (settings_of b) c.args.now (node_of c.args.node) (bucket_of b)) insert_result_of c.answered.result _ _
    (codes ∙ sym c.in-Ok.ensures.value) c.answered.ensures (rw same at c.insert.ensures)

pub returns-in-Err : goal.returns-in-Err
unfolding insert_call
returns-in-Err c =
    let b = c.args.self in
    let codes = ap (λ (t : Bool). first_failed (questions b t (some c.args.now))) c.of.ensures.passes in
    refused b (first_failed (questions b (node_codes c.args.node) (some c.args.now))) (rules.insert (settings_of b) c.args.now (node_of c.args.node) (bucket_of b)) insert_result_of c.refused.result c.in-Err.refusal
    (c.in-Err.ensures.value ∙ codes) c.refused.ensures
