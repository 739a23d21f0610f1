use Rattle.std.proofs.Common.{ℕ, ap, ◌&&◌, eqb, refl, ◌∙◌}
use Rattle.std.specs.Prelude.{Err}
use Rattle.std.proofs.Math.Option.{some}
use Rattle.model.specs.Bucket as rules
use Rattle.model.specs.Bytes.{splice}
use Rattle.node.specs.declared.Refusal.{Refusal}
use Rattle.node.specs.Node.{value_of, value_codes, status_codes, argument_of}
use Rattle.on_key.proofs.Steps.{stepped}
use Rattle.codes.specs.Codes.{bucket_insert_code, bucket_insert_bytes}
use Rattle.bucket_calls.specs.Calls.{BucketCall, number_code, key_fits, bucket_act}
use Rattle.bucket_calls.proofs.Outcome.{size_asked, early, short, roomy, refused_by, done}
use Rattle.bucket_calls.proofs.insert.Goals as goal

pub returns-in_err-s : goal.returns-in_err-s
returns-in_err-s c =
    let a = c.args in
    refused_by (BucketCall.insert a.key.now (argument_of a.value) a.status.state a.status.direction a.time) a.answer.now a.s.now number_code _ (size_asked a.s.now a.answer.now (BucketCall.insert a.key.now (argument_of a.value) a.status.state a.status.direction a.time) c.in_err-s.ensures.value c.in_err-s.ensures.ok_part (rw c.in_err-s.ensures.ok_part at c.as_mut_array.ensures.cases)) c.from_residual.result c.from_residual.ensures.1

pub returns-in_err-k : goal.returns-in_err-k
returns-in_err-k c =
    let a = c.args in
    let w = rw c.in_ok-s.ensures.ok_part at c.as_mut_array.ensures.cases in
    let s = c.in_ok-s.s.now in
    rw (← w.same)
    (refused_by (BucketCall.insert a.key.now (argument_of a.value) a.status.state a.status.direction a.time) a.answer.now s number_code _ (early s (key_fits a.key.now) (value_codes a.value && status_codes a.status) (some a.time) a.answer.now _ (rw (c.key_of.ensures.passes, c.of-fields.ensures.passes) at c.in_err-k.ensures.value)) c.from_residual-in_err-k.result c.from_residual-in_err-k.ensures.1)

pub returns-then-answer-lt-BYTES : goal.returns-then-answer-lt-BYTES
returns-then-answer-lt-BYTES c =
    let a = c.args in
    let w = rw c.in_ok-s.ensures.ok_part at c.as_mut_array.ensures.cases in
    let s = c.in_ok-s.s.now in
    rw (← w.same)
    (refused_by (BucketCall.insert a.key.now (argument_of a.value) a.status.state a.status.direction a.time) a.answer.now s number_code Refusal.Output (short s (key_fits a.key.now) (value_codes a.value && status_codes a.status) (some a.time) a.answer.now (rw (c.key_of.ensures.passes, c.of-fields.ensures.passes) at c.in_ok-k.ensures.value) c.if-answer-lt-BYTES.true) (Err Refusal.Output) refl)

pub returns : goal.returns
unfolding bucket_act
returns c =
    let a = c.args in
    let w = rw c.in_ok-s.ensures.ok_part at c.as_mut_array.ensures.cases in
    let s = c.in_ok-s.s.now in
    let k = rw c.in_ok-k.ensures.passed.0 at c.key_of.ensures.value in
    let f = rw c.in_ok-k.ensures.passed.1 at c.of-fields.ensures.value in
    let step = rw (c.with_key.ensures, f.0, f.1) at c.insert-step.ensures in
    let z = stepped c.load.ensures (λ (u : rules.BucketSettings) (k : ℕ) (b : rules.Bucket). rules.insert u a.time (record { key = k; value = value_of a.value; connected = eqb a.status.state 1; incoming = eqb a.status.direction 1 }) b) k step.result_value step.becomes in
    rw (← w.same)
    (done (BucketCall.insert a.key.now (argument_of a.value) a.status.state a.status.direction a.time) a.answer.now s
    (roomy s (key_fits a.key.now) (value_codes a.value && status_codes a.status) (some a.time) a.answer.now (rw (c.key_of.ensures.passes, c.of-fields.ensures.passes) at c.in_ok-k.ensures.value) c.if-answer-lt-BYTES.false)
    (c.put.ensures.code ∙ c.from.ensures.0 ∙ ap bucket_insert_code z.answer) z.bucket c.store.ensures
    (c.put.ensures.answer_after ∙ ap (splice a.answer.now 0) (c.from.ensures.1 ∙ ap bucket_insert_bytes z.answer)))
