use Rattle.std.proofs.Common.{ℕ, List, true, refl, ap, ◌∙◌}
use Rattle.std.specs.Prelude.{Err}
use Rattle.std.proofs.Math.Option.{some}
use Rattle.model.specs.Base.{first}
use Rattle.model.specs.Bytes.{splice}
use Rattle.model.specs.Node.{EndedPending, placed_of}
use Rattle.model.specs.Bucket as rules
use Rattle.node.specs.declared.Refusal.{Refusal}
use Rattle.on_key.proofs.Steps.{stepped}
use Rattle.codes.specs.Codes.{applied_code, applied_bytes}
use Rattle.bucket_calls.specs.Calls.{BucketCall, number_code, bucket_act}
use Rattle.bucket_calls.proofs.Outcome.{size_asked, early, short, roomy, refused_by, done}
use Rattle.bucket_calls.proofs.apply_pending.Goals as goal

pub returns-in_err-s : goal.returns-in_err-s
returns-in_err-s c =
    let a = c.args in
    refused_by (BucketCall.apply_pending a.time) a.answer.now a.s.now number_code _ (size_asked a.s.now a.answer.now (BucketCall.apply_pending a.time) c.in_err-s.ensures.value c.in_err-s.ensures.ok_part (rw c.in_err-s.ensures.ok_part at c.as_mut_array.ensures.cases)) c.from_residual.result c.from_residual.ensures.1

pub returns-in_err-asked : goal.returns-in_err-asked
returns-in_err-asked c =
    let a = c.args in
    let w = rw c.in_ok-s.ensures.ok_part at c.as_mut_array.ensures.cases in
    let s = c.in_ok-s.s.now in
    rw (← w.same)
    (refused_by (BucketCall.apply_pending a.time) a.answer.now s number_code _ (early s true true (some a.time) a.answer.now _ c.in_err-asked.ensures.value) c.from_residual-in_err-asked.result c.from_residual-in_err-asked.ensures.1)

pub returns-then-answer-lt-BYTES : goal.returns-then-answer-lt-BYTES
returns-then-answer-lt-BYTES c =
    let a = c.args in
    let w = rw c.in_ok-s.ensures.ok_part at c.as_mut_array.ensures.cases in
    let s = c.in_ok-s.s.now in
    rw (← w.same)
    (refused_by (BucketCall.apply_pending a.time) a.answer.now s number_code Refusal.Output (short s true true (some a.time) a.answer.now c.in_ok-asked.ensures.value c.if-answer-lt-BYTES.true) (Err Refusal.Output) refl)

pub returns : goal.returns
unfolding bucket_act
returns c =
    let a = c.args in
    let w = rw c.in_ok-s.ensures.ok_part at c.as_mut_array.ensures.cases in
    let s = c.in_ok-s.s.now in
    let z =
    stepped {k = 0} c.load.ensures (λ (u : rules.BucketSettings) (k : ℕ) (b : rules.Bucket). let x = rules.apply_pending u a.time b in (placed_of x.1, x.0)) refl
    (c.only_placed.ensures ∙ ap placed_of c.apply_pending-step.ensures.result_value) c.apply_pending-step.ensures.becomes in
    rw (← w.same)
    (done (BucketCall.apply_pending a.time) a.answer.now s (roomy s true true (some a.time) a.answer.now c.in_ok-asked.ensures.value c.if-answer-lt-BYTES.false)
    (c.put.ensures.code ∙ c.from.ensures.0 ∙ ap (λ (r : List EndedPending). applied_code (first r)) z.answer) z.bucket c.store.ensures
    (c.put.ensures.answer_after ∙ ap (splice a.answer.now 0) (c.from.ensures.1 ∙ ap (λ (r : List EndedPending). applied_bytes (first r)) z.answer)))
