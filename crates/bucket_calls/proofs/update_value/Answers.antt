use Rattle.std.proofs.Common.{ℕ, [], refl, ap}
use Rattle.model.specs.Bucket as rules
use Rattle.node.specs.Node.{value_of, argument_of}
use Rattle.on_key.proofs.Steps.{stepped}
use Rattle.codes.specs.Codes.{update_code}
use Rattle.bucket_calls.specs.Calls.{BucketCall, updated_code, bucket_act}
use Rattle.bucket_calls.proofs.Outcome.{size_asked, left_by, left_done}
use Rattle.bucket_calls.proofs.update_value.Goals as goal

pub returns-in_err-s : goal.returns-in_err-s
returns-in_err-s c =
    let a = c.args in
    left_by (BucketCall.update_value a.key.now (argument_of a.value)) a.s.now updated_code _ (size_asked a.s.now [] (BucketCall.update_value a.key.now (argument_of a.value)) c.in_err-s.ensures.value c.in_err-s.ensures.ok_part (rw c.in_err-s.ensures.ok_part at c.as_mut_array.ensures.cases)) c.from_residual.result c.from_residual.ensures.1

pub returns-in_err-k : goal.returns-in_err-k
returns-in_err-k c =
    let a = c.args in
    let w = rw c.in_ok-s.ensures.ok_part at c.as_mut_array.ensures.cases in
    rw (← w.same) (left_by (BucketCall.update_value a.key.now (argument_of a.value)) c.in_ok-s.s.now updated_code _ (rw (c.key_of.ensures.passes, c.of.ensures.passes) at c.in_err-k.ensures.value) c.from_residual-in_err-k.result c.from_residual-in_err-k.ensures.1)

pub returns : goal.returns
unfolding bucket_act
returns c =
    let a = c.args in
    let w = rw c.in_ok-s.ensures.ok_part at c.as_mut_array.ensures.cases in
    let f = rw c.in_ok-k.ensures.passed.1 at c.of.ensures.value in
    let step = rw f at c.update_value-step.ensures in
    let z = stepped c.load.ensures (λ (u : rules.BucketSettings) (k : ℕ) (b : rules.Bucket). rules.update_value u k (value_of a.value) b) (rw c.in_ok-k.ensures.passed.0 at c.key_of.ensures.value) step.result_value step.becomes in
    rw (← w.same)
    (left_done (BucketCall.update_value a.key.now (argument_of a.value)) c.in_ok-s.s.now (rw (c.key_of.ensures.passes, c.of.ensures.passes) at c.in_ok-k.ensures.value) (ap update_code z.answer) z.bucket c.store.ensures refl)
