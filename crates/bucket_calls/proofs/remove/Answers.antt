use Rattle.std.proofs.Common.{ℕ, [], refl, ap}
use Rattle.model.specs.Bucket as rules
use Rattle.model.specs.Layout.{flag_byte}
use Rattle.on_key.proofs.Steps.{stepped}
use Rattle.bucket_calls.specs.Calls.{BucketCall, bucket_act}
use Rattle.bucket_calls.proofs.Outcome.{size_asked, left_by, left_done}
use Rattle.bucket_calls.proofs.remove.Goals as goal

pub returns-in_err-s : goal.returns-in_err-s
returns-in_err-s c =
    let a = c.args in
    left_by (BucketCall.remove a.key.now a.time) a.s.now flag_byte _ (size_asked a.s.now [] (BucketCall.remove a.key.now a.time) c.in_err-s.ensures.value c.in_err-s.ensures.ok_part (rw c.in_err-s.ensures.ok_part at c.as_mut_array.ensures.cases)) c.from_residual.result c.from_residual.ensures.1

pub returns-in_err-k : goal.returns-in_err-k
returns-in_err-k c =
    let a = c.args in
    let w = rw c.in_ok-s.ensures.ok_part at c.as_mut_array.ensures.cases in
    rw (← w.same) (left_by (BucketCall.remove a.key.now a.time) c.in_ok-s.s.now flag_byte _ (rw c.key_of.ensures.passes at c.in_err-k.ensures.value) c.from_residual-in_err-k.result c.from_residual-in_err-k.ensures.1)

pub returns : goal.returns
unfolding bucket_act
returns c =
    let a = c.args in
    let w = rw c.in_ok-s.ensures.ok_part at c.as_mut_array.ensures.cases in
    let z = stepped c.load.ensures (λ (u : rules.BucketSettings) (k : ℕ) (b : rules.Bucket). rules.remove u a.time k b) (rw c.in_ok-k.ensures.passed.0 at c.key_of.ensures.value) c.remove-step.ensures.result_value c.remove-step.ensures.becomes in
    rw (← w.same) (left_done (BucketCall.remove a.key.now a.time) c.in_ok-s.s.now (rw c.key_of.ensures.passes at c.in_ok-k.ensures.value) (ap flag_byte z.answer) z.bucket c.store.ensures refl)
