use Rattle.std.proofs.Common.{ℕ, [], refl}
use Rattle.model.specs.Bucket as rules
use Rattle.model.specs.Call.{is_one}
use Rattle.on_key.proofs.Steps.{stepped}
use Rattle.bucket_calls.specs.Calls.{BucketCall, done_code, bucket_act}
use Rattle.bucket_calls.proofs.Outcome.{size_asked, left_by, left_done}
use Rattle.bucket_calls.proofs.update_pending.Goals as goal

pub returns-in_err-s : goal.returns-in_err-s
returns-in_err-s c =
    let a = c.args in
    left_by (BucketCall.update_pending a.state a.direction) a.s.now done_code _ (size_asked a.s.now [] (BucketCall.update_pending a.state a.direction) c.in_err-s.ensures.value c.in_err-s.ensures.ok_part (rw c.in_err-s.ensures.ok_part at c.as_mut_array.ensures.cases)) c.from_residual.result c.from_residual.ensures.1

pub returns-in_err-status : goal.returns-in_err-status
returns-in_err-status c =
    let a = c.args in
    let w = rw c.in_ok-s.ensures.ok_part at c.as_mut_array.ensures.cases in
    rw (← w.same) (left_by (BucketCall.update_pending a.state a.direction) c.in_ok-s.s.now done_code _ (rw c.of-status.ensures.passes at c.in_err-status.ensures.value) c.from_residual-in_err-status.result c.from_residual-in_err-status.ensures.1)

pub returns : goal.returns
unfolding bucket_act
returns c =
    let a = c.args in
    let w = rw c.in_ok-s.ensures.ok_part at c.as_mut_array.ensures.cases in
    let f = rw c.in_ok-status.ensures.passed.1 at c.of-status.ensures.value in
    let z = stepped {A = ℕ} {k = 0} c.load.ensures (λ (u : rules.BucketSettings) (k : ℕ) (b : rules.Bucket). (0, rules.update_pending (is_one a.state) (is_one a.direction) b)) refl refl (rw f at c.update_pending-left.ensures) in
    rw (← w.same) (left_done (BucketCall.update_pending a.state a.direction) c.in_ok-s.s.now (rw c.of-status.ensures.passes at c.in_ok-status.ensures.value) refl z.bucket c.store.ensures refl)
