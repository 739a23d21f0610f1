use Rattle.std.proofs.Common.{sym}
use Rattle.model.specs.Bytes.{Bytes}
use Rattle.model.specs.Call.{Call}
use Rattle.bucket.specs.Calls.{records_of}
use Rattle.on_key.proofs.Questions.{passed_two}
use Rattle.on_key.proofs.Ended.{refused_exit, refused_size}
use Rattle.table.proofs.Whole.{take_refused, take_accepted}
use Rattle.table.proofs.take_applied_pending.Goals as goal

pub returns-in_err-s : goal.returns-in_err-s
returns-in_err-s c =
    refused_size _ Call.take_applied_pending _ c.in_err-s.ensures.value c.in_err-s.ensures.ok_part (rw c.in_err-s.ensures.ok_part at c.as_mut_array.ensures.cases) c.from_residual.ensures.1

pub returns-in_err-asked_storage : goal.returns-in_err-asked_storage
returns-in_err-asked_storage c =
    let w = rw c.in_ok-s.ensures.ok_part at c.as_mut_array.ensures.cases in
    rw (← w.same) (refused_exit _ _ _ c.from_residual-in_err-asked_storage.ensures.1 (take_refused c.in_ok-s.s.now _ (sym c.in_err-asked_storage.ensures)))

pub take_record-requires : goal.take_record-requires
take_record-requires c = (passed_two c.in_ok-s.s.now (sym c.in_ok-asked_storage.ensures)).header

pub returns : goal.returns
returns c =
    let w = rw c.in_ok-s.ensures.ok_part at c.as_mut_array.ensures.cases in
    let h : Bytes c.args.s.now = λ j. (c.slice_known-1.given j).fits in
    let x = c.take_record.ensures in
    rw (← w.same) (take_accepted c.in_ok-s.s.now (rw (← w.same) at h) (sym c.in_ok-asked_storage.ensures) (records_of c.take_record.result) x.result_value _ x.s_after)
