use Rattle.std.proofs.Common.{sym}
use Rattle.std.proofs.lemmas.Result.{err_from_is_err_and}
use Rattle.on_key.proofs.Steps.{three_refused}
use Rattle.on_key.proofs.asked_time.Goals as goal

pub returns-in_err-asked_storage : goal.returns-in_err-asked_storage
returns-in_err-asked_storage c =
    let w = rw c.in_ok-s.ensures.ok_part at c.as_array.ensures.cases in
    let p = err_from_is_err_and c.from_residual-in_err-asked_storage.result c.from_residual-in_err-asked_storage.ensures.1 in
    rw (← w.same, p.1, p.2) (sym (three_refused c.args.time c.in_ok-s.s.now _ (sym c.in_err-asked_storage.ensures)))
