use Rattle.std.proofs.Common.{sym}
use Rattle.std.specs.Option.{is_some}
use Rattle.std.proofs.lemmas.Result.{err_from_is_err_and}
use Rattle.key.specs.Answers.{option_of}
use Rattle.on_key.proofs.Steps.{five_refused}
use Rattle.on_key.proofs.asked.Goals as goal

pub returns-in_err-asked_storage-clause-failed : goal.returns-in_err-asked_storage-clause-failed
returns-in_err-asked_storage-clause-failed g c =
    let w = rw c.in_ok-s.ensures.ok_part at c.as_array.ensures.cases in
    let p = err_from_is_err_and c.from_residual-in_err-asked_storage.result c.from_residual-in_err-asked_storage.ensures.1 in
    rw (← w.same, p.1, p.2) (sym (five_refused c.in_ok-s.s.now c.args.key.now (is_some c.args.arguments) (option_of c.args.time) _ (sym c.in_err-asked_storage.ensures)))
