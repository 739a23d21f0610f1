use Rattle.std.proofs.Common.{sym, ◌∙◌}
use Rattle.std.proofs.lemmas.Result.{err_from_is_err_and}
use Rattle.distances.proofs.Answers.{early_three, early_last}
use Rattle.distances.proofs.asked_early.Goals as goal

pub returns-in_err-asked_time : goal.returns-in_err-asked_time
returns-in_err-asked_time c =
    let a = c.args in
    let p = err_from_is_err_and c.from_residual.result c.from_residual.ensures.1 in
    rw (p.1, p.2) (sym (early_three a.time a.n a.room a.s.now _ (sym c.in_err-asked_time.ensures)))

pub returns : goal.returns
returns c =
    let a = c.args in c.asked_output.ensures ∙ early_last a.time a.n a.room a.s.now (sym c.in_ok-asked_time.ensures) c.at_least_one.ensures
