use Rattle.codes.proofs.Thin.{replied, refuses}
use Rattle.kbuckets.proofs.kbuckets_absent_insert.Goals as goal

pub returns-in-Ok : goal.returns-in-Ok
returns-in-Ok c =
    let x = c.from in
    replied _ _ _ c.if-answer-lt-BYTES.false x.result (rw (c.value_of-value.ensures, c.hours_of-hours.ensures) at c.in-Ok.ensures) x.ensures.0 x.ensures.1 c.put.ensures.code c.put.ensures.answer_after

pub returns-in-Err : goal.returns-in-Err
returns-in-Err c = refuses _ _ _ c.if-answer-lt-BYTES.false (rw (c.value_of-value.ensures, c.hours_of-hours.ensures) at c.in-Err.ensures) c.refused.ensures
