use Rattle.codes.proofs.Thin.{replied, refuses}
use Rattle.kbuckets.proofs.kbuckets_take_applied_pending.Goals as goal

pub returns-in-Ok : goal.returns-in-Ok
returns-in-Ok c =
    let x = c.from in
    replied _ _ _ c.if-answer-lt-BYTES.false x.result c.in-Ok.ensures x.ensures.0 x.ensures.1 c.put.ensures.code c.put.ensures.answer_after

pub returns-in-Err : goal.returns-in-Err
returns-in-Err c = refuses _ _ _ c.if-answer-lt-BYTES.false c.in-Err.ensures c.refused.ensures
