use Rattle.std.proofs.Common.{refl, sym, ◌∙◌, arith}
use Rattle.key.specs.Key.{num}
use Rattle.explanation.proofs.Text.{length_key_text, put_left}
use Rattle.explanation.proofs.Short.{detail, flag_detail, told_room, told_put}
use Rattle.explanation.proofs.put_told.Goals as goal

pub put_word-n-requires : goal.put_word-n-requires
put_word-n-requires c = omega (arith, told_room _ _ _ c.name.ensures refl)

pub put_key-requires : goal.put_key-requires
put_key-requires c = put_left c.put_word-n.ensures _ (omega (arith, told_room _ _ _ c.name.ensures (detail c.in-Pending.is), length_key_text (num c.in-Pending.key)))

pub put_word-requires : goal.put_word-requires
put_word-requires c = put_left c.put_word-n.ensures _ (omega (arith, told_room _ _ _ c.name.ensures (detail c.in-Failed.is ∙ sym c.failure_word.ensures)))

pub put_word-requires-in-StatusUpdated : goal.put_word-requires-in-StatusUpdated
put_word-requires-in-StatusUpdated c = put_left c.put_word-n.ensures _ (omega (arith, told_room _ _ _ c.name.ensures (flag_detail c.in-StatusUpdated.is ∙ sym c.flag_word.ensures)))

pub returns-in-Pending : goal.returns-in-Pending
returns-in-Pending c = told_put _ _ _ c.name.ensures (detail c.in-Pending.is) c.put_word-n.ensures c.put_key.ensures

pub returns-in-Failed : goal.returns-in-Failed
returns-in-Failed c = told_put _ _ _ c.name.ensures (detail c.in-Failed.is ∙ sym c.failure_word.ensures) c.put_word-n.ensures c.put_word.ensures

pub returns-in-StatusUpdated : goal.returns-in-StatusUpdated
returns-in-StatusUpdated c = told_put _ _ _ c.name.ensures (flag_detail c.in-StatusUpdated.is ∙ sym c.flag_word.ensures) c.put_word-n.ensures c.put_word-in-StatusUpdated.ensures
