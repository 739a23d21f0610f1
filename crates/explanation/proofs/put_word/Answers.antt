use Rattle.std.proofs.Common.{arith}
use Rattle.explanation.proofs.Text.{put_front}
use Rattle.explanation.proofs.put_word.Goals as goal

pub returns : goal.returns
returns c = put_front _ _ c.copy_from_slice.ensures.after (omega arith) (omega arith) (omega arith)
