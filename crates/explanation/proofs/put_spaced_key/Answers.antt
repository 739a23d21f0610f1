use Rattle.explanation.proofs.Text.{put_then}
use Rattle.explanation.proofs.Keys.{keys_text_one}
use Rattle.explanation.proofs.put_spaced_key.Goals as goal

pub returns : goal.returns
returns c = rw keys_text_one (put_then c.put_word-n.ensures c.put_key.ensures)
