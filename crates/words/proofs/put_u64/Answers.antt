use Rattle.std.proofs.Common.{◌∙◌}
use Rattle.words.proofs.Words.{bytes_8}
use Rattle.words.proofs.put_u64.Goals as goal

pub returns : goal.returns
returns c = c.copy_from_slice.ensures.after ∙ c.to_be_bytes.ensures ∙ rw bytes_8
