use Rattle.std.proofs.Common.{sym, ◌∙◌, arith}
use Rattle.words.proofs.Zero.{zero_whole}
use Rattle.well_formed.proofs.is_empty.Goals as goal

pub returns-then-bucket-eq0 : goal.returns-then-bucket-eq0
returns-then-bucket-eq0 c = λ t. sym (zero_whole c.args.bucket.now 810 (omega arith)) ∙ sym c.all_zero.ensures ∙ t
