use Rattle.key.proofs.Steps.{last_told}
use Rattle.key.proofs.last_set.Goals as goal

pub returns : goal.returns
returns c = last_told c.args.w c.args.k c.requires.1 c.checked_sub.result c.checked_sub.ensures
