use Rattle.node.proofs.Tests.{counts_is}
use Rattle.node.proofs.filter.counts.Goals as goal

pub returns : goal.returns
returns c = counts_is c.args.value c.args.other _ c.eq-unequal.ensures
