use Rattle.node.proofs.Tests.{same_value_lem}
use Rattle.node.proofs.Value.eq.Goals as goal

pub returns : goal.returns
returns c = same_value_lem c.args.self c.args.other
