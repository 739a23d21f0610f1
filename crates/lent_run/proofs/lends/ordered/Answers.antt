use Rattle.lent_run.proofs.Computed.{in_order}
use Rattle.lent_run.proofs.lends.ordered.Goals as goal

pub returns : goal.returns
returns c = in_order c.found-run.ensures c.found.ensures c.found-2.ensures c.found-3.ensures c.order.ensures
