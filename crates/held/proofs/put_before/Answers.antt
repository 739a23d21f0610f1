use Rattle.laws.proofs.NodeBytes.{length_node}
use Rattle.held.proofs.Moves.{before_is}
use Rattle.held.proofs.put_before.Goals as goal

pub returns : goal.returns
returns c = before_is c.args.run.now c.requires _ c.store_node.ensures (length_node _) c.shift_up.ensures
