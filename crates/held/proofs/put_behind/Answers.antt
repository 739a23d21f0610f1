use Rattle.std.proofs.Common.{refl}
use Rattle.laws.proofs.NodeBytes.{length_node}
use Rattle.held.proofs.Moves.{behind_is}
use Rattle.held.proofs.put_behind.Goals as goal

pub returns : goal.returns
returns c = behind_is c.args.run.now c.requires _ c.store_node.ensures (length_node _) c.shift_down.ensures refl refl
