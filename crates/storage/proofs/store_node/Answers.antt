use Rattle.storage.proofs.Bytes.{node_put}
use Rattle.storage.proofs.store_node.Goals as goal

pub returns : goal.returns
returns c = node_put c.args.s.now c.args.n.node c.args.n.codes c.requires _ _ c.store.ensures (rw c.value.ensures at c.store_value.ensures)
