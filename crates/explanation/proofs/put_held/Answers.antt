use Rattle.node.specs.Node.{zero_node}
use Rattle.explanation.specs.Put.{passes}
use Rattle.explanation.proofs.Keys.{keys_none, held_next}
use Rattle.explanation.proofs.put_held.Goals as goal

pub loop-node-init : goal.loop-node-init
loop-node-init c = keys_none _

pub loop-node-preserved : goal.loop-node-preserved
loop-node-preserved c =
    held_next (passes c.args.test) c.args.nodes.now zero_node c.loop-node.node-index c.loop-node-test.true c.loop-node.invariant c.put_node-n.ensures
