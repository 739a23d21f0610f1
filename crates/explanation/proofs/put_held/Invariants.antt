use Rattle.std.proofs.Common.{map, take}
use Rattle.model.specs.Base.{select}
use Rattle.model.specs.Explain.{keys_of}
use Rattle.node.specs.Node.{node_of}
use Rattle.explanation.specs.Put.{PutKeys, passes}
use Rattle.explanation.proofs.put_held.Given as goal

abbrev pub invariant-loop-node : goal.invariant-loop-node
invariant-loop-node l = PutKeys (keys_of (select (passes l.test) (map node_of (take l.node-index l.nodes)))) l.fn.out l.out l.n
