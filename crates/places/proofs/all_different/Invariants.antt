use Rattle.std.proofs.Common.{◌≡◌, map, drop}
use Rattle.node.specs.Node.{node_of}
use Rattle.places.specs.Places.{different}
use Rattle.places.proofs.all_different.Given as goal

abbrev pub invariant-loop-i : goal.invariant-loop-i
invariant-loop-i l = different (map node_of l.nodes) ≡ different (map node_of (drop l.i l.nodes))
