use Rattle.std.proofs.Common.{◌≡◌}
use Rattle.model.specs.Visit.{sets_down}
use Rattle.key.specs.Key.{num}
use Rattle.key.proofs.ClosestBucketsIter.next_in.Given as goal

abbrev pub invariant-loop-k : goal.invariant-loop-k
invariant-loop-k l = sets_down (num l.self.distance) l.i ≡ sets_down (num l.self.distance) l.k

abbrev pub decreases-loop-k : goal.decreases-loop-k
decreases-loop-k l = l.k
