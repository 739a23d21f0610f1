use Rattle.std.proofs.Common.{◌≡◌, suc, ◌-◌}
use Rattle.model.specs.Visit.{clears_up}
use Rattle.key.specs.Key.{num}
use Rattle.key.proofs.ClosestBucketsIter.next_out.Given as goal

abbrev pub invariant-loop-k : goal.invariant-loop-k
invariant-loop-k l = clears_up (num l.self.distance) (suc l.i) (255 - l.i) ≡ clears_up (num l.self.distance) (suc l.k) (255 - l.k)

abbrev pub decreases-loop-k : goal.decreases-loop-k
decreases-loop-k l = 255 - l.k
