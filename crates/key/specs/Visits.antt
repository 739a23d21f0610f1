-- The visit of the buckets, as far as an iterator has still to go.
use Rattle.std.specs.Prelude.{ℕ, suc, ◌+◌, ◌-◌, ◌<◌, ◌≡◌, List, [], ◌∷◌, ◌++◌}
use Rattle.model.specs.Key.{test_bit}
use Rattle.model.specs.Visit.{sets_down, clears_up}
use Rattle.key.specs.declared.ClosestBucketsIter.{ClosestBucketsIter}
use Rattle.key.specs.declared.ClosestBucketsIterState.{ClosestBucketsIterState}
use Rattle.key.specs.Key.{num}

-- what a state has still to visit; d is the local-target distance
abbrev pub to_visit : ℕ → ClosestBucketsIterState → List ℕ
to_visit d (ClosestBucketsIterState.Start i) = i ∷ (sets_down d i ++ (0 ∷ clears_up d 1 255))
to_visit d (ClosestBucketsIterState.ZoomIn i) = sets_down d i ++ (0 ∷ clears_up d 1 255)
to_visit d (ClosestBucketsIterState.ZoomOut i) = clears_up d (suc i) (255 - i)
to_visit d ClosestBucketsIterState.Done = []

abbrev pub remaining : ClosestBucketsIter → List ℕ
remaining it = to_visit (num it.distance) it.state

-- the word w has the 64 bits of d from bit `from` on
abbrev pub BitsFrom : (d from w : ℕ) → Type 0
BitsFrom d from w = (j : ℕ) → j < 64 → test_bit w j ≡ test_bit d (from + j)
