-- The order in which a closest call visits the buckets (01, "kbucket.rs (871)", last point). d is the local-target distance.
use Rattle.std.specs.Prelude.{ℕ, zero, suc, cond, List, [], ◌∷◌, ◌++◌, eqb}
use Rattle.model.specs.Key.{test_bit}

-- the set bits of d below n, downward
unfoldable pub sets_down : ℕ → ℕ → List ℕ
sets_down d zero = []
sets_down d (suc n) = cond (test_bit d n) (n ∷ sets_down d n) (sets_down d n)

-- of the k bits of d from i on, those that are clear, upward
unfoldable pub clears_up : ℕ → ℕ → ℕ → List ℕ
clears_up d i zero = []
clears_up d i (suc k) = cond (test_bit d i) (clears_up d (suc i) k) (i ∷ clears_up d (suc i) k)

-- 01: the highest set bit (0 if none), then lower set bits downward, then bucket 0 always, then clear bits from 1 upward
unfoldable pub visits : ℕ → List ℕ
visits d = cond (eqb d 0) (0 ∷ []) (sets_down d 256) ++ (0 ∷ clears_up d 1 255)
