-- Tests and lists that the definitions share.
use Rattle.std.specs.Prelude.{ℕ, zero, suc, Bool, true, false, cond, ◌&&◌, ◌||◌, List, [], ◌∷◌, ◌++◌, eqb}
use Rattle.std.proofs.Math.Option.{Option, none, some}

-- two numbers (keys, indices, octets) are the same
unfoldable pub same : ℕ → ℕ → Bool
same a b = eqb a b

-- a function with another value at one number
abbrev pub at : {A : Type 0} → ℕ → A → (ℕ → A) → ℕ → A
at i a f = λ x. cond (same x i) a (f x)

-- the elements that pass a test, in their order
abbrev pub select : {A : Type 0} → (A → Bool) → List A → List A
select p [] = []
select p (x ∷ xs) = cond (p x) (x ∷ select p xs) (select p xs)

-- every element passes a test
abbrev pub every : {A : Type 0} → (A → Bool) → List A → Bool
every p [] = true
every p (x ∷ xs) = p x && every p xs

-- some element passes a test
abbrev pub any_of : {A : Type 0} → (A → Bool) → List A → Bool
any_of p [] = false
any_of p (x ∷ xs) = p x || any_of p xs

-- the first of a list, if it has one
abbrev pub first : {A : Type 0} → List A → Option A
first [] = none
first (x ∷ l) = some x

abbrev pub is_some : {A : Type 0} → Option A → Bool
is_some none = false
is_some (some a) = true

-- what is given, or else what was there
abbrev pub given : {A : Type 0} → Option A → A → A
given none a = a
given (some b) a = b

-- the lists that f gives of the elements, one behind the other
unfoldable pub joined : {A B : Type 0} → (A → List B) → List A → List B
joined f [] = []
joined f (x ∷ xs) = f x ++ joined f xs

-- f 0, f 1, .. up to f (k - 1)
unfoldable pub tabulate : {A : Type 0} → ℕ → (ℕ → A) → List A
tabulate zero f = []
tabulate (suc k) f = tabulate k f ++ (f k ∷ [])

-- the test holds of every number below k
unfoldable pub all_below : ℕ → (ℕ → Bool) → Bool
all_below zero p = true
all_below (suc k) p = all_below k p && p k
