-- The first n of lists that stand one behind the other.
use mathlib.Core.Path.{◌≡◌, refl, sym, ap, ap₂, ◌∙◌}
use mathlib.Core.List.{List, [], ◌∷◌, ◌++◌}
use mathlib.Core.Logic.{⊎_elim}
use Prim.Native.Nat.{ℕ, zero, suc, ◌-◌, ◌≤◌, ◌<◌, min}
use native.Mathlib.Nat.{suc-sub-suc, sub-zero, zero-sub}
use native.Mathlib.Omega.{arith}
use lib.ListN.{length, take}
use lib.Seq.{take_all}
use Rattle.model.specs.Base.{joined}
use Rattle.laws.proofs.Lists.{lt_or_le}

pub take_append : {A : Type 0} (n : ℕ) (xs ys : List A) → take n (xs ++ ys) ≡ take n xs ++ take (n - length xs) ys
take_append zero [] ys = refl
take_append (suc n) [] ys = ap (λ (k : ℕ). take k ys) (sym (sub-zero (suc n)))
take_append zero (x ∷ xs) ys = ap (λ (k : ℕ). take k ys) (sym (zero-sub (suc (length xs))))
take_append {A} (suc n) (x ∷ xs) ys =
    ap {B = List A} (λ r. x ∷ r) (take_append n xs ys ∙ ap (λ (k : ℕ). take n xs ++ take k ys) (sym (suc-sub-suc n (length xs))))

-- no more than there are
pub take_least : {A : Type 0} (l : List A) (a : ℕ) → take a l ≡ take (min (length l) a) l
take_least l a =
    ⊎_elim
    (λ (h : a < length l). let e : a ≡ min (length l) a = omega arith in ap (λ (k : ℕ). take k l) e)
    (λ (h : length l ≤ a). take_all a l h ∙ sym (take_all (min (length l) a) l (omega arith)))
    (lt_or_le a (length l))

pub joined_same : {A B : Type 0} (g h : A → List B) → ((i : A) → g i ≡ h i) → (is : List A) → joined g is ≡ joined h is
unfolding joined
joined_same g h e [] = refl
joined_same g h e (i ∷ is) = ap₂ (λ x y. x ++ y) (e i) (joined_same g h e is)

-- the first n of lists joined: those of the first list, and the rest of the others
pub take_joined : {A B : Type 0} (g : A → List B) (n : ℕ) (i : A) (is : List A)
    → take n (joined g (i ∷ is)) ≡ take n (g i) ++ take (n - length (g i)) (joined g is)
unfolding joined
take_joined g n i is = take_append n (g i) (joined g is)
