-- Three values of one /24, place by place.
use mathlib.Core.Path.{◌≡◌, refl, sym, ap, ap₂, ◌∙◌}
use mathlib.Core.Bool.{Bool, true, false, ◌||◌}
use mathlib.Core.List.{List, [], ◌∷◌, ◌++◌}
use Prim.Native.Nat.{ℕ, zero, suc, ◌+◌}
use native.Mathlib.Nat.{add-zero}
use native.Mathlib.Omega.{arith}
use lib.ListN.{get_or}
use Rattle.std.specs.List.{list_any, range_with_len}
use Rattle.model.specs.Base.{any_of, tabulate}
use Rattle.model.specs.Node.{Node}
use Rattle.model.specs.Layout.{nodes_in}
use Rattle.model.specs.Saved.{three_of_aNet}
use Rattle.laws.proofs.Lists.{tabulate_append, tabulate_ext}
use Rattle.well_formed.specs.Tests.{node_at}
use Rattle.loaded.specs.Load.{third_of, two_beside}

-- some element of a list that is made place by place

pub any_append : {A : Type 0} (p : A → Bool) (xs ys : List A) → any_of p (xs ++ ys) ≡ (any_of p xs || any_of p ys)
any_append p [] ys = refl
any_append p (x ∷ xs) ys = rw (any_append p xs ys) (or_turned (p x) (any_of p xs) (any_of p ys))
  where
    or_turned : (a b c : Bool) → (a || (b || c)) ≡ ((a || b) || c)
    or_turned true b c = refl
    or_turned false b c = refl

-- what `any` answers of the numbers from a on, by a test of what stands at each
pub any_numbers : {A : Type 0} (p : A → Bool) (f : ℕ → A) (a n : ℕ) → list_any (λ j. p (f j)) (range_with_len a n) ≡ any_of p (tabulate n (λ j. f (a + j)))
unfolding tabulate
any_numbers p f a zero = refl
any_numbers {A} p f a (suc n) =
    let g : ℕ → A = λ j. f (a + j) in
    let m : suc n ≡ 1 + n = omega arith in
    let at : (j : ℕ) → a + (1 + j) ≡ a + 1 + j = λ j. omega arith in
    let e : tabulate (suc n) g ≡ f a ∷ tabulate n (λ j. f (a + 1 + j)) =
    ap (λ (k : ℕ). tabulate k g) m ∙ tabulate_append 1 n g
    ∙ ap₂ (λ (x : A) (xs : List A). x ∷ xs) (ap f (add-zero a)) (tabulate_ext n (λ j. g (1 + j)) (λ j. f (a + 1 + j)) (λ j l. ap f (at j))) in
    ap (λ (b : Bool). p (f a) || b) (any_numbers p f (a + 1) n) ∙ sym (ap (any_of p) e)

-- what `any` answers of the places of a bucket's bytes that its count says
pub any_listed : (p : Node → Bool) (bs : List ℕ) {count : ℕ} → count ≡ get_or bs 0 0
    → list_any (λ j. p (node_at bs j)) (range_with_len 0 count) ≡ any_of p (nodes_in bs)
unfolding nodes_in node_at
any_listed p bs {count} e =
    let same_place : (j : ℕ) → 0 + j ≡ j = λ j. omega arith in
    any_numbers p (node_at bs) 0 count
    ∙ ap (any_of p) (tabulate_ext count (λ j. node_at bs (0 + j)) (node_at bs) (λ j l. ap (node_at bs) (same_place j)) ∙ ap (λ (k : ℕ). tabulate k (node_at bs)) e)

-- by its first value
pub three_by : (ns : List Node) → three_of_aNet ns ≡ any_of (λ (a : Node). two_beside a.value ns) ns
unfolding three_of_aNet two_beside third_of
three_by ns = refl
