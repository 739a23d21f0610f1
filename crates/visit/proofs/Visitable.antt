-- The orders in which a listing visits the buckets: the closest visit, and all buckets in turn.
use mathlib.Core.Path.{◌≡◌, refl, sym, ap, ap₂, ◌∙◌, subst}
use mathlib.Core.Bool.{Bool, true, false, cond}
use mathlib.Core.List.{List, [], ◌∷◌, ◌++◌}
use mathlib.Core.Logic.{⊎_elim}
use Prim.Native.Nat.{ℕ, zero, suc, ◌+◌, ◌-◌, ◌≤◌, ◌<◌}
use native.Mathlib.Numerals.{add-one}
use native.Mathlib.Omega.{arith}
use lib.Dec.{eqb}
use lib.ListN.{length, length-append, drop, drop_of_length-le}
use lib.Seq.{drop-cons}
use borrow.Author.Tests.{eq-eqb}
use Rattle.laws.proofs.Touched.{all_visited}
use Rattle.model.specs.Base.{tabulate}
use Rattle.model.specs.Key.{test_bit}
use Rattle.model.specs.Visit.{sets_down, clears_up, visits}
use Rattle.model.specs.Table.{num_buckets}
use Rattle.model.specs.Listing.{visited}
use Rattle.model.specs.Fits.{All}
use Rattle.laws.proofs.Tests.{cases, clash}
use Rattle.laws.proofs.Lists.{lt_or_le, length_tabulate, get_d_tabulate}
use Rattle.laws.proofs.All.{all_any}
use Rattle.laws.proofs.Visits.{visits_below, visits_once, visits_none, add_one, times, clears_last, no_bit}
use Rattle.visit.specs.Passes.{Once, Visitable}

-- a list in which each number from 1 on stands at most once

none_of : (x : ℕ) (l : List ℕ) → times x l ≡ 0 → All (λ (j : ℕ). j ≡ x → x ≡ 0) l
unfolding times
none_of x [] e = tt
none_of x (y ∷ l) e = go (eqb y x) refl e (none_of x l)
  where
    go : (t : Bool) → eqb y x ≡ t → add_one t (times x l) ≡ 0 → (times x l ≡ 0 → All (λ (j : ℕ). j ≡ x → x ≡ 0) l) → All (λ (j : ℕ). j ≡ x → x ≡ 0) (y ∷ l)
    go true p q r = absurd (omega arith)
    go false p q r = ((λ h. clash (eq-eqb y x h) p), r q)

fewer : (i x : ℕ) (l : List ℕ) → times i l ≤ times i (x ∷ l)
unfolding times
fewer i x l = cases (λ (n : ℕ). times i l ≤ n) (eqb x i) (λ _. omega arith) (λ _. omega arith)

itself : (x : ℕ) (l : List ℕ) → times x (x ∷ l) ≡ suc (times x l)
unfolding times
itself x l = ap (λ (t : Bool). add_one t (times x l)) (eq-eqb x x refl)

once_of : (l : List ℕ) → All (λ (i : ℕ). i < 256) l → ((i : ℕ) → 0 < i → i < 256 → times i l ≤ 1) → Once l
once_of [] b h = tt
once_of (x ∷ l) b h = (
  ⊎_elim
      (λ (p : 0 < x). none_of x l (let u = h x p b.0 in let v = itself x l in omega arith))
      (λ (p : x ≤ 0). all_any (λ (j : ℕ). j ≡ x → x ≡ 0) l (λ j e. omega arith))
      (lt_or_le 0 x),
  once_of l b.1 (λ i p q. let u = h i p q in let v = fewer i x l in omega arith),
)

-- their lengths

length_sets : (D n : ℕ) → length (sets_down D n) ≤ n
unfolding sets_down
length_sets D zero = omega arith
length_sets D (suc n) = let h = length_sets D n in cases (λ (l : List ℕ). length l ≤ suc n) (test_bit D n) (λ _. omega arith) (λ _. omega arith)

length_clears : (D i k : ℕ) → length (clears_up D i k) ≤ k
unfolding clears_up
length_clears D i zero = omega arith
length_clears D i (suc k) = let h = length_clears D (suc i) k in cases (λ (l : List ℕ). length l ≤ suc k) (test_bit D i) (λ _. omega arith) (λ _. omega arith)

length_visits : (D : ℕ) → length (visits D) ≤ num_buckets + num_buckets
unfolding visits
length_visits D =
    let c = length_clears D 1 255 in
    let s = length_sets D 256 in
    let f : length (cond (eqb D 0) (0 ∷ []) (sets_down D 256)) ≤ 256 = cases (λ (l : List ℕ). length l ≤ 256) (eqb D 0) (λ _. omega arith) (λ _. s) in
    omega (arith, length-append (cond (eqb D 0) (0 ∷ []) (sets_down D 256)) (0 ∷ clears_up D 1 255))

-- the closest visit
pub visitable_visits : (D : ℕ) → Visitable (visits D)
visitable_visits D =
    record {
      below = visits_below D;
      once = once_of (visits D) (visits_below D) (λ i p q. let e = visits_once D i p q in omega arith);
      short = length_visits D;
    }

-- all buckets in turn

turn_is : (k : ℕ) → 0 ∷ clears_up 0 1 k ≡ tabulate (suc k) (λ i. i)
unfolding clears_up tabulate
turn_is zero = refl
turn_is (suc k) =
    ap (λ (l : List ℕ). 0 ∷ l) (clears_last 0 1 k ∙ ap (λ (t : Bool). clears_up 0 1 k ++ cond t [] ((1 + k) ∷ [])) (no_bit 0 (1 + k) refl))
    ∙ ap (λ (l : List ℕ). l ++ ((1 + k) ∷ [])) (turn_is k)
    ∙ ap (λ (n : ℕ). tabulate (suc k) (λ i. i) ++ (n ∷ [])) (let e : 1 + k ≡ suc k = omega arith in e)

pub in_turn_is : 0 ∷ clears_up 0 1 255 ≡ tabulate num_buckets (λ i. i)
in_turn_is = turn_is 255

-- those from bucket i on
module _ (i : ℕ) where
  pub turn_next : i < num_buckets → drop i (tabulate num_buckets (λ j. j)) ≡ i ∷ drop (i + 1) (tabulate num_buckets (λ j. j))
  turn_next h =
      drop-cons (tabulate num_buckets (λ j. j)) i 0 (rw length_tabulate h)
      ∙ ap₂ (λ (j k : ℕ). j ∷ drop k (tabulate num_buckets (λ j. j))) (get_d_tabulate num_buckets (λ j. j) i 0 h) (sym (add-one i))

  pub turn_end : num_buckets ≤ i → drop i (tabulate num_buckets (λ j. j)) ≡ []
  turn_end h =
      let e : length (tabulate num_buckets (λ j. j)) ≤ i = rw length_tabulate h in
      drop_of_length-le (tabulate num_buckets (λ j. j)) e

rest : (i : ℕ) (is : List ℕ) → Visitable (i ∷ is) → Visitable is
rest i is c = record { below = c.below.1; once = c.once.1; short = (let h = c.short in omega arith) }

pub visitable_in_turn : Visitable (tabulate num_buckets (λ i. i))
unfolding sets_down
visitable_in_turn = subst Visitable in_turn_is (rest 0 (0 ∷ clears_up 0 1 255) (subst Visitable (visits_none 0 refl) (visitable_visits 0)))

-- what holds of all holds of those visited

pub once_visited : (size : ℕ → ℕ) (n : ℕ) (is : List ℕ) → Once is → Once (visited size n is)
unfolding visited
once_visited size n [] h = tt
once_visited size zero (i ∷ is) h = tt
once_visited size (suc n) (i ∷ is) h =
    (all_visited (λ (j : ℕ). j ≡ i → i ≡ 0) size (suc n - size i) is h.0, once_visited size (suc n - size i) is h.1)

-- one step of the buckets visited

module _ (size : ℕ → ℕ) where
  pub visited_none : (is : List ℕ) → visited size 0 is ≡ []
  unfolding visited
  visited_none [] = refl
  visited_none (i ∷ is) = refl

  pub visited_end : (n : ℕ) → visited size n [] ≡ []
  unfolding visited
  visited_end n = refl

  pub visited_next : (n i : ℕ) (is : List ℕ) → 0 < n → visited size n (i ∷ is) ≡ i ∷ visited size (n - size i) is
  unfolding visited
  visited_next zero i is h = absurd (omega arith)
  visited_next (suc n) i is h = refl
