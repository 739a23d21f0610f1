-- The visits of a closest call: their steps, and that each bucket but bucket 0 is visited once. D is the local-target distance.
use mathlib.Core.Path.{◌≡◌, refl, sym, ap, ap₂, ◌∙◌}
use mathlib.Core.Bool.{Bool, true, false, cond, not}
use mathlib.Core.Logic.{◌⊎◌, inl, inr}
use mathlib.Core.List.{List, [], ◌∷◌, ◌++◌}
use Prim.Native.Nat.{ℕ, zero, suc, ◌+◌, ◌-◌, ◌/◌, ◌%◌, ◌^◌, ◌<◌, ◌≤◌}
use native.Mathlib.Nat.{lt_of_lt_of_le, zero-div, le_of_suc-le-suc, eq-or-lt_of_le, zero-add, suc-add, add-suc, add-zero, div-eq_of_lt}
use native.Mathlib.Omega.{arith}
use lib.Dec.{eqb}
use lib.Pow.{pow_pos, pow_mono}
use borrow.Author.Tests.{eqb-true, eq-eqb, ne_eqb}
use Rattle.model.specs.Key.{InBucket, test_bit}
use Rattle.model.specs.Visit.{sets_down, clears_up, visits}
use Rattle.model.specs.Fits.{All}
use Rattle.laws.proofs.Xor.{top_one}
use Rattle.laws.proofs.All.{all_append, all_map}

-- ---- one step of the lists

module _ (D k : ℕ) where
  in_step : 0 < k → sets_down D k ≡ cond (test_bit D (k - 1)) ((k - 1) ∷ sets_down D (k - 1)) (sets_down D (k - 1))
  unfolding sets_down
  in_step h = let e : k ≡ suc (k - 1) = omega arith in ap (sets_down D) e

  pub in_set : 0 < k → test_bit D (k - 1) ≡ true → sets_down D k ≡ (k - 1) ∷ sets_down D (k - 1)
  in_set h t = in_step h ∙ ap (λ s. cond s ((k - 1) ∷ sets_down D (k - 1)) (sets_down D (k - 1))) t

  pub in_clear : 0 < k → test_bit D (k - 1) ≡ false → sets_down D k ≡ sets_down D (k - 1)
  in_clear h t = in_step h ∙ ap (λ s. cond s ((k - 1) ∷ sets_down D (k - 1)) (sets_down D (k - 1))) t

  pub in_none : k ≤ 0 → sets_down D k ≡ []
  unfolding sets_down
  in_none h = let e : k ≡ 0 = omega arith in ap (sets_down D) e

-- the last of the clear bits
pub clears_last : (D i k : ℕ) → clears_up D i (suc k) ≡ clears_up D i k ++ cond (test_bit D (i + k)) [] ((i + k) ∷ [])
unfolding clears_up
clears_last D i zero = ap (λ (n : ℕ). cond (test_bit D n) [] (n ∷ [])) (sym (add-zero i))
clears_last D i (suc k) =
    ap (λ (l : List ℕ). cond (test_bit D i) l (i ∷ l))
    (clears_last D (suc i) k ∙ ap (λ (n : ℕ). clears_up D (suc i) k ++ cond (test_bit D n) [] (n ∷ [])) (suc-add i k ∙ sym (add-suc i k)))
    ∙ front (test_bit D i) (clears_up D (suc i) k) (cond (test_bit D (i + suc k)) [] ((i + suc k) ∷ []))
  where
    front : (t : Bool) (l m : List ℕ) → cond t (l ++ m) (i ∷ (l ++ m)) ≡ cond t l (i ∷ l) ++ m
    front true l m = refl
    front false l m = refl

-- ---- the start: the highest set bit

pub above_clear : (D m : ℕ) → D < 2 ^ m → test_bit D m ≡ false
unfolding test_bit
above_clear D m h = ap (λ (x : ℕ). eqb (x % 2) 1) (div-eq_of_lt h)

pub top_set : (D i : ℕ) → InBucket i D → test_bit D i ≡ true
unfolding test_bit
top_set D i b = ap (λ (x : ℕ). eqb (x % 2) 1) (top_one D i b)

sets_top : (D i k : ℕ) → InBucket i D → sets_down D (k + suc i) ≡ i ∷ sets_down D i
unfolding sets_down
sets_top D i zero b = ap (sets_down D) (zero-add (suc i)) ∙ ap (λ s. cond s (i ∷ sets_down D i) (sets_down D i)) (top_set D i b)
sets_top D i (suc k) b =
    ap (sets_down D) (suc-add k (suc i))
    ∙ ap (λ s. cond s ((k + suc i) ∷ sets_down D (k + suc i)) (sets_down D (k + suc i)))
    (above_clear D (k + suc i) (lt_of_lt_of_le b.below (pow_mono (let l : suc i ≤ k + suc i = omega arith in l))))
    ∙ sets_top D i k b

pub visits_top : (D i : ℕ) → i < 256 → InBucket i D → visits D ≡ i ∷ (sets_down D i ++ 0 ∷ clears_up D 1 255)
unfolding visits
visits_top D i h b =
    let e : 256 ≡ (255 - i) + suc i = omega arith in
    let ne : eqb D 0 ≡ false = ne_eqb D 0 (λ z. let p : 0 < D = lt_of_lt_of_le (pow_pos i) b.from in omega arith) in
    ap (λ s. cond s (0 ∷ []) (sets_down D 256) ++ 0 ∷ clears_up D 1 255) ne
    ∙ ap (λ l. l ++ 0 ∷ clears_up D 1 255) (ap (sets_down D) e ∙ sets_top D i (255 - i) b)

pub visits_none : (D : ℕ) → D ≡ 0 → visits D ≡ 0 ∷ (sets_down D 0 ++ 0 ∷ clears_up D 1 255)
unfolding visits sets_down
visits_none D e = ap (λ s. cond s (0 ∷ []) (sets_down D 256) ++ 0 ∷ clears_up D 1 255) (eq-eqb D 0 e)

abbrev SetBelow : ℕ → ℕ → ℕ → Type 0
SetBelow D n i = (test_bit D i ≡ true) × (i < n)

all_if : (P : ℕ → Type 0) (t : Bool) (x : ℕ) (l : List ℕ) → (t ≡ true → P x) → All P l → All P (cond t (x ∷ l) l)
all_if P true x l p q = (p refl, q)
all_if P false x l p q = q

all_unless : (P : ℕ → Type 0) (t : Bool) (x : ℕ) (l : List ℕ) → (t ≡ false → P x) → All P l → All P (cond t l (x ∷ l))
all_unless P true x l p q = q
all_unless P false x l p q = (p refl, q)

sets_are : (D n : ℕ) → All (SetBelow D n) (sets_down D n)
unfolding sets_down
sets_are D zero = tt
sets_are D (suc n) =
    all_if (SetBelow D (suc n)) (test_bit D n) n (sets_down D n) (λ t. (t, omega arith))
    (all_map (SetBelow D n) (SetBelow D (suc n)) (λ i h. (h.0, (let l : i < n = h.1 in omega arith))) (sets_down D n) (sets_are D n))

clears_below : (D s k : ℕ) → s + k ≤ 256 → All (λ i. i < 256) (clears_up D s k)
unfolding clears_up
clears_below D s zero h = tt
clears_below D s (suc k) h =
    all_unless (λ i. i < 256) (test_bit D s) s (clears_up D (suc s) k) (λ t. omega arith) (clears_below D (suc s) k (omega arith))

-- every visit is of a bucket of the table
pub visits_below : (D : ℕ) → All (λ i. i < 256) (visits D)
unfolding visits
visits_below D =
    all_append (λ i. i < 256) (cond (eqb D 0) (0 ∷ []) (sets_down D 256)) (0 ∷ clears_up D 1 255) (go (eqb D 0)) (omega arith, clears_below D 1 255 (omega arith))
  where
    go : (z : Bool) → All (λ i. i < 256) (cond z (0 ∷ []) (sets_down D 256))
    go true = (omega arith, tt)
    go false = all_map (SetBelow D 256) (λ i. i < 256) (λ i h. h.1) (sets_down D 256) (sets_are D 256)

-- ---- how often

-- one more where the test holds
abbrev pub add_one : Bool → ℕ → ℕ
add_one t n = cond t (suc n) n

-- how often i stands in a list
unfoldable pub times : ℕ → List ℕ → ℕ
times i [] = zero
times i (x ∷ l) = add_one (eqb x i) (times i l)

pub times_append : (i : ℕ) (l m : List ℕ) → times i (l ++ m) ≡ times i l + times i m
unfolding times
times_append i [] m = omega arith
times_append i (x ∷ l) m = go (eqb x i) (times_append i l m)
  where
    go : (t : Bool) → times i (l ++ m) ≡ times i l + times i m → add_one t (times i (l ++ m)) ≡ add_one t (times i l) + times i m
    go true e = omega arith
    go false e = e

-- an element that is not i
times_if : (i x : ℕ) (t : Bool) (l : List ℕ) → (x ≡ i → ⊥) → times i (cond t (x ∷ l) l) ≡ times i l
unfolding times
times_if i x true l n = ap (λ s. add_one s (times i l)) (ne_eqb x i n)
times_if i x false l n = refl

times_unless : (i x : ℕ) (t : Bool) (l : List ℕ) → (x ≡ i → ⊥) → times i (cond t l (x ∷ l)) ≡ times i l
times_unless i x true l n = refl
times_unless i x false l n = times_if i x true l n

-- i itself
times_if_same : (i : ℕ) (t : Bool) (l : List ℕ) → times i (cond t (i ∷ l) l) ≡ add_one t (times i l)
unfolding times
times_if_same i true l = ap (λ s. add_one s (times i l)) (eq-eqb i i refl)
times_if_same i false l = refl

times_unless_same : (i : ℕ) (t : Bool) (l : List ℕ) → times i (cond t l (i ∷ l)) ≡ add_one (not t) (times i l)
times_unless_same i true l = refl
times_unless_same i false l = times_if_same i true l

sets_out : (D n i : ℕ) → n ≤ i → times i (sets_down D n) ≡ 0
unfolding sets_down times
sets_out D zero i h = refl
sets_out D (suc n) i h = times_if i n (test_bit D n) (sets_down D n) (λ e. omega arith) ∙ sets_out D n i (omega arith)

sets_in : (D n i : ℕ) → i < n → times i (sets_down D n) ≡ add_one (test_bit D i) 0
unfolding sets_down
sets_in D zero i h = absurd (omega arith)
sets_in D (suc n) i h = go (eq-or-lt_of_le (le_of_suc-le-suc h)) (sets_in D n i)
  where
    go : (i ≡ n) ⊎ (i < n) → (i < n → times i (sets_down D n) ≡ add_one (test_bit D i) 0)
        → times i (cond (test_bit D n) (n ∷ sets_down D n) (sets_down D n)) ≡ add_one (test_bit D i) 0
    go (inl e) ih =
        ap (λ (x : ℕ). times x (cond (test_bit D n) (n ∷ sets_down D n) (sets_down D n))) e ∙ times_if_same n (test_bit D n) (sets_down D n)
        ∙ ap (add_one (test_bit D n)) (sets_out D n n (omega arith)) ∙ ap (λ (x : ℕ). add_one (test_bit D x) 0) (sym e)
    go (inr l) ih = times_if i n (test_bit D n) (sets_down D n) (λ e. omega arith) ∙ ih l

clears_out : (D s k i : ℕ) → i < s → times i (clears_up D s k) ≡ 0
unfolding clears_up times
clears_out D s zero i h = refl
clears_out D s (suc k) i h = times_unless i s (test_bit D s) (clears_up D (suc s) k) (λ e. omega arith) ∙ clears_out D (suc s) k i (omega arith)

clears_in : (D s k i : ℕ) → s ≤ i → i < s + k → times i (clears_up D s k) ≡ add_one (not (test_bit D i)) 0
unfolding clears_up
clears_in D s zero i h l = absurd (omega arith)
clears_in D s (suc k) i h l = go (eq-or-lt_of_le h) (clears_in D (suc s) k i)
  where
    go : (s ≡ i) ⊎ (s < i) → (suc s ≤ i → i < suc s + k → times i (clears_up D (suc s) k) ≡ add_one (not (test_bit D i)) 0)
        → times i (cond (test_bit D s) (clears_up D (suc s) k) (s ∷ clears_up D (suc s) k)) ≡ add_one (not (test_bit D i)) 0
    go (inl e) ih =
        ap (λ (x : ℕ). times x (cond (test_bit D s) (clears_up D (suc s) k) (s ∷ clears_up D (suc s) k))) (sym e)
        ∙ times_unless_same s (test_bit D s) (clears_up D (suc s) k)
        ∙ ap (add_one (not (test_bit D s))) (clears_out D (suc s) k s (omega arith)) ∙ ap (λ (x : ℕ). add_one (not (test_bit D x)) 0) e
    go (inr g) ih = times_unless i s (test_bit D s) (clears_up D (suc s) k) (λ e. omega arith) ∙ ih g (omega arith)

pub no_bit : (D i : ℕ) → D ≡ 0 → test_bit D i ≡ false
unfolding test_bit
no_bit D i e = ap (λ (x : ℕ). eqb (x / 2 ^ i % 2) 1) e ∙ ap (λ (x : ℕ). eqb (x % 2) 1) (zero-div (2 ^ i))

-- each bucket from 1 on is visited once
pub visits_once : (D i : ℕ) → 0 < i → i < 256 → times i (visits D) ≡ 1
unfolding visits times
visits_once D i p h = go (eqb D 0) refl
  where
    head : add_one (eqb 0 i) (times i (clears_up D 1 255)) ≡ add_one (not (test_bit D i)) 0
    head = ap (λ s. add_one s (times i (clears_up D 1 255))) (ne_eqb 0 i (λ e. omega arith)) ∙ clears_in D 1 255 i (omega arith) (omega arith)

    both : (t : Bool) → add_one t 0 + add_one (not t) 0 ≡ 1
    both true = refl
    both false = refl

    go : (z : Bool) → eqb D 0 ≡ z → times i (cond z (0 ∷ []) (sets_down D 256) ++ 0 ∷ clears_up D 1 255) ≡ 1
    go true e =
        ap (λ s. add_one s (add_one (eqb 0 i) (times i (clears_up D 1 255)))) (ne_eqb 0 i (λ e. omega arith)) ∙ head
        ∙ ap (λ t. add_one (not t) 0) (no_bit D i (eqb-true D 0 e))
    go false e =
        times_append i (sets_down D 256) (0 ∷ clears_up D 1 255) ∙ ap₂ (λ (x y : ℕ). x + y) (sets_in D 256 i h) head ∙ both (test_bit D i)
