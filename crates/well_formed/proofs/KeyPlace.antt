-- The place of a key among the places of a bucket's bytes, and whether one of them has it.
use mathlib.Core.Path.{◌≡◌, refl, sym, ap, ◌∙◌}
use mathlib.Core.Bool.{Bool, true, false, not}
use mathlib.Core.List.{List, [], ◌∷◌}
use Prim.Native.Nat.{ℕ, zero, suc, ◌≤◌, ◌<◌}
use native.Mathlib.Nat.{not-suc-le-zero, le_of_suc-le-suc}
use native.Mathlib.Omega.{arith}
use lib.ListN.{length, get_or}
use borrow.Author.Tests.{not-true}
use Rattle.model.specs.Base.{same, tabulate}
use Rattle.model.specs.Node.{Node}
use Rattle.model.specs.Layout.{node_in, place_in}
use Rattle.model.specs.Formed.{key_in, not_held}
use Rattle.laws.proofs.Tests.{clash, split}
use Rattle.laws.proofs.Lists.{length_tabulate, get_d_tabulate, all_gives, all_if}
use Rattle.places.specs.Places.{before}
use Rattle.std.specs.Prelude.{Option, Some, None}
use Rattle.std.specs.Option.{MatchOption, is_some}
use Rattle.well_formed.specs.Tests.{node_at, nodes_here, place, Position}

-- the first that passes

pub before_is : {A : Type 0} (p : A → Bool) (xs : List A) (d : A) (i : ℕ) → i < length xs → ((j : ℕ) → j < i → p (get_or xs j d) ≡ false) → p (get_or xs i d) ≡ true → before p xs ≡ i
before_is p [] d i l m e = absurd (not-suc-le-zero l)
before_is p (x ∷ xs) d zero l m e = rw e
before_is p (x ∷ xs) d (suc i) l m e = rw (m 0 (omega arith)) (ap suc (before_is p xs d i (le_of_suc-le-suc l) (λ j k. m (suc j) (omega arith)) e))

pub before_none : {A : Type 0} (p : A → Bool) (xs : List A) (d : A) → ((j : ℕ) → j < length xs → p (get_or xs j d) ≡ false) → before p xs ≡ length xs
before_none p [] d m = refl
before_none p (x ∷ xs) d m = rw (m 0 (omega arith)) (ap suc (before_none p xs d (λ j k. m (suc j) (omega arith))))

before_past : {A : Type 0} (p : A → Bool) (xs : List A) (d : A) → before p xs ≡ length xs → (j : ℕ) → j < length xs → p (get_or xs j d) ≡ false
before_past p [] d e j l = absurd (not-suc-le-zero l)
before_past p (x ∷ xs) d e zero l = split (p x) (λ q. absurd (omega (arith, rw q at e))) (λ q. q)
before_past p (x ∷ xs) d e (suc j) l =
    split (p x) (λ q. absurd (omega (arith, rw q at e))) (λ q. before_past p xs d (omega (arith, rw q at e)) j (le_of_suc-le-suc l))

-- a key's place in a bucket's bytes

module _ (bs : List ℕ) (count k : ℕ) where
  misses : (i : ℕ) → i ≤ count → not_held bs i k ≡ true → (j : ℕ) → j < i → same (get_or (tabulate count (node_at bs)) j (node_in [])).key k ≡ false
  unfolding not_held node_at node_in
  misses i l h j m =
      ap (λ (n : Node). same n.key k) (get_d_tabulate count (node_at bs) j (node_in []) (omega arith))
      ∙ not-true (same (key_in (place_in bs j)) k) (all_gives i (λ x. not (same (key_in (place_in bs x)) k)) j m h)

  pub found_here : (i : ℕ) → i < count → not_held bs i k ≡ true → same (key_in (place_in bs i)) k ≡ true → place k (nodes_here bs count) ≡ i
  unfolding nodes_here node_at node_in
  found_here i l h e =
      before_is (λ (n : Node). same n.key k) (tabulate count (node_at bs)) (node_in []) i (rw length_tabulate l) (misses i (omega arith) h)
      (ap (λ (n : Node). same n.key k) (get_d_tabulate count (node_at bs) i (node_in []) l) ∙ e)

  pub absent_here : not_held bs count k ≡ true → place k (nodes_here bs count) ≡ count
  unfolding nodes_here
  absent_here h =
      before_none (λ (n : Node). same n.key k) (tabulate count (node_at bs)) (node_in []) (λ j l. misses count (omega arith) h j (rw length_tabulate at l))
      ∙ length_tabulate count (node_at bs)

  held_here : place k (nodes_here bs count) ≡ count → not_held bs count k ≡ true
  unfolding nodes_here not_held node_at node_in
  held_here e =
      all_if count (λ j. not (same (key_in (place_in bs j)) k))
      (λ j l.
      let m = before_past (λ (n : Node). same n.key k) (tabulate count (node_at bs)) (node_in []) (e ∙ sym (length_tabulate count (node_at bs))) j (rw length_tabulate l) in
      ap not (sym (ap (λ (n : Node). same n.key k) (get_d_tabulate count (node_at bs) j (node_in []) l)) ∙ m))

  -- whether no place has it, by what a search answers
  pub none_found : (result : Option ℕ) {r : Bool} → Position k (nodes_here bs count) count result → is_some result ≡ not r → r ≡ not_held bs count k
  none_found None {r} e f = split r (λ h. h ∙ sym (held_here e)) (λ h. clash (ap not h) (sym f))
  none_found (Some p) {r} e f =
      split r (λ h. clash (sym f) (ap not h)) (λ h. h ∙ sym (split (not_held bs count k) (λ t. absurd (omega (arith, absent_here t, e))) (λ t. t)))

  -- a search that goes from place to place
  abbrev has : ℕ → Bool
  has j = same (key_in (place_in bs j)) k

  no_place : (i : ℕ) → ((j : ℕ) → 0 ≤ j → j < i → has j ≡ false) → not_held bs i k ≡ true
  unfolding not_held
  no_place i m = all_if i (λ j. not (has j)) (λ j l. ap not (m j (omega arith) l))

  pub position_by : (result : Option ℕ)
      → MatchOption result ((j : ℕ) → 0 ≤ j → j < count → has j ≡ false) (λ i. (0 ≤ i) × (i < count) × (has i ≡ true) × ((j : ℕ) → 0 ≤ j → j < i → has j ≡ false))
      → Position k (nodes_here bs count) count result
  position_by None m = absent_here (no_place count m)
  position_by (Some i) f = (found_here i f.1 (no_place i f.3) f.2, f.1)
