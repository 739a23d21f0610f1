-- What a chain over a list answers, and one step of a loop over a list l at index i, where what is left to look at is `drop i l`.
use mathlib.Core.Path.{◌≡◌, refl, sym, ap, ◌∙◌, subst}
use mathlib.Core.Bool.{Bool, true, false, cond, not, ◌&&◌}
use mathlib.Core.List.{List, [], ◌∷◌, map}
use Prim.Native.Nat.{ℕ, suc, ◌+◌, ◌-◌, ◌≤◌, ◌<◌, zero-le, suc-le-suc}
use native.Mathlib.Omega.{arith}
use native.Mathlib.Numerals.{add-one}
use lib.ListN.{length, get_or, take, drop, length-drop}
use lib.Dec.{eqb, leb, ltb, leb-suc-suc}
use borrow.Author.Tests.{le-ltb, lt-ltb, leb-true, leb-false, ltb-true, ltb-false}
use lib.Seq.{drop-cons, take_all}
use Rattle.std.specs.Prelude.{Option, Some, None, MatchOption}
use Rattle.std.specs.List.{list_all, AllWithin, position_or_len}
use Rattle.std.specs.Option.{is_some}
use Rattle.std.specs.Bool.{MatchBool}
use Rattle.std.proofs.lemmas.List.Recursion.{is_position_or_len}
use Rattle.model.specs.Base.{every, same}
use Rattle.model.specs.Fits.{All}
use Rattle.model.specs.Node as model
use Rattle.model.specs.Filter.{counted, ip_filter_fails}
use Rattle.laws.proofs.Tests.{split, clash}
use Rattle.node.specs.declared.Value.{Value}
use Rattle.node.specs.declared.Node.{Node}
use Rattle.node.specs.Node.{node_of, value_of}
use Rattle.places.specs.Places.{before, position, different}

-- whether all of a list pass a test, as a chain over the list answers it
pub list_all_every : {A : Type 0} (p : A → Bool) (xs : List A) → list_all p xs ≡ every p xs
list_all_every p [] = refl
list_all_every p (x ∷ xs) = ap (λ (t : Bool). p x && t) (list_all_every p xs)

all_placed : {A : Type 0} (P : A → Type 0) (xs : List A) → AllWithin P xs 0 (length xs) → All P xs
all_placed P [] h = tt
all_placed P (x ∷ xs) h = (h 0 x zero-le (omega arith), all_placed P xs (λ k d l m. h (suc k) d zero-le (suc-le-suc m)))

-- what holds of each element where a chain over the list answers yes
pub all_of_chain : {A : Type 0} (P : A → Type 0) (Q : Type 0) (r : Bool) (xs : List A) → MatchBool r (AllWithin P xs 0 (length xs)) Q → r ≡ true → All P xs
all_of_chain P Q true xs h e = all_placed P xs h
all_of_chain P Q false xs h e = clash e refl

le_step : (b : Bool) (m n : ℕ) → m ≤ n → cond b 0 (suc m) ≤ suc n
le_step true m n h = zero-le
le_step false m n h = suc-le-suc h

pub before_le : {A : Type 0} (p : A → Bool) (xs : List A) → before p xs ≤ length xs
before_le p [] = zero-le
before_le p (x ∷ xs) = le_step (p x) (before p xs) (length xs) (before_le p xs)

-- what the code's search for a place answers
pub place_found : {A : Type 0} (p : A → Bool) (xs : List A) (r : Option ℕ)
    → r ≡ cond (ltb (position_or_len p xs) (length xs)) (Some (position_or_len p xs)) None
    → MatchOption r (before p xs ≡ length xs) (λ i. (i ≡ before p xs) × (i < length xs))
place_found {A} p xs r e =
    let same : before p xs ≡ position_or_len p xs = is_position_or_len (before p) p refl (λ x ys. let e : suc (before p ys) ≡ 1 + before p ys = omega arith in ap (λ (n : ℕ). cond (p x) 0 n) e) xs in
    let most : before p xs ≤ length xs = before_le p xs in
    let found : Option ℕ → Type 0 = λ (o : Option ℕ). MatchOption o (before p xs ≡ length xs) (λ i. (i ≡ before p xs) × (i < length xs)) in
    split (ltb (position_or_len p xs) (length xs))
    (λ t. subst found (sym (rw t at e)) (sym same, ltb-true _ _ t))
    (λ t.
    let none : length xs ≤ position_or_len p xs = ltb-false _ _ t in
    subst found (sym (rw t at e)) (omega arith))

-- whether a place was found
pub found_is : (a n : ℕ) (r : Option ℕ) → MatchOption r (a ≡ n) (λ i. (i ≡ a) × (i < n)) → is_some r ≡ ltb a n
found_is a n (Some i) h = sym (lt-ltb a n (omega (arith, h.0, h.1)))
found_is a n None h = sym (le-ltb a n (omega (arith, h)))

-- does an element pass the test?
none_passes : {A : Type 0} (p : A → Bool) (xs : List A) → every (λ (x : A). not (p x)) xs ≡ not (ltb (before p xs) (length xs))
none_passes p [] = refl
none_passes {A} p (x ∷ xs) = go (p x) (none_passes p xs)
  where
    go : (t : Bool) → every (λ (y : A). not (p y)) xs ≡ not (ltb (before p xs) (length xs))
        → (not t && every (λ (y : A). not (p y)) xs) ≡ not (ltb (cond t 0 (suc (before p xs))) (suc (length xs)))
    go true ih = ap not (sym (lt-ltb 0 (suc (length xs)) (omega arith)))
    go false ih = ih ∙ ap not (sym (leb-suc-suc (suc (before p xs)) (length xs)))

pub every_map : {A B : Type 0} (p : B → Bool) (f : A → B) (xs : List A) → every p (map f xs) ≡ every (λ (x : A). p (f x)) xs
every_map p f [] = refl
every_map p f (x ∷ xs) = ap (λ (t : Bool). p (f x) && t) (every_map p f xs)

-- the nodes behind place i, as `&nodes[i + 1..]` has them
abbrev pub behind : List Node → ℕ → List Node
behind l i = take (length l - (i + 1)) (drop (i + 1) l)

-- the keys from place i on: is that of i among those behind it?
module _ (l : List Node) (i : ℕ) (d : Node) (h : i < length l) where
  behind_all : behind l i ≡ drop (suc i) l
  behind_all = take_all _ (drop (i + 1) l) (omega (arith, length-drop (i + 1) l)) ∙ rw add-one

  different_step : different (map node_of (drop i l)) ≡ (not (ltb (position (node_of (get_or l i d)).key (behind l i)) (length (behind l i))) && different (map node_of (behind l i)))
  different_step =
      let key : ℕ = (node_of (get_or l i d)).key in
      rw (
        drop-cons l i d h,
        behind_all,
        every_map (λ (m : model.Node). not (same m.key key)) node_of (drop (suc i) l),
        none_passes (λ (m : Node). same (node_of m).key key) (drop (suc i) l),
      )

  pub different_miss : ltb (position (node_of (get_or l i d)).key (behind l i)) (length (behind l i)) ≡ true → different (map node_of (drop i l)) ≡ false
  different_miss t = different_step ∙ rw t

  pub different_hit : ltb (position (node_of (get_or l i d)).key (behind l i)) (length (behind l i)) ≡ false
      → different (map node_of (drop i l)) ≡ different (map node_of (drop (i + 1) l))
  different_hit t = different_step ∙ rw t (ap (λ (ns : List Node). different (map node_of ns)) (behind_all ∙ rw add-one))

-- The IP filter.

below : (a b : ℕ) → ltb a b ≡ not (leb b a)
below a b =
    split (leb b a) (λ e. rw e (le-ltb a b (leb-true b a e))) (λ e. rw e (lt-ltb a b (leb-false b a e)))

module _ (v : Value) (limit : ℕ) (ns : List model.Node) where
  pub passes_plain : eqb v.flag 1 ≡ false → true ≡ not (ip_filter_fails limit (value_of v) ns)
  unfolding ip_filter_fails
  passes_plain e = rw e

  pub passes_counted : eqb v.flag 1 ≡ true → (k : ℕ) → k ≡ length (counted (value_of v) ns) → ltb k limit ≡ not (ip_filter_fails limit (value_of v) ns)
  unfolding ip_filter_fails
  passes_counted e k q = below k limit ∙ ap (λ (n : ℕ). not (leb limit n)) q ∙ rw e
