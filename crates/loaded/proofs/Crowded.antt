-- Where no third octet stands at three places there are no three values of one /24.
use mathlib.Core.Path.{◌≡◌, refl, sym, ap, ◌∙◌}
use mathlib.Core.Bool.{Bool, true, false, ◌||◌, and-false}
use mathlib.Core.List.{List, [], ◌∷◌}
use mathlib.Core.Option.{Option, none, some, some-injective}
use mathlib.Core.Logic.{⊎_elim, ◌⊎◌}
use Prim.Native.Nat.{ℕ, zero, suc, ◌+◌, ◌≤◌, ◌<◌}
use native.Mathlib.Nat.{eq-or-lt_of_le}
use native.Mathlib.Omega.{arith}
use lib.Dec.{eqb}
use lib.ListN.{length, get_or, set}
use lib.Seq.{get_or-set_same, get_or-set_other}
use Rattle.model.specs.Base.{is_some, any_of, tabulate}
use Rattle.model.specs.Bytes.{part}
use Rattle.model.specs.Value.{Address, Value, shares_net}
use Rattle.model.specs.Filter.{counts}
use Rattle.model.specs.Node.{Node}
use Rattle.model.specs.Sizes.{key_size, value_size}
use Rattle.model.specs.Layout.{place_in, address_in, value_in, node_in, nodes_in}
use Rattle.model.specs.Saved.{three_of_aNet}
use borrow.Author.Tests.{eqb-true, eqb-false}
use Rattle.laws.proofs.Tests.{split, clash, and_left, and_right, or_rest}
use Rattle.laws.proofs.Parts.{get_d_part}
use Rattle.laws.proofs.Values.{same_net_true, same_value_self}
use Rattle.well_formed.specs.Tests.{node_at}
use Rattle.loaded.specs.Load.{NoThree, octet_at}
use Rattle.loaded.proofs.Nets.{any_append}

-- how often each number was seen among the first j, up to two
pub record Seen (o : ℕ → ℕ) (j : ℕ) (seen : List ℕ) : Type 0 where
  pub one : (a : ℕ) → a < j → 1 ≤ get_or seen (o a) 0
  pub two : (a b : ℕ) → a < j → b < j → (a ≡ b → ⊥) → o a ≡ o b → 2 ≤ get_or seen (o a) 0
  pub three : NoThree o j

module _ (o : ℕ → ℕ) where
  pub seen_none : (seen : List ℕ) → Seen o 0 seen
  seen_none seen = record { one = λ a l. absurd (omega (arith, l)); two = λ a b l m d e. absurd (omega (arith, l)); three = λ a b c l m n p q r e f. omega (arith, l) }

  module _ (j : ℕ) (seen : List ℕ) (h : Seen o j seen) (i : o j < length seen) (k : get_or seen (o j) 0 ≤ 1) where
    abbrev next : List ℕ
    next = set seen (o j) (get_or seen (o j) 0 + 1)

    marked : get_or next (o j) 0 ≡ get_or seen (o j) 0 + 1
    marked = get_or-set_same seen (o j) (get_or seen (o j) 0 + 1) 0 i

    grown : (x : ℕ) → get_or seen x 0 ≤ get_or next x 0
    grown x =
        split (eqb x (o j)) (λ e. let q : x ≡ o j = eqb-true x (o j) e in rw q (omega (arith, marked)))
        (λ e. omega (arith, get_or-set_other seen (o j) x (get_or seen (o j) 0 + 1) 0 (eqb-false x (o j) e)))

    before : (a : ℕ) → a < j + 1 → (a ≡ j) ⊎ (a < j)
    before a l = eq-or-lt_of_le (omega (arith, l))

    -- two others with the number of j
    full : (a b : ℕ) → a < j → b < j → (a ≡ b → ⊥) → o a ≡ o b → o a ≡ o j → ⊥
    full a b l m d e f = let t : 2 ≤ get_or seen (o j) 0 = rw f at (h.two a b l m d e) in omega (arith, t, k)

    pub seen_more : Seen o (j + 1) next
    seen_more =
        record {
          one = λ a l. ⊎_elim (λ (e : a ≡ j). rw e (omega (arith, marked))) (λ (m : a < j). omega (arith, h.one a m, grown (o a))) (before a l);
          two =
              λ a b l m d e.
              ⊎_elim
              (λ (p : a ≡ j).
              ⊎_elim (λ (q : b ≡ j). absurd (d (p ∙ sym q)))
              (λ (q : b < j). let f : o b ≡ o j = sym e ∙ ap o p in let t : 1 ≤ get_or seen (o j) 0 = rw f at (h.one b q) in rw p (omega (arith, t, marked)))
              (before b m))
              (λ (p : a < j).
              ⊎_elim (λ (q : b ≡ j). let f : o a ≡ o j = e ∙ ap o q in let t : 1 ≤ get_or seen (o j) 0 = rw f at (h.one a p) in rw f (omega (arith, t, marked)))
              (λ (q : b < j). omega (arith, h.two a b p q d e, grown (o a)))
              (before b m))
              (before a l);
          three =
              λ a b c l m n ab ac bc e f.
              ⊎_elim
              (λ (p : a ≡ j).
              let bj : b < j = ⊎_elim (λ (q : b ≡ j). absurd (ab (p ∙ sym q))) (λ q. q) (before b m) in
              let cj : c < j = ⊎_elim (λ (q : c ≡ j). absurd (ac (p ∙ sym q))) (λ q. q) (before c n) in
              full b c bj cj bc (sym e ∙ f) (sym e ∙ ap o p))
              (λ (p : a < j).
              ⊎_elim
              (λ (q : b ≡ j).
              let cj : c < j = ⊎_elim (λ (r : c ≡ j). absurd (bc (q ∙ sym r))) (λ r. r) (before c n) in
              full a c p cj ac f (e ∙ ap o q))
              (λ (q : b < j).
              ⊎_elim (λ (r : c ≡ j). full a b p q ab e (f ∙ ap o r)) (λ (r : c < j). h.three a b c p q r ab ac bc e f) (before c n))
              (before b m))
              (before a l);
        }

-- an element that passes

or_one : (b : Bool) → (b || false) ≡ true → b ≡ true
or_one true e = refl
or_one false e = e

any_elim : {P A : Type 0} (p : A → Bool) (f : ℕ → A) (k : ℕ) → any_of p (tabulate k f) ≡ true → ((j : ℕ) → j < k → p (f j) ≡ true → P) → P
unfolding tabulate
any_elim p f zero e g = clash e refl
any_elim p f (suc k) e g =
    split (any_of p (tabulate k f))
    (λ t. any_elim p f k t (λ j l h. g j (omega (arith, l)) h))
    (λ t. g k (omega arith) (or_one (p (f k)) (or_rest (any_of p (tabulate k f)) (p (f k) || false) (sym (any_append p (tabulate k f) (f k ∷ [])) ∙ e) t)))

-- values that count share their third octet, and are not of one place

shares_octet : (p q : Option Address) (m n : ℕ) → shares_net p q ≡ true → ((x : Address) → p ≡ some x → x.c ≡ m) → ((y : Address) → q ≡ some y → y.c ≡ n) → m ≡ n
shares_octet none q m n h f g = clash h refl
shares_octet (some x) none m n h f g = clash h refl
shares_octet (some x) (some y) m n h f g = sym (f x refl) ∙ (same_net_true x y h).c ∙ g y refl

counts_self : (v : Value) → counts v v ≡ false
unfolding counts
counts_self v = rw (same_value_self v, and-false)

module _ (f : ℕ → Node) (o : ℕ → ℕ) (k : ℕ) (h : (j : ℕ) → j < k → (x : Address) → (f j).value.address ≡ some x → x.c ≡ o j) where
  octets : (a b : ℕ) → a < k → b < k → counts (f a).value (f b).value ≡ true → o a ≡ o b
  unfolding counts
  octets a b l m e = shares_octet (f a).value.address (f b).value.address (o a) (o b) (and_left (shares_net (f a).value.address (f b).value.address) _ e) (h a l) (h b m)

  apart : (a b : ℕ) → counts (f a).value (f b).value ≡ true → a ≡ b → ⊥
  apart a b e q = clash (rw q at e) (counts_self (f b).value)

  pub spread : NoThree o k → three_of_aNet (tabulate k f) ≡ false
  unfolding three_of_aNet
  spread t =
      split (three_of_aNet (tabulate k f))
      (λ e. absurd
      (any_elim _ f k e
      (λ a la ea. any_elim _ f k ea
      (λ b lb eb.
      let ab = and_left (counts (f a).value (f b).value) _ eb in
      any_elim _ f k (and_right (counts (f a).value (f b).value) _ eb)
      (λ c lc ec.
      let ac = and_left (counts (f a).value (f c).value) _ ec in
      let bc = and_right (counts (f a).value (f c).value) _ ec in
      t a b c la lb lc (apart a b ab) (apart a c ac) (apart b c bc) (octets a b la lb ab) (octets a c la lc ac))))))
      (λ e. e)

-- on a bucket's bytes

address_octet : (v : List ℕ) (x : Address) → address_in v ≡ some x → x.c ≡ get_or v 3 0
address_octet v x e =
    split (eqb (get_or v 0 0) 1)
    (λ t. sym (ap (λ (y : Address). y.c) (some-injective (record { a = get_or v 1 0; b = get_or v 2 0; c = get_or v 3 0; d = get_or v 4 0 }) x (rw t at e))))
    (λ t. clash (ap is_some (rw t at e)) refl)

pub octet_there : (bs : List ℕ) (j : ℕ) (x : Address) → (node_at bs j).value.address ≡ some x → x.c ≡ octet_at bs j
unfolding node_at node_in value_in
octet_there bs j x e = address_octet (part (place_in bs j) (key_size + 2) value_size) x e ∙ get_d_part (place_in bs j) (key_size + 2) value_size 3 (omega arith)

pub spread_in : (bs : List ℕ) → NoThree (octet_at bs) (get_or bs 0 0) → three_of_aNet (nodes_in bs) ≡ false
unfolding nodes_in node_at
spread_in bs = spread (node_at bs) (octet_at bs) (get_or bs 0 0) (λ j l. octet_there bs j)
