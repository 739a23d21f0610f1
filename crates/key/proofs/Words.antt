-- Keys as numbers: the four words decide equality, order, XOR and bits. `omega` stops at numbers of more than 38 digits, so each law is
-- proved for one word and used three times.
use mathlib.Core.Path.{◌≡◌, sym, ap, ap₂, ◌∙◌}
use mathlib.Core.Bool.{Bool, cond, false, ◌&&◌, true≢false}
use Prim.Native.Nat.{ℕ, ◌+◌, ◌*◌, ◌/◌, ◌%◌, ◌^◌, ◌<◌, ◌≤◌}
use native.Mathlib.Nat.{div-eq_of_lt, lt_of_lt_of_le, mod-lt}
use native.Mathlib.Omega.{arith}
use lib.Bits.{bit_xor, xor_block}
use lib.Dec.{eqb, ltb}
use lib.Pow.{pow_mono}
use Rattle.std.proofs.Math.Bool.{and_assoc}
use borrow.Author.Tests.{ltb-true, ltb-false, lt-ltb, le-ltb, eqb-true, eqb-false, eq-eqb, ne_eqb}
use Rattle.std.specs.Prelude.{Option, Some}
use Rattle.std.proofs.Common.{Ordering, Less, Equal, Greater}
use Rattle.std.specs.Ordering.{is_lt, is_some_and, partial_ordering_then, nat_cmp}
use Rattle.model.specs.Base.{same}
use Rattle.model.specs.Key.{test_bit}
use Rattle.laws.proofs.Tests.{split}
use Rattle.laws.proofs.Bits as Bits
use Rattle.key.specs.declared.Key.{Key}
use Rattle.key.specs.Key.{num, key_of, key_from, Words}

-- ---- one word more

more_lt : (p n : ℕ) {x : ℕ} → x < 2 ^ 64 → p < n → p * 2 ^ 64 + x < n * 2 ^ 64
more_lt p n hx h = omega arith

highs : (p q : ℕ) {x y : ℕ} → x < 2 ^ 64 → y < 2 ^ 64 → p * 2 ^ 64 + x ≡ q * 2 ^ 64 + y → p ≡ q
highs p q hx hy e = omega arith

pub lows : (p q : ℕ) {x y : ℕ} → x < 2 ^ 64 → y < 2 ^ 64 → p * 2 ^ 64 + x ≡ q * 2 ^ 64 + y → x ≡ y
lows p q hx hy e = omega arith

both : (p q : ℕ) {x y : ℕ} → p ≡ q → x ≡ y → p * 2 ^ 64 + x ≡ q * 2 ^ 64 + y
both p q e f = omega arith

module _ (p q x y : ℕ) (hx : x < 2 ^ 64) (hy : y < 2 ^ 64) where
  abbrev a : ℕ
  a = p * 2 ^ 64 + x

  abbrev b : ℕ
  b = q * 2 ^ 64 + y

  eq_word : eqb a b ≡ (eqb p q && eqb x y)
  eq_word =
      split (eqb a b)
      (λ e. let f : a ≡ b = eqb-true a b e in e ∙ sym (ap₂ ◌&&◌ (eq-eqb p q (highs p q hx hy f)) (eq-eqb x y (lows p q hx hy f))))
      (λ e.
      let f : a ≡ b → ⊥ = eqb-false a b e in
      e ∙ split (eqb p q)
      (λ g.
      let h : p ≡ q = eqb-true p q g in
      let k : eqb x y ≡ false = ne_eqb x y (λ i. f (omega arith)) in
      sym (ap₂ ◌&&◌ g k))
      (λ g. sym (ap (λ t. t && eqb x y) g)))

  -- the words above decide the order where they differ, and else this one
  lt_above : (p ≡ q → ⊥) → ltb p q ≡ ltb a b
  lt_above n =
      split (ltb p q)
      (λ e. let h : p < q = ltb-true p q e in e ∙ sym (lt-ltb a b (omega arith)))
      (λ e. let h : q ≤ p = ltb-false p q e in e ∙ sym (le-ltb a b (omega (arith, n))))

  lt_word : p ≡ q → ltb x y ≡ ltb a b
  lt_word f =
      split (ltb x y)
      (λ e. let h : x < y = ltb-true x y e in e ∙ sym (lt-ltb a b (omega arith)))
      (λ e. let h : y ≤ x = ltb-false x y e in e ∙ sym (le-ltb a b (omega arith)))

-- ---- of a key

-- a key is below 2 ^ 256
pub num_lt : (a : Key) → Words a → num a < 2 ^ 256
unfolding num
num_lt a h = more_lt _ (2 ^ 192) h.word3 (more_lt _ (2 ^ 128) h.word2 (more_lt a.w0 (2 ^ 64) h.word1 h.word0))

-- the first two words, and the first three
abbrev upper1 : Key → ℕ
upper1 a = a.w0 * 2 ^ 64 + a.w1

abbrev upper2 : Key → ℕ
upper2 a = upper1 a * 2 ^ 64 + a.w2

module _ (a b : Key) (ha : Words a) (hb : Words b) where
  -- the number decides the words
  pub num_inj : num a ≡ num b → a ≡ b
  unfolding num
  num_inj e =
      let e2 = highs _ _ ha.word3 hb.word3 e in
      let e1 = highs _ _ ha.word2 hb.word2 e2 in λ i. record {
        w0 = highs a.w0 b.w0 ha.word1 hb.word1 e1 i;
        w1 = lows a.w0 b.w0 ha.word1 hb.word1 e1 i;
        w2 = lows _ _ ha.word2 hb.word2 e2 i;
        w3 = lows _ _ ha.word3 hb.word3 e i;
      }

  abbrev equal1 : Bool
  equal1 = eqb a.w0 b.w0 && eqb a.w1 b.w1

  equal_1 : eqb (upper1 a) (upper1 b) ≡ equal1
  equal_1 = eq_word a.w0 b.w0 a.w1 b.w1 ha.word1 hb.word1

  equal_2 : eqb (upper2 a) (upper2 b) ≡ (equal1 && eqb a.w2 b.w2)
  equal_2 = eq_word _ _ a.w2 b.w2 ha.word2 hb.word2 ∙ ap (λ t. t && eqb a.w2 b.w2) equal_1

  -- equal by the words
  pub same_words : (eqb a.w0 b.w0 && (eqb a.w1 b.w1 && (eqb a.w2 b.w2 && eqb a.w3 b.w3))) ≡ same (num a) (num b)
  unfolding num same
  same_words =
      sym (and_assoc (eqb a.w0 b.w0) (eqb a.w1 b.w1) (eqb a.w2 b.w2 && eqb a.w3 b.w3))
      ∙ sym (and_assoc equal1 (eqb a.w2 b.w2) (eqb a.w3 b.w3))
      ∙ sym (eq_word _ _ a.w3 b.w3 ha.word3 hb.word3 ∙ ap (λ t. t && eqb a.w3 b.w3) equal_2)

  -- less by the first word that differs, and by the last where none of the others does
  less_upper2 : (upper2 a ≡ upper2 b → ⊥) → ltb (upper2 a) (upper2 b) ≡ ltb (num a) (num b)
  unfolding num
  less_upper2 n = lt_above _ _ a.w3 b.w3 ha.word3 hb.word3 n

  less_upper1 : (upper1 a ≡ upper1 b → ⊥) → ltb (upper1 a) (upper1 b) ≡ ltb (num a) (num b)
  less_upper1 n =
      lt_above _ _ a.w2 b.w2 ha.word2 hb.word2 n ∙ less_upper2 (λ e. n (highs _ _ ha.word2 hb.word2 e))

  pub less_first : (a.w0 ≡ b.w0 → ⊥) → ltb a.w0 b.w0 ≡ ltb (num a) (num b)
  less_first n =
      lt_above _ _ a.w1 b.w1 ha.word1 hb.word1 n ∙ less_upper1 (λ e. n (highs _ _ ha.word1 hb.word1 e))

  pub less_second : a.w0 ≡ b.w0 → (a.w1 ≡ b.w1 → ⊥) → ltb a.w1 b.w1 ≡ ltb (num a) (num b)
  less_second e0 n =
      lt_word a.w0 b.w0 _ _ ha.word1 hb.word1 e0 ∙ less_upper1 (λ e. n (lows a.w0 b.w0 ha.word1 hb.word1 e))

  pub less_third : a.w0 ≡ b.w0 → a.w1 ≡ b.w1 → (a.w2 ≡ b.w2 → ⊥) → ltb a.w2 b.w2 ≡ ltb (num a) (num b)
  less_third e0 e1 n =
      lt_word (upper1 a) (upper1 b) _ _ ha.word2 hb.word2 (both a.w0 b.w0 e0 e1)
      ∙ less_upper2 (λ e. n (lows (upper1 a) (upper1 b) ha.word2 hb.word2 e))

  pub less_last : a.w0 ≡ b.w0 → a.w1 ≡ b.w1 → a.w2 ≡ b.w2 → ltb a.w3 b.w3 ≡ ltb (num a) (num b)
  unfolding num
  less_last e0 e1 e2 = lt_word (upper2 a) (upper2 b) _ _ ha.word3 hb.word3 (both _ _ (both a.w0 b.w0 e0 e1) e2)

-- ---- the derived order

-- one word decides where it differs
one_less : (x y : ℕ) (rest : Option Ordering) (r : Bool) → ((x ≡ y → ⊥) → ltb x y ≡ r) → (x ≡ y → is_some_and is_lt rest ≡ r)
    → is_some_and is_lt (partial_ordering_then (Some (nat_cmp x y)) rest) ≡ r
one_less x y rest r n m =
    split (ltb x y)
    (λ e.
    let h : x < y = ltb-true x y e in
    ap (λ t. is_some_and is_lt (partial_ordering_then (Some (cond t Less (cond (eqb x y) Equal Greater))) rest)) e ∙ (sym e ∙ n (λ i. omega (arith, h, i))))
    (λ e.
    ap (λ t. is_some_and is_lt (partial_ordering_then (Some (cond t Less (cond (eqb x y) Equal Greater))) rest)) e
    ∙ split (eqb x y)
    (λ f. ap (λ t. is_some_and is_lt (partial_ordering_then (Some (cond t Equal Greater)) rest)) f ∙ m (eqb-true x y f))
    (λ f. ap (λ t. is_some_and is_lt (partial_ordering_then (Some (cond t Equal Greater)) rest)) f ∙ (sym e ∙ n (eqb-false x y f))))

last_less : (x y : ℕ) → is_some_and is_lt (Some (nat_cmp x y)) ≡ ltb x y
last_less x y =
    split (ltb x y)
    (λ e. ap (λ t. is_some_and is_lt (Some (cond t Less (cond (eqb x y) Equal Greater)))) e ∙ sym e)
    (λ e.
    ap (λ t. is_some_and is_lt (Some (cond t Less (cond (eqb x y) Equal Greater)))) e
    ∙ split (eqb x y)
    (λ f. ap (λ t. is_some_and is_lt (Some (cond t Equal Greater))) f ∙ sym e)
    (λ f. ap (λ t. is_some_and is_lt (Some (cond t Equal Greater))) f ∙ sym e))

module _ (a b : Key) (ha : Words a) (hb : Words b) where
  pub derived_less : is_some_and is_lt (partial_ordering_then (Some (nat_cmp a.w0 b.w0)) (partial_ordering_then (Some (nat_cmp a.w1 b.w1))
      (partial_ordering_then (Some (nat_cmp a.w2 b.w2)) (Some (nat_cmp a.w3 b.w3))))) ≡ ltb (num a) (num b)
  derived_less =
      one_less a.w0 b.w0 _ _ (less_first a b ha hb) (λ e0.
      one_less a.w1 b.w1 _ _ (less_second a b ha hb e0) (λ e1.
      one_less a.w2 b.w2 _ _ (less_third a b ha hb e0 e1) (λ e2. last_less a.w3 b.w3 ∙ less_last a b ha hb e0 e1 e2)))

-- the XOR of two keys, word by word
abbrev pub xor_key : Key → Key → Key
xor_key a b = record { w0 = bit_xor a.w0 b.w0; w1 = bit_xor a.w1 b.w1; w2 = bit_xor a.w2 b.w2; w3 = bit_xor a.w3 b.w3 }

pub xor_key_lem : (a b : Key) → Words a → Words b → num (xor_key a b) ≡ bit_xor (num a) (num b)
unfolding num
xor_key_lem a b ha hb =
    let a01 : ℕ = a.w0 * 2 ^ 64 + a.w1 in
    let b01 : ℕ = b.w0 * 2 ^ 64 + b.w1 in
    let a02 : ℕ = a01 * 2 ^ 64 + a.w2 in
    let b02 : ℕ = b01 * 2 ^ 64 + b.w2 in
    sym (xor_block 64 a02 b02 a.w3 b.w3 ha.word3 hb.word3
    ∙ ap (λ (x : ℕ). x * 2 ^ 64 + bit_xor a.w3 b.w3)
    (xor_block 64 a01 b01 a.w2 b.w2 ha.word2 hb.word2
    ∙ ap (λ (x : ℕ). x * 2 ^ 64 + bit_xor a.w2 b.w2) (xor_block 64 a.w0 b.w0 a.w1 b.w1 ha.word1 hb.word1)))

-- ---- from the number to the key

less_words_of : (n m : ℕ) → n < m * 2 ^ 64 → n / 2 ^ 64 < m
less_words_of n m h = omega arith

rebuilt : (n : ℕ) → n / 2 ^ 64 * 2 ^ 64 + n % 2 ^ 64 ≡ n
rebuilt n = omega arith

pub num_key_of : (n : ℕ) → num (key_of n) ≡ n
unfolding num key_of
num_key_of n =
    ap (λ (x : ℕ). x * 2 ^ 64 + n % 2 ^ 64)
    (ap (λ (x : ℕ). x * 2 ^ 64 + n / 2 ^ 64 % 2 ^ 64) (rebuilt (n / 2 ^ 64 / 2 ^ 64)) ∙ rebuilt (n / 2 ^ 64))
    ∙ rebuilt n

pub words_key_of : (n : ℕ) → n < 2 ^ 256 → Words (key_of n)
unfolding key_of
words_key_of n h = record {
  word0 = less_words_of _ (2 ^ 64) (less_words_of _ (2 ^ 128) (less_words_of n (2 ^ 192) h));
  word1 = mod-lt (n / 2 ^ 64 / 2 ^ 64) (omega arith);
  word2 = mod-lt (n / 2 ^ 64) (omega arith);
  word3 = mod-lt n (omega arith);
}

pub key_of_num : (k : Key) → Words k → key_of (num k) ≡ k
key_of_num k h = num_inj (key_of (num k)) k (words_key_of (num k) (num_lt k h)) h (num_key_of (num k))

-- ---- the bits

module _ (k : Key) (h : Words k) (i : ℕ) where
  pub bit3 : i < 64 → test_bit k.w3 i ≡ test_bit (num k) i
  unfolding num
  bit3 l = Bits.bit3 k.w0 k.w1 k.w2 k.w3 i h.word1 h.word2 h.word3 l

  pub bit2 : i < 64 → test_bit k.w2 i ≡ test_bit (num k) (64 + i)
  unfolding num
  bit2 l = Bits.bit2 k.w0 k.w1 k.w2 k.w3 i h.word1 h.word2 h.word3 l

  pub bit1 : i < 64 → test_bit k.w1 i ≡ test_bit (num k) (64 + (64 + i))
  unfolding num
  bit1 l = Bits.bit1 k.w0 k.w1 k.w2 k.w3 i h.word1 h.word2 h.word3 l

  pub bit0 : test_bit k.w0 i ≡ test_bit (num k) (64 + (64 + (64 + i)))
  unfolding num
  bit0 = Bits.bit0 k.w0 k.w1 k.w2 k.w3 i h.word1 h.word2 h.word3

  -- a key has no set bit from 256 on
  pub bit_above : 256 ≤ i → test_bit (num k) i ≡ false
  unfolding test_bit
  bit_above l = ap (λ (x : ℕ). eqb (x % 2) 1) (div-eq_of_lt (lt_of_lt_of_le (num_lt k h) (pow_mono l)))

-- ---- a key made of a number, in a test

-- a key whose number is n is equal to the key of n
pub is_key : (n : ℕ) {m : ℕ} {k : Key} {b : Bool} → m ≡ n → k ≡ key_from n → b ≡ same m (num k) → b ≡ false → ⊥
unfolding same num
is_key n {m} {k} {b} e f g h =
    let z : n ≡ num (key_from n) = omega arith in
    true≢false (sym (g ∙ eq-eqb m (num k) (e ∙ z ∙ ap num (sym f))) ∙ h)
