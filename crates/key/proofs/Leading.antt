-- The leading zero bits of a key, by its words, and what they say of a distance: its log2 distance and its index.
use mathlib.Core.Path.{◌≡◌, sym, ap, ◌∙◌}
use mathlib.Core.Bool.{Bool, cond, not}
use mathlib.Core.Option.{Option, none, some}
use mathlib.Core.Logic.{◌⊎◌, inl, inr}
use Prim.Native.Nat.{ℕ, ◌+◌, ◌-◌, ◌^◌, ◌<◌, ◌≤◌}
use native.Mathlib.Nat.{eq-zero-or-pos}
use native.Mathlib.Omega.{arith}
use lib.Bits.{xor_zero_l}
use lib.Count.{count_leading_zeros, leading_le, leading_of_zero}
use lib.Dec.{eqb}
use borrow.Author.Tests.{eqb-true, eqb-false, ne_eqb}
use Rattle.std.specs.Prelude as code
use Rattle.std.specs.Bool.{then_some}
use Rattle.std.specs.Option.{SomeIff}
use Rattle.model.specs.Key.{InBucket, less_one, bucket_index}
use Rattle.laws.proofs.Index.{log2_of, index_of, bucket_index_lem, leading_is, log2_none, some_bucket, top0, top1, top2, top3, word_top, all_zero}
use Rattle.laws.proofs.Tests.{split}
use Rattle.key.specs.declared.Key.{Key}
use Rattle.key.specs.Answers.{option_of}
use Rattle.key.specs.Key.{num, Words}

-- all the bits are leading zeros at 0 alone
pub none_left : (d : ℕ) → d < 2 ^ 256 → 256 - count_leading_zeros 256 d ≡ 0 → none ≡ log2_of d
none_left d h e = go (some_bucket d h)
  where
    go : (d ≡ 0) ⊎ ((i : ℕ) × (i < 256) × InBucket i d) → none ≡ log2_of d
    go (inl z) = log2_none d z
    go (inr t) = let l = leading_is t.0 d t.1 t.2 in absurd (omega arith)

pub some_left : (d : ℕ) → (256 - count_leading_zeros 256 d ≡ 0 → ⊥) → some (256 - count_leading_zeros 256 d) ≡ log2_of d
some_left d n =
    let z : d ≡ 0 → ⊥ = λ e. n (ap (λ (x : ℕ). 256 - count_leading_zeros 256 x) e ∙ ap (λ (x : ℕ). 256 - x) (leading_of_zero 256)) in
    ap (λ (t : Bool). cond {A = Option ℕ} t none (some (256 - count_leading_zeros 256 d))) (sym (ne_eqb d 0 z))

-- from the local key 0 a key is its own distance
pub index_of_distance : (d : ℕ) → index_of d ≡ bucket_index 0 d
index_of_distance d = ap index_of (sym (xor_zero_l d)) ∙ sym (bucket_index_lem 0 d)

-- the answers, by the leading zeros
pub log2_told : (d : ℕ) → d < 2 ^ 256 → (n : ℕ) → n ≡ count_leading_zeros 256 d → option_of (then_some (not (eqb (256 - n) 0)) (256 - n)) ≡ log2_of d
log2_told d h n e =
    ap (λ (k : ℕ). option_of (then_some (not (eqb (256 - k) 0)) (256 - k))) e
    ∙ split (eqb (256 - count_leading_zeros 256 d) 0)
    (λ t. ap (λ (b : Bool). option_of (then_some (not b) (256 - count_leading_zeros 256 d))) t ∙ none_left d h (eqb-true _ 0 t))
    (λ t. ap (λ (b : Bool). option_of (then_some (not b) (256 - count_leading_zeros 256 d))) t ∙ some_left d (eqb-false _ 0 t))

pub index_told : (d : ℕ) → d < 2 ^ 256 → (n : ℕ) → n ≡ count_leading_zeros 256 d → (r : code.Option ℕ) → SomeIff r (1 ≤ 256 - n) (256 - n - 1) → option_of r ≡ index_of d
index_told d h n e code.None s = let z : 256 - count_leading_zeros 256 d ≡ 0 = omega (arith, s) in ap less_one (none_left d h z)
index_told d h n e (code.Some i) s =
    let f : i ≡ 256 - count_leading_zeros 256 d - 1 = omega (arith, s.1) in
    ap some f ∙ ap less_one (some_left d (λ z. omega (arith, s.0)))

-- the first word that is not 0 has them
module _ (k : Key) (h : Words k) where
  pub leading0 : (k.w0 ≡ 0 → ⊥) → count_leading_zeros 64 k.w0 ≡ count_leading_zeros 256 (num k)
  unfolding num
  leading0 z =
      let t = top0 k.w0 k.w1 k.w2 k.w3 h.word0 h.word1 h.word2 h.word3 z in
      let e : count_leading_zeros 64 k.w0 ≡ 255 - (255 - count_leading_zeros 64 k.w0) = omega (arith, leading_le 64 k.w0) in
      e ∙ leading_is (255 - count_leading_zeros 64 k.w0) (num k) t.0 t.1

  pub leading1 : k.w0 ≡ 0 → (k.w1 ≡ 0 → ⊥) → 64 + count_leading_zeros 64 k.w1 ≡ count_leading_zeros 256 (num k)
  unfolding num
  leading1 y z =
      let t = top1 k.w0 k.w1 k.w2 k.w3 h.word0 h.word1 h.word2 h.word3 y z in
      let e : 64 + count_leading_zeros 64 k.w1 ≡ 255 - (191 - count_leading_zeros 64 k.w1) = omega (arith, leading_le 64 k.w1) in
      e ∙ leading_is (191 - count_leading_zeros 64 k.w1) (num k) t.0 t.1

  pub leading2 : k.w0 ≡ 0 → k.w1 ≡ 0 → (k.w2 ≡ 0 → ⊥) → 128 + count_leading_zeros 64 k.w2 ≡ count_leading_zeros 256 (num k)
  unfolding num
  leading2 x y z =
      let t = top2 k.w0 k.w1 k.w2 k.w3 h.word0 h.word1 h.word2 h.word3 x y z in
      let e : 128 + count_leading_zeros 64 k.w2 ≡ 255 - (127 - count_leading_zeros 64 k.w2) = omega (arith, leading_le 64 k.w2) in
      e ∙ leading_is (127 - count_leading_zeros 64 k.w2) (num k) t.0 t.1

  pub leading3 : k.w0 ≡ 0 → k.w1 ≡ 0 → k.w2 ≡ 0 → 192 + count_leading_zeros 64 k.w3 ≡ count_leading_zeros 256 (num k)
  unfolding num
  leading3 x y z = go (eq-zero-or-pos k.w3)
    where
      go : (k.w3 ≡ 0) ⊎ (0 < k.w3) → 192 + count_leading_zeros 64 k.w3 ≡ count_leading_zeros 256 (num k)
      go (inl w) =
          let e : num k ≡ 0 = all_zero k.w0 k.w1 k.w2 k.w3 h.word0 h.word1 h.word2 h.word3 x y z w in
          ap (λ (n : ℕ). 192 + count_leading_zeros 64 n) w ∙ ap (λ (n : ℕ). 192 + n) (leading_of_zero 64) ∙ sym (ap (count_leading_zeros 256) e ∙ leading_of_zero 256)
      go (inr p) =
          let n : k.w3 ≡ 0 → ⊥ = λ e. omega arith in
          let t = top3 k.w0 k.w1 k.w2 k.w3 h.word0 h.word1 h.word2 h.word3 x y z n in
          let e : 192 + count_leading_zeros 64 k.w3 ≡ 255 - (63 - count_leading_zeros 64 k.w3) = omega (arith, (word_top k.w3 h.word3 n).1) in
          e ∙ leading_is (63 - count_leading_zeros 64 k.w3) (num k) t.0 t.1
