-- The bucket index: `bucket_index` answers i exactly at the distances from 2 ^ i up to 2 ^ (i + 1) - 1, and the leading zeros of a
-- distance's 64-bit words give it.
use mathlib.Core.Path.{◌≡◌, refl, sym, ap, ◌∙◌, subst}
use mathlib.Core.Bool.{Bool, false, cond}
use mathlib.Core.Option.{Option, none, some, some-injective}
use mathlib.Core.Logic.{◌⊎◌, inl, inr}
use Prim.Native.Nat.{ℕ, suc, ◌+◌, ◌-◌, ◌*◌, ◌^◌, ◌<◌, ◌≤◌}
use native.Mathlib.Nat.{le_trans, le_of_eq, lt_of_lt_of_le, mul-le-mul_right, le-add_right, pow-suc, suc-add, eq-zero-or-pos}
use native.Mathlib.Omega.{arith}
use lib.Dec.{eqb}
use lib.Pow.{pow_pos, pow-add}
use lib.Arith.{digits_lt}
use lib.Bits.{xor_lt}
use lib.Count.{count_leading_zeros, leading_top, leading_unique}
use borrow.Author.Tests.{eq-eqb, ne_eqb}
use Rattle.model.specs.Key.{distance, log2_distance, less_one, bucket_index, InBucket}

-- the log2 distance and the index, by the distance
abbrev pub log2_of : ℕ → Option ℕ
log2_of d = cond (eqb d 0) none (some (256 - count_leading_zeros 256 d))

abbrev pub index_of : ℕ → Option ℕ
index_of d = less_one (log2_of d)

pub bucket_pos : {i d : ℕ} → InBucket i d → 0 < d
bucket_pos {i} {d} b = lt_of_lt_of_le (pow_pos i) b.from

-- ---- bucket i's distances have the index i

-- bucket i's distances have 255 - i leading zeros
pub leading_is : (i d : ℕ) → i < 256 → InBucket i d → 255 - i ≡ count_leading_zeros 256 d
leading_is i d h b =
    let twice : 2 ^ suc i ≤ 2 * d + 1 = (let s : 2 ^ suc i ≡ 2 ^ i * 2 = pow-suc 2 i in omega (arith, b.from)) in
    let sum : (255 - i) + suc i ≡ 256 = omega arith in
    leading_unique 256 d (255 - i) (suc i) sum b.below twice

pub log2_is : (i d : ℕ) → i < 256 → InBucket i d → some (i + 1) ≡ log2_of d
log2_is i d h b =
    let p : 0 < d = bucket_pos b in
    let ne : eqb d 0 ≡ false = ne_eqb d 0 (λ e. omega arith) in
    let z = leading_is i d h b in
    let back : i + 1 ≡ 256 - count_leading_zeros 256 d = omega arith in
    ap {B = Option ℕ} some back ∙ ap (λ (t : Bool). cond {A = Option ℕ} t none (some (256 - count_leading_zeros 256 d))) (sym ne)

pub index_is : (i d : ℕ) → i < 256 → InBucket i d → some i ≡ index_of d
index_is i d h b = let e : i ≡ i + 1 - 1 = omega arith in ap {B = Option ℕ} some e ∙ ap less_one (log2_is i d h b)

pub log2_none : (d : ℕ) → d ≡ 0 → none ≡ log2_of d
log2_none d e = ap (λ (t : Bool). cond {A = Option ℕ} t none (some (256 - count_leading_zeros 256 d))) (sym (eq-eqb d 0 e))

pub index_none : (d : ℕ) → d ≡ 0 → none ≡ index_of d
index_none d e = ap less_one (log2_none d e)

-- ---- and no others have

-- a distance is 0 or of one bucket
pub some_bucket : (d : ℕ) → d < 2 ^ 256 → (d ≡ 0) ⊎ ((i : ℕ) × (i < 256) × InBucket i d)
some_bucket d h = go (eq-zero-or-pos d)
  where
    go : (d ≡ 0) ⊎ (0 < d) → (d ≡ 0) ⊎ ((i : ℕ) × (i < 256) × InBucket i d)
    go (inl z) = inl z
    go (inr p) = let t = leading_top 256 d p h in inr (t.0, (let e = t.1 in omega arith), record { from = t.2; below = t.3 })

pub index_at : (d i : ℕ) → d < 2 ^ 256 → index_of d ≡ some i → (i < 256) × InBucket i d
index_at d i h e = go (some_bucket d h)
  where
    go : (d ≡ 0) ⊎ ((j : ℕ) × (j < 256) × InBucket j d) → (i < 256) × InBucket i d
    go (inl z) = let n : none ≡ index_of d = index_none d z in let w : ◌≡◌ {A = ℕ} 0 1 = cc in absurd (omega arith)
    go (inr t) =
        let m : some t.0 ≡ some i = index_is t.0 d t.1 t.2 ∙ e in
        let s : t.0 ≡ i = some-injective t.0 i m in
        (subst (λ (x : ℕ). x < 256) s t.1, subst (λ (x : ℕ). InBucket x d) s t.2)

pub index_nothing : (d : ℕ) → d < 2 ^ 256 → index_of d ≡ none → d ≡ 0
index_nothing d h e = go (some_bucket d h)
  where
    go : (d ≡ 0) ⊎ ((j : ℕ) × (j < 256) × InBucket j d) → d ≡ 0
    go (inl z) = z
    go (inr t) =
        let m : some t.0 ≡ index_of d = index_is t.0 d t.1 t.2 in
        let w : ◌≡◌ {A = ℕ} 0 1 = cc in
        absurd (omega arith)

-- ---- the same of the keys

pub log2_distance_lem : (local key : ℕ) → log2_distance local key ≡ log2_of (distance local key)
unfolding log2_distance
log2_distance_lem local key = refl

pub bucket_index_lem : (local key : ℕ) → bucket_index local key ≡ index_of (distance local key)
unfolding bucket_index
bucket_index_lem local key = ap less_one (log2_distance_lem local key)

pub key_index_is : (local key i : ℕ) → i < 256 → InBucket i (distance local key) → bucket_index local key ≡ some i
key_index_is local key i h b = bucket_index_lem local key ∙ sym (index_is i (distance local key) h b)

pub key_index_at : (local key i : ℕ) → local < 2 ^ 256 → key < 2 ^ 256 → bucket_index local key ≡ some i → (i < 256) × InBucket i (distance local key)
key_index_at local key i l k e = index_at (distance local key) i (xor_lt 256 local key l k) (sym (bucket_index_lem local key) ∙ e)

pub key_index_none : (local key : ℕ) → distance local key ≡ 0 → bucket_index local key ≡ none
key_index_none local key e = bucket_index_lem local key ∙ sym (index_none (distance local key) e)

pub key_index_nothing : (local key : ℕ) → local < 2 ^ 256 → key < 2 ^ 256 → bucket_index local key ≡ none → distance local key ≡ 0
key_index_nothing local key l k e = index_nothing (distance local key) (xor_lt 256 local key l k) (sym (bucket_index_lem local key) ∙ e)

pub key_log2_is : (local key i : ℕ) → i < 256 → InBucket i (distance local key) → log2_distance local key ≡ some (i + 1)
key_log2_is local key i h b = log2_distance_lem local key ∙ sym (log2_is i (distance local key) h b)

pub key_log2_none : (local key : ℕ) → distance local key ≡ 0 → log2_distance local key ≡ none
key_log2_none local key e = log2_distance_lem local key ∙ sym (log2_none (distance local key) e)

-- ---- by the words of a distance

-- a word below moves the index up by 64
pub bucket_up : {j w x : ℕ} → InBucket j w → x < 2 ^ 64 → InBucket (j + 64) (w * 2 ^ 64 + x)
bucket_up {j} {w} {x} b h = record {
  from = le_trans (le_of_eq (pow-add 2 j 64)) (le_trans (mul-le-mul_right (2 ^ 64) b.from) (le-add_right (w * 2 ^ 64) x));
  below =
      subst (λ (n : ℕ). w * 2 ^ 64 + x < n) (sym (ap (λ (n : ℕ). 2 ^ n) (sym (suc-add j 64)) ∙ pow-add 2 (suc j) 64)) (digits_lt b.below h);
}

-- the index of a word that is not 0
pub word_top : (w : ℕ) → w < 2 ^ 64 → (w ≡ 0 → ⊥) → (j : ℕ) × (count_leading_zeros 64 w + suc j ≡ 64) × InBucket j w
word_top w h n =
    let t = leading_top 64 w (omega arith) h in
    (t.0, t.1, record { from = t.2; below = t.3 })

-- no set bit above a word
pub none_above : (p x : ℕ) → p ≡ 0 → x ≡ p * 2 ^ 64 + x
none_above p x e = omega arith

both_zero : (p x : ℕ) → p ≡ 0 → x ≡ 0 → p * 2 ^ 64 + x ≡ 0
both_zero p x e z = sym (none_above p x e) ∙ z

-- four words, the most significant first
module _ (w0 w1 w2 w3 : ℕ) (h0 : w0 < 2 ^ 64) (h1 : w1 < 2 ^ 64) (h2 : w2 < 2 ^ 64) (h3 : w3 < 2 ^ 64) where
  abbrev n : ℕ
  n = ((w0 * 2 ^ 64 + w1) * 2 ^ 64 + w2) * 2 ^ 64 + w3

  -- the bucket of the first word that is not 0
  pub top0 : (w0 ≡ 0 → ⊥) → (255 - count_leading_zeros 64 w0 < 256) × InBucket (255 - count_leading_zeros 64 w0) n
  top0 z =
      let t = word_top w0 h0 z in
      let e : t.0 + 64 + 64 + 64 ≡ 255 - count_leading_zeros 64 w0 = omega (arith, t.1) in
      (omega arith, subst (λ (i : ℕ). InBucket i n) e (bucket_up (bucket_up (bucket_up t.2 h1) h2) h3))

  pub top1 : w0 ≡ 0 → (w1 ≡ 0 → ⊥) → (191 - count_leading_zeros 64 w1 < 256) × InBucket (191 - count_leading_zeros 64 w1) n
  top1 y z =
      let t = word_top w1 h1 z in
      let e : t.0 + 64 + 64 ≡ 191 - count_leading_zeros 64 w1 = omega (arith, t.1) in (
        omega arith,
        subst (λ (i : ℕ). InBucket i n) e (bucket_up (bucket_up (subst (λ (m : ℕ). InBucket t.0 m) (none_above w0 w1 y) t.2) h2) h3),
      )

  pub top2 : w0 ≡ 0 → w1 ≡ 0 → (w2 ≡ 0 → ⊥) → (127 - count_leading_zeros 64 w2 < 256) × InBucket (127 - count_leading_zeros 64 w2) n
  top2 x y z =
      let t = word_top w2 h2 z in
      let e : t.0 + 64 ≡ 127 - count_leading_zeros 64 w2 = omega (arith, t.1) in
      (omega arith, subst (λ (i : ℕ). InBucket i n) e (bucket_up (subst (λ (m : ℕ). InBucket t.0 m) (none_above (w0 * 2 ^ 64 + w1) w2 (both_zero w0 w1 x y)) t.2) h3))

  three_zero : w0 ≡ 0 → w1 ≡ 0 → w2 ≡ 0 → (w0 * 2 ^ 64 + w1) * 2 ^ 64 + w2 ≡ 0
  three_zero x y z = both_zero (w0 * 2 ^ 64 + w1) w2 (both_zero w0 w1 x y) z

  pub top3 : w0 ≡ 0 → w1 ≡ 0 → w2 ≡ 0 → (w3 ≡ 0 → ⊥) → (63 - count_leading_zeros 64 w3 < 256) × InBucket (63 - count_leading_zeros 64 w3) n
  top3 x y z u =
      let t = word_top w3 h3 u in
      let e : t.0 ≡ 63 - count_leading_zeros 64 w3 = omega (arith, t.1) in (
        omega arith,
        subst (λ (i : ℕ). InBucket i n) e (subst (λ (m : ℕ). InBucket t.0 m) (none_above ((w0 * 2 ^ 64 + w1) * 2 ^ 64 + w2) w3 (three_zero x y z)) t.2),
      )

  pub all_zero : w0 ≡ 0 → w1 ≡ 0 → w2 ≡ 0 → w3 ≡ 0 → n ≡ 0
  all_zero x y z u = both_zero ((w0 * 2 ^ 64 + w1) * 2 ^ 64 + w2) w3 (three_zero x y z) u
