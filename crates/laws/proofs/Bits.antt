-- The bits of a number: of its low part, of its high part, and by its 64-bit words.
use mathlib.Core.Path.{◌≡◌, sym, ap, ◌∙◌}
use Prim.Native.Nat.{ℕ, ◌+◌, ◌-◌, ◌*◌, ◌/◌, ◌%◌, ◌^◌, ◌<◌}
use native.Mathlib.Omega.{arith}
use lib.Dec.{eqb}
use lib.Pow.{field, mod-mod-pow, shr-shr, high, low}
use Rattle.model.specs.Key.{test_bit}

-- a bit below w is a bit of the w low digits
pub low_bit : (n w i : ℕ) → i < w → test_bit (n % 2 ^ w) i ≡ test_bit n i
unfolding test_bit
low_bit n w i h =
    let m : ℕ = w - i - 1 in
    let e : w ≡ m + 1 + i = omega arith in
    ap (λ (x : ℕ). eqb x 1)
    (ap (λ (x : ℕ). n % 2 ^ x / 2 ^ i % 2) e ∙ ap (λ (x : ℕ). x % 2) (field n (m + 1) i) ∙ mod-mod-pow (n / 2 ^ i) m 1)

-- a bit from w on is a bit of what is left when the w low digits are dropped
pub high_bit : (n w i : ℕ) → test_bit (n / 2 ^ w) i ≡ test_bit n (w + i)
unfolding test_bit
high_bit n w i = ap (λ (x : ℕ). eqb (x % 2) 1) (shr-shr n w i)

-- of a number put together from a high part and a word
pub word_low : (p : ℕ) {x : ℕ} (i : ℕ) → x < 2 ^ 64 → i < 64 → test_bit x i ≡ test_bit (p * 2 ^ 64 + x) i
word_low p {x} i hx h = ap (λ (n : ℕ). test_bit n i) (sym (low p 64 hx)) ∙ low_bit (p * 2 ^ 64 + x) 64 i h

pub word_high : (p : ℕ) {x : ℕ} (i : ℕ) → x < 2 ^ 64 → test_bit p i ≡ test_bit (p * 2 ^ 64 + x) (64 + i)
word_high p {x} i hx = ap (λ (n : ℕ). test_bit n i) (sym (high p 64 hx)) ∙ high_bit (p * 2 ^ 64 + x) 64 i

-- of a number of four words, the most significant first
module _ (w0 w1 w2 w3 i : ℕ) (h1 : w1 < 2 ^ 64) (h2 : w2 < 2 ^ 64) (h3 : w3 < 2 ^ 64) where
  abbrev n : ℕ
  n = ((w0 * 2 ^ 64 + w1) * 2 ^ 64 + w2) * 2 ^ 64 + w3

  pub bit3 : i < 64 → test_bit w3 i ≡ test_bit n i
  bit3 l = word_low ((w0 * 2 ^ 64 + w1) * 2 ^ 64 + w2) i h3 l

  pub bit2 : i < 64 → test_bit w2 i ≡ test_bit n (64 + i)
  bit2 l = word_low (w0 * 2 ^ 64 + w1) i h2 l ∙ word_high ((w0 * 2 ^ 64 + w1) * 2 ^ 64 + w2) i h3

  pub bit1 : i < 64 → test_bit w1 i ≡ test_bit n (64 + (64 + i))
  bit1 l = word_low w0 i h1 l ∙ word_high (w0 * 2 ^ 64 + w1) i h2 ∙ word_high ((w0 * 2 ^ 64 + w1) * 2 ^ 64 + w2) (64 + i) h3

  pub bit0 : test_bit w0 i ≡ test_bit n (64 + (64 + (64 + i)))
  bit0 = word_high w0 i h1 ∙ word_high (w0 * 2 ^ 64 + w1) (64 + i) h2 ∙ word_high ((w0 * 2 ^ 64 + w1) * 2 ^ 64 + w2) (64 + (64 + i)) h3
