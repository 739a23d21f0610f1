-- XOR distance: it cancels, it is 0 of equal keys alone, and a distance of bucket n flips bit n of D and keeps the bits above it.
use mathlib.Core.Path.{◌≡◌, refl, sym, ap, ap₂, ◌∙◌}
use mathlib.Core.Bool.{true, false, not}
use Prim.Native.Nat.{ℕ, zero, suc, ◌+◌, ◌*◌, ◌/◌, ◌%◌, ◌^◌, ◌<◌}
use native.Mathlib.Nat.{div-eq_of_lt, div-eq_of_lt-le, div-one, mod-lt, zero-lt-suc, not-suc-le-zero, le_of_suc-le-suc, le_trans, le_of_eq, one-mul, pow-suc, mul_comm}
use native.Mathlib.Omega.{arith}
use lib.Dec.{eqb}
use lib.Arith.{bin_ind, digits_mod, digits_div}
use lib.Bits.{bit_xor, differ, xor_step, xor_shr, xor_zero_r, xor_self}
use borrow.Author.Tests.{eqb-true, eqb-false, eq-eqb, ne_eqb}
use Rattle.model.specs.Base.{same}
use Rattle.model.specs.Key.{distance, test_bit, InBucket}
use Rattle.laws.proofs.Tests.{same_true, same_false, split}

-- ---- cancelling: the distance of two keys is the XOR of their distances to a third

differ_lt : (a b : ℕ) → a < 2 → b < 2 → differ a b < 2
differ_lt zero b ha hb = hb
differ_lt (suc zero) zero ha hb = ha
differ_lt (suc zero) (suc zero) ha hb = zero-lt-suc 1
differ_lt (suc zero) (suc (suc b)) ha hb = absurd (not-suc-le-zero (le_of_suc-le-suc (le_of_suc-le-suc hb)))
differ_lt (suc (suc a)) b ha hb = absurd (not-suc-le-zero (le_of_suc-le-suc (le_of_suc-le-suc ha)))

differ3 : (a b c : ℕ) → a < 2 → b < 2 → c < 2 → differ (differ a b) (differ a c) ≡ differ b c
differ3 zero b c ha hb hc = refl
differ3 (suc zero) zero zero ha hb hc = refl
differ3 (suc zero) zero (suc zero) ha hb hc = refl
differ3 (suc zero) (suc zero) zero ha hb hc = refl
differ3 (suc zero) (suc zero) (suc zero) ha hb hc = refl
differ3 (suc zero) zero (suc (suc c)) ha hb hc = absurd (not-suc-le-zero (le_of_suc-le-suc (le_of_suc-le-suc hc)))
differ3 (suc zero) (suc zero) (suc (suc c)) ha hb hc = absurd (not-suc-le-zero (le_of_suc-le-suc (le_of_suc-le-suc hc)))
differ3 (suc zero) (suc (suc b)) c ha hb hc = absurd (not-suc-le-zero (le_of_suc-le-suc (le_of_suc-le-suc hb)))
differ3 (suc (suc a)) b c ha hb hc = absurd (not-suc-le-zero (le_of_suc-le-suc (le_of_suc-le-suc ha)))

bit_lt : (n : ℕ) → n % 2 < 2
bit_lt n = mod-lt n (zero-lt-suc 1)

xor_half : (a b : ℕ) → bit_xor a b / 2 ≡ bit_xor (a / 2) (b / 2)
xor_half a b = ap (λ (x : ℕ). x / 2) (xor_step a b) ∙ digits_div (bit_xor (a / 2) (b / 2)) (differ_lt (a % 2) (b % 2) (bit_lt a) (bit_lt b))

xor_odd : (a b : ℕ) → bit_xor a b % 2 ≡ differ (a % 2) (b % 2)
xor_odd a b = ap (λ (x : ℕ). x % 2) (xor_step a b) ∙ digits_mod (bit_xor (a / 2) (b / 2)) (differ_lt (a % 2) (b % 2) (bit_lt a) (bit_lt b))

-- (l ^ t) ^ (l ^ k) is t ^ k
pub xor_cancel : (l t k : ℕ) → bit_xor (bit_xor l t) (bit_xor l k) ≡ bit_xor t k
xor_cancel l =
    bin_ind (λ (l : ℕ). (t k : ℕ) → bit_xor (bit_xor l t) (bit_xor l k) ≡ bit_xor t k) (λ t k. refl)
    (λ l ih t k.
    xor_step (bit_xor l t) (bit_xor l k)
    ∙ ap₂ (λ (x y : ℕ). x * 2 + y)
    (ap₂ bit_xor (xor_half l t) (xor_half l k) ∙ ih (t / 2) (k / 2))
    (ap₂ differ (xor_odd l t) (xor_odd l k) ∙ differ3 (l % 2) (t % 2) (k % 2) (bit_lt l) (bit_lt t) (bit_lt k))
    ∙ sym (xor_step t k))
    l

-- m ^ (m ^ a) is a, so equal distances to one key are of equal keys
pub xor_back : (m a : ℕ) → bit_xor m (bit_xor m a) ≡ a
xor_back m a = ap (λ (x : ℕ). bit_xor x (bit_xor m a)) (sym (xor_zero_r m)) ∙ xor_cancel m 0 a

pub xor_inj : (m a b : ℕ) → bit_xor m a ≡ bit_xor m b → a ≡ b
xor_inj m a b e = sym (xor_back m a) ∙ ap (bit_xor m) e ∙ xor_back m b

-- ---- D XOR d, at the bits from n on

-- d is below 2 ^ n: nothing changes there
pub keep : (D d n : ℕ) → d < 2 ^ n → bit_xor D d / 2 ^ n ≡ D / 2 ^ n
keep D d n h = xor_shr D d n ∙ ap (bit_xor (D / 2 ^ n)) (div-eq_of_lt h) ∙ xor_zero_r (D / 2 ^ n)

-- d is of bucket n: bit n flips
pub top_one : (d n : ℕ) → InBucket n d → d / 2 ^ n ≡ 1
top_one d n b =
    div-eq_of_lt-le (2 ^ n) (le_trans (le_of_eq (one-mul (2 ^ n))) b.from)
    (le_trans b.below (le_of_eq (pow-suc 2 n ∙ mul_comm (2 ^ n) 2)))

flip : (D d n : ℕ) → InBucket n d → bit_xor D d / 2 ^ n ≡ bit_xor (D / 2 ^ n) 1
flip D d n b = xor_shr D d n ∙ ap (bit_xor (D / 2 ^ n)) (top_one d n b)

flip_step : (q : ℕ) → bit_xor q 1 ≡ q / 2 * 2 + differ (q % 2) 1
flip_step q = xor_step q 1 ∙ ap (λ (x : ℕ). x * 2 + differ (q % 2) 1) (xor_zero_r (q / 2))

pub flip_set : (D d n : ℕ) → test_bit D n ≡ true → InBucket n d → bit_xor D d / 2 ^ n + 1 ≡ D / 2 ^ n
unfolding test_bit
flip_set D d n t b =
    let q : ℕ = D / 2 ^ n in
    let o : q % 2 ≡ 1 = eqb-true (q % 2) 1 t in
    let e : bit_xor D d / 2 ^ n ≡ q / 2 * 2 + 0 = flip D d n b ∙ flip_step q ∙ ap (λ (x : ℕ). q / 2 * 2 + differ x 1) o in
    omega arith

pub flip_clear : (D d n : ℕ) → test_bit D n ≡ false → InBucket n d → bit_xor D d / 2 ^ n ≡ D / 2 ^ n + 1
unfolding test_bit
flip_clear D d n t b =
    let q : ℕ = D / 2 ^ n in
    let o : q % 2 ≡ 0 = (let ne : q % 2 ≡ 1 → ⊥ = eqb-false (q % 2) 1 t in omega (arith, ne)) in
    let e : bit_xor D d / 2 ^ n ≡ q / 2 * 2 + 1 = flip D d n b ∙ flip_step q ∙ ap (λ (x : ℕ). q / 2 * 2 + differ x 1) o in
    omega arith

-- ---- distance 0, and the last bit of a distance

pub distance_self : (a b : ℕ) → a ≡ b → distance a b ≡ 0
distance_self a b e = ap (bit_xor a) (sym e) ∙ xor_self a

pub distance_none : (a b : ℕ) → distance a b ≡ 0 → a ≡ b
distance_none a b e = sym (xor_zero_r a) ∙ ap (bit_xor a) (sym e) ∙ xor_back a b

pub distance_zero : (a b : ℕ) → eqb (distance a b) 0 ≡ same a b
distance_zero a b =
    split (same a b) (λ e. eq-eqb (distance a b) 0 (distance_self a b (same_true a b e)) ∙ sym e)
    (λ e. ne_eqb (distance a b) 0 (λ z. same_false a b e (distance_none a b z)) ∙ sym e)

differ_same : (a b : ℕ) → a < 2 → b < 2 → eqb (differ a b) 1 ≡ not (same a b)
unfolding same
differ_same zero zero ha hb = refl
differ_same zero (suc zero) ha hb = refl
differ_same (suc zero) zero ha hb = refl
differ_same (suc zero) (suc zero) ha hb = refl
differ_same zero (suc (suc b)) ha hb = absurd (not-suc-le-zero (le_of_suc-le-suc (le_of_suc-le-suc hb)))
differ_same (suc zero) (suc (suc b)) ha hb = absurd (not-suc-le-zero (le_of_suc-le-suc (le_of_suc-le-suc hb)))
differ_same (suc (suc a)) b ha hb = absurd (not-suc-le-zero (le_of_suc-le-suc (le_of_suc-le-suc ha)))

pub distance_last : (a b : ℕ) → test_bit (distance a b) 0 ≡ not (same (a % 2) (b % 2))
unfolding test_bit
distance_last a b =
    ap (λ (x : ℕ). eqb (x % 2) 1) (div-one (bit_xor a b)) ∙ ap (λ (x : ℕ). eqb x 1) (xor_odd a b) ∙ differ_same (a % 2) (b % 2) (bit_lt a) (bit_lt b)
