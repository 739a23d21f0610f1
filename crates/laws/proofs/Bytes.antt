-- Laws of numbers as bytes, and of runs whose elements are bytes.
use mathlib.Core.Path.{◌≡◌, refl, sym, ap, ◌∙◌}
use mathlib.Core.List.{List, [], ◌∷◌, ◌++◌, append_assoc, append-nil}
use Prim.Native.Nat.{ℕ, zero, suc, ◌+◌, ◌*◌, ◌^◌, ◌/◌, ◌%◌, ◌≤◌, ◌<◌}
use native.Mathlib.Nat.{add-zero, add-suc, pow-zero, pow-suc, pow-succ', div-one, mod-one, mod-eq_of_lt, div-div-eq-div-mul, one-le-pow}
use native.Mathlib.Numerals.{add-one, one-add}
use native.Mathlib.Omega.{arith}
use lib.Arith.{digits_lt, digits_div, mod-mul}
use lib.Pow.{pow-add}
use lib.ListN.{length, get_or, take, drop, length-append}
use lib.Seq.{get_or-drop}
use Rattle.model.specs.Base.{joined}
use Rattle.model.specs.Bytes.{number, bytes, part, zeros, Bytes}
use Rattle.model.specs.Fits.{All}
use Rattle.laws.proofs.Parts.{length_part, part_snoc}

-- numbers

pub pow_pos_256 : (k : ℕ) → 0 < 256 ^ k
pow_pos_256 k = one-le-pow k 256 (omega arith)

pub length_bytes : (k x : ℕ) → length (bytes k x) ≡ k
unfolding bytes
length_bytes zero x = refl
length_bytes (suc k) x = simp (length-append, length_bytes k (x / 256), add-one)

pub number_append : (a b : List ℕ) → number (a ++ b) ≡ number a * 256 ^ length b + number b
unfolding number
number_append [] b = omega arith
number_append (x ∷ a) b = rw (length-append a b, pow-add, number_append a b) (omega arith)

pub number_snoc : (a : List ℕ) (b : ℕ) → number (a ++ (b ∷ [])) ≡ number a * 256 + b
unfolding number
number_snoc a b = number_append a (b ∷ []) ∙ omega arith

-- a number's k bytes are the number, as far as k bytes hold it
pub number_bytes : (k x : ℕ) → number (bytes k x) ≡ x % 256 ^ k
unfolding number bytes
number_bytes zero x = sym (mod-one x)
number_bytes (suc k) x =
    number_snoc (bytes k (x / 256)) (x % 256)
    ∙ rw (number_bytes k (x / 256), pow-suc) (sym (mod-mul x (pow_pos_256 k) (omega arith)))

-- j + k bytes are the j of the quotient and the k last
pub bytes_append : (j k x : ℕ) → bytes (j + k) x ≡ bytes j (x / 256 ^ k) ++ bytes k x
unfolding bytes
bytes_append j zero x = simp (add-zero, pow-zero, div-one, append-nil)
bytes_append j (suc k) x =
    rw (add-suc, bytes_append j k (x / 256), div-div-eq-div-mul, pow-succ') (simp append_assoc)

pub bytes_mod : (k q r : ℕ) → bytes k (q * 256 ^ k + r) ≡ bytes k r
unfolding bytes
bytes_mod zero q r = refl
bytes_mod (suc k) q r =
    let d : (q * (256 ^ k * 256) + r) / 256 ≡ q * 256 ^ k + r / 256 = omega arith in
    let m : (q * (256 ^ k * 256) + r) % 256 ≡ r % 256 = omega arith in
    rw (pow-suc, d, m, bytes_mod k q (r / 256))

pub number_lt : (bs : List ℕ) → Bytes bs → number bs < 256 ^ length bs
unfolding number
number_lt [] h = omega arith
number_lt (b ∷ bs) h = rw pow-succ' (digits_lt (h 0) (number_lt bs (λ i. h (suc i))))

-- bytes are those of the number that they are
pub bytes_number : (bs : List ℕ) → Bytes bs → bytes (length bs) (number bs) ≡ bs
unfolding number bytes
bytes_number [] h = refl
bytes_number (b ∷ bs) h =
    ap (λ (k : ℕ). bytes k (number (b ∷ bs))) (sym (one-add (length bs)))
    ∙ bytes_append 1 (length bs) (number (b ∷ bs))
    ∙ rw (digits_div b (number_lt bs (λ i. h (suc i))), mod-eq_of_lt (h 0), bytes_mod (length bs) b (number bs), bytes_number bs (λ i. h (suc i)))

-- parts of bytes are bytes, and so are numbers of them

pub Bytes_drop : (s : List ℕ) (n : ℕ) → Bytes s → Bytes (drop n s)
Bytes_drop s n h i = rw get_or-drop (h (n + i))

pub Bytes_take : (s : List ℕ) (n : ℕ) → Bytes s → Bytes (take n s)
Bytes_take s zero h i = omega arith
Bytes_take [] (suc n) h i = omega arith
Bytes_take (x ∷ s) (suc n) h zero = h zero
Bytes_take (x ∷ s) (suc n) h (suc i) = Bytes_take s n (λ j. h (suc j)) i

pub Bytes_part : (s : List ℕ) (at k : ℕ) → Bytes s → Bytes (part s at k)
unfolding part
Bytes_part s at k h = Bytes_take (drop at s) k (Bytes_drop s at h)

pub number_back : (s : List ℕ) (at k : ℕ) → at + k ≤ length s → Bytes s → bytes k (number (part s at k)) ≡ part s at k
number_back s at k l h =
    ap (λ (j : ℕ). bytes j (number (part s at k))) (sym (length_part s at k l)) ∙ bytes_number (part s at k) (Bytes_part s at k h)

pub number_there : (k x : ℕ) → x < 256 ^ k → number (bytes k x) ≡ x
number_there k x h = number_bytes k x ∙ mod-eq_of_lt h

-- a number read byte by byte, the first first
pub number_one_more : (s : List ℕ) (at i : ℕ) → at + i < length s → number (part s at (i + 1)) ≡ number (part s at i) * 256 + get_or s (at + i) 0
number_one_more s at i h = rw (part_snoc, number_snoc)

-- a number of k bytes fits k bytes
pub number_fits : (s : List ℕ) (at k : ℕ) → at + k ≤ length s → Bytes s → number (part s at k) < 256 ^ k
number_fits s at k l h = rw (length_part s at k l) at (number_lt (part s at k) (Bytes_part s at k h))

pub Bytes_nil : Bytes []
Bytes_nil i = omega arith

pub Bytes_cons : (b : ℕ) (s : List ℕ) → b < 256 → Bytes s → Bytes (b ∷ s)
Bytes_cons b s l h zero = l
Bytes_cons b s l h (suc i) = h i

pub Bytes_append : (s u : List ℕ) → Bytes s → Bytes u → Bytes (s ++ u)
Bytes_append [] u h g = g
Bytes_append (b ∷ s) u h g = Bytes_cons b (s ++ u) (h 0) (Bytes_append s u (λ i. h (suc i)) g)

pub Bytes_zeros : (k : ℕ) → Bytes (zeros k)
Bytes_zeros zero = Bytes_nil
Bytes_zeros (suc k) = Bytes_cons 0 (zeros k) (omega arith) (Bytes_zeros k)

pub Bytes_bytes : (k x : ℕ) → Bytes (bytes k x)
unfolding bytes
Bytes_bytes zero x = Bytes_nil
Bytes_bytes (suc k) x = Bytes_append (bytes k (x / 256)) (x % 256 ∷ []) (Bytes_bytes k (x / 256)) (Bytes_cons (x % 256) [] (omega arith) Bytes_nil)

pub Bytes_joined : {A : Type 0} (f : A → List ℕ) (xs : List A) → All (λ (x : A). Bytes (f x)) xs → Bytes (joined f xs)
unfolding joined
Bytes_joined f [] h = Bytes_nil
Bytes_joined f (x ∷ xs) h = Bytes_append (f x) (joined f xs) h.0 (Bytes_joined f xs h.1)

pub Bytes_all : (s : List ℕ) → All (λ (b : ℕ). b < 256) s → Bytes s
Bytes_all [] h = Bytes_nil
Bytes_all (b ∷ s) h = Bytes_cons b s h.0 (Bytes_all s h.1)
