-- The steps of the iterator over the buckets. D is the local-target distance.
use mathlib.Core.Path.{◌≡◌, refl, sym, ap, ap₂, ◌∙◌, subst}
use mathlib.Core.Bool.{Bool, true, false, cond}
use mathlib.Core.List.{List, [], ◌∷◌}
use mathlib.Core.Logic.{◌⊎◌, inl, inr}
use mathlib.Core.Option.{none, some, some-injective}
use Prim.Native.Nat.{ℕ, zero, suc, ◌+◌, ◌-◌, ◌*◌, ◌/◌, ◌%◌, ◌^◌, ◌<◌, ◌≤◌}
use native.Mathlib.Nat.{zero-add, add-zero, add-suc, suc-add, lt_of_lt_of_le, lt_of_le_of_lt, mod-lt, div-le_self, eq-zero-or-pos}
use native.Mathlib.Decide.{dec_lt}
use native.Mathlib.Omega.{arith}
use lib.Bits.{bit_and, and_mask}
use lib.Count.{count_leading_zeros, count_trailing_zeros, leading_of_zero, leading_top}
use lib.Dec.{eqb, ltb}
use lib.Pow.{pow_pos, pow_mono}
use borrow.Author.Tests.{ltb-true, ltb-false}
use Rattle.std.specs.Prelude as code
use Rattle.std.specs.Bool.{then_some}
use Rattle.std.specs.Int.{w64, bit_at, trailing_ones}
use Rattle.std.specs.Option.{SomeIff}
use Rattle.std.proofs.lemmas.Nat.Bits.{bit_at-trailing_ones, bit_at_ones, ones_shr}
use Rattle.model.specs.Base.{first}
use Rattle.model.specs.Key.{test_bit}
use Rattle.model.specs.Visit.{sets_down, clears_up}
use Rattle.laws.proofs.Bits.{low_bit, high_bit}
use Rattle.laws.proofs.Tests.{cases, split}
use Rattle.laws.proofs.Visits.{no_bit, above_clear, top_set}
use Rattle.key.specs.Answers.{option_of}
use Rattle.key.specs.Visits.{BitsFrom}

-- ---- the last bit is passed

pub up_none : (D k : ℕ) → 255 ≤ k → clears_up D (suc k) (255 - k) ≡ []
unfolding clears_up
up_none D k h = let e : 255 - k ≡ 0 = omega arith in ap (clears_up D (suc k)) e

-- ---- the list behind its first element

pub first_none : (l : List ℕ) → first l ≡ none → l ≡ []
first_none [] e = refl
first_none (x ∷ l) e = let w : ◌≡◌ {A = ℕ} 0 1 = cc in absurd (omega arith)

no_first : {A : Type 0} {j : ℕ} → none ≡ some j → A
no_first e = let w : ◌≡◌ {A = ℕ} 0 1 = cc in absurd (omega arith)

pub sets_split : (D i j : ℕ) → first (sets_down D i) ≡ some j → sets_down D i ≡ j ∷ sets_down D j
unfolding sets_down
sets_split D zero j e = no_first e
sets_split D (suc i) j e =
    cases (λ (l : List ℕ). first l ≡ some j → l ≡ j ∷ sets_down D j) (test_bit D i)
    (λ t f. ap (λ (x : ℕ). x ∷ sets_down D x) (some-injective i j f))
    (λ t f. sets_split D i j f)
    e

split_up : (D i k j : ℕ) → first (clears_up D i k) ≡ some j → clears_up D i k ≡ j ∷ clears_up D (suc j) (i + k - suc j)
unfolding clears_up
split_up D i zero j e = no_first e
split_up D i (suc k) j e =
    let m : suc i + k - suc j ≡ i + suc k - suc j = omega arith in
    let n : k ≡ i + suc k - suc i = omega arith in
    cases (λ (l : List ℕ). first l ≡ some j → l ≡ j ∷ clears_up D (suc j) (i + suc k - suc j)) (test_bit D i)
    (λ t f. split_up D (suc i) k j f ∙ ap (λ (x : ℕ). j ∷ clears_up D (suc j) x) m)
    (λ t f.
    ap (λ (x : ℕ). i ∷ clears_up D (suc i) x) n ∙ ap (λ (x : ℕ). x ∷ clears_up D (suc x) (i + suc k - suc x)) (some-injective i j f))
    e

pub clears_split : (D i j : ℕ) → first (clears_up D (suc i) (255 - i)) ≡ some j → clears_up D (suc i) (255 - i) ≡ j ∷ clears_up D (suc j) (255 - j)
clears_split D i j e = go (dec_lt i 255)
  where
    go : Dec (i < 255) → clears_up D (suc i) (255 - i) ≡ j ∷ clears_up D (suc j) (255 - j)
    go (yes l) =
        let n : suc i + (255 - i) - suc j ≡ 255 - j = omega arith in
        split_up D (suc i) (255 - i) j e ∙ ap (λ (x : ℕ). j ∷ clears_up D (suc j) x) n
    go (no n) = no_first (sym (ap first (up_none D i (omega (arith, n)))) ∙ e)

-- ---- the first of a list, by the bits

-- the highest set bit below k
sets_first : (D k i : ℕ) → i < k → test_bit D i ≡ true → ((j : ℕ) → i < j → j < k → test_bit D j ≡ false) → first (sets_down D k) ≡ some i
unfolding sets_down
sets_first D zero i h t f = absurd (omega arith)
sets_first D (suc k) i h t f = go (λ l. sets_first D k i l t (λ j a b. f j a (omega arith))) (dec_lt i k)
  where
    go : (i < k → first (sets_down D k) ≡ some i) → Dec (i < k) → first (sets_down D (suc k)) ≡ some i
    go g (yes l) = ap (λ (s : Bool). first (cond s (k ∷ sets_down D k) (sets_down D k))) (f k l (omega arith)) ∙ g l
    go g (no n) =
        let e : k ≡ i = omega (arith, n) in
        ap (λ (s : Bool). first (cond s (k ∷ sets_down D k) (sets_down D k))) (ap (test_bit D) e ∙ t) ∙ ap some e

no_sets : (D k : ℕ) → ((j : ℕ) → j < k → test_bit D j ≡ false) → sets_down D k ≡ []
unfolding sets_down
no_sets D zero f = refl
no_sets D (suc k) f =
    ap (λ (s : Bool). cond s (k ∷ sets_down D k) (sets_down D k)) (f k (omega arith)) ∙ no_sets D k (λ j l. f j (omega arith))

-- the lowest clear bit of the n from p on
clears_first : (D p n i : ℕ) → p ≤ i → i < p + n → test_bit D i ≡ false → ((j : ℕ) → p ≤ j → j < i → test_bit D j ≡ true) → first (clears_up D p n) ≡ some i
unfolding clears_up
clears_first D p zero i l h t f = absurd (omega arith)
clears_first D p (suc n) i l h t f = go (λ m. clears_first D (suc p) n i m (omega arith) t (λ j a b. f j (omega arith) b)) (dec_lt p i)
  where
    go : (p < i → first (clears_up D (suc p) n) ≡ some i) → Dec (p < i) → first (clears_up D p (suc n)) ≡ some i
    go g (yes m) =
        ap (λ (s : Bool). first (cond s (clears_up D (suc p) n) (p ∷ clears_up D (suc p) n))) (f p (omega arith) m) ∙ g m
    go g (no m) =
        let e : p ≡ i = omega (arith, m) in
        ap (λ (s : Bool). first (cond s (clears_up D (suc p) n) (p ∷ clears_up D (suc p) n))) (ap (test_bit D) e ∙ t) ∙ ap some e

no_clears : (D p n : ℕ) → ((j : ℕ) → p ≤ j → j < p + n → test_bit D j ≡ true) → clears_up D p n ≡ []
unfolding clears_up
no_clears D p zero f = refl
no_clears D p (suc n) f =
    ap (λ (s : Bool). cond s (clears_up D (suc p) n) (p ∷ clears_up D (suc p) n)) (f p (omega arith) (omega arith))
    ∙ no_clears D (suc p) n (λ j a b. f j (omega arith) (omega arith))

-- ---- the bits of one word

-- x has the bits of w below k: its leading zeros give the highest
module _ (w k x : ℕ) (h : k ≤ 64) (e : x ≡ w % 2 ^ k) where
  bits_below : (j : ℕ) → j < k → test_bit w j ≡ test_bit x j
  bits_below j l = sym (ap (λ (n : ℕ). test_bit n j) e ∙ low_bit w k j l)

  below : x < 2 ^ k
  below = subst (λ (n : ℕ). n < 2 ^ k) (sym e) (mod-lt w (pow_pos k))

  last_of : (r : code.Option ℕ) → SomeIff r (1 ≤ 64 - count_leading_zeros 64 x) (64 - count_leading_zeros 64 x - 1) → option_of r ≡ first (sets_down w k)
  last_of r s = go (eq-zero-or-pos x)
    where
      of_zero : x ≡ 0 → (q : code.Option ℕ) → SomeIff q (1 ≤ 64 - count_leading_zeros 64 x) (64 - count_leading_zeros 64 x - 1) → option_of q ≡ first (sets_down w k)
      of_zero z code.None n = sym (ap first (no_sets w k (λ j l. bits_below j l ∙ no_bit x j z)))
      of_zero z (code.Some i) n = absurd (omega (arith, n.0, ap (count_leading_zeros 64) z ∙ leading_of_zero 64))

      at_top : (j : ℕ) → count_leading_zeros 64 x + suc j ≡ 64 → 2 ^ j ≤ x → x < 2 ^ suc j → first (sets_down w k) ≡ some j
      at_top j c l u = inside (dec_lt j k)
        where
          inside : Dec (j < k) → first (sets_down w k) ≡ some j
          inside (yes m) =
              sets_first w k j m (bits_below j m ∙ top_set x j (record { from = l; below = u }))
              (λ i a b. bits_below i b ∙ above_clear x i (lt_of_lt_of_le u (pow_mono a)))
          inside (no m) = let o : k ≤ j = omega (arith, m) in absurd (omega (arith, below, l, (let q : 2 ^ k ≤ 2 ^ j = pow_mono o in q)))

      of_pos : (j : ℕ) → count_leading_zeros 64 x + suc j ≡ 64 → 2 ^ j ≤ x → x < 2 ^ suc j → (q : code.Option ℕ) → SomeIff q (1 ≤ 64 - count_leading_zeros 64 x) (64 - count_leading_zeros 64 x - 1) → option_of q ≡ first (sets_down w k)
      of_pos j c l u code.None n = absurd (n (omega arith))
      of_pos j c l u (code.Some i) n = let d : i ≡ j = omega (arith, n.1) in ap some d ∙ sym (at_top j c l u)

      go : (x ≡ 0) ⊎ (0 < x) → option_of r ≡ first (sets_down w k)
      go (inl z) = of_zero z r s
      go (inr p) = let t = leading_top 64 x p (lt_of_lt_of_le below (pow_mono h)) in of_pos t.0 t.1 t.2 t.3 r s

pub last_told : (w k : ℕ) → k ≤ 64 → (r : code.Option ℕ)
    → SomeIff r (1 ≤ 64 - count_leading_zeros 64 (bit_and w (18446744073709551615 / 2 ^ (64 - k)))) (64 - count_leading_zeros 64 (bit_and w (18446744073709551615 / 2 ^ (64 - k))) - 1)
    → option_of r ≡ first (sets_down w k)
last_told w k h r s =
    let m : 64 - (64 - k) ≡ k = omega arith in
    let l : 64 - k ≤ 64 = omega arith in
    last_of w k _ h (ap (bit_and w) (ones_shr 64 (64 - k) l ∙ ap (λ (n : ℕ). 2 ^ n - 1) m) ∙ and_mask w k) r s

-- the trailing ones of x end at its lowest clear bit
ones_end : (x : ℕ) → x < 2 ^ 64 → (trailing_ones w64 x < 64 → bit_at x (trailing_ones w64 x) ≡ 0) × ((i : ℕ) → i < trailing_ones w64 x → i < 64 → bit_at x i ≡ 1)
unfolding count_trailing_zeros
ones_end x h = go (dec_lt (x + 1) (2 ^ 64))
  where
    go : Dec (x + 1 < 2 ^ 64) → (trailing_ones w64 x < 64 → bit_at x (trailing_ones w64 x) ≡ 0) × ((i : ℕ) → i < trailing_ones w64 x → i < 64 → bit_at x i ≡ 1)
    go (yes l) = let t = bit_at-trailing_ones w64 x l in (λ _. t.1, λ i a b. t.2 i a)
    go (no n) =
        let e : x ≡ 2 ^ 64 - 1 = omega (arith, n) in
        let t : trailing_ones w64 x ≡ 64 = ap (trailing_ones w64) e in
        (λ a. absurd (omega arith), λ i a b. ap (λ (y : ℕ). bit_at y i) e ∙ bit_at_ones 64 i b)

first_at : (w k : ℕ) → w < 2 ^ 64 → k < 64
    → option_of (then_some (ltb (k + trailing_ones w64 (w / 2 ^ k)) 64) (k + trailing_ones w64 (w / 2 ^ k))) ≡ first (clears_up w k (64 - k))
unfolding test_bit
first_at w k h l =
    let x : ℕ = w / 2 ^ k in
    let t : ℕ = trailing_ones w64 x in
    let u = ones_end x (lt_of_le_of_lt (div-le_self w (2 ^ k)) h) in
    let set : (j : ℕ) → k ≤ j → j < 64 → j < k + t → test_bit w j ≡ true = λ j a b c.
    let e : j ≡ k + (j - k) = omega arith in
    ap (test_bit w) e ∙ sym (high_bit w k (j - k)) ∙ ap (λ (n : ℕ). eqb n 1) (u.1 (j - k) (omega arith) (omega arith))
    in
    split (ltb (k + t) 64)
    (λ d.
    let m : k + t < 64 = ltb-true (k + t) 64 d in
    ap (λ (b : Bool). option_of (then_some b (k + t))) d
    ∙ sym (clears_first w k (64 - k) (k + t) (omega arith) (omega arith) (sym (high_bit w k t) ∙ ap (λ (n : ℕ). eqb n 1) (u.0 (omega arith))) (λ j a b. set j a (omega arith) b)))
    (λ d.
    let m : 64 ≤ k + t = ltb-false (k + t) 64 d in
    ap (λ (b : Bool). option_of (then_some b (k + t))) d ∙ sym (ap first (no_clears w k (64 - k) (λ j a b. set j a (omega arith) (omega arith)))))

pub first_told : (w k t : ℕ) → w < 2 ^ 64 → k < 64 → t ≡ trailing_ones w64 (w / 2 ^ k)
    → option_of (then_some (ltb (k + t) 64) (k + t)) ≡ first (clears_up w k (64 - k))
first_told w k t h l e = ap (λ (n : ℕ). option_of (then_some (ltb (k + n) 64) (k + n))) e ∙ first_at w k h l

-- the bits of D that a word has
module _ (D from w : ℕ) (b : BitsFrom D from w) where
  -- downward: the one below
  module _ (m : ℕ) (h : m < 64) where
    down : (t : Bool) → test_bit w m ≡ t → sets_down D (from + suc m) ≡ cond t ((from + m) ∷ sets_down D (from + m)) (sets_down D (from + m))
    unfolding sets_down
    down t e =
        ap (sets_down D) (add-suc from m)
        ∙ ap (λ (s : Bool). cond s ((from + m) ∷ sets_down D (from + m)) (sets_down D (from + m))) (sym (b m h) ∙ e)

    down_word : (t : Bool) → test_bit w m ≡ t → sets_down w (suc m) ≡ cond t (m ∷ sets_down w m) (sets_down w m)
    unfolding sets_down
    down_word t e = ap (λ (s : Bool). cond s (m ∷ sets_down w m) (sets_down w m)) e

  pub sets_none : (m : ℕ) → m ≤ 64 → sets_down w m ≡ [] → sets_down D (from + m) ≡ sets_down D from
  sets_none zero h e = ap (sets_down D) (add-zero from)
  sets_none (suc m) h e =
      let l : m < 64 = omega arith in
      split (test_bit w m)
      (λ t. no_first (ap first (sym e ∙ down_word m l true t)))
      (λ t. down m l false t ∙ sets_none m (omega arith) (sym (down_word m l false t) ∙ e))

  pub sets_some : (m j : ℕ) → m ≤ 64 → first (sets_down w m) ≡ some j → first (sets_down D (from + m)) ≡ some (from + j)
  unfolding sets_down
  sets_some zero j h e = no_first e
  sets_some (suc m) j h e =
      let l : m < 64 = omega arith in
      split (test_bit w m)
      (λ t.
      ap first (down m l true t)
      ∙ ap (λ (x : ℕ). some (from + x)) (some-injective m j (sym (ap first (down_word m l true t)) ∙ e)))
      (λ t. ap first (down m l false t) ∙ sets_some m j (omega arith) (sym (ap first (down_word m l false t)) ∙ e))

  -- upward: the one above
  module _ (p m r : ℕ) (h : p < 64) where
    up : (t : Bool) → test_bit w p ≡ t → clears_up D (from + p) (suc m + r) ≡ cond t (clears_up D (from + suc p) (m + r)) ((from + p) ∷ clears_up D (from + suc p) (m + r))
    unfolding clears_up
    up t e =
        ap (clears_up D (from + p)) (suc-add m r)
        ∙ ap (λ (s : Bool). cond s (clears_up D (suc (from + p)) (m + r)) ((from + p) ∷ clears_up D (suc (from + p)) (m + r))) (sym (b p h) ∙ e)
        ∙ ap (λ (i : ℕ). cond t (clears_up D i (m + r)) ((from + p) ∷ clears_up D i (m + r))) (sym (add-suc from p))

    up_bit : (t : Bool) → test_bit w p ≡ t → clears_up w p (suc m) ≡ cond t (clears_up w (suc p) m) (p ∷ clears_up w (suc p) m)
    unfolding clears_up
    up_bit t e = ap (λ (s : Bool). cond s (clears_up w (suc p) m) (p ∷ clears_up w (suc p) m)) e

  pub clears_none : (p m r : ℕ) → p + m ≤ 64 → clears_up w p m ≡ [] → clears_up D (from + p) (m + r) ≡ clears_up D (from + (p + m)) r
  clears_none p zero r h e = let k : p ≡ p + 0 = omega arith in ap₂ (λ (i n : ℕ). clears_up D (from + i) n) k (zero-add r)
  clears_none p (suc m) r h e =
      let l : p < 64 = omega arith in
      let k : suc p + m ≡ p + suc m = omega arith in
      split (test_bit w p)
      (λ t.
      up p m r l true t ∙ clears_none (suc p) m r (omega arith) (sym (up_bit p m r l true t) ∙ e)
      ∙ ap (λ (i : ℕ). clears_up D (from + i) r) k)
      (λ t. no_first (ap first (sym e ∙ up_bit p m r l false t)))

  pub clears_some : (p m r j : ℕ) → p + m ≤ 64 → first (clears_up w p m) ≡ some j → first (clears_up D (from + p) (m + r)) ≡ some (from + j)
  unfolding clears_up
  clears_some p zero r j h e = no_first e
  clears_some p (suc m) r j h e =
      let l : p < 64 = omega arith in
      split (test_bit w p)
      (λ t. ap first (up p m r l true t) ∙ clears_some (suc p) m r j (omega arith) (sym (ap first (up_bit p m r l true t)) ∙ e))
      (λ t.
      ap first (up p m r l false t)
      ∙ ap (λ (x : ℕ). some (from + x)) (some-injective p j (sym (ap first (up_bit p m r l false t)) ∙ e)))

-- the bit found is one of the word
sets_under : (w m j : ℕ) → first (sets_down w m) ≡ some j → j < m
unfolding sets_down
sets_under w zero j e = no_first e
sets_under w (suc m) j e =
    cases (λ (l : List ℕ). first l ≡ some j → j < suc m) (test_bit w m)
    (λ t f. let g : m ≡ j = some-injective m j f in omega arith)
    (λ t f. let g = sets_under w m j f in omega arith)
    e

clears_under : (w p m j : ℕ) → first (clears_up w p m) ≡ some j → j < p + m
unfolding clears_up
clears_under w p zero j e = no_first e
clears_under w p (suc m) j e =
    cases (λ (l : List ℕ). first l ≡ some j → j < p + suc m) (test_bit w p)
    (λ t f. let g = clears_under w (suc p) m j f in omega arith)
    (λ t f. let g : p ≡ j = some-injective p j f in omega arith)
    e

-- the set bits below k, by the word w of the one next below
module _ (D k w : ℕ) (h : 0 < k) (b : BitsFrom D ((k - 1) / 64 * 64) w) where
  abbrev low : ℕ
  low = (k - 1) / 64 * 64

  down_here : low + (k - low) ≡ k
  down_here = omega arith

  pub word_in : {j : ℕ} → some j ≡ first (sets_down w (k - low)) → some (low + j) ≡ first (sets_down D k)
  word_in {j} e = sym (ap (λ (i : ℕ). first (sets_down D i)) (sym down_here) ∙ sets_some D low w b (k - low) j (omega arith) (sym e))

  pub word_in_under : {j : ℕ} → some j ≡ first (sets_down w (k - low)) → j < 64
  word_in_under {j} e = let g = sets_under w (k - low) j (sym e) in omega arith

  pub word_in_none : none ≡ first (sets_down w (k - low)) → sets_down D k ≡ sets_down D low
  word_in_none e =
      ap (sets_down D) (sym down_here) ∙ sets_none D low w b (k - low) (omega arith) (first_none (sets_down w (k - low)) (sym e))

-- the clear bits above k, by the word w of the one next above
module _ (D k w : ℕ) (h : k < 255) (b : BitsFrom D ((k + 1) / 64 * 64) w) where
  abbrev base : ℕ
  base = (k + 1) / 64 * 64

  abbrev here : ℕ
  here = k + 1 - base

  abbrev rest : ℕ
  rest = 255 - (base + 63)

  up_here : clears_up D (suc k) (255 - k) ≡ clears_up D (base + here) (64 - here + rest)
  up_here =
      let e : suc k ≡ base + here = omega arith in
      let f : 255 - k ≡ 64 - here + rest = omega arith in
      ap₂ (clears_up D) e f

  pub word_out : {j : ℕ} → some j ≡ first (clears_up w here (64 - here)) → some (base + j) ≡ first (clears_up D (suc k) (255 - k))
  word_out {j} e = sym (ap first up_here ∙ clears_some D base w b here (64 - here) rest j (omega arith) (sym e))

  pub word_out_under : {j : ℕ} → some j ≡ first (clears_up w here (64 - here)) → j < 64
  word_out_under {j} e = let g = clears_under w here (64 - here) j (sym e) in omega arith

  pub word_out_none : none ≡ first (clears_up w here (64 - here)) → clears_up D (suc k) (255 - k) ≡ clears_up D (suc (base + 63)) rest
  word_out_none e =
      let f : base + (here + (64 - here)) ≡ suc (base + 63) = omega arith in
      up_here
      ∙ clears_none D base w b here (64 - here) rest (omega arith) (first_none (clears_up w here (64 - here)) (sym e))
      ∙ ap (λ (i : ℕ). clears_up D i rest) f
