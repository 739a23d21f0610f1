-- Laws of `part` and `splice`, and of slots of one width that stand one behind the other.
use mathlib.Core.Path.{◌≡◌, refl, sym, ap, ◌∙◌}
use mathlib.Core.List.{List, [], ◌∷◌, ◌++◌, append_assoc}
use Prim.Native.Nat.{ℕ, zero, suc, ◌+◌, ◌*◌, ◌-◌, ◌≤◌, ◌<◌}
use native.Mathlib.Nat.{add-zero, zero-add, suc-add, zero-mul, not-suc-le-zero, mul-le-mul_right}
use native.Mathlib.Numerals.{add-one}
use native.Mathlib.Omega.{arith}
use mathlib.Core.Logic.{⊎_elim}
use lib.ListN.{length, get_or, take, drop, set, length-append, length-take, length-drop, take-append-drop, drop_of_length-le}
use lib.Seq.{take-suc, take-nil, drop-cons, take-append-le, drop-append-add, take_at, drop_at, set_split, take_all, get_or-take, get_or-drop, take-take, drop-drop, take-add, get_or-append-add}
use Rattle.model.specs.Base.{joined, tabulate}
use Rattle.model.specs.Bytes.{part, splice}
use Rattle.model.specs.Fits.{All}
use Rattle.laws.proofs.Lists.{order, joined_snoc}

-- parts

pub length_part : (s : List ℕ) (at k : ℕ) → at + k ≤ length s → length (part s at k) ≡ k
unfolding part
length_part s at k h = simp (length-take, length-drop) (omega arith)

-- the bytes from `at` to `at + k`, as a slice has them
pub sliced : (s : List ℕ) (at k : ℕ) → take (at + k - at) (drop at s) ≡ part s at k
unfolding part
sliced s at k = ap (λ (n : ℕ). take n (drop at s)) (omega arith)

pub part_none : (s : List ℕ) (at : ℕ) → part s at 0 ≡ []
unfolding part
part_none s at = refl

pub get_d_part : (s : List ℕ) (at k i : ℕ) → i < k → get_or (part s at k) i 0 ≡ get_or s (at + i) 0
unfolding part
get_d_part s at k i h = rw (get_or-take, get_or-drop)

pub drop_take : (i k : ℕ) (l : List ℕ) → drop i (take (i + k) l) ≡ take k (drop i l)
drop_take zero k l = rw zero-add
drop_take (suc i) k [] = rw (suc-add, take-nil)
drop_take (suc i) k (x ∷ l) = rw suc-add (drop_take i k l)

pub part_part : (s : List ℕ) (at n i k : ℕ) → i + k ≤ n → part (part s at n) i k ≡ part s (at + i) k
unfolding part
part_part s at n i k h = rw (← drop_take i k (take n (drop at s)), take-take, drop_take, drop-drop)

pub part_append : (s : List ℕ) (at j k : ℕ) → part s at (j + k) ≡ part s at j ++ part s (at + j) k
unfolding part
part_append s at j k = rw (take-add, drop-drop)

pub part_snoc : (s : List ℕ) (at k : ℕ) → at + k < length s → part s at (k + 1) ≡ part s at k ++ (get_or s (at + k) 0 ∷ [])
unfolding part
part_snoc s at k h =
    let h' : k < length (drop at s) = rw length-drop (omega arith) in
    rw (add-one, take-suc (drop at s) k 0, get_or-drop)

-- splices

pub splice_nil : (s : List ℕ) (at : ℕ) → splice s at [] ≡ s
unfolding splice
splice_nil s at = rw (add-zero, take-append-drop)

pub length_splice : (s : List ℕ) (at : ℕ) (v : List ℕ) → at + length v ≤ length s → length (splice s at v) ≡ length s
unfolding splice
length_splice s at v h = simp (length-append, length-take, length-drop) (omega arith)

-- bytes may be put in two steps
pub splice_append : (s : List ℕ) (at : ℕ) (a b : List ℕ) → at + length a + length b ≤ length s → splice (splice s at a) (at + length a) b ≡ splice s at (a ++ b)
unfolding splice
splice_append s at a b h =
    let d : List ℕ = drop (at + length a) s in
    let l : length (take at s ++ a) ≡ at + length a = simp (length-append, length-take) (omega arith) in
    let n : at + length (a ++ b) ≡ at + length a + length b = simp length-append (omega arith) in
    rw (
      ← append_assoc (take at s) a d,
      take_at (take at s ++ a) d (at + length a) l,
      ← drop-drop (length b) (at + length a) ((take at s ++ a) ++ d),
      drop_at (take at s ++ a) d (at + length a) l,
      drop-drop,
      n,
    )
    (simp append_assoc)

-- bytes written over others, at least as many
pub splice_over : (s : List ℕ) (at : ℕ) (a b : List ℕ) → length a ≤ length b → at + length b ≤ length s → splice (splice s at a) at b ≡ splice s at b
unfolding splice
splice_over s at a b h l =
    let d : List ℕ = drop (at + length a) s in
    let n : length (take at s) ≡ at = rw length-take (omega arith) in
    let m : at + length b ≡ at + length a + (length b - length a) = omega arith in
    let k : length (take at s ++ a) ≡ at + length a = simp length-append (omega arith) in
    let e : drop (at + length b) (take at s ++ (a ++ d)) ≡ drop (at + length b) s =
    ap (λ (r : List ℕ). drop (at + length b) r) (sym (append_assoc (take at s) a d))
    ∙ ap (λ (i : ℕ). drop i ((take at s ++ a) ++ d)) m
    ∙ sym (drop-drop (length b - length a) (at + length a) ((take at s ++ a) ++ d))
    ∙ ap (drop (length b - length a)) (drop_at (take at s ++ a) d (at + length a) k)
    ∙ drop-drop (length b - length a) (at + length a) s
    ∙ ap (λ (i : ℕ). drop i s) (sym m) in
    rw (take_at (take at s) (a ++ d) at n, e)

pub set_splice : (s : List ℕ) (at b : ℕ) → at < length s → set s at b ≡ splice s at (b ∷ [])
unfolding splice
set_splice s at b h = rw (add-one, set_split)

pub part_splice_same : (s : List ℕ) (at : ℕ) (v : List ℕ) → at + length v ≤ length s → part (splice s at v) at (length v) ≡ v
unfolding part splice
part_splice_same s at v h =
    let l : length (take at s) ≡ at = rw length-take (omega arith) in
    rw (drop_at (take at s) (v ++ drop (at + length v) s) at l, take_at v (drop (at + length v) s) (length v) refl)

pub part_splice_before : (s : List ℕ) (at : ℕ) (v : List ℕ) (i k : ℕ) → i + k ≤ at → at ≤ length s → part (splice s at v) i k ≡ part s i k
unfolding part splice
part_splice_before s at v i k h h' =
    let l : i + k ≤ length (take at s) = rw length-take (omega arith) in
    rw (← drop_take i k (take at s ++ (v ++ drop (at + length v) s)), take-append-le (i + k) (take at s) (v ++ drop (at + length v) s) l, take-take (i + k) at s h, drop_take)

pub part_splice_after : (s : List ℕ) (at : ℕ) (v : List ℕ) (i k : ℕ) → at + length v ≤ i → at + length v ≤ length s → part (splice s at v) i k ≡ part s i k
unfolding part splice
part_splice_after s at v i k h h' =
    let m : ℕ = at + length v in
    let l : length (take at s ++ v) ≡ m = simp (length-append, length-take) (omega arith) in
    let e : i ≡ m + (i - m) = omega arith in
    let f : drop i ((take at s ++ v) ++ drop m s) ≡ drop i s =
    ap (λ (j : ℕ). drop j ((take at s ++ v) ++ drop m s)) e
    ∙ sym (drop-drop (i - m) m ((take at s ++ v) ++ drop m s))
    ∙ ap (drop (i - m)) (drop_at (take at s ++ v) (drop m s) m l)
    ∙ drop-drop (i - m) m s
    ∙ ap (λ (j : ℕ). drop j s) (sym e) in
    rw (← append_assoc (take at s) v (drop m s), f)

-- a part put back changes nothing
pub splice_part : (s : List ℕ) (at k : ℕ) → at + k ≤ length s → splice s at (part s at k) ≡ s
unfolding part splice
splice_part s at k h =
    let l : length (take k (drop at s)) ≡ k = simp (length-take, length-drop) (omega arith) in
    rw (l, ← drop-drop k at s, take-append-drop, take-append-drop)

pub part_all : (s : List ℕ) (k : ℕ) → length s ≤ k → part s 0 k ≡ s
unfolding part
part_all s k h = take_all k s h

pub part_one : (s : List ℕ) (at : ℕ) → at < length s → part s at 1 ≡ get_or s at 0 ∷ []
unfolding part
part_one s at h = rw (drop-cons s at 0)

-- writes one after the other, each right behind the one before

pub splice_next : (s : List ℕ) (at k : ℕ) (a b : List ℕ) → length a ≡ k → at + k + length b ≤ length s
    → splice (splice s at a) (at + k) b ≡ splice s at (a ++ b)
splice_next s at k a b l h = rw (← l) (splice_append s at a b (rw l h))

pub part_zero : (s : List ℕ) (at n k : ℕ) → k ≤ n → part (part s at n) 0 k ≡ part s at k
part_zero s at n k h = part_part s at n 0 k (rw zero-add h) ∙ rw add-zero

-- slots

pub slot_before : (i j w : ℕ) → i < j → i * w + w ≤ j * w
slot_before i j w h = omega (arith, mul-le-mul_right w h)

pub slot_same : (s : List ℕ) (base w j : ℕ) (v : List ℕ) → length v ≡ w → base + j * w + w ≤ length s
    → part (splice s (base + j * w) v) (base + j * w) w ≡ v
slot_same s base w j v l h = rw (← l) (part_splice_same s (base + j * length v) v (rw (← l) at h))

pub slot_other : (s : List ℕ) (base w i j : ℕ) (v : List ℕ) → length v ≡ w → base + j * w + w ≤ length s → (i ≡ j → ⊥)
    → part (splice s (base + j * w) v) (base + i * w) w ≡ part s (base + i * w) w
slot_other s base w i j v l h n =
    ⊎_elim
    (λ c. part_splice_before s (base + j * w) v (base + i * w) w (omega (arith, slot_before i j w c)) (omega arith))
    (λ c. ⊎_elim
    (λ e. absurd (n e))
    (λ d. part_splice_after s (base + j * w) v (base + i * w) w (omega (arith, slot_before j i w d)) (omega arith))
    c)
    (order i j)

-- parts of what is joined

pub part_left : (a b : List ℕ) (i k : ℕ) → i + k ≤ length a → part (a ++ b) i k ≡ part a i k
unfolding part
part_left a b i k h = rw (← drop_take i k (a ++ b), take-append-le (i + k) a b h, drop_take)

pub part_right : (a b : List ℕ) (n i k : ℕ) → length a ≡ n → part (a ++ b) (n + i) k ≡ part b i k
unfolding part
part_right a b n i k e = rw (← e, drop-append-add)

pub part_end : (a b : List ℕ) (n k : ℕ) → length a ≡ n → length b ≡ k → part (a ++ b) n k ≡ b
unfolding part
part_end a b n k e f = rw (drop_at a b n e) (take_all k b (omega arith))

-- the i-th of elements of w bytes each
pub part_joined : {A : Type 0} (f : A → List ℕ) (w : ℕ) (xs : List A) → All (λ (x : A). length (f x) ≡ w) xs → (i : ℕ) (d : A) → i < length xs
    → part (joined f xs) (i * w) w ≡ f (get_or xs i d)
unfolding joined
part_joined f w [] h i d l = absurd (not-suc-le-zero l)
part_joined f w (x ∷ xs) h zero d l =
    rw (zero-mul, part_left (f x) (joined f xs) 0 w (rw h.0 (omega arith))) (part_all (f x) w (rw h.0 (omega arith)))
part_joined f w (x ∷ xs) h (suc i) d l =
    ap (λ (n : ℕ). part (f x ++ joined f xs) n w) (omega arith) ∙ part_right (f x) (joined f xs) w (i * w) w h.0 ∙ part_joined f w xs h.1 i d (omega arith)

-- slots one behind the other, each of which is the bytes of a thing
pub joined_slots : {A : Type 0} (f : A → List ℕ) (g : ℕ → A) (s : List ℕ) (base w k : ℕ)
    → ((i : ℕ) → i < k → f (g i) ≡ part s (base + i * w) w) → joined f (tabulate k g) ≡ part s base (k * w)
unfolding joined tabulate part
joined_slots f g s base w zero h = rw zero-mul
joined_slots f g s base w (suc k) h =
    let e : suc k * w ≡ k * w + w = omega arith in
    joined_snoc f (tabulate k g) (g k)
    ∙ rw (joined_slots f g s base w k (λ i l. h i (omega arith)), h k (omega arith), ← part_append s base (k * w) w, e)

-- what stands in front, and what stands behind it

pub part_front : (a b : List ℕ) (k : ℕ) → length a ≡ k → part (a ++ b) 0 k ≡ a
part_front a b k e = part_left a b 0 k (omega arith) ∙ part_all a k (omega arith)

pub get_or_right : (a b : List ℕ) (n i : ℕ) → length a ≡ n → get_or (a ++ b) (n + i) 0 ≡ get_or b i 0
get_or_right a b n i e = rw (← e) (get_or-append-add a b i 0)

pub part_past : (s : List ℕ) (at k : ℕ) → length s ≤ at → part s at k ≡ []
unfolding part
part_past s at k h = rw (drop_of_length-le s h) (take-nil k)

pub part_cons : (s : List ℕ) (at k : ℕ) → at < length s → part s at (1 + k) ≡ get_or s at 0 ∷ part s (at + 1) k
part_cons s at k h = rw (part_append s at 1 k, part_one s at h)

-- what stands between two others
pub part_between : (a b c : List ℕ) (n k : ℕ) → length a ≡ n → length b ≡ k → part (a ++ (b ++ c)) n k ≡ b
part_between a b c n k e f = ap (λ (i : ℕ). part (a ++ (b ++ c)) i k) (sym (add-zero n)) ∙ part_right a (b ++ c) n 0 k e ∙ part_front b c k f
