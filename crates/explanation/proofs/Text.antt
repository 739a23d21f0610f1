-- Text put into the output piece by piece, and the digits of a key.
use Prim.Native.Nat.{ℕ, suc, ◌+◌, ◌-◌, ◌*◌, ◌/◌, ◌%◌, ◌≤◌, ◌<◌}
use native.Mathlib.Nat.{zero-add}
use native.Mathlib.Omega.{arith}
use mathlib.Core.Path.{◌≡◌, refl, sym, ap, ◌∙◌}
use mathlib.Core.List.{List, [], ◌∷◌, ◌++◌, append_assoc, append-nil}
use lib.ListN.{length, take, drop, length-append, length-take, length-drop, take-append-drop, drop_of_length-le}
use lib.Seq.{take_all, take_at, drop_at, drop-drop, drop-append-le}
use borrow.Rule.Slice.PartMut.{put_mid}
use lib.Dec.{eqb}
use borrow.Author.Tests.{eqb-true}
use Rattle.std.specs.List.{slice_index}
use Rattle.hex.specs.Hex.{lower_digits, encode_lower, encode_with}
use Rattle.model.specs.Base.{joined, all_below}
use Rattle.model.specs.Bytes.{Bytes, bytes, splice}
use Rattle.model.specs.Sizes.{key_size}
use Rattle.model.specs.Explain.{digit, digits, key_text}
use Rattle.laws.proofs.All.{all_any}
use Rattle.laws.proofs.Lists.{length_joined, all_gives}
use Rattle.laws.proofs.Parts.{splice_nil, length_splice}
use Rattle.words.proofs.Words.{put_mid_splice}
use Rattle.laws.proofs.Bytes.{length_bytes, Bytes_bytes}
use Rattle.explanation.specs.Put.{Put, key_text_size}

-- pieces

pub front : (o v : List ℕ) → splice o 0 v ≡ v ++ drop (length v) o
unfolding splice
front o v = rw zero-add

pub put_none : (o : List ℕ) → Put [] o o 0
put_none o = record { output = sym (splice_nil o 0); next = refl; within = omega arith }

-- a text written to the first k bytes of the output
pub put_front : (o : List ℕ) (k : ℕ) {v w : List ℕ} {m : ℕ} → v ≡ w → length w ≡ k → m ≡ k → k ≤ length o → Put w o (put_mid 0 k o v) m
put_front o k {v} {w} e l f h =
    let q : put_mid 0 k o v ≡ splice o 0 w = put_mid_splice o 0 k e l in
    record { output = q; next = f ∙ sym l; within = omega (arith, ap length q, length_splice o 0 w (omega arith)) }

-- what is left of the output behind a text
pub put_left : {a o t : List ℕ} {n : ℕ} → Put a o t n → (k : ℕ) → length a + k ≤ length o → k ≤ length (take (length t - n) (drop n t))
put_left {a} {o} {t} {n} p k h =
    let l : length t ≡ length o = ap length p.output ∙ length_splice o 0 a (omega arith) in
    simp (length-take, length-drop) (omega (arith, p.next))

-- one text right behind the other, put into the next k bytes of the output, or into all the rest

-- what a text leaves of the output behind it
put_split : {a o t : List ℕ} {n : ℕ} → Put a o t n → t ≡ a ++ drop (length a) o
put_split {a} {o} p = p.output ∙ front o a

module _ {a b o t v : List ℕ} {n m : ℕ} where
  joins : (k : ℕ) → Put a o t n → Put b (take k (drop n t)) v m
      → drop (length b) (take k (drop (length a) o)) ++ drop k (drop (length a) o) ≡ drop (length b) (drop (length a) o) → Put (a ++ b) o (put_mid n k t v) (n + m)
  joins k p q f =
      let rest : List ℕ = drop (length a) o in
      let e : t ≡ a ++ rest = put_split p in
      let x : take n t ≡ a = rw (e, p.next) (take_at a rest (length a) refl) in
      let y : drop n t ≡ rest = rw (e, p.next) (drop_at a rest (length a) refl) in
      let w : v ≡ b ++ drop (length b) (take k rest) = q.output ∙ front (take k (drop n t)) b ∙ ap (λ (l : List ℕ). b ++ drop (length b) (take k l)) y in
      record {
        output = rw (x, y, w, append_assoc, f, front, length-append, ← drop-drop (length b) (length a) o, append_assoc);
        next = rw (p.next, q.next, length-append);
        within = simp (length-append, length-take) (omega (arith, p.within, q.within));
      }

  pub put_within : (k : ℕ) → Put a o t n → Put b (take k (drop n t)) v m → n + k ≤ length o → length b ≤ k → Put (a ++ b) o (put_mid n k t v) (n + m)
  put_within k p q h l =
      let rest : List ℕ = drop (length a) o in
      let j : length b ≤ length (take k rest) = simp (length-take, length-drop) (omega (arith, p.next)) in
      joins k p q (sym (drop-append-le (length b) (take k rest) (drop k rest) j) ∙ ap (drop (length b)) (take-append-drop k rest))

  pub put_then : Put a o t n → Put b (take (length t - n) (drop n t)) v m → Put (a ++ b) o (put_mid n (length t - n) t v) (n + m)
  put_then p q =
      let rest : List ℕ = drop (length a) o in
      let k : length rest ≤ length t - n = omega (arith, p.next, ap length (put_split p), length-append a rest) in
      joins (length t - n) p q (rw (take_all (length t - n) rest k, drop_of_length-le rest k, append-nil))

-- keys

length_digits : (bs : List ℕ) → length (joined digits bs) ≡ length bs * 2
length_digits bs = length_joined digits 2 bs (all_any (λ (b : ℕ). length (digits b) ≡ 2) bs (λ b. refl))

pub length_key_text : (k : ℕ) → length (key_text k) ≡ key_text_size
unfolding key_text
length_key_text k = length_digits (bytes key_size k) ∙ rw length_bytes

-- the digits that `hex` gives are 02's
hex_digit : (n : ℕ) → n < 16 → slice_index lower_digits n ≡ digit n
unfolding all_below
hex_digit n h = eqb-true _ _ (all_gives 16 (λ i. eqb (slice_index lower_digits i) (digit i)) n h refl)

hex_digits : (bs : List ℕ) → Bytes bs → encode_lower bs ≡ joined digits bs
unfolding encode_with joined
hex_digits [] h = refl
hex_digits (b ∷ bs) h =
    let l : b < 256 = h 0 in
    rw (hex_digit (b / 16) (omega arith), hex_digit (b % 16) (omega arith), hex_digits bs (λ i. h (suc i)))

pub hex_text : (k : ℕ) {bs : List ℕ} → bs ≡ bytes key_size k → encode_lower bs ≡ key_text k
unfolding key_text
hex_text k e = rw e (hex_digits (bytes key_size k) (Bytes_bytes key_size k))
