-- A key and its 32 bytes.
use mathlib.Core.Path.{◌≡◌, sym, ap, ap₂, ◌∙◌}
use mathlib.Core.List.{List, ◌++◌, append-nil}
use Prim.Native.Nat.{ℕ, ◌+◌, ◌*◌, ◌^◌, ◌≤◌, ◌<◌}
use native.Mathlib.Nat.{zero-add}
use native.Mathlib.Omega.{arith}
use lib.Arith.{digits_div}
use lib.ListN.{length, drop, length-append}
use lib.Seq.{drop-length}
use Rattle.model.specs.Bytes.{number, bytes, part, splice}
use Rattle.laws.proofs.Parts.{part_append, length_part, splice_next}
use Rattle.laws.proofs.Bytes.{length_bytes, number_append, bytes_append, bytes_mod}
use Rattle.key.specs.declared.Key.{Key}
use Rattle.key.specs.Key.{num, Words}

-- ---- one word more

word_more : (s : List ℕ) (at k : ℕ) → at + (k + 8) ≤ length s → number (part s at (k + 8)) ≡ number (part s at k) * 2 ^ 64 + number (part s (at + k) 8)
word_more s at k h = rw (part_append s at k 8, number_append, length_part s (at + k) 8 (omega arith))

bytes_more : (k p x : ℕ) → x < 2 ^ 64 → bytes (k + 8) (p * 2 ^ 64 + x) ≡ bytes k p ++ bytes 8 x
bytes_more k p x h = bytes_append k 8 (p * 2 ^ 64 + x) ∙ ap₂ (λ (q : ℕ) (l : List ℕ). bytes k q ++ l) (digits_div p h) (bytes_mod 8 p x)

-- bytes put over all that there were
pub splice_all : (s v : List ℕ) → length s ≡ length v → splice s 0 v ≡ v
unfolding splice
splice_all s v e = ap (λ (l : List ℕ). v ++ l) (ap (λ (n : ℕ). drop n s) (zero-add (length v) ∙ sym e) ∙ drop-length s) ∙ append-nil v

-- ---- of a key

-- the key of four words that are read one behind the other
pub num_read : (s : List ℕ) (at : ℕ) (k : Key) → at + 32 ≤ length s
    → k.w0 ≡ number (part s at 8) → k.w1 ≡ number (part s (at + 8) 8) → k.w2 ≡ number (part s (at + 16) 8) → k.w3 ≡ number (part s (at + 24) 8)
    → num k ≡ number (part s at 32)
unfolding num
num_read s at k h e0 e1 e2 e3 =
    sym (word_more s at 24 (omega arith)
    ∙ rw (word_more s at 16 (omega arith), word_more s at 8 (omega arith), e0, e1, e2, e3))

pub bytes_num : (k : Key) → Words k → bytes 32 (num k) ≡ bytes 8 k.w0 ++ bytes 8 k.w1 ++ bytes 8 k.w2 ++ bytes 8 k.w3
unfolding num
bytes_num k h =
    bytes_more 24 _ k.w3 h.word3
    ∙ ap (λ (l : List ℕ). l ++ bytes 8 k.w3) (bytes_more 16 _ k.w2 h.word2 ∙ ap (λ (l : List ℕ). l ++ bytes 8 k.w2) (bytes_more 8 k.w0 k.w1 h.word1))

-- four words that are put one behind the other
pub num_put : (s : List ℕ) (at : ℕ) (k : Key) → Words k → at + 32 ≤ length s
    → splice (splice (splice (splice s at (bytes 8 k.w0)) (at + 8) (bytes 8 k.w1)) (at + 16) (bytes 8 k.w2)) (at + 24) (bytes 8 k.w3)
    ≡ splice s at (bytes 32 (num k))
num_put s at k w h =
    let a = bytes 8 k.w0 in
    let b = bytes 8 k.w1 in
    let d = bytes 8 k.w2 in
    let e = bytes 8 k.w3 in
    rw (
      splice_next s at 8 a b (length_bytes 8 _) (simp length_bytes (omega arith)),
      splice_next s at 16 (a ++ b) d (simp (length-append, length_bytes)) (simp length_bytes (omega arith)),
      splice_next s at 24 (a ++ b ++ d) e (simp (length-append, length_bytes)) (simp length_bytes (omega arith)),
      bytes_num k w,
    )
