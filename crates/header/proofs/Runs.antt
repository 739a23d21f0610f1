-- Laws of runs of bytes: what is put within the front, and zero bytes.
use mathlib.Core.Path.{◌≡◌, refl, sym, ap, ◌∙◌}
use mathlib.Core.List.{List, [], ◌++◌}
use Prim.Native.Nat.{ℕ, ◌+◌, ◌≤◌}
use native.Mathlib.Nat.{zero-add}
use native.Mathlib.Omega.{arith}
use lib.ListN.{length, length-replicate, replicate-append-replicate}
use Rattle.model.specs.Bytes.{splice, zeros}
use Rattle.laws.proofs.Shifts.{splice_between, splice_inside}

-- what is put within a run that was put at the front
pub splice_front : (s a : List ℕ) (at : ℕ) (v : List ℕ) → at + length v ≤ length a → length a ≤ length s → splice (splice s 0 a) at v ≡ splice s 0 (splice a at v)
splice_front s a at v h k = ap (λ (i : ℕ). splice (splice s 0 a) i v) (sym (zero-add at)) ∙ splice_inside s 0 a at v h (omega arith)

-- zero bytes, many at a time
unfoldable pub blank : ℕ → List ℕ
blank k = zeros k

pub blank_is : (k : ℕ) → zeros k ≡ blank k
unfolding blank
blank_is k = refl

pub blank_add : (i j : ℕ) → blank (i + j) ≡ blank i ++ blank j
unfolding blank
blank_add i j = sym (replicate-append-replicate {A = ℕ} i j 0)

pub length_blank : (k : ℕ) → length (blank k) ≡ k
unfolding blank
length_blank k = length-replicate {A = ℕ} k 0

pub blank_front : (v : List ℕ) (n k : ℕ) → n ≡ length v + k → splice (blank n) 0 v ≡ v ++ blank k
blank_front v n k e = rw (e, blank_add (length v) k) (splice_between [] (blank (length v)) (blank k) v 0 refl (length_blank (length v)))
