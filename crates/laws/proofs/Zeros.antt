-- Laws of `are_zero`: a part of a run is zero.
use mathlib.Core.Path.{◌≡◌, sym, ap, ◌∙◌}
use mathlib.Core.Bool.{true}
use mathlib.Core.List.{List}
use Prim.Native.Nat.{ℕ, ◌+◌, ◌≤◌, ◌<◌}
use native.Mathlib.Omega.{arith}
use lib.Dec.{eqb}
use lib.ListN.{length, get_or, length-replicate, get_or-replicate}
use lib.Seq.{ext_get_or}
use borrow.Author.Tests.{eq-eqb, eqb-true}
use Rattle.model.specs.Bytes.{part, zeros}
use Rattle.model.specs.Formed.{are_zero}
use Rattle.laws.proofs.Lists.{all_gives, all_if, all_ext}
use Rattle.laws.proofs.Parts.{get_d_part, length_part}

module _ (s : List ℕ) (at k : ℕ) where
  pub zero_gives : are_zero s at k ≡ true → (j : ℕ) → j < k → get_or s (at + j) 0 ≡ 0
  unfolding are_zero
  zero_gives z j l = eqb-true (get_or s (at + j) 0) 0 (all_gives k (λ i. eqb (get_or s (at + i) 0) 0) j l z)

  pub zero_if : ((j : ℕ) → j < k → get_or s (at + j) 0 ≡ 0) → are_zero s at k ≡ true
  unfolding are_zero
  zero_if h = all_if k (λ i. eqb (get_or s (at + i) 0) 0) (λ j l. eq-eqb (get_or s (at + j) 0) 0 (h j l))

  pub part_are_zero : at + k ≤ length s → are_zero s at k ≡ true → part s at k ≡ zeros k
  part_are_zero l z =
      let n : length (part s at k) ≡ k = length_part s at k l in
      ext_get_or 0 (part s at k) (zeros k) (n ∙ sym (length-replicate {A = ℕ} k 0))
      (λ j m. let b : j < k = rw n at m in get_d_part s at k j b ∙ zero_gives z j b ∙ sym (get_or-replicate {A = ℕ} k j 0 0 b))

  pub are_zero_part : part s at k ≡ zeros k → are_zero s at k ≡ true
  are_zero_part e = zero_if (λ j l. sym (get_d_part s at k j l) ∙ rw e (get_or-replicate {A = ℕ} k j 0 0 l))

  -- within a part
  pub are_zero_within : (i n : ℕ) → i + n ≤ k → are_zero (part s at k) i n ≡ are_zero s (at + i) n
  unfolding are_zero
  are_zero_within i n l =
      all_ext n (λ j. eqb (get_or (part s at k) (i + j) 0) 0) (λ j. eqb (get_or s (at + i + j) 0) 0)
      (λ j m. ap (λ (x : ℕ). eqb x 0) (get_d_part s at k (i + j) (omega arith) ∙ ap (λ (x : ℕ). get_or s x 0) (omega arith)))
