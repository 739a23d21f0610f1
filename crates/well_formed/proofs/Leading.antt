-- The index of a key by the leading zeros of its distance.
use mathlib.Core.Path.{◌≡◌, sym, ap, ◌∙◌}
use mathlib.Core.Option.{Option}
use Prim.Native.Nat.{ℕ, ◌+◌, ◌-◌, ◌^◌, ◌<◌}
use native.Mathlib.Omega.{arith}
use lib.Count.{count_leading_zeros}
use lib.Dec.{eqb}
use borrow.Author.Tests.{eqb-true, eqb-false, ne_eqb}
use Rattle.model.specs.Base.{same}
use Rattle.model.specs.Key.{distance, less_one}
use Rattle.model.specs.Formed.{is_at}
use Rattle.laws.proofs.Tests.{split, same_of, same_not}
use Rattle.laws.proofs.Index.{bucket_index_lem}
use Rattle.key.proofs.Leading.{none_left, some_left}
use Rattle.well_formed.specs.Tests.{of_index}

-- the index by the leading zeros of the distance
pub index_by_zeros : (local key i : ℕ) → distance local key < 2 ^ 256 → of_index local i key ≡ eqb (256 - count_leading_zeros 256 (distance local key)) (i + 1)
unfolding of_index
index_by_zeros local key i h =
    ap (λ (o : Option ℕ). is_at o i) (bucket_index_lem local key)
    ∙ split (eqb n 0)
    (λ e. let z : n ≡ 0 = eqb-true n 0 e in ap (λ (o : Option ℕ). is_at (less_one o) i) (sym (none_left d h z)) ∙ sym (ne_eqb n (i + 1) (λ q. omega (arith, q, z))))
    (λ e. ap (λ (o : Option ℕ). is_at (less_one o) i) (sym (some_left d (eqb-false n 0 e))) ∙ less_one_lem (eqb-false n 0 e))
  where
    d : ℕ
    d = distance local key

    n : ℕ
    n = 256 - count_leading_zeros 256 (distance local key)

    less_one_lem : (n ≡ 0 → ⊥) → same (n - 1) i ≡ eqb n (i + 1)
    less_one_lem z =
        split (eqb n (i + 1))
        (λ e. let q : n ≡ i + 1 = eqb-true n (i + 1) e in same_of (n - 1) i (omega arith) ∙ sym e)
        (λ e. same_not (n - 1) i (λ (q : n - 1 ≡ i). eqb-false n (i + 1) e (omega (arith, q, z))) ∙ sym e)
