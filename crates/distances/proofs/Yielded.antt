-- The buckets at the distances, as an iterator over these yields them.
use mathlib.Core.Path.{◌≡◌, refl, sym, ap, ◌∙◌}
use mathlib.Core.List.{List, [], ◌∷◌, ◌++◌}
use mathlib.Core.Option as math
use mathlib.Core.Option.{none, some}
use Prim.Native.Nat.{ℕ, suc, ◌+◌, ◌<◌}
use native.Mathlib.Numerals.{add-one}
use lib.ListN.{length, get_or, drop}
use lib.Seq.{drop-cons}
use Rattle.std.specs.Prelude.{Option, Some, None}
use Rattle.std.specs.List.{filter_map, cons_option}
use Rattle.model.specs.Base.{joined}
use Rattle.model.specs.Listing.{index_at, indices, buckets_at}
use Rattle.key.specs.Answers.{option_of}

-- an index as the code has it
abbrev pub given : math.Option ℕ → Option ℕ
given none = None
given (some i) = Some i

pub given_by : {o : Option ℕ} {q : math.Option ℕ} → option_of o ≡ q → o ≡ given q
given_by {o} e = back o ∙ ap given e
  where
    back : (o : Option ℕ) → o ≡ given (option_of o)
    back (Some i) = refl
    back None = refl

pub indexed : (ds : List ℕ) → filter_map (λ d. given (index_at d)) ds ≡ buckets_at ds
unfolding joined
indexed [] = refl
indexed (d ∷ ds) = ap (cons_option (given (index_at d))) (indexed ds) ∙ by (index_at d) (buckets_at ds)
  where
    by : (o : math.Option ℕ) (l : List ℕ) → cons_option (given o) l ≡ indices o ++ l
    by none l = refl
    by (some i) l = refl

-- bucket i is the one at place p
pub next_is : (is : List ℕ) (p i : ℕ) → (p < length is) × (i ≡ get_or is p i) → drop p is ≡ i ∷ drop (p + 1) is
next_is is p i t = drop-cons is p i t.0 ∙ ap (λ (j : ℕ). j ∷ drop (suc p) is) (sym t.1) ∙ ap (λ (k : ℕ). i ∷ drop k is) (sym (add-one p))
