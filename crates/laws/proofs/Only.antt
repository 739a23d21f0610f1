-- 02, slip 7: the table cut to the buckets that a call reads. Where these pass question 2 it fits, whatever the others hold, and what is
-- said of a table that fits can be said of the call.
use Prim.Native.Nat.{ℕ, ◌<◌}
use native.Mathlib.Omega.{arith}
use mathlib.Core.Path.{◌≡◌, refl, ap, subst⁻¹}
use mathlib.Core.Bool.{Bool, true, cond, ◌||◌}
use mathlib.Core.List.{List, [], ◌∷◌}
use lib.ListN.{length}
use Rattle.model.specs.Base.{same, any_of}
use Rattle.model.specs.Bytes.{Bytes}
use Rattle.model.specs.Bucket.{Bucket, empty_bucket}
use Rattle.model.specs.Table.{Table, num_buckets}
use Rattle.model.specs.Sizes.{storage_size}
use Rattle.model.specs.Call.{Call, KeyCall}
use Rattle.model.specs.Question.{kind_fits}
use Rattle.model.specs.Layout.{table_of}
use Rattle.model.specs.Formed.{header_formed, buckets_formed}
use Rattle.model.specs.StepBytes.{reads}
use Rattle.model.specs.Explain.{reason, explanation}
use Rattle.model.specs.Fits.{All, WellFormed, FitsBucket, Fits}
use Rattle.laws.proofs.Tests.{same_self, same_true, cases, split, or_first, or_rest, or_second, clash}
use Rattle.laws.proofs.Keep.{empty_well_formed, empty_fits}
use Rattle.laws.proofs.KeepStep.{FitsAt}
use Rattle.laws.proofs.All.{all_map}
use Rattle.laws.proofs.Touched.{Below}
use Rattle.laws.proofs.ReadBack.{FitsHeader, FitsBuckets, header_fits, buckets_fit}
use Rattle.laws.proofs.KeyReads.{with_buckets, key_kind_same, reason_same, explanation_same}

-- buckets that are not named are empty
abbrev pub only : List ℕ → Table → Table
only is t = with_buckets (λ i. cond (any_of (same i) is) (t.buckets i) empty_bucket) t

named_has : (P : ℕ → Type 0) (i : ℕ) (is : List ℕ) → All P is → any_of (same i) is ≡ true → P i
named_has P i [] a e = clash e refl
named_has P i (j ∷ is) a e =
    split (same i j) (λ f. subst⁻¹ P (same_true i j f) a.0) (λ f. named_has P i is a.1 (or_rest (same i j) (any_of (same i) is) e f))

are_named : (is : List ℕ) → All (λ (i : ℕ). any_of (same i) is ≡ true) is
are_named [] = tt
are_named (j ∷ is) = (
  or_first (same j j) (any_of (same j) is) (same_self j),
  all_map (λ (i : ℕ). any_of (same i) is ≡ true) (λ (i : ℕ). (same i j || any_of (same i) is) ≡ true) (λ i e. or_second (same i j) (any_of (same i) is) e) is (are_named is),
)

pub only_same : (is : List ℕ) (t : Table) → All (λ (i : ℕ). (only is t).buckets i ≡ t.buckets i) is
only_same is t =
    all_map (λ (i : ℕ). any_of (same i) is ≡ true) _ (λ i e. ap (λ (b : Bool). cond b (t.buckets i) empty_bucket) e) is (are_named is)

pub only_table_fits : (is : List ℕ) (t : Table) → Below is → FitsHeader t → FitsBuckets t is → Fits (only is t)
only_table_fits is t a f g =
    record {
      settings = f.settings;
      buckets = λ i. cases FitsBucket (any_of (same i) is) (λ e. (at i e).fits) (λ _. empty_fits);
      well_formed = λ i. cases (WellFormed t.settings i) (any_of (same i) is) (λ e. (at i e).formed) (λ _. empty_well_formed t.settings i);
      past =
          λ i m. cases (λ (b : Bucket). b ≡ empty_bucket) (any_of (same i) is)
          (λ e. absurd (let l = named_has (λ (j : ℕ). j < num_buckets) i is a e in omega arith)) (λ _. refl);
      records = f.records;
      queue = f.queue;
    }
  where
    at : (i : ℕ) → any_of (same i) is ≡ true → FitsAt t.settings i (t.buckets i)
    at i e = named_has (λ (j : ℕ). FitsAt t.settings j (t.buckets j)) i is g e

-- of a storage whose settings, queue and buckets named pass question 2
pub only_fits : (s : List ℕ) → Bytes s → length s ≡ storage_size → header_formed s ≡ true → (is : List ℕ) → Below is → buckets_formed s is ≡ true
    → Fits (only is (table_of s))
only_fits s h l f is a g = only_table_fits is (table_of s) a (header_fits s h l f) (buckets_fit s h l is a g)

-- a call on one key does not see the cut
module _ (c : KeyCall) (k : List ℕ) (t : Table) where
  abbrev cut : Table
  cut = only (reads (Call.on_key k c) t) t

  same_read : All (λ (i : ℕ). cut.buckets i ≡ t.buckets i) (reads (Call.on_key k c) t)
  same_read = only_same (reads (Call.on_key k c) t) t

  pub only_kind : kind_fits (Call.on_key k c) cut ≡ kind_fits (Call.on_key k c) t
  only_kind = key_kind_same t cut.buckets c k same_read

  pub only_reason : reason c k cut ≡ reason c k t
  only_reason = reason_same t cut.buckets c k same_read

  pub only_explanation : explanation c k cut ≡ explanation c k t
  only_explanation = explanation_same t cut.buckets c k same_read
