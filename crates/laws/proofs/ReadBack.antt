-- 02, slip 7: what is read of a storage of which the header and some buckets are those of a table, and the others as they were: of a
-- call on its way, which has read and written these alone.
use Prim.Native.Nat.{ℕ, ◌≤◌, ◌<◌}
use native.Mathlib.Omega.{arith}
use mathlib.Core.Path.{◌≡◌, refl, sym, ap, ap₂, ◌∙◌, fun_ext, subst⁻¹}
use mathlib.Core.Bool.{Bool, true, false, not}
use mathlib.Core.List.{List, [], ◌∷◌, ◌++◌}
use mathlib.Core.Logic.{⊎_elim}
use lib.ListN.{length, get_or}
use Rattle.model.specs.Base.{same, every, joined, tabulate}
use Rattle.model.specs.Bytes.{Bytes}
use Rattle.model.specs.Key.{bucket_index}
use Rattle.model.specs.Node.{EndedPending}
use Rattle.model.specs.Bucket.{Bucket, apply_pending}
use Rattle.model.specs.Table.{Settings, Table, num_buckets, max_records, write}
use Rattle.model.specs.Sizes.{record_count_at, storage_size}
use Rattle.model.specs.Listing.{apply_all}
use Rattle.model.specs.Layout.{header_bytes, bucket_bytes, record_in, record_part, bucket_in, settings_in, bucket_part, table_of}
use Rattle.model.specs.Formed.{is_at, bucket_formed, header_formed, bucket_formed_at, buckets_formed}
use Rattle.model.specs.Fits.{All, FitsRecord, FitsSettings}
use Rattle.laws.proofs.Tests.{cases, and_left, and_right}
use Rattle.laws.proofs.Lists.{lt_or_le}
use Rattle.laws.proofs.BucketBytes.{bucket_there}
use Rattle.laws.proofs.BucketFormed.{bucket_formed_lem}
use Rattle.laws.proofs.HeaderBytes.{settings_there, queue_there, header_formed_lem}
use Rattle.laws.proofs.HeaderBack.{header_back, settings_fit, records_fit, queue_fits_lem}
use Rattle.laws.proofs.TableBytes.{at_index, formed_map, fits_at, well_formed_at, empty_past}
use Rattle.laws.proofs.Keep as Keep
use Rattle.laws.proofs.KeepStep.{FitsAt, apply_at}
use Rattle.laws.proofs.Applied.{apply_all_buckets}
use Rattle.laws.proofs.Frame.{Untouched}
use Rattle.laws.proofs.Touched.{Below}
use Rattle.laws.proofs.All.{all_append, all_left, all_right, all_map, all_zip}
use Rattle.laws.proofs.Restored.{Restored, Short, among, whole}

-- settings and queue fit their bytes
pub record FitsHeader (t : Table) : Type 0 where
  pub settings : FitsSettings t.settings
  pub records : All FitsRecord t.queue
  pub queue : length t.queue ≤ max_records

-- the buckets named fit theirs and are well formed
abbrev pub FitsBuckets : Table → List ℕ → Type 0
FitsBuckets t = All (λ (i : ℕ). FitsAt t.settings i (t.buckets i))

pub fit_short : (t : Table) (is : List ℕ) → FitsBuckets t is → Short t is
fit_short t is g = all_map _ _ (λ i (w : FitsAt t.settings i (t.buckets i)). w.formed.formed.at_most) is g

-- question 2 of bucket i by the settings and the bucket's bytes
abbrev pub formed_by : Settings → ℕ → List ℕ → Bool
formed_by w i bs = bucket_formed (λ k. is_at (bucket_index w.local_key k) i) w.bucket.max_incoming bs

pub formed_by_lem : (s : List ℕ) (i : ℕ) → bucket_formed_at s i ≡ formed_by (table_of s).settings i (bucket_part s i)
unfolding table_of settings_in
formed_by_lem s i = refl

-- a storage of which the header and some buckets pass question 2

module _ (s : List ℕ) (h : Bytes s) (l : length s ≡ storage_size) where
  pub header_fits : header_formed s ≡ true → FitsHeader (table_of s)
  header_fits f =
      record { settings = settings_fit s (omega arith) h f; records = records_fit s (omega arith) h f; queue = queue_fits_lem s (omega arith) h f }

  pub buckets_fit : (is : List ℕ) → Below is → buckets_formed s is ≡ true → FitsBuckets (table_of s) is
  buckets_fit [] a f = tt
  buckets_fit (i ∷ is) a f =
      let p : bucket_formed_at s i ≡ true = and_left (bucket_formed_at s i) (buckets_formed s is) f in (
        record { fits = fits_at s h l i a.0 p; formed = well_formed_at s h l i a.0 p },
        buckets_fit is a.1 (and_right (bucket_formed_at s i) (buckets_formed s is) f),
      )

  -- nothing is written yet
  pub restored_none : header_formed s ≡ true → Restored s [] (table_of s) s
  restored_none f = record { size = l; header = sym (header_back s (omega arith) h f); written = tt; others = λ i m u. refl }

-- further buckets are written: those of the table before that are not among them are the new table's too
pub restored_then : (s₀ is js : List ℕ) (t t' : Table) (s s' : List ℕ) → Below is → Restored s₀ is t s → Restored s js t' s'
    → ((i : ℕ) → Untouched i js → t'.buckets i ≡ t.buckets i) → Restored s₀ (is ++ js) t' s'
restored_then s₀ is js t t' s s' a r r' h =
    record {
      size = r'.size;
      header = r'.header;
      written =
          all_append (λ (i : ℕ). bucket_part s' i ≡ bucket_bytes (t'.buckets i)) is js
          (all_zip (λ (i : ℕ). i < num_buckets) (λ (i : ℕ). bucket_part s i ≡ bucket_bytes (t.buckets i)) (λ (i : ℕ). bucket_part s' i ≡ bucket_bytes (t'.buckets i))
          (λ i m p. ⊎_elim (λ q. q) (λ u. r'.others i m u ∙ p ∙ ap bucket_bytes (sym (h i u))) (among (λ (j : ℕ). bucket_part s' j ≡ bucket_bytes (t'.buckets j)) i js r'.written))
          is a r.written)
          r'.written;
      others =
          λ i m u. r'.others i m (all_right (λ (j : ℕ). same i j ≡ false) is js u) ∙ r.others i m (all_left (λ (j : ℕ). same i j ≡ false) is js u);
    }

-- what is read again

module _ (s₀ is : List ℕ) (t : Table) (s : List ℕ) (r : Restored s₀ is t s) where
  abbrev behind : List ℕ
  behind = joined (bucket_part s) (tabulate num_buckets (λ i. i))

  cut : s ≡ header_bytes t ++ behind
  cut = whole s r.size ∙ ap (λ (x : List ℕ). x ++ behind) r.header

  -- the buckets that were not written
  pub other_bucket : length s₀ ≡ storage_size → (j : ℕ) → Untouched j is → (table_of s).buckets j ≡ (table_of s₀).buckets j
  unfolding table_of
  other_bucket l j u =
      ⊎_elim (λ m. ap bucket_in (r.others j m u)) (λ m. empty_past s r.size j m ∙ sym (empty_past s₀ l j m)) (lt_or_le j num_buckets)

  module _ (f : FitsHeader t) where
    pub settings_back : (table_of s).settings ≡ t.settings
    unfolding table_of
    settings_back = ap settings_in cut ∙ settings_there t behind f.settings

    pub queue_back : (table_of s).queue ≡ t.queue
    unfolding table_of
    queue_back = ap (λ (x : List ℕ). tabulate (get_or x record_count_at 0) (λ j. record_in (record_part x j))) cut ∙ queue_there t behind f.records

    pub header_passes : header_formed s ≡ true
    header_passes = ap header_formed cut ∙ header_formed_lem t behind f.settings f.queue

    pub other_formed : t.settings ≡ (table_of s₀).settings → (j : ℕ) → j < num_buckets → Untouched j is → bucket_formed_at s j ≡ bucket_formed_at s₀ j
    other_formed e j m u = formed_by_lem s j ∙ ap₂ (λ (w : Settings) (bs : List ℕ). formed_by w j bs) (settings_back ∙ e) (r.others j m u) ∙ sym (formed_by_lem s₀ j)

    module _ (g : FitsBuckets t is) where
      pub buckets_back : All (λ (i : ℕ). (table_of s).buckets i ≡ t.buckets i) is
      unfolding table_of
      buckets_back =
          all_zip (λ (i : ℕ). bucket_part s i ≡ bucket_bytes (t.buckets i)) (λ (i : ℕ). FitsAt t.settings i (t.buckets i)) (λ (i : ℕ). bucket_in (bucket_part s i) ≡ t.buckets i)
          (λ i e w. ap bucket_in e ∙ bucket_there (t.buckets i) w.formed.formed.at_most w.fits) is r.written g

      pub formed_back : All (λ (i : ℕ). bucket_formed_at s i ≡ true) is
      formed_back =
          all_zip (λ (i : ℕ). bucket_part s i ≡ bucket_bytes (t.buckets i)) (λ (i : ℕ). FitsAt t.settings i (t.buckets i)) (λ (i : ℕ). bucket_formed_at s i ≡ true)
          (λ i e w. formed_by_lem s i ∙ ap₂ (λ (x : Settings) (bs : List ℕ). formed_by x i bs) settings_back e
          ∙ bucket_formed_lem _ t.settings.bucket.max_incoming (t.buckets i) (formed_map _ _ _ _ (λ k p. at_index (bucket_index t.settings.local_key k) i p) w.formed) w.fits)
          is r.written g

      -- what passed question 2 passes it again, written or not
      pub formed_stays : t.settings ≡ (table_of s₀).settings → (j : ℕ) → j < num_buckets → bucket_formed_at s₀ j ≡ true → bucket_formed_at s j ≡ true
      formed_stays e j m p = ⊎_elim (λ q. q) (λ u. other_formed e j m u ∙ p) (among (λ (i : ℕ). bucket_formed_at s i ≡ true) j is formed_back)

      pub all_stay : t.settings ≡ (table_of s₀).settings → (js : List ℕ) → Below js → buckets_formed s₀ js ≡ true → buckets_formed s js ≡ true
      all_stay e [] a p = refl
      all_stay e (j ∷ js) a p =
          rw (formed_stays e j a.0 (and_left (bucket_formed_at s₀ j) (buckets_formed s₀ js) p))
          (all_stay e js a.1 (and_right (bucket_formed_at s₀ j) (buckets_formed s₀ js) p))

      -- the table, where its other buckets are those that were there
      pub table_back : length s₀ ≡ storage_size → ((j : ℕ) → Untouched j is → t.buckets j ≡ (table_of s₀).buckets j) → table_of s ≡ t
      table_back l h = λ k. record { settings = settings_back k; buckets = fun_ext bucket_is k; queue = queue_back k }
        where
          bucket_is : (j : ℕ) → (table_of s).buckets j ≡ t.buckets j
          bucket_is j = ⊎_elim (λ p. p) (λ u. other_bucket l j u ∙ sym (h j u)) (among (λ (i : ℕ). (table_of s).buckets i ≡ t.buckets i) j is buckets_back)

-- due pendings applied, where the buckets named fit

pub apply_all_buckets_fit : (now : ℕ) (is js : List ℕ) (t : Table) → FitsBuckets t js → All (λ (i : ℕ). FitsAt t.settings i ((apply_all now is t).0.buckets i)) js
apply_all_buckets_fit now is js t g =
    all_map (λ (i : ℕ). FitsAt t.settings i (t.buckets i)) _
    (λ i w. subst⁻¹ (FitsAt t.settings i) (apply_all_buckets now is t i)
    (cases (FitsAt t.settings i) (every (λ (j : ℕ). not (same i j)) is) (λ _. w) (λ _. apply_at t.settings i now (t.buckets i) w)))
    js g

pub apply_all_records_fit : (now : ℕ) (is : List ℕ) (t : Table) → FitsBuckets t is → All FitsRecord t.queue → All FitsRecord (apply_all now is t).0.queue
apply_all_records_fit now [] t g q = q
apply_all_records_fit now (i ∷ is) t g q =
    let a : Bucket × List EndedPending = apply_pending t.settings.bucket now (t.buckets i) in
    apply_all_records_fit now is (write t i a.0 a.1) (apply_all_buckets_fit now (i ∷ []) is t g.1)
    (all_append FitsRecord t.queue a.1 q (Keep.records_fit t.settings.bucket now (t.buckets i) g.0.fits))
