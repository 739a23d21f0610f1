-- Question 9 on the storage's bytes: what holds nothing is blank, and the buckets' tests are one test of each.
use mathlib.Core.Path.{◌≡◌, refl, sym, ap, ◌∙◌}
use mathlib.Core.Bool.{Bool, true, false, not, ◌&&◌, ◌||◌}
use mathlib.Core.List.{List}
use Prim.Native.Nat.{ℕ, ◌+◌, ◌*◌, ◌<◌}
use native.Mathlib.Omega.{arith}
use lib.Dec.{eqb}
use lib.ListN.{length, get_or, length-replicate}
use lib.Seq.{take-nil, drop-nil}
use borrow.Author.Tests.{eqb-true, eq-eqb, ne_eqb, lt-leb}
use Rattle.model.specs.Base.{is_some, all_below, joined, tabulate}
use Rattle.model.specs.Bytes.{zeros, Bytes}
use Rattle.model.specs.Bucket.{BucketSettings, empty_bucket, num_entries, max_nodes_per_bucket}
use Rattle.model.specs.Table.{Table, num_buckets}
use Rattle.model.specs.Sizes.{node_size, pending_at, bucket_size, record_count_at, bucket_at, storage_size}
use Rattle.model.specs.Layout.{nodes_in, pending_in, bucket_in, bucket_bytes, bucket_part, table_of, record_in, record_part}
use Rattle.model.specs.Formed.{pending_formed, bucket_formed, formed}
use Rattle.model.specs.Saved.{saved_count, disconnected_from, loaded_bytes, holds_nothing, three_of_aNet, length_fits, load_fits, loaded_formed}
use Rattle.laws.proofs.Tests.{split, and_left, and_right, or_second}
use Rattle.laws.proofs.Lists.{length_tabulate, all_gives, all_if, all_ext}
use Rattle.laws.proofs.Parts.{length_part, part_all, slot_before}
use Rattle.laws.proofs.Bytes.{Bytes_part}
use Rattle.laws.proofs.Zeros.{are_zero_part}
use Rattle.laws.proofs.BucketBytes.{bytes_empty}
use Rattle.laws.proofs.BucketFormed.{checked}
use Rattle.laws.proofs.BucketBack.{count_in, pending_of_lem, bucket_back}
use Rattle.laws.proofs.TableBytes.{bucket_passes}
use Rattle.laws.proofs.Loaded.{size_loaded}
use Rattle.well_formed.specs.Tests.{of_index}
use Rattle.well_formed.proofs.Buckets.{all_and, bucket_zero}
use Rattle.loaded.specs.Load.{Blank, bucket_fits}

-- a table that holds nothing

-- bucket i has no node and no pending
unfoldable pub empty_at : List ℕ → ℕ → Bool
empty_at s i = eqb (get_or (bucket_part s i) 0 0) 0 && eqb (get_or (bucket_part s i) pending_at 0) 0

-- the flag of a pending that passes question 2 is 0 or 1
flag_either : (p : ℕ → Bool) (bs : List ℕ) → pending_formed p bs ≡ true → eqb (get_or bs pending_at 0) 0 ≡ not (eqb (get_or bs pending_at 0) 1)
unfolding pending_formed
flag_either p bs h =
    split (eqb (get_or bs pending_at 0) 0)
    (λ e. e ∙ sym (ap not (ne_eqb (get_or bs pending_at 0) 1 (λ q. omega (arith, q, eqb-true (get_or bs pending_at 0) 0 e)))))
    (λ e. e ∙ sym (ap not (and_left (eqb (get_or bs pending_at 0) 1) _ (rw e at h))))

pending_some : (bs : List ℕ) → is_some (pending_in bs) ≡ eqb (get_or bs pending_at 0) 1
pending_some bs = split (eqb (get_or bs pending_at 0) 1) (λ e. rw e) (λ e. rw e)

bucket_empty : (bs : List ℕ) → get_or bs 0 0 ≡ 0 → get_or bs pending_at 0 ≡ 0 → bucket_in bs ≡ empty_bucket
unfolding bucket_in nodes_in tabulate
bucket_empty bs e f = rw (e, f, take-nil, drop-nil)

module _ (s : List ℕ) (l : length s ≡ storage_size) (f : formed s ≡ true) where
  abbrev t : Table
  t = table_of s

  pub queue_length : length t.queue ≡ get_or s record_count_at 0
  unfolding table_of
  queue_length = length_tabulate (get_or s record_count_at 0) (λ j. record_in (record_part s j))

  empty_there : (i : ℕ) → i < num_buckets → empty_at s i ≡ (eqb (num_entries (t.buckets i)) 0 && not (is_some (t.buckets i).pending))
  unfolding empty_at table_of
  empty_there i m =
      let bs : List ℕ = bucket_part s i in
      rw (count_in bs, pending_of_lem bs, pending_some bs, ← flag_either _ bs (checked _ _ bs (bucket_passes s f i m)).pending)

  pub holds_by : holds_nothing t ≡ (eqb (get_or s record_count_at 0) 0 && all_below num_buckets (empty_at s))
  unfolding holds_nothing
  holds_by = rw queue_length (ap (λ (b : Bool). eqb (get_or s record_count_at 0) 0 && b) (sym (all_ext num_buckets (empty_at s) _ empty_there)))

  pub holds_records : (get_or s record_count_at 0 ≡ 0 → ⊥) → false ≡ holds_nothing t
  holds_records h = sym (holds_by ∙ ap (λ (b : Bool). b && all_below num_buckets (empty_at s)) (ne_eqb (get_or s record_count_at 0) 0 h))

  pub holds_all : get_or s record_count_at 0 ≡ 0 → all_below num_buckets (empty_at s) ≡ holds_nothing t
  holds_all e = sym (holds_by ∙ ap (λ (b : Bool). b && all_below num_buckets (empty_at s)) (eq-eqb (get_or s record_count_at 0) 0 e))

  pub blank_of : Bytes s → holds_nothing t ≡ true → Blank s
  unfolding empty_at
  blank_of h e =
      let all : all_below num_buckets (empty_at s) ≡ true = and_right (eqb (get_or s record_count_at 0) 0) _ (sym holds_by ∙ e) in
      record {
        size = l;
        buckets =
            λ i m.
            let bs : List ℕ = bucket_part s i in
            let both : empty_at s i ≡ true = all_gives num_buckets (empty_at s) i m all in
            let c : get_or bs 0 0 ≡ 0 = eqb-true _ _ (and_left (eqb (get_or bs 0 0) 0) _ both) in
            let p : get_or bs pending_at 0 ≡ 0 = eqb-true _ _ (and_right (eqb (get_or bs 0 0) 0) _ both) in
            let n : length bs ≡ bucket_size = length_part s (bucket_at i) bucket_size (omega (arith, slot_before i num_buckets bucket_size m)) in
            sym (bucket_back bs n (Bytes_part s (bucket_at i) bucket_size h) _ _ (bucket_passes s f i m)) ∙ ap bucket_bytes (bucket_empty bs c p) ∙ bytes_empty;
      }

-- the tests of the buckets

all_or : (b : Bool) (g : ℕ → Bool) (n : ℕ) → all_below n (λ i. not b || g i) ≡ (not b || all_below n g)
all_or true g n = refl
all_or false g n = all_if n (λ i. true) (λ i l. refl)

module _ (s bs : List ℕ) where
  abbrev u : Table
  u = table_of s

  pub fits_nothing : holds_nothing u ≡ false → load_fits bs u ≡ false
  unfolding load_fits
  fits_nothing e = rw e

  pub fits_length : holds_nothing u ≡ true → length_fits bs ≡ false → load_fits bs u ≡ false
  unfolding load_fits
  fits_length e h = rw (e, h)

  -- of bytes whose length fits
  pub fits_by : {saved : List ℕ} {nodes local : ℕ} {b : BucketSettings} → saved ≡ bs → nodes ≡ saved_count saved → length saved ≡ num_buckets + nodes * node_size
      → local ≡ u.settings.local_key → b ≡ u.settings.bucket → holds_nothing u ≡ true → all_below num_buckets (bucket_fits local b saved) ≡ load_fits bs u
  unfolding load_fits bucket_fits of_index
  fits_by {saved} {nodes} es en el ek eb e =
      let g : ℕ → Bool = λ i. not (three_of_aNet (nodes_in (loaded_bytes bs i))) in
      let f : Bool = u.settings.bucket.filter in
      let l : length bs ≡ num_buckets + saved_count bs * node_size = rw (← es, ← en) el in
      rw (es, ek, eb, e, eq-eqb (length bs) (num_buckets + saved_count bs * node_size) l)
      (all_and num_buckets (loaded_formed bs u) (λ i. not f || g i) ∙ ap (λ (x : Bool). all_below num_buckets (loaded_formed bs u) && x) (all_or f g num_buckets))

-- one bucket

loaded_empty : (bs : List ℕ) (i : ℕ) → get_or bs i 0 ≡ 0 → loaded_bytes bs i ≡ zeros bucket_size
unfolding loaded_bytes disconnected_from joined tabulate
loaded_empty bs i e = rw e

zeros_formed : (p : ℕ → Bool) (m : ℕ) → bucket_formed p m (zeros bucket_size) ≡ true
zeros_formed p m =
    let l : length (zeros bucket_size) ≡ bucket_size = length-replicate {A = ℕ} bucket_size 0 in
    bucket_zero p m (zeros bucket_size) l (are_zero_part (zeros bucket_size) 0 bucket_size (part_all (zeros bucket_size) bucket_size (omega (arith, l))))

zeros_spread : three_of_aNet (nodes_in (zeros bucket_size)) ≡ false
unfolding three_of_aNet nodes_in tabulate
zeros_spread = refl

module _ (local : ℕ) (s : BucketSettings) (bs : List ℕ) (i : ℕ) where
  abbrev formed_at : Bool
  formed_at = bucket_formed (of_index local i) s.max_incoming (loaded_bytes bs i)

  pub fits_many : max_nodes_per_bucket < get_or bs i 0 → false ≡ bucket_fits local s bs i
  unfolding bucket_fits bucket_formed
  fits_many h = rw (size_loaded, lt-leb (get_or bs i 0) max_nodes_per_bucket h)

  -- a bucket without nodes passes
  pub fits_empty : get_or bs i 0 ≡ 0 → true ≡ bucket_fits local s bs i
  unfolding bucket_fits
  fits_empty e = rw (loaded_empty bs i e, zeros_formed (of_index local i) s.max_incoming, zeros_spread) (sym (or_second (not s.filter) true refl))

  pub fits_not_formed : formed_at ≡ false → false ≡ bucket_fits local s bs i
  unfolding bucket_fits
  fits_not_formed e = rw e

  pub fits_off : formed_at ≡ true → s.filter ≡ false → true ≡ bucket_fits local s bs i
  unfolding bucket_fits
  fits_off e h = rw (e, h)

  pub fits_on : formed_at ≡ true → s.filter ≡ true → not (three_of_aNet (nodes_in (loaded_bytes bs i))) ≡ bucket_fits local s bs i
  unfolding bucket_fits
  fits_on e h = rw (e, h)
