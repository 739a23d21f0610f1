-- The table's bytes: a table that fits is read again from its bytes, which are formed; formed bytes are those of the table that is read
-- of them, which fits.
use mathlib.Core.Path.{◌≡◌, refl, sym, ap, ◌∙◌, fun_ext}
use mathlib.Core.Bool.{true}
use mathlib.Core.List.{List, [], ◌∷◌}
use mathlib.Core.Option.{Option, none, some}
use mathlib.Core.Logic.{⊎_elim}
use Prim.Native.Nat.{ℕ, ◌*◌, ◌≤◌, ◌<◌}
use native.Mathlib.Omega.{arith}
use lib.ListN.{length, length-append}
use Rattle.model.specs.Base.{joined, tabulate, all_below}
use Rattle.model.specs.Bytes.{part, Bytes}
use Rattle.model.specs.Key.{bucket_index}
use Rattle.model.specs.Node.{Node, PendingNode}
use Rattle.model.specs.Bucket.{Bucket, empty_bucket, nodes}
use Rattle.model.specs.Table.{Table, num_buckets}
use Rattle.model.specs.Sizes.{header_size, bucket_size, bucket_at, storage_size}
use Rattle.model.specs.Layout.{header_bytes, bucket_bytes, bytes_of, bucket_in, settings_in, bucket_part, table_of}
use Rattle.model.specs.Formed.{key_in, is_at, header_formed, bucket_formed_at, buckets_formed, formed}
use Rattle.model.specs.Fits.{All, FormedBucket, WellFormed, FitsBucket, Fits}
use Rattle.laws.proofs.Tests.{same_self, same_true, clash, and_left, and_right}
use Rattle.laws.proofs.Lists.{lt_or_le, all_gives, all_if, length_tabulate, get_d_tabulate, length_joined}
use Rattle.laws.proofs.Parts.{part_all, part_append, part_right, part_joined, part_past, length_part, joined_slots, slot_before}
use Rattle.laws.proofs.Bytes.{Bytes_append, Bytes_joined, Bytes_part}
use Rattle.laws.proofs.BucketBytes.{length_bucket, Bytes_bucket, bucket_there, bucket_none}
use Rattle.laws.proofs.BucketFormed.{bucket_formed_lem}
use Rattle.laws.proofs.BucketBack.{bucket_back, bucket_good, bucket_fits}
use Rattle.laws.proofs.HeaderBytes.{length_header, Bytes_header, key_there, max_incoming_there, settings_there, queue_there, header_formed_lem}
use Rattle.laws.proofs.HeaderBack.{header_back, settings_fit, records_fit, queue_fits_lem}
use Rattle.laws.proofs.Keep.{empty_well_formed, empty_fits}
use Rattle.laws.proofs.All.{all_map, all_tabulate, opt_map}

-- the test of a key's index

pub at_index : (o : Option ℕ) (i : ℕ) → o ≡ some i → is_at o i ≡ true
at_index o i e = rw e (same_self i)

pub index_at : (o : Option ℕ) (i : ℕ) → is_at o i ≡ true → o ≡ some i
index_at none i h = clash h refl
index_at (some j) i h = ap some (same_true j i h)

-- the keys' index, by another property
pub formed_map : (P Q : ℕ → Type 0) (m : ℕ) (b : Bucket) → ((k : ℕ) → P k → Q k) → FormedBucket P m b → FormedBucket Q m b
formed_map P Q m b f w =
    record {
      formed = w.formed;
      of_the_index =
          record {
            held = all_map _ _ (λ (n : Node) e. f n.key e) (nodes b) w.of_the_index.held;
            pending = opt_map _ _ (λ (p : PendingNode) e. (f p.node.key e.0, tt)) b.pending w.of_the_index.pending;
          };
    }

-- from a table that fits to its bytes

module _ (t : Table) (f : Fits t) where
  abbrev behind : List ℕ
  behind = joined bucket_bytes (tabulate num_buckets t.buckets)

  lengths : All (λ (b : Bucket). length (bucket_bytes b) ≡ bucket_size) (tabulate num_buckets t.buckets)
  lengths = all_tabulate (λ (b : Bucket). length (bucket_bytes b) ≡ bucket_size) num_buckets t.buckets (λ i l. length_bucket (t.buckets i) (f.well_formed i).formed.at_most)

  pub length_bytes_of : length (bytes_of t) ≡ storage_size
  unfolding bytes_of
  length_bytes_of =
      rw (
        length-append (header_bytes t) behind,
        length_header t f.queue,
        length_joined bucket_bytes bucket_size (tabulate num_buckets t.buckets) lengths,
        length_tabulate num_buckets t.buckets,
      )

  pub bytes_bytes_of : Bytes (bytes_of t)
  unfolding bytes_of
  bytes_bytes_of =
      Bytes_append (header_bytes t) behind (Bytes_header t f.settings f.records f.queue)
      (Bytes_joined bucket_bytes (tabulate num_buckets t.buckets)
      (all_tabulate (λ (b : Bucket). Bytes (bucket_bytes b)) num_buckets t.buckets (λ i l. Bytes_bucket (t.buckets i) (f.well_formed i).formed.at_most (f.buckets i))))

  pub bucket_part_there : (i : ℕ) → i < num_buckets → bucket_part (bytes_of t) i ≡ bucket_bytes (t.buckets i)
  unfolding bytes_of
  bucket_part_there i l =
      part_right (header_bytes t) behind header_size (i * bucket_size) bucket_size (length_header t f.queue)
      ∙ part_joined bucket_bytes bucket_size (tabulate num_buckets t.buckets) lengths i empty_bucket (rw length_tabulate l)
      ∙ ap bucket_bytes (get_d_tabulate num_buckets t.buckets i empty_bucket l)

  pub bucket_at_lem : (i : ℕ) → bucket_in (bucket_part (bytes_of t) i) ≡ t.buckets i
  bucket_at_lem i =
      ⊎_elim
      (λ l. ap bucket_in (bucket_part_there i l) ∙ bucket_there (t.buckets i) (f.well_formed i).formed.at_most (f.buckets i))
      (λ l. ap bucket_in (part_past (bytes_of t) (bucket_at i) bucket_size (omega (arith, length_bytes_of))) ∙ bucket_none ∙ sym (f.past i l))
      (lt_or_le i num_buckets)

  pub table_there : table_of (bytes_of t) ≡ t
  unfolding table_of bytes_of
  table_there = λ i.
      record {
        settings = settings_there t behind f.settings i;
        buckets = fun_ext bucket_at_lem i;
        queue = queue_there t behind f.records i;
      }

  pub formed_there : formed (bytes_of t) ≡ true
  unfolding formed bytes_of
  formed_there =
      rw (header_formed_lem t behind f.settings f.queue, key_there t behind f.settings.local_key, max_incoming_there t behind)
      (all_if num_buckets _
      (λ i l. rw (bucket_part_there i l) (bucket_formed_lem _ t.settings.bucket.max_incoming (t.buckets i) (formed_map _ _ _ _ (λ k e. at_index (bucket_index t.settings.local_key k) i e) (f.well_formed i)) (f.buckets i))))

-- bytes that are a table's, header and buckets each by itself
pub bytes_are : (t : Table) (s : List ℕ) → length s ≡ storage_size → part s 0 header_size ≡ header_bytes t
    → ((i : ℕ) → i < num_buckets → bucket_part s i ≡ bucket_bytes (t.buckets i)) → s ≡ bytes_of t
unfolding bytes_of
bytes_are t s l e h =
    sym (part_all s storage_size (omega arith))
    ∙ part_append s 0 header_size (num_buckets * bucket_size)
    ∙ rw (e, ← joined_slots bucket_bytes t.buckets s header_size bucket_size num_buckets (λ i m. sym (h i m)))

-- from formed bytes to their table

-- what question 2 tells of the header and of each bucket
module _ (s : List ℕ) (f : formed s ≡ true) where
  pub header_passes : header_formed s ≡ true
  unfolding formed
  header_passes = and_left (header_formed s) (all_below num_buckets (bucket_formed_at s)) f

  pub bucket_passes : (i : ℕ) → i < num_buckets → bucket_formed_at s i ≡ true
  unfolding formed
  bucket_passes i m = all_gives num_buckets (bucket_formed_at s) i m (and_right (header_formed s) (all_below num_buckets (bucket_formed_at s)) f)

  pub buckets_pass : (is : List ℕ) → All (λ (i : ℕ). i < num_buckets) is → buckets_formed s is ≡ true
  buckets_pass [] a = refl
  buckets_pass (i ∷ is) a = rw (bucket_passes i a.0, buckets_pass is a.1)

-- a bucket that passes question 2 is well formed
pub sound_at : (s : List ℕ) (i : ℕ) → bucket_formed_at s i ≡ true → WellFormed (table_of s).settings i ((table_of s).buckets i)
unfolding table_of settings_in
sound_at s i p = formed_map _ _ _ _ (λ k e. index_at (bucket_index (key_in s) k) i e) (bucket_good (bucket_part s i) _ _ p)

-- past the storage's end
pub empty_past : (s : List ℕ) → length s ≡ storage_size → (i : ℕ) → num_buckets ≤ i → (table_of s).buckets i ≡ empty_bucket
unfolding table_of
empty_past s l i m = ap bucket_in (part_past s (bucket_at i) bucket_size (omega arith)) ∙ bucket_none

module _ (s : List ℕ) (h : Bytes s) (l : length s ≡ storage_size) where
  part_length : (i : ℕ) → i < num_buckets → length (bucket_part s i) ≡ bucket_size
  part_length i m = length_part s (bucket_at i) bucket_size (omega (arith, slot_before i num_buckets bucket_size m))

  part_bytes : (i : ℕ) → Bytes (bucket_part s i)
  part_bytes i = Bytes_part s (bucket_at i) bucket_size h

  -- a bucket that passes question 2
  module _ (i : ℕ) (m : i < num_buckets) (p : bucket_formed_at s i ≡ true) where
    pub fits_at : FitsBucket ((table_of s).buckets i)
    unfolding table_of
    fits_at = bucket_fits (bucket_part s i) (part_length i m) (part_bytes i) _ _ p

    pub well_formed_at : WellFormed (table_of s).settings i ((table_of s).buckets i)
    well_formed_at = sound_at s i p

    pub bucket_is : bucket_bytes ((table_of s).buckets i) ≡ bucket_part s i
    unfolding table_of
    bucket_is = bucket_back (bucket_part s i) (part_length i m) (part_bytes i) _ _ p

  pub table_back : formed s ≡ true → bytes_of (table_of s) ≡ s
  table_back f =
      sym (bytes_are (table_of s) s l (sym (header_back s (omega arith) h (header_passes s f))) (λ i m. sym (bucket_is i m (bucket_passes s f i m))))

  pub fits_back : formed s ≡ true → Fits (table_of s)
  fits_back f =
      record {
        settings = settings_fit s (omega arith) h (header_passes s f);
        buckets = λ i. ⊎_elim (λ m. fits_at i m (bucket_passes s f i m)) (λ m. rw (empty_past s l i m) empty_fits) (lt_or_le i num_buckets);
        well_formed =
            λ i. ⊎_elim
            (λ m. well_formed_at i m (bucket_passes s f i m))
            (λ m. rw (empty_past s l i m) (empty_well_formed (table_of s).settings i))
            (lt_or_le i num_buckets);
        past = empty_past s l;
        records = records_fit s (omega arith) h (header_passes s f);
        queue = queue_fits_lem s (omega arith) h (header_passes s f);
      }
