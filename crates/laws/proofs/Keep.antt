-- The bucket's rules keep a well-formed bucket (question 2) and a bucket whose numbers fit their bytes (Fits).
use Prim.Native.Nat.{ℕ, ◌<◌, ◌^◌}
use mathlib.Core.Path.{◌≡◌, refl}
use mathlib.Core.Bool.{Bool, ◌&&◌}
use mathlib.Core.List.{List}
use mathlib.Core.Option.{Option, none, some}
use Rattle.model.specs.Base.{same}
use Rattle.model.specs.Key.{bucket_index}
use Rattle.model.specs.Value.{Value}
use Rattle.model.specs.Node.{Node, PendingNode, Ending, EndedPending, evicted_in, ended_if, with_status, with_value}
use Rattle.model.specs.Result.{BucketInsertResult, is_inserted}
use Rattle.model.specs.Bucket.{Bucket, BucketSettings, empty_bucket, nodes, of_key, insert_endings, is_first, status_endings, insert, apply_pending, update_status, update_value, update_pending, remove}
use Rattle.model.specs.Table.{Settings}
use Rattle.model.specs.Sizes.{key_size}
use Rattle.model.specs.Fits.{All, Opt, Any, WellFormed, FitsValue, FitsNode, FitsDeadline, FitsPending, FitsRecord, FitsBucket}
use Rattle.laws.proofs.Tests.{cases}
use Rattle.laws.proofs.KeepEach.{EachRecord, insert_each, apply_pending_each, apply_pending_kept, ended_each, update_status_each, update_value_each, update_pending_each, remove_each}
use Rattle.laws.proofs.KeepFormed.{empty_formed, insert_formed, apply_pending_formed, update_status_formed, update_value_formed, update_pending_formed, remove_formed}
use Rattle.laws.proofs.All.{all_map}

-- the node's key is of bucket i
abbrev pub OfIndex : Settings → ℕ → Node → Type 0
OfIndex s i n = bucket_index s.local_key n.key ≡ some i

module _ (s : Settings) (i : ℕ) where
  pub empty_well_formed : WellFormed s i empty_bucket
  empty_well_formed = record { formed = empty_formed s.bucket.max_incoming; of_the_index = record { held = tt; pending = tt } }

  pub insert_well_formed : (now : ℕ) (n : Node) (b : Bucket) → bucket_index s.local_key n.key ≡ some i → WellFormed s i b
      → WellFormed s i (insert s.bucket now n b).1
  insert_well_formed now n b h w =
      record { formed = insert_formed s.bucket now n b w.formed; of_the_index = insert_each (OfIndex s i) Any s.bucket now n b h tt w.of_the_index }

  pub apply_pending_well_formed : (now : ℕ) (b : Bucket) → WellFormed s i b → WellFormed s i (apply_pending s.bucket now b).0
  apply_pending_well_formed now b w =
      record { formed = apply_pending_formed s.bucket now b w.formed; of_the_index = apply_pending_each (OfIndex s i) Any s.bucket now b w.of_the_index }

  pub update_status_well_formed : (k : ℕ) (u : Bool) (d : Option Bool) (b : Bucket) → WellFormed s i b → WellFormed s i (update_status s.bucket k u d b).1
  update_status_well_formed k u d b w =
      record { formed = update_status_formed s.bucket k u d b w.formed; of_the_index = update_status_each (OfIndex s i) Any s.bucket k u d b (λ n h. h) w.of_the_index }

  pub update_value_well_formed : (k : ℕ) (v : Value) (b : Bucket) → WellFormed s i b → WellFormed s i (update_value s.bucket k v b).1
  update_value_well_formed k v b w =
      record { formed = update_value_formed s.bucket k v b w.formed; of_the_index = update_value_each (OfIndex s i) Any s.bucket k v b (λ n h. h) w.of_the_index }

  pub update_pending_well_formed : (u d : Bool) (b : Bucket) → WellFormed s i b → WellFormed s i (update_pending u d b)
  update_pending_well_formed u d b w =
      record { formed = update_pending_formed s.bucket.max_incoming u d b w.formed; of_the_index = update_pending_each (OfIndex s i) Any u d b (λ n h. h) w.of_the_index }

  pub remove_well_formed : (now k : ℕ) (b : Bucket) → WellFormed s i b → WellFormed s i (remove s.bucket now k b).1
  remove_well_formed now k b w =
      record { formed = remove_formed s.bucket now k b w.formed; of_the_index = remove_each (OfIndex s i) Any s.bucket now k b w.of_the_index }

pub with_status_fits : (u : Bool) (d : Option Bool) (n : Node) → FitsNode n → FitsNode (with_status u d n)
with_status_fits u d n h = record { key = h.key; value = h.value }

pub with_value_fits : (v : Value) → FitsValue v → (n : Node) → FitsNode n → FitsNode (with_value v n)
with_value_fits v f n h = record { key = h.key; value = f }

pub empty_fits : FitsBucket empty_bucket
empty_fits = record { held = tt; pending = tt }

abbrev KeyFits : ℕ → Type 0
KeyFits k = k < 256 ^ key_size

each_fits : (rs : List EndedPending) → EachRecord FitsNode KeyFits rs → All FitsRecord rs
each_fits rs h = all_map (λ (r : EndedPending). KeyFits r.key × Opt FitsNode (evicted_in r.ending)) FitsRecord (λ r h. record { key = h.0; evicted = h.1 }) rs h

pub records_fit : (s : BucketSettings) (now : ℕ) (b : Bucket) → FitsBucket b → All FitsRecord (apply_pending s now b).1
records_fit s now b f = each_fits (apply_pending s now b).1 (apply_pending_kept FitsNode FitsDeadline KeyFits (λ n h. h.key) s now b f).1

-- the records of a call's own step fit
ended_fit : (x : Ending) → evicted_in x ≡ none → (p : Option PendingNode) → Opt FitsPending p → All FitsRecord (ended_if x p)
ended_fit x e p f = each_fits (ended_if x p) (ended_each FitsNode FitsDeadline KeyFits (λ n h. h.key) x e p f)

pub status_endings_fit : (k : ℕ) (u : Bool) (b : Bucket) → FitsBucket b → All FitsRecord (status_endings k u b)
status_endings_fit k u b f =
    cases (All FitsRecord) (u && is_first k (nodes b)) (λ _. ended_fit Ending.FirstConfirmed refl b.pending f.pending) (λ _. tt)

of_key_fits : (k : ℕ) (p : Option PendingNode) → Opt FitsPending p → Opt FitsPending (of_key k p)
of_key_fits k none f = tt
of_key_fits k (some p) f = cases (Opt FitsPending) (same p.node.key k) (λ _. f) (λ _. tt)

pub insert_endings_fit : (n : Node) (b : Bucket) (r : BucketInsertResult) → FitsBucket b → All FitsRecord (insert_endings n b r)
insert_endings_fit n b r f =
    cases (All FitsRecord) (is_inserted r) (λ _. ended_fit Ending.Inserted refl (of_key n.key b.pending) (of_key_fits n.key b.pending f.pending)) (λ _. tt)
