-- The table, and what a call on one key does to the key's bucket (01, "kbucket.rs (871)" and "entry.rs (228)").
use Rattle.std.specs.Prelude.{ℕ, zero, suc, Bool, true, false, cond, not, ◌&&◌, List, [], ◌++◌}
use Rattle.std.proofs.Math.Option.{Option, none, some}
use Rattle.model.specs.Base.{same, at}
use Rattle.model.specs.Key.{bucket_index}
use Rattle.model.specs.Value.{Value, same_value}
use Rattle.model.specs.Node.{Node, PendingNode, EndedPending}
use Rattle.model.specs.Filter.{ip_filter_fails, max_nodes_per_subnet_table}
use Rattle.model.specs.Result.{FailureReason, BucketInsertResult, UpdateResult, InsertResult, is_failed}
use Rattle.model.specs.Bucket.{Bucket, BucketSettings, empty_bucket, nodes, get, holds, omit, insert, insert_endings, apply_pending, update_status, status_endings, update_value, remove}

pub record Settings : Type 0 where
  pub local_key : ℕ
  pub bucket : BucketSettings
  pub table_filter : Bool

-- queue: the records of ended pendings, oldest first
pub record Table : Type 0 where
  pub settings : Settings
  pub buckets : ℕ → Bucket
  pub queue : List EndedPending

abbrev pub num_buckets : ℕ
num_buckets = 256

-- 01, Queue: 64 records
abbrev pub max_records : ℕ
max_records = 64

abbrev pub empty_table : Settings → Table
empty_table s = record { settings = s; buckets = λ i. empty_bucket; queue = [] }

-- entry.rs: the kind of a key's entry, with its state and direction
pub data EntryKind : Type 0 where
  Present : (connected incoming : Bool) → EntryKind
  Pending : (connected incoming : Bool) → EntryKind
  Absent : EntryKind
  SelfEntry : EntryKind

-- What a call answers. Found is the number of entries that a listing writes; Read the number of nodes that it loads.
pub data Answer : Type 0 where
  Refused : (question : ℕ) → Answer
  New : Answer
  Update : UpdateResult → Answer
  InsertOrUpdate : InsertResult → Answer
  Insert : BucketInsertResult → Answer
  Remove : Bool → Answer
  Entry : EntryKind → Answer
  Found : ℕ → Answer
  TakeAppliedPending : Option EndedPending → Answer
  Read : ℕ → Answer

-- what a call does to the bucket of its key: its answer, the bucket, and the records that it adds
pub record Effect : Type 0 where
  pub answer : Answer
  pub bucket : Bucket
  pub records : List EndedPending

-- kbucket.rs: every call on a key but the entry actions applies a due pending first. 02, slip 4: g gives the records of the pending
-- that the call's own step ends.
abbrev pub after_applying : BucketSettings → ℕ → (g : Bucket → List EndedPending) → (Bucket → Answer × Bucket) → Bucket → Effect
after_applying s now g f b =
    let a = apply_pending s now b in
    let r = f a.0 in
    record { answer = r.0; bucket = r.1; records = a.1 ++ g a.0 }

-- 01, Entries: the later action applies no pending
abbrev pub as_stored : (g : Bucket → List EndedPending) → (Bucket → Answer × Bucket) → Bucket → Effect
as_stored g f b = let r = f b in record { answer = r.0; bucket = r.1; records = g b }

-- the call's own step ends no pending
abbrev pub no_endings : Bucket → List EndedPending
no_endings b = []

abbrev pub kind_if_pending : ℕ → Option PendingNode → EntryKind
kind_if_pending k none = EntryKind.Absent
kind_if_pending k (some p) =
    cond (same p.node.key k) (EntryKind.Pending p.node.connected p.node.incoming) EntryKind.Absent

abbrev pub kind_of_node : ℕ → Bucket → Option Node → EntryKind
kind_of_node k b none = kind_if_pending k b.pending
kind_of_node k b (some n) = EntryKind.Present n.connected n.incoming

-- 01, Entries: the kind and status of a key in its bucket
abbrev pub kind_of : ℕ → Bucket → EntryKind
kind_of k b = kind_of_node k b (get k b)

abbrev pub kind_in : Table → ℕ → Option ℕ → EntryKind
kind_in t k none = EntryKind.SelfEntry
kind_in t k (some i) = kind_of k (t.buckets i)

-- kbucket.rs, table_iter: the held nodes of the buckets below n, bucket by bucket
unfoldable pub held_nodes : ℕ → (ℕ → Bucket) → List Node
held_nodes zero bs = []
held_nodes (suc n) bs = held_nodes n bs ++ nodes (bs n)

abbrev pub is_duplicate : Value → Option Node → Bool
is_duplicate v none = false
is_duplicate v (some n) = same_value n.value v

-- the table filter is on and runs: it is skipped if the key is held with an equal value. i is the key's bucket.
abbrev pub filter_runs : Table → ℕ → ℕ → Value → Bool
filter_runs t i k v = t.settings.table_filter && not (is_duplicate v (get k (t.buckets i)))

-- 02, slip 3: the nodes that the table filter looks at for a value of key k: all that are held, but the key's own
abbrev pub other_nodes : (k : ℕ) → (ℕ → Bucket) → List Node
other_nodes k bs = omit k (held_nodes num_buckets bs)

-- 01, kbucket.rs: the table filter runs on the table as the call found it. 02, slip 3: the old value of the same key is not counted. i is the
-- key's bucket.
unfoldable pub fails_table_filter : Table → ℕ → ℕ → Value → Bool
fails_table_filter t i k v = filter_runs t i k v && ip_filter_fails max_nodes_per_subnet_table v (other_nodes k t.buckets)

-- kbucket.rs, update_node: what the value's step and the status's step answer together, in the order of the Rust's match. Never met: a
-- value's step that failed or promotes, and UpdatedPending of one step alone; the answers there are the Rust's.
abbrev pub both_updates : (value status : UpdateResult) → UpdateResult
both_updates v (UpdateResult.Failed r) = UpdateResult.Failed r
both_updates (UpdateResult.Failed r) UpdateResult.UpdatedAndPromoted = UpdateResult.Failed r
both_updates (UpdateResult.Failed r) UpdateResult.Updated = UpdateResult.Failed r
both_updates (UpdateResult.Failed r) UpdateResult.UpdatedPending = UpdateResult.Failed r
both_updates (UpdateResult.Failed r) UpdateResult.NotModified = UpdateResult.Failed r
both_updates UpdateResult.Updated UpdateResult.UpdatedAndPromoted = UpdateResult.UpdatedAndPromoted
both_updates UpdateResult.UpdatedAndPromoted UpdateResult.UpdatedAndPromoted = UpdateResult.UpdatedAndPromoted
both_updates UpdateResult.UpdatedPending UpdateResult.UpdatedAndPromoted = UpdateResult.UpdatedAndPromoted
both_updates UpdateResult.NotModified UpdateResult.UpdatedAndPromoted = UpdateResult.UpdatedAndPromoted
both_updates UpdateResult.UpdatedPending UpdateResult.Updated = UpdateResult.UpdatedPending
both_updates UpdateResult.UpdatedPending UpdateResult.UpdatedPending = UpdateResult.UpdatedPending
both_updates UpdateResult.UpdatedPending UpdateResult.NotModified = UpdateResult.UpdatedPending
both_updates UpdateResult.Updated UpdateResult.UpdatedPending = UpdateResult.UpdatedPending
both_updates UpdateResult.UpdatedAndPromoted UpdateResult.UpdatedPending = UpdateResult.UpdatedPending
both_updates UpdateResult.NotModified UpdateResult.UpdatedPending = UpdateResult.UpdatedPending
both_updates UpdateResult.NotModified UpdateResult.NotModified = UpdateResult.NotModified
both_updates UpdateResult.NotModified UpdateResult.Updated = UpdateResult.Updated
both_updates UpdateResult.Updated UpdateResult.Updated = UpdateResult.Updated
both_updates UpdateResult.Updated UpdateResult.NotModified = UpdateResult.Updated
both_updates UpdateResult.UpdatedAndPromoted UpdateResult.Updated = UpdateResult.Updated
both_updates UpdateResult.UpdatedAndPromoted UpdateResult.NotModified = UpdateResult.Updated

-- kbucket.rs, update_node: the status's step, where a state is given, after a value's step that did not fail
abbrev pub then_status : BucketSettings → ℕ → Option Bool → UpdateResult → Bucket → Answer × Bucket
then_status s k none v b = (Answer.Update v, b)
then_status s k (some u) v b = let r = update_status s k u none b in (Answer.Update (both_updates v r.0), r.1)

-- kbucket.rs, update_node; 01: on failure of the table filter a due pending is applied, then the key is taken out
abbrev pub update_node_in : BucketSettings → Bool → ℕ → ℕ → Value → Option Bool → Bucket → Answer × Bucket
update_node_in s fails now k v u b =
    cond fails (Answer.Update (UpdateResult.Failed FailureReason.TableFilter), (remove s now k b).1)
    (let r = update_value s k v b in cond (is_failed r.0) (Answer.Update r.0, r.1) (then_status s k u r.0 r.1))

abbrev pub given_status_endings : ℕ → Option Bool → Bucket → List EndedPending
given_status_endings k none b = []
given_status_endings k (some u) b = status_endings k u b

-- 02, slip 4: of update_node's steps the status's step may end the pending
abbrev pub update_node_endings : BucketSettings → Bool → ℕ → Value → Option Bool → Bucket → List EndedPending
update_node_endings s fails k v u b =
    cond fails [] (let r = update_value s k v b in cond (is_failed r.0) [] (given_status_endings k u r.1))

-- kbucket.rs, insert_or_update on a held key: what the value's step and the status's step answer together
abbrev pub insert_updates : (value status : UpdateResult) → InsertResult
insert_updates UpdateResult.Updated UpdateResult.Updated = InsertResult.Updated false
insert_updates UpdateResult.Updated UpdateResult.UpdatedAndPromoted = InsertResult.Updated true
insert_updates UpdateResult.Updated UpdateResult.NotModified = InsertResult.ValueUpdated
insert_updates UpdateResult.NotModified UpdateResult.Updated = InsertResult.StatusUpdated false
insert_updates UpdateResult.NotModified UpdateResult.UpdatedAndPromoted = InsertResult.StatusUpdated true
insert_updates UpdateResult.NotModified UpdateResult.NotModified = InsertResult.Updated false
insert_updates (UpdateResult.Failed r) status = InsertResult.Failed r
-- never met: on a held key neither step answers UpdatedPending, a failed status step is answered before, a value's step does not promote;
-- of a failed value's step the Rust's arm for UpdatedPending comes first
insert_updates UpdateResult.Updated UpdateResult.UpdatedPending = InsertResult.ValueUpdated
insert_updates UpdateResult.NotModified UpdateResult.UpdatedPending = InsertResult.UpdatedPending
insert_updates UpdateResult.UpdatedPending status = InsertResult.UpdatedPending
insert_updates UpdateResult.Updated (UpdateResult.Failed r) = InsertResult.Failed r
insert_updates UpdateResult.NotModified (UpdateResult.Failed r) = InsertResult.Failed r
insert_updates UpdateResult.UpdatedAndPromoted status = InsertResult.UpdatedPending

-- kbucket.rs, insert_or_update on a key that is not held
abbrev pub inserts : BucketInsertResult → InsertResult
inserts BucketInsertResult.Inserted = InsertResult.Inserted
inserts (BucketInsertResult.Pending d) = InsertResult.Pending d
inserts BucketInsertResult.FailedFilter = InsertResult.Failed FailureReason.BucketFilter
inserts BucketInsertResult.TooManyIncoming = InsertResult.Failed FailureReason.TooManyIncoming
inserts BucketInsertResult.Full = InsertResult.Failed FailureReason.BucketFull
-- never met: the key is not held
inserts BucketInsertResult.NodeExists = InsertResult.Failed FailureReason.KeyNonExistent

-- 01, kbucket.rs: every failed status step is reported as TooManyIncoming
abbrev pub then_value : BucketSettings → ℕ → Value → UpdateResult → Bucket → Answer × Bucket
then_value s k v status b =
    cond (is_failed status) (Answer.InsertOrUpdate (InsertResult.Failed FailureReason.TooManyIncoming), b)
    (let r = update_value s k v b in (Answer.InsertOrUpdate (insert_updates r.0 status), r.1))

-- kbucket.rs, insert_or_update; 01: on a key that is only pending it tries an insert
abbrev pub insert_or_update_in : BucketSettings → Bool → ℕ → Node → Bucket → Answer × Bucket
insert_or_update_in s fails now n b =
    cond fails (Answer.InsertOrUpdate (InsertResult.Failed FailureReason.TableFilter), (remove s now n.key b).1)
    (cond (holds n.key b)
    (let r = update_status s n.key n.connected (some n.incoming) b in then_value s n.key n.value r.0 r.1)
    (let r = insert s now n b in (Answer.InsertOrUpdate (inserts r.0), r.1)))

-- 02, slip 4: of insert_or_update's steps the status's step, on a held key, or the insert may end the pending
abbrev pub insert_or_update_endings : BucketSettings → Bool → ℕ → Node → Bucket → List EndedPending
insert_or_update_endings s fails now n b =
    cond fails [] (cond (holds n.key b) (status_endings n.key n.connected b) (insert_endings n b (insert s now n b).0))

-- the table with another queue
abbrev pub with_queue : List EndedPending → Table → Table
with_queue q t = record { settings = t.settings; buckets = t.buckets; queue = q }

-- the table with another bucket i and further records
abbrev pub write : Table → ℕ → Bucket → List EndedPending → Table
write t i b rs = record { settings = t.settings; buckets = at i b t.buckets; queue = t.queue ++ rs }

abbrev pub index_in : Table → ℕ → Option ℕ
index_in t k = bucket_index t.settings.local_key k
