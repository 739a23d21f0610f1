-- A bucket and its rules (01, "bucket.rs (722)").
use Rattle.std.specs.Prelude.{ℕ, ◌+◌, Bool, true, false, cond, not, ◌&&◌, List, [], ◌∷◌, ◌++◌, length, leb}
use Rattle.std.proofs.Math.Option.{Option, none, some}
use Rattle.model.specs.Base.{same, select, is_some}
use Rattle.model.specs.Value.{Value, same_value}
use Rattle.model.specs.Node.{Node, PendingNode, Ending, EndedPending, ended, ended_if, connected_incoming, with_status, with_value, same_status, promotes}
use Rattle.model.specs.Filter.{ip_filter_fails, max_nodes_per_subnet_bucket}
use Rattle.model.specs.Result.{FailureReason, BucketInsertResult, UpdateResult, is_inserted}

-- each list has its oldest placement first; the places are the disconnected nodes, then the connected ones
pub record Bucket : Type 0 where
  pub disconnected : List Node
  pub connected : List Node
  pub pending : Option PendingNode

pub record BucketSettings : Type 0 where
  pub pending_timeout : ℕ
  pub max_incoming : ℕ
  pub filter : Bool

-- 01, Bucket: sixteen places
abbrev pub max_nodes_per_bucket : ℕ
max_nodes_per_bucket = 16

abbrev pub empty_bucket : Bucket
empty_bucket = record { disconnected = []; connected = []; pending = none }

-- the held nodes, place by place
abbrev pub nodes : Bucket → List Node
nodes b = b.disconnected ++ b.connected

-- 01, row 7: with no connected node there is no first connected place
abbrev pub first_connected : ℕ → List Node → Option ℕ
first_connected pos [] = none
first_connected pos (n ∷ ns) = some pos

unfoldable pub first_connected_pos : Bucket → Option ℕ
first_connected_pos b = first_connected (length b.disconnected) b.connected

abbrev pub num_entries : Bucket → ℕ
num_entries b = length b.disconnected + length b.connected

unfoldable pub is_full : Bucket → Bool
is_full b = leb max_nodes_per_bucket (num_entries b)

abbrev pub find : ℕ → List Node → Option Node
find k [] = none
find k (n ∷ ns) = cond (same n.key k) (some n) (find k ns)

abbrev pub or_else : Option Node → Option Node → Option Node
or_else none o = o
or_else (some n) o = some n

-- the held node of a key
abbrev pub get : ℕ → Bucket → Option Node
get k b = or_else (find k b.disconnected) (find k b.connected)

abbrev pub holds : ℕ → Bucket → Bool
holds k b = is_some (get k b)

-- the bucket filter counts the held values, never the pending's
unfoldable pub fails_bucket_filter : BucketSettings → Value → Bucket → Bool
fails_bucket_filter s v b = s.filter && ip_filter_fails max_nodes_per_subnet_bucket v (nodes b)

abbrev pub incoming_nodes : List Node → List Node
incoming_nodes ns = select connected_incoming ns

-- a connected incoming node, with max_incoming such nodes held
unfoldable pub is_max_incoming : BucketSettings → Node → Bucket → Bool
is_max_incoming s n b = connected_incoming n && leb s.max_incoming (length (incoming_nodes (nodes b)))

abbrev pub with_pending : Option PendingNode → Bucket → Bucket
with_pending p b = record { disconnected = b.disconnected; connected = b.connected; pending = p }

-- the pending, unless it is of this key
abbrev pub cleared : ℕ → Option PendingNode → Option PendingNode
cleared k none = none
cleared k (some p) = cond (same p.node.key k) none (some p)

abbrev pub only : Bool → Node → List Node
only true n = n ∷ []
only false n = []

-- 01, Insert: connected at the end, disconnected just before the first connected
abbrev pub put : Node → Bucket → Bucket
put n b =
    record { disconnected = b.disconnected ++ only (not n.connected) n; connected = b.connected ++ only n.connected n; pending = b.pending }

-- 01, Insert: Inserted clears a pending of the same key
abbrev pub placed : Node → Bucket → Bucket
placed n b = put n (with_pending (cleared n.key b.pending) b)

-- 01, Remove: closes the gap
abbrev pub omit : ℕ → List Node → List Node
omit k [] = []
omit k (n ∷ ns) = cond (same n.key k) (omit k ns) (n ∷ omit k ns)

abbrev pub take_out : ℕ → Bucket → Bucket
take_out k b = record { disconnected = omit k b.disconnected; connected = omit k b.connected; pending = b.pending }

-- 01, Insert: 16 held and disconnected, Full; 16 held and connected, Full if all are connected or a pending exists, else Pending
abbrev pub insert_full : BucketSettings → ℕ → Node → Bucket → Bool → List Node → Option PendingNode → BucketInsertResult × Bucket
insert_full s now n b false ds p = (BucketInsertResult.Full, b)
insert_full s now n b true [] p = (BucketInsertResult.Full, b)
insert_full s now n b true (d ∷ ds) none =
    (BucketInsertResult.Pending d.key, with_pending (some (record { node = n; deadline = now + s.pending_timeout })) b)
insert_full s now n b true (d ∷ ds) (some p) = (BucketInsertResult.Full, b)

-- 01, Insert: the first match
unfoldable pub insert : BucketSettings → ℕ → Node → Bucket → BucketInsertResult × Bucket
insert s now n b =
    cond (holds n.key b) (BucketInsertResult.NodeExists, b)
    (cond (fails_bucket_filter s n.value b) (BucketInsertResult.FailedFilter, b)
    (cond (is_max_incoming s n b) (BucketInsertResult.TooManyIncoming, b)
    (cond (is_full b) (insert_full s now n b n.connected b.disconnected b.pending)
    (BucketInsertResult.Inserted, placed n b))))

-- the pending, if it is of this key
abbrev pub of_key : ℕ → Option PendingNode → Option PendingNode
of_key k none = none
of_key k (some p) = cond (same p.node.key k) (some p) none

-- 02, slip 4: an insert that answers Inserted ends the pending of its key. b is the bucket before it.
abbrev pub insert_endings : Node → Bucket → BucketInsertResult → List EndedPending
insert_endings n b r = cond (is_inserted r) (ended_if Ending.Inserted (of_key n.key b.pending)) []

-- 02, slip 4: the ending of a pending that was inserted with free places
abbrev pub insert_ending : BucketInsertResult → Ending
insert_ending BucketInsertResult.Inserted = Ending.Placed none
insert_ending BucketInsertResult.FailedFilter = Ending.BucketFilter
insert_ending BucketInsertResult.TooManyIncoming = Ending.TooManyIncoming
-- never met: there is a free place, and a pending is not held
insert_ending (BucketInsertResult.Pending k) = Ending.FirstConnected
insert_ending BucketInsertResult.Full = Ending.FirstConnected
insert_ending BucketInsertResult.NodeExists = Ending.Inserted

-- 01, Apply pending: with free places it is an insert; a failure drops it. b is the bucket with the pending taken out.
abbrev pub apply_free : BucketSettings → ℕ → Node → Bucket → Bucket × List EndedPending
apply_free s now n b =
    let r = insert s now n b in
    (cond (is_inserted r.0) r.1 b, ended n (insert_ending r.0))

-- 01, Apply pending: with 16 held, dropped if place 0 is connected, the bucket filter fails, or it is connected incoming at the
-- maximum; otherwise place 0 is evicted and the pending placed by its state. 02, slip 4: the record names the first that holds.
abbrev pub apply_full : BucketSettings → Node → Bucket → List Node → Bucket × List EndedPending
apply_full s n b [] = (b, ended n Ending.FirstConnected)
apply_full s n b (d ∷ ds) =
    cond (fails_bucket_filter s n.value b) (b, ended n Ending.BucketFilter)
    (cond (is_max_incoming s n b) (b, ended n Ending.TooManyIncoming)
    (put n (record { disconnected = ds; connected = b.connected; pending = none }), ended n (Ending.Placed (some d))))

unfoldable pub apply_due : BucketSettings → ℕ → Node → Bucket → Bucket × List EndedPending
apply_due s now n b = cond (is_full b) (apply_full s n b b.disconnected) (apply_free s now n b)

abbrev pub apply_if_due : BucketSettings → ℕ → Bucket → Option PendingNode → Bucket × List EndedPending
apply_if_due s now b none = (b, [])
apply_if_due s now b (some p) = cond (leb p.deadline now) (apply_due s now p.node (with_pending none b)) (b, [])

-- 01, Apply pending: when deadline ≤ now; 02, slip 4: whatever its ending, it leaves a record
unfoldable pub apply_pending : BucketSettings → ℕ → Bucket → Bucket × List EndedPending
apply_pending s now b = apply_if_due s now b b.pending

-- 01, update_status: it inserts the node again. The bucket has a free place then and does not hold the key, so only the two tests
-- stand before the placing (crates/laws, Unreachable: it is `insert`).
unfoldable pub reinsert : BucketSettings → Node → Bucket → Option FailureReason × Bucket
reinsert s n b =
    cond (fails_bucket_filter s n.value b) (some FailureReason.BucketFilter, b)
    (cond (is_max_incoming s n b) (some FailureReason.TooManyIncoming, b) (none, placed n b))

-- 01, update_status: an unchanged status answers NotModified. m: the node as it was; n: as it is
abbrev pub status_result : Node → Node → Option FailureReason → UpdateResult
status_result m n (some r) = UpdateResult.Failed r
status_result m n none =
    cond (same_status m n) UpdateResult.NotModified (cond (promotes m n) UpdateResult.UpdatedAndPromoted UpdateResult.Updated)

-- the key's node stands at place 0
abbrev pub is_first : ℕ → List Node → Bool
is_first k [] = false
is_first k (n ∷ ns) = same n.key k

-- 01, update_status: takes the node out; place 0 given Connected clears the pending, even when the insert fails
abbrev pub taken_out : ℕ → Bool → Bucket → Bucket
taken_out k u b = with_pending (cond (u && is_first k (nodes b)) none b.pending) (take_out k b)

-- 02, slip 4: place 0 given Connected ends the pending, even when the insert fails or the status was the same
abbrev pub status_endings : ℕ → Bool → Bucket → List EndedPending
status_endings k u b = cond (u && is_first k (nodes b)) (ended_if Ending.FirstConfirmed b.pending) []

-- bucket.rs, update_status and update_value on a key that is not held: a pending of the key is changed
abbrev pub update_if_pending : ℕ → (Node → Node) → Bucket → Option PendingNode → UpdateResult × Bucket
update_if_pending k f b none = (UpdateResult.Failed FailureReason.KeyNonExistent, b)
update_if_pending k f b (some p) =
    cond (same p.node.key k)
    (UpdateResult.UpdatedPending, with_pending (some (record { node = f p.node; deadline = p.deadline })) b)
    (UpdateResult.Failed FailureReason.KeyNonExistent, b)

-- 01, update_status: changes the node and inserts it; a failed insert leaves it out
abbrev pub update_status_of : BucketSettings → ℕ → Bool → Option Bool → Bucket → Option Node → UpdateResult × Bucket
update_status_of s k u d b none = update_if_pending k (with_status u d) b b.pending
update_status_of s k u d b (some n) =
    let r = reinsert s (with_status u d n) (taken_out k u b) in
    (status_result n (with_status u d n) r.0, r.1)

unfoldable pub update_status : BucketSettings → ℕ → Bool → Option Bool → Bucket → UpdateResult × Bucket
update_status s k u d b = update_status_of s k u d b (get k b)

-- the node of the key with another value, in its place
abbrev pub revalue : ℕ → Value → List Node → List Node
revalue k v [] = []
revalue k v (n ∷ ns) = cond (same n.key k) (with_value v n) n ∷ revalue k v ns

-- 01, update_value: keeps the place; an equal value is NotModified; a failed filter takes the node out; on a pending no filter runs
abbrev pub update_value_of : BucketSettings → ℕ → Value → Bucket → Option Node → UpdateResult × Bucket
update_value_of s k v b none = update_if_pending k (with_value v) b b.pending
update_value_of s k v b (some n) =
    cond (same_value n.value v) (UpdateResult.NotModified, b)
    (cond (fails_bucket_filter s v (take_out k b)) (UpdateResult.Failed FailureReason.BucketFilter, take_out k b)
    (UpdateResult.Updated, record { disconnected = revalue k v b.disconnected; connected = revalue k v b.connected; pending = b.pending }))

unfoldable pub update_value : BucketSettings → ℕ → Value → Bucket → UpdateResult × Bucket
update_value s k v b = update_value_of s k v b (get k b)

-- 01, Remove: closes the gap, then applies a due pending and throws the record away; in a table call nothing is due by then
unfoldable pub remove : BucketSettings → ℕ → ℕ → Bucket → Bool × Bucket
remove s now k b = cond (holds k b) (true, (apply_pending s now (take_out k b)).0) (false, b)

abbrev pub pending_with_status : Bool → Bool → Option PendingNode → Option PendingNode
pending_with_status u d none = none
pending_with_status u d (some p) = some (record { node = with_status u (some d) p.node; deadline = p.deadline })

-- 01, entry.rs, Pending: sets the status. With no pending nothing changes.
unfoldable pub update_pending : Bool → Bool → Bucket → Bucket
update_pending u d b = with_pending (pending_with_status u d b.pending) b
