-- Why the peer is missing (02, slip 1): what a call that inserts, updates or removes a peer would answer, the reason and the keys
-- behind it, and the line that says so. A query: it is asked what the call would be asked, and no storage is written.
use Rattle.std.specs.Prelude.{ℕ, ◌+◌, ◌/◌, ◌%◌, Bool, true, false, cond, List, [], ◌∷◌, ◌++◌, map, length, take, leb, ltb}
use Rattle.std.proofs.Math.Option.{Option, none, some}
use Rattle.model.specs.Base.{same, joined}
use Rattle.model.specs.Bytes.{number, bytes}
use Rattle.model.specs.Value.{Value, same_value}
use Rattle.model.specs.Node.{Node, PendingNode, with_status}
use Rattle.model.specs.Filter.{counted, max_nodes_per_subnet_table, max_nodes_per_subnet_bucket}
use Rattle.model.specs.Result.{FailureReason, BucketInsertResult, UpdateResult, InsertResult, is_failed}
use Rattle.model.specs.Bucket.{Bucket, BucketSettings, nodes, get, holds, is_full, fails_bucket_filter, incoming_nodes, is_max_incoming, take_out, taken_out, update_status, update_value}
use Rattle.model.specs.Table.{Table, Answer, other_nodes, fails_table_filter, index_in}
use Rattle.model.specs.Sizes.{key_size}
use Rattle.model.specs.Call.{Call, KeyCall, is_one, optional, value_of}
use Rattle.model.specs.Listing.{applied}
use Rattle.model.specs.Question.{first_failed, with_room}
use Rattle.model.specs.Step.{act, node_of}
use Rattle.model.specs.Layout.{table_of}
use Rattle.model.specs.StepBytes.{Replied, all_questions, tell_unless_refused}

-- 02: the answer in the Rust's variant names, outer first, with any key or flag; for remove true or false. A variant that
-- two calls have is told alike of both, but for Updated: UpdatedBoth is that of insert_or_update, with its flag.
pub data Told : Type 0 where
  Inserted : Told
  Pending : (disconnected : ℕ) → Told
  StatusUpdated : (promotedToConnected : Bool) → Told
  ValueUpdated : Told
  UpdatedBoth : (promotedToConnected : Bool) → Told
  Updated : Told
  UpdatedAndPromoted : Told
  UpdatedPending : Told
  NotModified : Told
  Failed : FailureReason → Told
  FailedFilter : Told
  TooManyIncoming : Told
  Full : Told
  NodeExists : Told
  Removed : Bool → Told

abbrev pub told_update : UpdateResult → Told
told_update UpdateResult.Updated = Told.Updated
told_update UpdateResult.UpdatedAndPromoted = Told.UpdatedAndPromoted
told_update UpdateResult.UpdatedPending = Told.UpdatedPending
told_update (UpdateResult.Failed r) = Told.Failed r
told_update UpdateResult.NotModified = Told.NotModified

abbrev pub told_insert_or_update : InsertResult → Told
told_insert_or_update InsertResult.Inserted = Told.Inserted
told_insert_or_update (InsertResult.Pending k) = Told.Pending k
told_insert_or_update (InsertResult.StatusUpdated p) = Told.StatusUpdated p
told_insert_or_update InsertResult.ValueUpdated = Told.ValueUpdated
told_insert_or_update (InsertResult.Updated p) = Told.UpdatedBoth p
told_insert_or_update InsertResult.UpdatedPending = Told.UpdatedPending
told_insert_or_update (InsertResult.Failed r) = Told.Failed r

abbrev pub told_insert : BucketInsertResult → Told
told_insert BucketInsertResult.Inserted = Told.Inserted
told_insert (BucketInsertResult.Pending k) = Told.Pending k
told_insert BucketInsertResult.FailedFilter = Told.FailedFilter
told_insert BucketInsertResult.TooManyIncoming = Told.TooManyIncoming
told_insert BucketInsertResult.Full = Told.Full
told_insert BucketInsertResult.NodeExists = Told.NodeExists

-- what is told of an answer
abbrev pub told : Answer → Told
told (Answer.Update r) = told_update r
told (Answer.InsertOrUpdate r) = told_insert_or_update r
told (Answer.Insert r) = told_insert r
told (Answer.Remove r) = Told.Removed r
-- never read: no call that is explained answers so
told (Answer.Refused q) = Told.NotModified
told Answer.New = Told.NotModified
told (Answer.Entry e) = Told.NotModified
told (Answer.Found n) = Told.NotModified
told (Answer.TakeAppliedPending r) = Told.NotModified
told (Answer.Read n) = Told.NotModified

-- 02: the true reason and the keys behind it, in bucket and place order
pub data Reason : Type 0 where
  None : Reason
  TableFilter : (keys : List ℕ) → Reason
  BucketFilter : (keys : List ℕ) → Reason
  IncomingLimit : (keys : List ℕ) → Reason
  NewcomerDisconnected : Reason
  AllConnected : Reason
  Pending : (key : ℕ) → Reason
  NoSuchKey : Reason
  LocalKey : Reason

abbrev pub keys_of : List Node → List ℕ
keys_of ns = map (λ (n : Node). n.key) ns

-- 02: for a filter the first counted nodes, as many as its limit
unfoldable pub filter_keys : ℕ → Value → List Node → List ℕ
filter_keys limit v ns = keys_of (take limit (counted v ns))

-- 02, slip 3: the key's own node is not counted
abbrev pub table_filter_reason : (key : ℕ) → Value → (ℕ → Bucket) → Reason
table_filter_reason k v bs = Reason.TableFilter (filter_keys max_nodes_per_subnet_table v (other_nodes k bs))

abbrev pub bucket_filter_reason : Value → Bucket → Reason
bucket_filter_reason v b = Reason.BucketFilter (filter_keys max_nodes_per_subnet_bucket v (nodes b))

-- 02: for the incoming limit those connected incoming
abbrev pub incoming_limit_reason : Bucket → Reason
incoming_limit_reason b = Reason.IncomingLimit (keys_of (incoming_nodes (nodes b)))

-- 02: for Full the fact that the newcomer is disconnected, else that all are connected, else the pending. With none of them the answer
-- is Pending.
abbrev pub full_reason : (connected : Bool) (disconnected : List Node) → Option PendingNode → Reason
full_reason false ds p = Reason.NewcomerDisconnected
full_reason true [] p = Reason.AllConnected
full_reason true (d ∷ ds) (some p) = Reason.Pending p.node.key
full_reason true (d ∷ ds) none = Reason.None

-- 01, Insert, of a key that is not held: the first test that fails
unfoldable pub insert_reason : BucketSettings → Node → Bucket → Reason
insert_reason s n b =
    cond (fails_bucket_filter s n.value b) (bucket_filter_reason n.value b)
    (cond (is_max_incoming s n b) (incoming_limit_reason b) (cond (is_full b) (full_reason n.connected b.disconnected b.pending) Reason.None))

-- 01, update_status: the insert of the node that was taken out
unfoldable pub reinsert_reason : BucketSettings → Node → Bucket → Reason
reinsert_reason s n b =
    cond (fails_bucket_filter s n.value b) (bucket_filter_reason n.value b) (cond (is_max_incoming s n b) (incoming_limit_reason b) Reason.None)

-- a key that is not held: none where it is pending, and is updated there
abbrev pub if_pending_reason : ℕ → Option PendingNode → Reason
if_pending_reason k none = Reason.NoSuchKey
if_pending_reason k (some p) = cond (same p.node.key k) Reason.None Reason.NoSuchKey

-- 01, update_status
abbrev pub status_reason_of : BucketSettings → ℕ → Bool → Option Bool → Bucket → Option Node → Reason
status_reason_of s k u d b none = if_pending_reason k b.pending
status_reason_of s k u d b (some n) = reinsert_reason s (with_status u d n) (taken_out k u b)

unfoldable pub status_reason : BucketSettings → ℕ → Bool → Option Bool → Bucket → Reason
status_reason s k u d b = status_reason_of s k u d b (get k b)

-- 01, update_value: the filter does not see the node itself, and is not asked about an equal value
abbrev pub value_reason_of : BucketSettings → ℕ → Value → Bucket → Option Node → Reason
value_reason_of s k v b none = if_pending_reason k b.pending
value_reason_of s k v b (some n) =
    cond (same_value n.value v) Reason.None (cond (fails_bucket_filter s v (take_out k b)) (bucket_filter_reason v (take_out k b)) Reason.None)

unfoldable pub value_reason : BucketSettings → ℕ → Value → Bucket → Reason
value_reason s k v b = value_reason_of s k v b (get k b)

-- kbucket.rs, update_node: the status's step, where a state is given
abbrev pub then_status_reason : BucketSettings → ℕ → Option Bool → Bucket → Reason
then_status_reason s k none b = Reason.None
then_status_reason s k (some u) b = status_reason s k u none b

-- kbucket.rs, update_node behind the table filter: a value's step that failed, else the status's step
unfoldable pub update_node_reason : BucketSettings → ℕ → Value → Option Bool → Bucket → Reason
update_node_reason s k v u b =
    let r = update_value s k v b in
    cond (is_failed r.0) (value_reason s k v b) (then_status_reason s k u r.1)

-- kbucket.rs, insert_or_update behind the table filter. 02: a status step that failed the bucket filter is named so, though the answer says
-- TooManyIncoming; it looks at the old value.
unfoldable pub insert_or_update_reason : BucketSettings → Node → Bucket → Reason
insert_or_update_reason s n b =
    let r = update_status s n.key n.connected (some n.incoming) b in
    cond (holds n.key b)
    (cond (is_failed r.0) (status_reason s n.key n.connected (some n.incoming) b) (value_reason s n.key n.value r.1))
    (insert_reason s n b)

-- 02: the answer false no such key
unfoldable pub remove_reason : ℕ → Bucket → Reason
remove_reason k b = cond (holds k b) Reason.None Reason.NoSuchKey

-- the reason of a call in its key's bucket, of index i. The tests look at the bucket after a due pending was applied, for an entry action
-- as stored; the table filter looks at the table as the call found it.
abbrev pub bucket_reason : KeyCall → (key : List ℕ) → Table → ℕ → Reason
bucket_reason (KeyCall.update_node_status st dr now) k t i = status_reason t.settings.bucket (number k) (is_one st) (optional dr) (applied now t i)
bucket_reason (KeyCall.update_node v st now) k t i =
    cond (fails_table_filter t i (number k) (value_of v)) (table_filter_reason (number k) (value_of v) t.buckets)
    (update_node_reason t.settings.bucket (number k) (value_of v) (optional st) (applied now t i))
bucket_reason (KeyCall.insert_or_update v st dr now hs) k t i =
    cond (fails_table_filter t i (number k) (value_of v)) (table_filter_reason (number k) (value_of v) t.buckets)
    (insert_or_update_reason t.settings.bucket (node_of k v st dr) (applied now t i))
bucket_reason (KeyCall.remove now) k t i = remove_reason (number k) (applied now t i)
bucket_reason (KeyCall.present_update st dr) k t i = status_reason t.settings.bucket (number k) (is_one st) (optional dr) (t.buckets i)
bucket_reason (KeyCall.pending_update st dr) k t i = Reason.None
bucket_reason (KeyCall.absent_insert v st dr now hs) k t i = insert_reason t.settings.bucket (node_of k v st dr) (t.buckets i)
-- never read: `entry` is not explained
bucket_reason (KeyCall.entry now) k t i = Reason.None

-- 02: the local key has the reason local key
abbrev pub key_reason : (ℕ → Reason) → Option ℕ → Reason
key_reason f none = Reason.LocalKey
key_reason f (some i) = f i

unfoldable pub reason : KeyCall → (key : List ℕ) → Table → Reason
reason c k t = key_reason (bucket_reason c k t) (index_in t (number k))

pub record Explanation : Type 0 where
  pub told : Told
  pub reason : Reason

-- the explanation of a call, before it runs
unfoldable pub explanation : KeyCall → (key : List ℕ) → Table → Explanation
explanation c k t = record { told = told (act (Call.on_key k c) t).answer; reason = reason c k t }

-- The line, in ASCII.

abbrev pub space : ℕ
space = 32

abbrev pub line_feed : ℕ
line_feed = 10

-- a small hexadecimal digit
abbrev pub digit : ℕ → ℕ
digit n = cond (ltb n 10) (48 + n) (87 + n)

-- a byte as two digits
abbrev pub digits : ℕ → List ℕ
digits b = digit (b / 16) ∷ digit (b % 16) ∷ []

-- 02: keys as 64 small hexadecimal digits
unfoldable pub key_text : ℕ → List ℕ
key_text k = joined digits (bytes key_size k)

-- bucket.rs, FailureReason
abbrev pub failure_text : FailureReason → List ℕ
-- TooManyIncoming
failure_text FailureReason.TooManyIncoming = 84 ∷ 111 ∷ 111 ∷ 77 ∷ 97 ∷ 110 ∷ 121 ∷ 73 ∷ 110 ∷ 99 ∷ 111 ∷ 109 ∷ 105 ∷ 110 ∷ 103 ∷ []
-- BucketFilter
failure_text FailureReason.BucketFilter = 66 ∷ 117 ∷ 99 ∷ 107 ∷ 101 ∷ 116 ∷ 70 ∷ 105 ∷ 108 ∷ 116 ∷ 101 ∷ 114 ∷ []
-- TableFilter
failure_text FailureReason.TableFilter = 84 ∷ 97 ∷ 98 ∷ 108 ∷ 101 ∷ 70 ∷ 105 ∷ 108 ∷ 116 ∷ 101 ∷ 114 ∷ []
-- KeyNonExistent
failure_text FailureReason.KeyNonExistent = 75 ∷ 101 ∷ 121 ∷ 78 ∷ 111 ∷ 110 ∷ 69 ∷ 120 ∷ 105 ∷ 115 ∷ 116 ∷ 101 ∷ 110 ∷ 116 ∷ []
-- BucketFull
failure_text FailureReason.BucketFull = 66 ∷ 117 ∷ 99 ∷ 107 ∷ 101 ∷ 116 ∷ 70 ∷ 117 ∷ 108 ∷ 108 ∷ []
-- InvalidSelfUpdate
failure_text FailureReason.InvalidSelfUpdate = 73 ∷ 110 ∷ 118 ∷ 97 ∷ 108 ∷ 105 ∷ 100 ∷ 83 ∷ 101 ∷ 108 ∷ 102 ∷ 85 ∷ 112 ∷ 100 ∷ 97 ∷ 116 ∷ 101 ∷ []

abbrev pub flag_text : Bool → List ℕ
-- true
flag_text true = 116 ∷ 114 ∷ 117 ∷ 101 ∷ []
-- false
flag_text false = 102 ∷ 97 ∷ 108 ∷ 115 ∷ 101 ∷ []

-- the answer's words, with one space between them
abbrev pub told_text : Told → List ℕ
-- Inserted
told_text Told.Inserted = 73 ∷ 110 ∷ 115 ∷ 101 ∷ 114 ∷ 116 ∷ 101 ∷ 100 ∷ []
-- Pending, and the key
told_text (Told.Pending k) = 80 ∷ 101 ∷ 110 ∷ 100 ∷ 105 ∷ 110 ∷ 103 ∷ space ∷ key_text k
-- StatusUpdated, and the flag
told_text (Told.StatusUpdated p) = 83 ∷ 116 ∷ 97 ∷ 116 ∷ 117 ∷ 115 ∷ 85 ∷ 112 ∷ 100 ∷ 97 ∷ 116 ∷ 101 ∷ 100 ∷ space ∷ flag_text p
-- ValueUpdated
told_text Told.ValueUpdated = 86 ∷ 97 ∷ 108 ∷ 117 ∷ 101 ∷ 85 ∷ 112 ∷ 100 ∷ 97 ∷ 116 ∷ 101 ∷ 100 ∷ []
-- Updated, and the flag
told_text (Told.UpdatedBoth p) = 85 ∷ 112 ∷ 100 ∷ 97 ∷ 116 ∷ 101 ∷ 100 ∷ space ∷ flag_text p
-- Updated
told_text Told.Updated = 85 ∷ 112 ∷ 100 ∷ 97 ∷ 116 ∷ 101 ∷ 100 ∷ []
-- UpdatedAndPromoted
told_text Told.UpdatedAndPromoted = 85 ∷ 112 ∷ 100 ∷ 97 ∷ 116 ∷ 101 ∷ 100 ∷ 65 ∷ 110 ∷ 100 ∷ 80 ∷ 114 ∷ 111 ∷ 109 ∷ 111 ∷ 116 ∷ 101 ∷ 100 ∷ []
-- UpdatedPending
told_text Told.UpdatedPending = 85 ∷ 112 ∷ 100 ∷ 97 ∷ 116 ∷ 101 ∷ 100 ∷ 80 ∷ 101 ∷ 110 ∷ 100 ∷ 105 ∷ 110 ∷ 103 ∷ []
-- NotModified
told_text Told.NotModified = 78 ∷ 111 ∷ 116 ∷ 77 ∷ 111 ∷ 100 ∷ 105 ∷ 102 ∷ 105 ∷ 101 ∷ 100 ∷ []
-- Failed, and the failure's name
told_text (Told.Failed r) = 70 ∷ 97 ∷ 105 ∷ 108 ∷ 101 ∷ 100 ∷ space ∷ failure_text r
-- FailedFilter
told_text Told.FailedFilter = 70 ∷ 97 ∷ 105 ∷ 108 ∷ 101 ∷ 100 ∷ 70 ∷ 105 ∷ 108 ∷ 116 ∷ 101 ∷ 114 ∷ []
-- TooManyIncoming
told_text Told.TooManyIncoming = 84 ∷ 111 ∷ 111 ∷ 77 ∷ 97 ∷ 110 ∷ 121 ∷ 73 ∷ 110 ∷ 99 ∷ 111 ∷ 109 ∷ 105 ∷ 110 ∷ 103 ∷ []
-- Full
told_text Told.Full = 70 ∷ 117 ∷ 108 ∷ 108 ∷ []
-- NodeExists
told_text Told.NodeExists = 78 ∷ 111 ∷ 100 ∷ 101 ∷ 69 ∷ 120 ∷ 105 ∷ 115 ∷ 116 ∷ 115 ∷ []
told_text (Told.Removed r) = flag_text r

-- 02: each reason begins with its own fixed words
abbrev pub reason_text : Reason → List ℕ
-- none
reason_text Reason.None = 110 ∷ 111 ∷ 110 ∷ 101 ∷ []
-- table filter
reason_text (Reason.TableFilter ks) = 116 ∷ 97 ∷ 98 ∷ 108 ∷ 101 ∷ 32 ∷ 102 ∷ 105 ∷ 108 ∷ 116 ∷ 101 ∷ 114 ∷ []
-- bucket filter
reason_text (Reason.BucketFilter ks) = 98 ∷ 117 ∷ 99 ∷ 107 ∷ 101 ∷ 116 ∷ 32 ∷ 102 ∷ 105 ∷ 108 ∷ 116 ∷ 101 ∷ 114 ∷ []
-- incoming limit
reason_text (Reason.IncomingLimit ks) = 105 ∷ 110 ∷ 99 ∷ 111 ∷ 109 ∷ 105 ∷ 110 ∷ 103 ∷ 32 ∷ 108 ∷ 105 ∷ 109 ∷ 105 ∷ 116 ∷ []
-- newcomer disconnected
reason_text Reason.NewcomerDisconnected = 110 ∷ 101 ∷ 119 ∷ 99 ∷ 111 ∷ 109 ∷ 101 ∷ 114 ∷ 32 ∷ 100 ∷ 105 ∷ 115 ∷ 99 ∷ 111 ∷ 110 ∷ 110 ∷ 101 ∷ 99 ∷ 116 ∷ 101 ∷ 100 ∷ []
-- all connected
reason_text Reason.AllConnected = 97 ∷ 108 ∷ 108 ∷ 32 ∷ 99 ∷ 111 ∷ 110 ∷ 110 ∷ 101 ∷ 99 ∷ 116 ∷ 101 ∷ 100 ∷ []
-- pending
reason_text (Reason.Pending k) = 112 ∷ 101 ∷ 110 ∷ 100 ∷ 105 ∷ 110 ∷ 103 ∷ []
-- no such key
reason_text Reason.NoSuchKey = 110 ∷ 111 ∷ 32 ∷ 115 ∷ 117 ∷ 99 ∷ 104 ∷ 32 ∷ 107 ∷ 101 ∷ 121 ∷ []
-- local key
reason_text Reason.LocalKey = 108 ∷ 111 ∷ 99 ∷ 97 ∷ 108 ∷ 32 ∷ 107 ∷ 101 ∷ 121 ∷ []

abbrev pub reason_keys : Reason → List ℕ
reason_keys Reason.None = []
reason_keys (Reason.TableFilter ks) = ks
reason_keys (Reason.BucketFilter ks) = ks
reason_keys (Reason.IncomingLimit ks) = ks
reason_keys Reason.NewcomerDisconnected = []
reason_keys Reason.AllConnected = []
reason_keys (Reason.Pending k) = k ∷ []
reason_keys Reason.NoSuchKey = []
reason_keys Reason.LocalKey = []

-- keys, each with a space in front
unfoldable pub keys_text : List ℕ → List ℕ
keys_text ks = joined (λ k. space ∷ key_text k) ks

-- 02: one space parts words and keys; a line feed ends the line
unfoldable pub line : Explanation → List ℕ
line e = told_text e.told ++ (space ∷ (reason_text e.reason ++ (keys_text (reason_keys e.reason) ++ (line_feed ∷ []))))

-- The query.

-- 02: an output under 2,048 bytes fails question 6
abbrev pub explanation_room : ℕ
explanation_room = 2048

-- it answers the number of bytes of the line
abbrev pub line_unless_refused : Option ℕ → (line output : List ℕ) → Replied
line_unless_refused q l out = tell_unless_refused q (length l) l out

-- 02: one that would be refused is refused alike. The output's room is asked in 6's turn.
abbrev pub explained : (questions : List (ℕ × Bool)) (line output : List ℕ) → Replied
explained qs l out = line_unless_refused (first_failed (with_room (leb explanation_room (length out)) qs)) l out

-- the explanation of a call, for every storage, every argument and every output
unfoldable pub explain_bytes : (key : List ℕ) (call : KeyCall) (output storage : List ℕ) → Replied
explain_bytes k c out s = explained (all_questions (Call.on_key k c) s) (line (explanation c k (table_of s))) out
