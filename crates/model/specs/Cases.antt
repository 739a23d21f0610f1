-- Further positions, in the form of Rows: the rules of 01 that a port can get wrong without any of the twelve positions showing it;
-- what the calls do, and what they are asked.
use Rattle.std.specs.Prelude.{ℕ, zero, suc, ◌+◌, ◌-◌, ◌*◌, ◌^◌, Bool, true, false, List, [], ◌∷◌, ◌++◌, map, replicate}
use Rattle.std.proofs.Math.Option.{none, some}
use Rattle.model.specs.Base.{joined}
use Rattle.model.specs.Bytes.{bytes, splice, zeros}
use Rattle.model.specs.Node.{Node, Ending, EndedPending}
use Rattle.model.specs.Result.{FailureReason, BucketInsertResult, UpdateResult, InsertResult}
use Rattle.model.specs.Table.{EntryKind, Answer}
use Rattle.model.specs.Sizes.{key_size, slot_size, value_size, node_size, place_at, pending_at, bucket_size, max_incoming_at, table_filter_at, bucket_filter_at, record_count_at, padding_at, padding_size, record_at, header_size, storage_size}
use Rattle.model.specs.Call.{ValueArgument, PredicateArgument, Listing, Call, KeyCall, no_hours}
use Rattle.model.specs.Step.{node_of}
use Rattle.model.specs.Layout.{bucket_bytes, header_bytes}
use Rattle.model.specs.Rows.{Row, key, plain, addressed, no_table, after, start, disconnected, connected, from, pending_at100, two_of_aNet}

-- What the calls answer.

abbrev present : (connected : Bool) → Answer
present u = Answer.Entry (EntryKind.Present u false)

abbrev pending : (connected : Bool) → Answer
pending u = Answer.Entry (EntryKind.Pending u false)

abbrev absent : Answer
absent = Answer.Entry EntryKind.Absent

abbrev update_failed : FailureReason → Answer
update_failed r = Answer.Update (UpdateResult.Failed r)

abbrev insert_failed : FailureReason → Answer
insert_failed r = Answer.InsertOrUpdate (InsertResult.Failed r)

-- a record of key k
abbrev ends : ℕ → Ending → EndedPending
ends k e = record { key = k; ending = e }

-- a record of key k that evicted the disconnected node d, whose slot is its key
abbrev record_of : ℕ → ℕ → EndedPending
record_of k d = ends k (Ending.Placed (some (node_of (key d) (plain d) 0 0)))

abbrev taken : ℕ → Ending → Answer
taken k e = Answer.TakeAppliedPending (some (ends k e))

abbrev evicting : ℕ → ℕ → Answer
evicting k d = Answer.TakeAppliedPending (some (record_of k d))

abbrev no_record : Answer
no_record = Answer.TakeAppliedPending none

-- Calls and lists of calls.

-- a disconnected node with the address 10.0.0.k and slot 0
abbrev pub member : ℕ → Call
member k = Call.on_key (key k) (KeyCall.absent_insert (addressed k 0) 0 0 0 no_hours)

abbrev member_node : ℕ → Node
member_node k = node_of (key k) (addressed k 0) 0 0

-- the n keys from k on
abbrev pub numbers : ℕ → ℕ → List ℕ
numbers k n = from (λ x. x) k n

-- table filter on; n nodes of one /24 from key 32 on
abbrev pub members : ℕ → List Call
members n = start 16 1 0 ∷ from member 32 n

-- table filter on; ten nodes of one /24, and 42 with the same value as 32
abbrev pub equal_member : List Call
equal_member = members 10 ++ (Call.on_key (key 42) (KeyCall.absent_insert (addressed 32 0) 0 0 0 no_hours) ∷ [])

-- table filter on; bucket 5 full of disconnected nodes, ten of one /24, and 48 pending since time 0 with an eleventh value of it
abbrev eleventh_pending : List Call
eleventh_pending =
    start 16 1 0 ∷ (from disconnected 32 6 ++ (from member 38 10 ++ (Call.on_key (key 48) (KeyCall.absent_insert (addressed 48 0) 1 0 0 no_hours) ∷ [])))

-- bucket filter on; 10.0.0.1 is held by 32 and 34, 10.0.0.2 by 33
abbrev pub one_between_equals : List Call
one_between_equals = two_of_aNet ++ (Call.on_key (key 34) (KeyCall.absent_insert (addressed 1 0) 0 0 0 no_hours) ∷ [])

-- one disconnected and 15 connected nodes, and 48 pending since time 0
abbrev pub pending_over_one : List Call
pending_over_one = start 16 0 0 ∷ disconnected 32 ∷ (from connected 33 15 ++ (connected 48 ∷ []))

-- timeout 0, bucket 8 full of disconnected nodes
abbrev pub full_at_once : List Call
full_at_once = Call.new (key 0) 0 16 0 0 ∷ from disconnected 256 16

-- applies the due pending k, then sets it disconnected
abbrev settle : ℕ → Call
settle k = Call.on_key (key k) (KeyCall.update_node_status 0 2 0)

-- n keys from k on, each made pending and applied by the next call: each leaves a record, and the bucket full of disconnected nodes
abbrev pub applied : ℕ → ℕ → List Call
applied k zero = []
applied k (suc n) = connected k ∷ settle k ∷ applied (suc k) n

-- buckets 5 and 6 full of disconnected nodes, 48 and 80 pending since time 100, and bucket 0's node
abbrev two_pending : List Call
two_pending = pending_at100 ++ (from disconnected 64 16 ++ (Call.on_key (key 80) (KeyCall.absent_insert (plain 80) 1 0 100 no_hours) ∷ disconnected 1 ∷ []))

-- bucket filter on; bucket 5 full of disconnected nodes, two of one /24, and 48 pending since time 0 with a third value of it
abbrev third_pending : List Call
third_pending = two_of_aNet ++ (from disconnected 34 14 ++ (connected 48 ∷ Call.on_key (key 48) (KeyCall.update_node (addressed 3 0) 2 0) ∷ []))

-- max_incoming m; bucket 5 full of disconnected nodes, and 48 pending since time 0, connected incoming
abbrev pending_incoming : ℕ → List Call
pending_incoming m = start m 0 0 ∷ (from disconnected 32 16 ++ (connected 48 ∷ Call.on_key (key 48) (KeyCall.pending_update 1 1) ∷ []))

-- the same with the bucket filter on, two of one /24 held, and 48 with a third value of it
abbrev third_incoming : ℕ → List Call
third_incoming m =
    start m 0 1
    ∷ Call.on_key (key 32) (KeyCall.absent_insert (plain 32) 0 0 0 no_hours)
    ∷ Call.on_key (key 33) (KeyCall.absent_insert (addressed 1 0) 0 0 0 no_hours)
    ∷ Call.on_key (key 34) (KeyCall.absent_insert (addressed 2 0) 0 0 0 no_hours)
    ∷ (from disconnected 35 13
    ++ (connected 48 ∷ Call.on_key (key 48) (KeyCall.update_node (addressed 3 0) 2 0) ∷ Call.on_key (key 48) (KeyCall.pending_update 1 1) ∷ []))

-- applies the pending of bucket 5
abbrev due_all : Call
due_all = Call.on_key (key 63) (KeyCall.entry 60000)

abbrev insert_or_update : ℕ → Call
insert_or_update k = Call.on_key (key k) (KeyCall.insert_or_update (plain k) 0 0 0 no_hours)

-- 1 is held with an address of another /24, 4 with 10.0.0.4, 6 with none
abbrev three_nodes : List Call
three_nodes =
    start 16 0 0
    ∷ Call.on_key (key 1) (KeyCall.absent_insert (record { flag = 1; a = 10; b = 0; c = 1; d = 1; slot = 1 }) 0 0 0 no_hours)
    ∷ Call.on_key (key 4) (KeyCall.absent_insert (addressed 4 7) 0 0 0 no_hours)
    ∷ Call.on_key (key 6) (KeyCall.absent_insert (plain 7) 0 0 0 no_hours)
    ∷ []

-- a predicate on 10.0.0.0/24 or slot 7
abbrev predicate : ℕ → PredicateArgument
predicate p = record { predicate = p; a = 10; b = 0; c = 0; slot = 7 }

-- local key 5: the keys 4, 7 and 1 have the indices 0, 1 and 2
abbrev local_key5 : List Call
local_key5 = Call.new (key 5) 60000 16 0 0 ∷ disconnected 4 ∷ disconnected 7 ∷ disconnected 1 ∷ []

-- the first and the last bucket hold a node each
abbrev first_and_last : List Call
first_and_last = start 16 0 0 ∷ disconnected 1 ∷ disconnected (2 ^ 255) ∷ []

-- a listing with an output of k bytes for each of n entries
abbrev list : Listing → (k n : ℕ) → Call
list l k n = Call.list l n 0 (zeros (n * k))

-- the value 1.2.3.4 with the slot whose bytes are 1 to 8
abbrev octets : ValueArgument
octets = record { flag = 1; a = 1; b = 2; c = 3; d = 4; slot = 72623859790382856 }

-- bucket filter on; 10.0.0.1 is held with slot 0 and with slot x
abbrev one_address : ℕ → List Call
one_address x = start 16 0 1 ∷ Call.on_key (key 32) (KeyCall.absent_insert (addressed 1 0) 0 0 0 no_hours) ∷ Call.on_key (key 33) (KeyCall.absent_insert (addressed 1 x) 0 0 0 no_hours) ∷ []

-- 64 is held with it
abbrev stranger : Call
stranger = Call.on_key (key 64) (KeyCall.absent_insert octets 0 0 0 no_hours)

-- the /24 of a, b, c
abbrev net : (a b c : ℕ) → PredicateArgument
net a b c = record { predicate = 2; a = a; b = b; c = c; slot = 0 }

abbrev update_node : (key slot state : ℕ) → Call
update_node k slot st = Call.on_key (key k) (KeyCall.update_node (plain slot) st 0)

abbrev insert_with : (key slot state direction : ℕ) → Call
insert_with k slot st dr = Call.on_key (key k) (KeyCall.insert_or_update (plain slot) st dr 0 no_hours)

-- a disconnected incoming node
abbrev incoming : ℕ → Call
incoming k = Call.on_key (key k) (KeyCall.absent_insert (plain k) 0 1 0 no_hours)

-- bucket 5 has applied two pendings: 48, which evicted 32, and 49, after 33 was removed; 50 is pending. 47 is connected incoming with the
-- value 1.2.3.4.
abbrev two_applied : List Call
two_applied =
    Call.new (key 1) 60000 7 1 0
    ∷ (from disconnected 32 15
    ++ (Call.on_key (key 47) (KeyCall.absent_insert octets 1 1 0 no_hours)
    ∷ connected 48
    ∷ Call.on_key (key 48) (KeyCall.entry 60000)
    ∷ Call.on_key (key 49) (KeyCall.absent_insert (plain 49) 1 0 5 no_hours)
    ∷ Call.on_key (key 33) (KeyCall.remove 5)
    ∷ Call.on_key (key 49) (KeyCall.entry 60005)
    ∷ Call.on_key (key 50) (KeyCall.absent_insert (plain 50) 1 0 7 no_hours)
    ∷ []))

-- the bytes of an outgoing node below 256 whose slot is its key
abbrev plain_bytes : (state key : ℕ) → List ℕ
plain_bytes st k = zeros 31 ++ (k ∷ st ∷ (zeros value_size ++ (k ∷ [])))

-- the bytes of a record of key 48, with this kind and evicted node
abbrev evicted_bytes : (kind : ℕ) (node : List ℕ) → List ℕ
evicted_bytes kind bs = key 48 ++ (kind ∷ bs)

-- a header with n records, each of key 0 and with no evicted node, but for other bytes from an index on
abbrev header_with : (n index : ℕ) → List ℕ → List ℕ
header_with n at bs = splice (zeros record_count_at ++ (n ∷ zeros (header_size - padding_at))) at bs

-- the header and bucket 0 after a list of calls
abbrev first_bucket : List Call → List ℕ
first_bucket cs = let t = after cs no_table in header_bytes t ++ bucket_bytes (t.buckets 0)

-- local key 3, max_incoming 1; bucket 0 has the connected incoming node 2
abbrev incoming_first : List ℕ
incoming_first = first_bucket (Call.new (key 3) 0 1 0 0 ∷ Call.on_key (key 2) (KeyCall.absent_insert (plain 2) 1 1 0 no_hours) ∷ [])

-- a value of this address flag and these octets, slot 0
abbrev value_with : (flag a b c d : ℕ) → ValueArgument
value_with f a b c d = record { flag = f; a = a; b = b; c = c; d = d; slot = 0 }

-- a time at which now + timeout is above 2^64 − 1, where the timeout is 60,000
abbrev too_late : ℕ
too_late = 2 ^ 64 - 60000

-- calls with one code just out of range, each parameter of each call
abbrev codes_out_of_range : List Call
codes_out_of_range =
    Call.new (key 0) 0 17 0 0
    ∷ Call.new (key 0) 0 16 2 0
    ∷ Call.new (key 0) 0 16 0 2
    ∷ Call.list (Listing.closest_values_predicate (key 0) (predicate 4)) 0 0 []
    ∷ map (Call.on_key (key 32))
    (KeyCall.update_node_status 2 2 0
    ∷ KeyCall.update_node_status 1 3 0
    ∷ KeyCall.update_node (value_with 2 0 0 0 0) 2 0
    ∷ KeyCall.update_node (value_with 0 0 0 0 1) 2 0
    ∷ KeyCall.update_node (plain 0) 3 0
    ∷ KeyCall.insert_or_update (value_with 2 0 0 0 0) 0 0 0 no_hours
    ∷ KeyCall.insert_or_update (value_with 0 1 0 0 0) 0 0 0 no_hours
    ∷ KeyCall.insert_or_update (value_with 0 0 1 0 0) 0 0 0 no_hours
    ∷ KeyCall.insert_or_update (value_with 0 0 0 1 0) 0 0 0 no_hours
    ∷ KeyCall.insert_or_update (value_with 0 0 0 0 1) 0 0 0 no_hours
    ∷ KeyCall.insert_or_update (plain 0) 2 0 0 no_hours
    ∷ KeyCall.insert_or_update (plain 0) 0 2 0 no_hours
    ∷ KeyCall.present_update 2 2
    ∷ KeyCall.present_update 1 3
    ∷ KeyCall.pending_update 2 0
    ∷ KeyCall.pending_update 1 2
    ∷ KeyCall.absent_insert (value_with 2 0 0 0 0) 0 0 0 no_hours
    ∷ KeyCall.absent_insert (value_with 0 0 0 0 1) 0 0 0 no_hours
    ∷ KeyCall.absent_insert (plain 0) 2 0 0 no_hours
    ∷ KeyCall.absent_insert (plain 0) 0 2 0 no_hours
    -- in front of question 5
    ∷ KeyCall.update_node_status 2 2 too_late
    ∷ [])

-- calls at a time that is too late, each call that is given one
abbrev all_too_late : List Call
all_too_late =
    Call.list Listing.iter 1 too_late []
    ∷ map (Call.on_key (key 32))
    (KeyCall.update_node_status 1 2 too_late
    ∷ KeyCall.update_node (plain 0) 2 too_late
    ∷ KeyCall.insert_or_update (plain 0) 0 0 too_late no_hours
    ∷ KeyCall.remove too_late
    ∷ KeyCall.entry too_late
    -- in front of question 7
    ∷ KeyCall.absent_insert (plain 0) 0 0 too_late no_hours
    ∷ [])

-- the calls are refused with the question's number, where 32 is held
abbrev refusals : (question : ℕ) → List Call → List Row
refusals n cs = map (λ (c : Call). Row.refuses (start 16 0 0 ∷ disconnected 32 ∷ []) c n) cs

-- a node whose slot is its key
abbrev node : (key state direction : ℕ) → Node
node k st dr = node_of (key k) (plain k) st dr

-- the bytes of a bucket of index 5: two disconnected nodes, an outgoing and an incoming connected one, and a pending
abbrev four_nodes : (disconnected : List Node) (pending : Node) → List ℕ
four_nodes ns p =
    bucket_bytes (record { disconnected = ns; connected = node 34 1 0 ∷ node 35 1 1 ∷ []; pending = some (record { node = p; deadline = 5 }) })

abbrev four : List ℕ
four = four_nodes (node 32 0 0 ∷ node 33 0 1 ∷ []) (node 48 1 0)

-- the same with another byte at an index
abbrev with : ℕ → ℕ → List ℕ
with at b = splice four at (b ∷ [])

-- where the address flag of place j stands
abbrev flag_at : ℕ → ℕ
flag_at j = place_at j + key_size + 2

-- 02, slip 2: the slots 0 and x are of different values, where x has one byte that is not zero
abbrev unequal_slots : ℕ → List Row
unequal_slots x =
    -- another slot is an update, the same is none; it takes the member of a full /24 past the duplicate test
    Row.answers (start 16 0 0 ∷ Call.on_key (key 32) (KeyCall.absent_insert (plain 0) 0 0 0 no_hours) ∷ []) (update_node 32 x 2 ∷ update_node 32 x 2 ∷ update_node 32 0 2 ∷ [])
    (Answer.Update UpdateResult.Updated ∷ Answer.Update UpdateResult.NotModified ∷ Answer.Update UpdateResult.Updated ∷ [])
    ∷ Row.answers (members 11) (Call.on_key (key 32) (KeyCall.update_node (addressed 32 x) 2 0) ∷ []) (update_failed FailureReason.TableFilter ∷ [])
    -- one address with both slots: the filter counts two beside a third slot, and one beside the second
    ∷ Row.answers (one_address x) (Call.on_key (key 34) (KeyCall.absent_insert (addressed 1 (2 * x)) 0 0 0 no_hours) ∷ Call.on_key (key 34) (KeyCall.absent_insert (addressed 1 x) 0 0 0 no_hours) ∷ [])
    (Answer.Insert BucketInsertResult.FailedFilter ∷ Answer.Insert BucketInsertResult.Inserted ∷ [])
    -- the slot that is 7 and the one that is not
    ∷ Row.matches (start 16 0 0 ∷ Call.on_key (key 32) (KeyCall.absent_insert (plain 7) 0 0 0 no_hours) ∷ Call.on_key (key 33) (KeyCall.absent_insert (plain (7 + x)) 0 0 0 no_hours) ∷ []) 32 (predicate 3) 2 (true ∷ false ∷ [])
    ∷ []

abbrev reasons : List FailureReason
reasons =
    FailureReason.TooManyIncoming
    ∷ FailureReason.BucketFilter
    ∷ FailureReason.TableFilter
    ∷ FailureReason.KeyNonExistent
    ∷ FailureReason.BucketFull
    ∷ FailureReason.InvalidSelfUpdate
    ∷ []

-- every answer, with two numbers, keys or records where it holds one
abbrev all_answers : List Answer
all_answers =
    Answer.New
    ∷ (map Answer.Refused (1 ∷ 2 ∷ [])
    ++ (map Answer.Update (UpdateResult.Updated ∷ UpdateResult.UpdatedAndPromoted ∷ UpdateResult.UpdatedPending ∷ UpdateResult.NotModified ∷ map UpdateResult.Failed reasons)
    ++ (map Answer.InsertOrUpdate
    (InsertResult.Inserted ∷ InsertResult.Pending 1 ∷ InsertResult.Pending 2 ∷ InsertResult.StatusUpdated false ∷ InsertResult.StatusUpdated true ∷ InsertResult.ValueUpdated
    ∷ InsertResult.Updated false ∷ InsertResult.Updated true ∷ InsertResult.UpdatedPending ∷ map InsertResult.Failed reasons)
    ++ (map Answer.Insert
    (BucketInsertResult.Inserted ∷ BucketInsertResult.Pending 1 ∷ BucketInsertResult.Pending 2 ∷ BucketInsertResult.FailedFilter ∷ BucketInsertResult.TooManyIncoming
    ∷ BucketInsertResult.Full ∷ BucketInsertResult.NodeExists ∷ [])
    ++ (map Answer.Remove (false ∷ true ∷ [])
    ++ (map Answer.Entry
    (EntryKind.Present false false ∷ EntryKind.Present false true ∷ EntryKind.Present true false ∷ EntryKind.Pending false false ∷ EntryKind.Pending false true
    ∷ EntryKind.Pending true false ∷ EntryKind.Absent ∷ EntryKind.SelfEntry ∷ [])
    ++ (map Answer.Found (1 ∷ 2 ∷ [])
    ++ (map Answer.TakeAppliedPending
    (none ∷ some (ends 1 (Ending.Placed none)) ∷ some (record_of 1 2) ∷ some (record_of 2 2) ∷ some (record_of 1 3)
    ∷ some (ends 1 (Ending.Placed (some (node_of (key 2) (plain 2) 0 1))))
    ∷ some (ends 1 (Ending.Placed (some (node_of (key 2) (plain 2) 1 0))))
    ∷ some (ends 1 (Ending.Placed (some (node_of (key 2) (addressed 1 2) 0 0))))
    ∷ some (ends 1 (Ending.Placed (some (node_of (key 2) (addressed 2 2) 0 0))))
    ∷ some (ends 1 Ending.FirstConnected) ∷ some (ends 1 Ending.BucketFilter) ∷ some (ends 1 Ending.TooManyIncoming) ∷ some (ends 1 Ending.Inserted)
    ∷ some (ends 1 Ending.FirstConfirmed) ∷ some (ends 2 Ending.FirstConfirmed) ∷ [])))))))))

unfoldable pub cases : List Row
cases =
    -- the table filter (02, slip 3): ten of one /24 held, one of them gets another slot: its old value is not counted; it keeps its place
    Row.answers (members 10) (Call.on_key (key 32) (KeyCall.update_node (addressed 32 7) 2 0) ∷ []) (Answer.Update UpdateResult.Updated ∷ [])
    ∷ Row.places (members 10 ++ (Call.on_key (key 32) (KeyCall.update_node (addressed 32 7) 2 0) ∷ [])) 5 (node_of (key 32) (addressed 32 7) 0 0 ∷ from member_node 33 9)
    ∷ Row.answers (members 10) (Call.on_key (key 32) (KeyCall.insert_or_update (addressed 32 7) 0 0 0 no_hours) ∷ []) (Answer.InsertOrUpdate InsertResult.ValueUpdated ∷ [])
    -- eleven held: the ten others are counted; the call fails and the node is gone
    ∷ Row.answers (members 11) (Call.on_key (key 32) (KeyCall.update_node (addressed 32 7) 2 0) ∷ Call.on_key (key 32) (KeyCall.entry 0) ∷ [])
    (update_failed FailureReason.TableFilter ∷ absent ∷ [])
    ∷ Row.answers (members 11) (Call.on_key (key 32) (KeyCall.insert_or_update (addressed 32 7) 0 0 0 no_hours) ∷ Call.on_key (key 32) (KeyCall.entry 0) ∷ [])
    (insert_failed FailureReason.TableFilter ∷ absent ∷ [])
    -- so is the value of another key that is equal to the old one
    ∷ Row.answers equal_member (Call.on_key (key 32) (KeyCall.update_node (addressed 32 7) 2 0) ∷ []) (update_failed FailureReason.TableFilter ∷ [])
    -- the old value is of another /24: nine others let the new one in, ten do not
    ∷ Row.answers (members 9 ++ (stranger ∷ [])) (Call.on_key (key 64) (KeyCall.update_node (addressed 64 0) 2 0) ∷ []) (Answer.Update UpdateResult.Updated ∷ [])
    ∷ Row.answers (members 10 ++ (stranger ∷ [])) (Call.on_key (key 64) (KeyCall.update_node (addressed 64 0) 2 0) ∷ Call.on_key (key 64) (KeyCall.entry 0) ∷ [])
    (update_failed FailureReason.TableFilter ∷ absent ∷ [])
    ∷ Row.answers (members 10 ++ (stranger ∷ [])) (Call.on_key (key 64) (KeyCall.insert_or_update (addressed 64 0) 0 0 0 no_hours) ∷ []) (insert_failed FailureReason.TableFilter ∷ [])
    -- eleven held: the filter is skipped for an equal value
    ∷ Row.answers (members 11) (Call.on_key (key 32) (KeyCall.update_node (addressed 32 0) 2 0) ∷ Call.on_key (key 33) (KeyCall.insert_or_update (addressed 33 0) 0 1 0 no_hours) ∷ [])
    (Answer.Update UpdateResult.NotModified ∷ Answer.InsertOrUpdate (InsertResult.StatusUpdated false) ∷ [])
    -- ten held: a new key fails; the filter is skipped by an entry's insert; with the filter off a new key does not fail
    ∷ Row.answers (members 10)
    (Call.on_key (key 64) (KeyCall.insert_or_update (addressed 64 0) 0 0 0 no_hours) ∷ Call.on_key (key 64) (KeyCall.entry 0) ∷ member 65 ∷ [])
    (insert_failed FailureReason.TableFilter ∷ absent ∷ Answer.Insert BucketInsertResult.Inserted ∷ [])
    ∷ Row.answers (start 16 0 0 ∷ from member 32 10) (Call.on_key (key 64) (KeyCall.insert_or_update (addressed 64 0) 0 0 0 no_hours) ∷ [])
    (Answer.InsertOrUpdate InsertResult.Inserted ∷ [])
    -- update_value: a failed bucket filter takes the node out
    ∷ Row.answers (two_of_aNet ++ (disconnected 34 ∷ [])) (Call.on_key (key 34) (KeyCall.update_node (addressed 3 0) 2 0) ∷ Call.on_key (key 34) (KeyCall.entry 0) ∷ [])
    (update_failed FailureReason.BucketFilter ∷ absent ∷ [])
    ∷ Row.keys (two_of_aNet ++ (disconnected 34 ∷ Call.on_key (key 34) (KeyCall.insert_or_update (addressed 3 0) 0 0 0 no_hours) ∷ [])) 5 (32 ∷ 33 ∷ [])
    -- update_status: a failed insert leaves the node out
    ∷ Row.answers (start 0 0 0 ∷ Call.on_key (key 32) (KeyCall.absent_insert (plain 32) 0 1 0 no_hours) ∷ []) (Call.on_key (key 32) (KeyCall.update_node_status 1 2 0) ∷ Call.on_key (key 32) (KeyCall.entry 0) ∷ [])
    (update_failed FailureReason.TooManyIncoming ∷ absent ∷ [])
    -- insert_or_update reports every failed status step as TooManyIncoming, a bucket filter failure too
    ∷ Row.answers one_between_equals (Call.on_key (key 33) (KeyCall.update_node_status 1 2 0) ∷ Call.on_key (key 33) (KeyCall.entry 0) ∷ [])
    (update_failed FailureReason.BucketFilter ∷ absent ∷ [])
    ∷ Row.answers one_between_equals (Call.on_key (key 33) (KeyCall.insert_or_update (addressed 2 0) 1 0 0 no_hours) ∷ Call.on_key (key 33) (KeyCall.entry 0) ∷ [])
    (insert_failed FailureReason.TooManyIncoming ∷ absent ∷ [])
    -- a pending is counted by no filter: the bucket's, with one of a /24 held and one pending
    ∷ Row.answers
    (start 16 0 1 ∷ member 32 ∷ (from disconnected 33 15 ++ (Call.on_key (key 48) (KeyCall.absent_insert (addressed 48 0) 1 0 0 no_hours) ∷ [])))
    (Call.on_key (key 49) (KeyCall.absent_insert (addressed 49 0) 1 0 0 no_hours) ∷ [])
    (Answer.Insert BucketInsertResult.Full ∷ [])
    -- the table's, with nine of a /24 held and one pending
    ∷ Row.answers
    (members 9 ++ (from disconnected 41 7 ++ (Call.on_key (key 48) (KeyCall.absent_insert (addressed 48 0) 1 0 0 no_hours) ∷ [])))
    (Call.on_key (key 64) (KeyCall.insert_or_update (addressed 64 0) 0 0 0 no_hours) ∷ [])
    (Answer.InsertOrUpdate InsertResult.Inserted ∷ [])
    -- an unchanged status answers NotModified and still moves the node
    ∷ Row.keys (start 16 0 0 ∷ disconnected 32 ∷ disconnected 33 ∷ connected 34 ∷ Call.on_key (key 32) (KeyCall.update_node_status 0 2 0) ∷ []) 5 (33 ∷ 32 ∷ 34 ∷ [])
    -- the table filter runs before the pending is applied: 48 is due with the value given, and is not held yet
    ∷ Row.answers eleventh_pending
    (Call.on_key (key 48) (KeyCall.update_node (addressed 48 0) 2 60000) ∷ Call.on_key (key 48) (KeyCall.entry 60000) ∷ Call.take_applied_pending ∷ [])
    (update_failed FailureReason.TableFilter ∷ absent ∷ evicting 48 32 ∷ [])
    ∷ Row.answers eleventh_pending
    (Call.on_key (key 48) (KeyCall.insert_or_update (addressed 48 0) 1 0 60000 no_hours) ∷ Call.on_key (key 48) (KeyCall.entry 60000) ∷ Call.take_applied_pending ∷ [])
    (insert_failed FailureReason.TableFilter ∷ absent ∷ evicting 48 32 ∷ [])
    -- a pending of that key that is not due stays
    ∷ Row.answers eleventh_pending (Call.on_key (key 48) (KeyCall.update_node (addressed 48 0) 2 59999) ∷ Call.on_key (key 48) (KeyCall.entry 59999) ∷ [])
    (update_failed FailureReason.TableFilter ∷ pending true ∷ [])
    -- the table filter is not consulted when a pending is applied
    ∷ Row.answers eleventh_pending (Call.on_key (key 48) (KeyCall.entry 60000) ∷ Call.take_applied_pending ∷ []) (present true ∷ evicting 48 32 ∷ [])
    -- each new node is placed: in one bucket, and in another
    ∷ Row.answers (start 16 0 0 ∷ [])
    (insert_or_update 32 ∷ insert_or_update 33 ∷ insert_or_update 64 ∷ Call.on_key (key 32) (KeyCall.entry 0) ∷ Call.on_key (key 33) (KeyCall.entry 0) ∷ Call.on_key (key 64) (KeyCall.entry 0) ∷ [])
    (replicate 3 (Answer.InsertOrUpdate InsertResult.Inserted) ++ replicate 3 (present false))
    -- sixteen are inserted; then a disconnected node is Full, a connected one Pending
    ∷ Row.answers (start 16 0 0 ∷ []) (from insert_or_update 32 17)
    (replicate 16 (Answer.InsertOrUpdate InsertResult.Inserted) ++ (insert_failed FailureReason.BucketFull ∷ []))
    ∷ Row.answers (start 16 0 0 ∷ []) (from disconnected 32 16 ++ (connected 48 ∷ []))
    (replicate 16 (Answer.Insert BucketInsertResult.Inserted) ++ (Answer.Insert (BucketInsertResult.Pending 32) ∷ []))
    -- all sixteen connected: Full
    ∷ Row.answers (start 16 0 0 ∷ from connected 32 16) (connected 48 ∷ []) (Answer.Insert BucketInsertResult.Full ∷ [])
    -- max_incoming 1: the second connected incoming node is too many
    ∷ Row.answers (start 1 0 0 ∷ []) (Call.on_key (key 32) (KeyCall.absent_insert (plain 32) 1 1 0 no_hours) ∷ Call.on_key (key 33) (KeyCall.absent_insert (plain 33) 1 1 0 no_hours) ∷ [])
    (Answer.Insert BucketInsertResult.Inserted ∷ Answer.Insert BucketInsertResult.TooManyIncoming ∷ [])
    -- a due pending evicts place 0; its record is taken once
    ∷ Row.answers pending_at100 (Call.on_key (key 48) (KeyCall.entry 60100) ∷ Call.take_applied_pending ∷ Call.take_applied_pending ∷ [])
    (present true ∷ evicting 48 32 ∷ no_record ∷ [])
    ∷ Row.keys (pending_at100 ++ (Call.on_key (key 48) (KeyCall.entry 60100) ∷ [])) 5 (numbers 33 16)
    -- with a free place it is an insert
    ∷ Row.answers (pending_at100 ++ (Call.on_key (key 32) (KeyCall.remove 100) ∷ [])) (Call.on_key (key 48) (KeyCall.entry 60100) ∷ Call.take_applied_pending ∷ [])
    (present true ∷ taken 48 (Ending.Placed none) ∷ [])
    -- 16 held and place 0 connected: it is dropped
    ∷ Row.answers (pending_over_one ++ (Call.on_key (key 32) (KeyCall.remove 0) ∷ [])) (connected 49 ∷ Call.on_key (key 48) (KeyCall.entry 60000) ∷ Call.take_applied_pending ∷ [])
    (Answer.Insert BucketInsertResult.Inserted ∷ absent ∷ taken 48 Ending.FirstConnected ∷ [])
    -- insert_or_update on a key that is only pending tries an insert; Inserted clears the pending
    ∷ Row.answers (pending_at100 ++ (Call.on_key (key 32) (KeyCall.remove 100) ∷ []))
    (Call.on_key (key 48) (KeyCall.insert_or_update (plain 48) 1 0 100 no_hours) ∷ Call.on_key (key 48) (KeyCall.entry 60100) ∷ Call.take_applied_pending ∷ [])
    (Answer.InsertOrUpdate InsertResult.Inserted ∷ present true ∷ taken 48 Ending.Inserted ∷ [])
    -- place 0 given Connected clears the pending, even when that insert fails
    ∷ Row.answers
    (start 0 0 0 ∷ Call.on_key (key 32) (KeyCall.absent_insert (plain 32) 0 1 0 no_hours) ∷ (from disconnected 33 15 ++ (connected 48 ∷ [])))
    (Call.on_key (key 32) (KeyCall.update_node_status 1 2 0) ∷ Call.on_key (key 48) (KeyCall.entry 0) ∷ Call.take_applied_pending ∷ [])
    (update_failed FailureReason.TooManyIncoming ∷ absent ∷ taken 48 Ending.FirstConfirmed ∷ [])
    -- Pending: update sets the status; the pending is placed by its state
    ∷ Row.answers pending_at100 (Call.on_key (key 48) (KeyCall.pending_update 0 0) ∷ Call.on_key (key 48) (KeyCall.entry 60099) ∷ Call.on_key (key 48) (KeyCall.entry 60100) ∷ [])
    (Answer.Update UpdateResult.UpdatedPending ∷ pending false ∷ present false ∷ [])
    -- on a pending no filter runs: a third value of a /24 with two held
    ∷ Row.answers
    (two_of_aNet ++ (from disconnected 34 14 ++ (connected 48 ∷ [])))
    (Call.on_key (key 48) (KeyCall.update_node (addressed 3 0) 2 0) ∷ Call.on_key (key 48) (KeyCall.entry 0) ∷ [])
    (Answer.Update UpdateResult.UpdatedPending ∷ pending true ∷ [])
    -- what insert_or_update and update_node answer on a held key, and on one that is not held
    ∷ Row.answers (start 16 0 0 ∷ disconnected 32 ∷ [])
    (insert_or_update 32 ∷ Call.on_key (key 32) (KeyCall.insert_or_update (plain 7) 0 0 0 no_hours) ∷ Call.on_key (key 32) (KeyCall.insert_or_update (plain 7) 1 0 0 no_hours)
    ∷ Call.on_key (key 32) (KeyCall.insert_or_update (plain 8) 0 0 0 no_hours) ∷ Call.on_key (key 32) (KeyCall.update_node (plain 8) 1 0) ∷ Call.on_key (key 33) (KeyCall.update_node (plain 8) 1 0) ∷ [])
    (Answer.InsertOrUpdate (InsertResult.Updated false) ∷ Answer.InsertOrUpdate InsertResult.ValueUpdated ∷ Answer.InsertOrUpdate (InsertResult.StatusUpdated true)
    ∷ Answer.InsertOrUpdate (InsertResult.Updated false) ∷ Answer.Update UpdateResult.UpdatedAndPromoted ∷ update_failed FailureReason.KeyNonExistent ∷ [])
    -- update_node on a held key: the answers of the value's step and the status's step, each pair that can occur
    ∷ Row.answers (start 16 0 0 ∷ disconnected 32 ∷ [])
    (update_node 32 8 1 ∷ update_node 32 9 1 ∷ update_node 32 9 1 ∷ update_node 32 9 0 ∷ update_node 32 9 1 ∷ update_node 32 10 0 ∷ update_node 32 11 2 ∷ update_node 32 11 2 ∷ [])
    (map Answer.Update
    (UpdateResult.UpdatedAndPromoted ∷ UpdateResult.Updated ∷ UpdateResult.NotModified ∷ UpdateResult.Updated ∷ UpdateResult.UpdatedAndPromoted ∷ UpdateResult.Updated
    ∷ UpdateResult.Updated ∷ UpdateResult.NotModified ∷ []))
    ∷ Row.answers (start 0 0 0 ∷ incoming 32 ∷ incoming 33 ∷ []) (update_node 32 32 1 ∷ update_node 33 7 1 ∷ [])
    (update_failed FailureReason.TooManyIncoming ∷ update_failed FailureReason.TooManyIncoming ∷ [])
    ∷ Row.answers one_between_equals (Call.on_key (key 33) (KeyCall.update_node (addressed 2 0) 1 0) ∷ []) (update_failed FailureReason.BucketFilter ∷ [])
    -- the same of insert_or_update, where a failed status's step is answered before the value's
    ∷ Row.answers (start 16 0 0 ∷ disconnected 32 ∷ [])
    (insert_with 32 8 1 0 ∷ insert_with 32 8 0 0 ∷ insert_with 32 8 1 0 ∷ insert_with 32 9 1 0 ∷ insert_with 32 9 1 0 ∷ insert_with 32 10 0 0 ∷ [])
    (map Answer.InsertOrUpdate
    (InsertResult.Updated true ∷ InsertResult.StatusUpdated false ∷ InsertResult.StatusUpdated true ∷ InsertResult.ValueUpdated ∷ InsertResult.Updated false
    ∷ InsertResult.Updated false ∷ []))
    ∷ Row.answers (two_of_aNet ++ from disconnected 34 3)
    (Call.on_key (key 34) (KeyCall.insert_or_update (addressed 3 0) 0 0 0 no_hours) ∷ Call.on_key (key 35) (KeyCall.insert_or_update (addressed 3 0) 0 1 0 no_hours)
    ∷ Call.on_key (key 36) (KeyCall.insert_or_update (addressed 3 0) 1 0 0 no_hours) ∷ [])
    (replicate 3 (insert_failed FailureReason.BucketFilter))
    -- insert_or_update on a key that is not held
    ∷ Row.answers (two_of_aNet ++ from disconnected 34 14)
    (Call.on_key (key 48) (KeyCall.insert_or_update (addressed 3 0) 0 0 0 no_hours) ∷ insert_with 48 48 0 0 ∷ insert_with 48 48 1 0 ∷ [])
    (map Answer.InsertOrUpdate (InsertResult.Failed FailureReason.BucketFilter ∷ InsertResult.Failed FailureReason.BucketFull ∷ InsertResult.Pending 32 ∷ []))
    ∷ Row.answers (start 0 0 0 ∷ []) (insert_with 32 32 1 1 ∷ []) (insert_failed FailureReason.TooManyIncoming ∷ [])
    -- insert_or_update sets the direction, update_node leaves it; an entry's update leaves one that is not given
    ∷ Row.answers (start 16 0 0 ∷ disconnected 32 ∷ [])
    (insert_with 32 32 0 1 ∷ update_node 32 32 1 ∷ Call.on_key (key 32) (KeyCall.present_update 0 2) ∷ Call.on_key (key 32) (KeyCall.entry 0) ∷ [])
    (Answer.InsertOrUpdate (InsertResult.StatusUpdated false) ∷ Answer.Update UpdateResult.UpdatedAndPromoted ∷ Answer.Update UpdateResult.Updated
    ∷ Answer.Entry (EntryKind.Present false true) ∷ [])
    -- update_node_status on a pending and on a key that is neither held nor pending
    ∷ Row.answers pending_at100
    (Call.on_key (key 48) (KeyCall.update_node_status 0 1 100) ∷ Call.on_key (key 48) (KeyCall.entry 100) ∷ Call.on_key (key 49) (KeyCall.update_node_status 0 1 100) ∷ [])
    (Answer.Update UpdateResult.UpdatedPending ∷ Answer.Entry (EntryKind.Pending false true) ∷ update_failed FailureReason.KeyNonExistent ∷ [])
    -- a connected node keeps its place with another value
    ∷ Row.places (start 16 0 0 ∷ connected 32 ∷ connected 33 ∷ update_node 32 7 2 ∷ []) 5 (node_of (key 32) (plain 7) 1 0 ∷ node_of (key 33) (plain 33) 1 0 ∷ [])
    -- an entry's insert applies no pending
    ∷ Row.answers pending_at100 (Call.on_key (key 49) (KeyCall.absent_insert (plain 49) 1 0 60100 no_hours) ∷ Call.take_applied_pending ∷ []) (Answer.Insert BucketInsertResult.Full ∷ no_record ∷ [])
    -- the first connected place
    ∷ Row.first_connected_place (start 16 0 0 ∷ disconnected 32 ∷ disconnected 33 ∷ connected 34 ∷ connected 35 ∷ []) 5 (some 2)
    ∷ Row.first_connected_place (start 16 0 0 ∷ connected 32 ∷ []) 5 (some 0)
    -- the bucket's own remove applies a due pending
    ∷ Row.removes pending_at100 5 60100 33 (32 ∷ numbers 34 15)
    ∷ Row.removes pending_at100 5 60099 33 (32 ∷ numbers 34 14)
    -- remove closes the gap, and answers whether the key was held
    ∷ Row.keys (start 16 0 0 ∷ (from disconnected 32 4 ++ (Call.on_key (key 33) (KeyCall.remove 0) ∷ []))) 5 (32 ∷ 34 ∷ 35 ∷ [])
    ∷ Row.answers (start 16 0 0 ∷ disconnected 32 ∷ []) (Call.on_key (key 32) (KeyCall.remove 0) ∷ Call.on_key (key 32) (KeyCall.remove 0) ∷ Call.on_key (key 32) (KeyCall.entry 0) ∷ [])
    (Answer.Remove true ∷ Answer.Remove false ∷ absent ∷ [])
    -- the listings: bucket by bucket, cut at n; none at 0; distances outside 1 to 256 dropped
    ∷ Row.lists three_nodes Listing.iter 2 (1 ∷ 4 ∷ [])
    ∷ Row.lists three_nodes Listing.iter 0 []
    ∷ Row.lists three_nodes (Listing.closest_values (key 5)) 2 (4 ∷ 6 ∷ [])
    ∷ Row.lists three_nodes (Listing.closest_keys (key 5)) 0 []
    ∷ Row.lists three_nodes (Listing.nodes_by_distances (0 ∷ 257 ∷ 3 ∷ 1 ∷ [])) 9 (4 ∷ 6 ∷ 1 ∷ [])
    -- the last bucket: distance 256, iter to its end, and the visits upward and downward
    ∷ Row.lists first_and_last (Listing.nodes_by_distances (256 ∷ 1 ∷ [])) 9 (2 ^ 255 ∷ 1 ∷ [])
    ∷ Row.lists first_and_last Listing.iter 9 (1 ∷ 2 ^ 255 ∷ [])
    ∷ Row.lists first_and_last (Listing.closest_keys (key 1)) 9 (1 ∷ 1 ∷ 2 ^ 255 ∷ [])
    ∷ Row.lists first_and_last (Listing.closest_keys (key (2 ^ 255))) 9 (2 ^ 255 ∷ 1 ∷ [])
    -- a local key that is not zero: the indices, and the visits of each closest call
    ∷ Row.keys local_key5 0 (4 ∷ [])
    ∷ Row.keys local_key5 1 (7 ∷ [])
    ∷ Row.keys local_key5 2 (1 ∷ [])
    ∷ Row.lists local_key5 (Listing.closest_keys (key 1)) 3 (1 ∷ 4 ∷ 7 ∷ [])
    ∷ Row.lists local_key5 (Listing.closest_values (key 1)) 3 (1 ∷ 4 ∷ 7 ∷ [])
    ∷ Row.lists local_key5 (Listing.closest_values_predicate (key 1) (predicate 0)) 3 (1 ∷ 4 ∷ 7 ∷ [])
    ∷ Row.lists local_key5 (Listing.closest_keys (key 5)) 4 (4 ∷ 4 ∷ 7 ∷ 1 ∷ [])
    -- all nodes nearest first: last bits that differ, equal last bits, equal keys
    ∷ Row.nearest_first 0 5 (1 ∷ 4 ∷ 6 ∷ []) (4 ∷ 6 ∷ 1 ∷ 1 ∷ [])
    ∷ Row.nearest_first 5 1 (4 ∷ 7 ∷ 1 ∷ []) (1 ∷ 4 ∷ 7 ∷ [])
    ∷ Row.nearest_first 5 5 (4 ∷ 7 ∷ 1 ∷ []) (4 ∷ 4 ∷ 7 ∷ 1 ∷ [])
    -- a listing shows what a due pending leaves: each listing of bucket 8, where 272 is due
    ∷ Row.lists (full_at_once ++ (connected 272 ∷ [])) Listing.iter 16 (numbers 257 16)
    ∷ Row.lists (full_at_once ++ (connected 272 ∷ [])) (Listing.nodes_by_distances (9 ∷ [])) 16 (numbers 257 16)
    ∷ Row.lists (full_at_once ++ (connected 272 ∷ [])) (Listing.closest_keys (key 272)) 1 (272 ∷ [])
    ∷ Row.lists (full_at_once ++ (connected 272 ∷ [])) (Listing.closest_values (key 272)) 1 (272 ∷ [])
    ∷ Row.lists (full_at_once ++ (connected 272 ∷ [])) (Listing.closest_values_predicate (key 272) (predicate 0)) 1 (272 ∷ [])
    -- the buckets that a call writes back
    ∷ Row.writes_back first_and_last (start 16 0 0) (numbers 0 256)
    ∷ Row.writes_back first_and_last (Call.on_key (key 32) (KeyCall.entry 0)) (5 ∷ [])
    ∷ Row.writes_back first_and_last (Call.on_key (key 0) (KeyCall.entry 0)) []
    ∷ Row.writes_back first_and_last (list Listing.iter node_size 1) (0 ∷ [])
    ∷ Row.writes_back first_and_last (list Listing.iter node_size 9) (numbers 0 256)
    ∷ Row.writes_back first_and_last (list (Listing.closest_keys (key 0)) key_size 9) (0 ∷ numbers 0 256)
    ∷ Row.writes_back first_and_last (list (Listing.nodes_by_distances (256 ∷ 257 ∷ 1 ∷ [])) node_size 9) (255 ∷ 0 ∷ [])
    -- the records that a call adds
    ∷ Row.adds two_pending (Call.on_key (key 32) (KeyCall.entry 60100)) (record_of 48 32 ∷ [])
    ∷ Row.adds two_pending (Call.list Listing.iter 33 60100 (zeros (33 * node_size))) (record_of 48 32 ∷ record_of 80 64 ∷ [])
    -- 02, slip 4: a due pending with a free place, at the maximum; with 16 held, the first ground in the order place 0, filter, maximum
    ∷ Row.adds (pending_incoming 0 ++ (Call.on_key (key 34) (KeyCall.remove 0) ∷ [])) due_all (ends 48 Ending.TooManyIncoming ∷ [])
    ∷ Row.adds (third_pending ++ (Call.on_key (key 48) (KeyCall.pending_update 1 1) ∷ [])) due_all (ends 48 Ending.BucketFilter ∷ [])
    ∷ Row.adds (third_incoming 0) due_all (ends 48 Ending.BucketFilter ∷ [])
    ∷ Row.adds (third_incoming 0 ++ (from (λ k. Call.on_key (key k) (KeyCall.present_update 1 2)) 33 15 ++ (Call.on_key (key 32) (KeyCall.remove 0) ∷ connected 49 ∷ []))) due_all
    (ends 48 Ending.FirstConnected ∷ [])
    -- place 0 given Connected by each call that has a status step, also where the step fails or the status was the same
    ∷ Row.adds pending_at100 (Call.on_key (key 32) (KeyCall.update_node_status 1 2 100)) (ends 48 Ending.FirstConfirmed ∷ [])
    ∷ Row.adds pending_at100 (Call.on_key (key 32) (KeyCall.update_node (plain 7) 1 100)) (ends 48 Ending.FirstConfirmed ∷ [])
    ∷ Row.adds pending_at100 (Call.on_key (key 32) (KeyCall.insert_or_update (plain 32) 1 0 100 no_hours)) (ends 48 Ending.FirstConfirmed ∷ [])
    ∷ Row.adds pending_at100 (Call.on_key (key 32) (KeyCall.present_update 1 2)) (ends 48 Ending.FirstConfirmed ∷ [])
    ∷ Row.adds (pending_incoming 0) (Call.on_key (key 32) (KeyCall.present_update 1 1)) (ends 48 Ending.FirstConfirmed ∷ [])
    ∷ Row.adds (pending_incoming 0) (Call.on_key (key 32) (KeyCall.insert_or_update (plain 32) 1 1 0 no_hours)) (ends 48 Ending.FirstConfirmed ∷ [])
    ∷ Row.adds (pending_over_one ++ (Call.on_key (key 32) (KeyCall.remove 0) ∷ [])) (Call.on_key (key 33) (KeyCall.present_update 1 2)) (ends 48 Ending.FirstConfirmed ∷ [])
    -- a due one has been ended by then, with the record that applying it left
    ∷ Row.adds pending_at100 (Call.on_key (key 33) (KeyCall.update_node_status 1 2 60100)) (record_of 48 32 ∷ [])
    -- place 0 given Disconnected, or another place Connected; a value alone; a failed value's step; remove; an entry's insert; Pending update
    ∷ Row.adds pending_at100 (Call.on_key (key 32) (KeyCall.update_node_status 0 2 100)) []
    ∷ Row.adds pending_at100 (Call.on_key (key 33) (KeyCall.present_update 1 2)) []
    ∷ Row.adds pending_at100 (Call.on_key (key 32) (KeyCall.update_node (plain 7) 2 100)) []
    ∷ Row.adds (third_pending ++ (Call.on_key (key 34) (KeyCall.update_node (addressed 2 0) 2 0) ∷ [])) (Call.on_key (key 32) (KeyCall.update_node (addressed 5 0) 1 0)) []
    ∷ Row.adds pending_at100 (Call.on_key (key 32) (KeyCall.remove 100)) []
    ∷ Row.adds pending_at100 (Call.on_key (key 49) (KeyCall.absent_insert (plain 49) 1 0 60100 no_hours)) []
    ∷ Row.adds pending_at100 (Call.on_key (key 48) (KeyCall.pending_update 0 0)) []
    -- new leaves no record of the pendings that it ends
    ∷ Row.adds two_pending (start 16 0 0) []
    -- a direct insert of another key leaves the pending
    ∷ Row.adds (pending_at100 ++ (Call.on_key (key 33) (KeyCall.remove 100) ∷ [])) (Call.on_key (key 49) (KeyCall.insert_or_update (plain 49) 1 0 100 no_hours)) []
    -- a dropped pending neither counts in the applying pass nor stops it; given twice, its distance yields one record
    ∷ Row.adds (third_pending ++ (from disconnected 64 16 ++ (connected 80 ∷ [])))
    (Call.list (Listing.nodes_by_distances (6 ∷ 6 ∷ 7 ∷ [])) 16 60000 (zeros (16 * node_size))) (ends 48 Ending.BucketFilter ∷ record_of 80 64 ∷ [])
    -- the bytes of a table, and how many there are
    ∷ Row.stores two_applied 5
    (zeros 31 ++ (1 ∷ (zeros 6 ++ (234 ∷ 96 ∷ 7 ∷ 1 ∷ 0 ∷ 2 ∷ (zeros padding_size ++ (zeros 31 ++ (48 ∷ 1 ∷ (plain_bytes 0 32 ++ (zeros 31 ++ (49 ∷ []))))))))))
    (16 ∷ 13 ∷ (joined (plain_bytes 0) (numbers 34 13)
    ++ (zeros 31 ++ (47 ∷ 1 ∷ 1 ∷ 1 ∷ 1 ∷ 2 ∷ 3 ∷ 4 ∷ (numbers 1 slot_size ++ (plain_bytes 1 48 ++ (plain_bytes 1 49 ++ (1 ∷ (plain_bytes 1 50 ++ (zeros 6 ++ (234 ∷ 103 ∷ [])))))))))))
    ∷ Row.sizes (13 ∷ 47 ∷ 80 ∷ 810 ∷ 48 ∷ 5168 ∷ 212528 ∷ [])
    ∷ Row.restores (start 16 0 0 ∷ disconnected 2 ∷ []) 1
    -- what is written: the entries found; behind them the bytes stay
    ∷ Row.writes three_nodes (Listing.closest_keys (key 4)) 2 (zeros (2 * key_size)) (key 4 ++ key 6)
    ∷ Row.writes three_nodes (Listing.closest_values (key 4)) 1 (zeros (key_size + value_size)) (key 4 ++ (1 ∷ 10 ∷ 0 ∷ 0 ∷ 4 ∷ bytes slot_size 7))
    ∷ Row.writes three_nodes (Listing.closest_values_predicate (key 4) (predicate 2)) 1 (zeros (key_size + 1 + value_size)) (key 4 ++ (1 ∷ 1 ∷ 10 ∷ 0 ∷ 0 ∷ 4 ∷ bytes slot_size 7))
    ∷ Row.writes three_nodes (Listing.closest_values_predicate (key 6) (predicate 2)) 1 (replicate (key_size + 1 + value_size + 9) 9)
    (key 6 ++ (0 ∷ (zeros 5 ++ (bytes slot_size 7 ++ replicate 9 9))))
    ∷ Row.writes (start 1 0 0 ∷ Call.on_key (key 32) (KeyCall.absent_insert (addressed 9 (256 ^ slot_size - 1)) 1 1 0 no_hours) ∷ []) Listing.iter 2 (replicate (2 * node_size) 9)
    (key 32 ++ (1 ∷ 1 ∷ 1 ∷ 10 ∷ 0 ∷ 0 ∷ 9 ∷ (replicate slot_size 255 ++ replicate node_size 9)))
    -- the predicates
    ∷ Row.matches three_nodes 5 (predicate 0) 4 (true ∷ true ∷ true ∷ true ∷ [])
    ∷ Row.matches three_nodes 5 (predicate 1) 4 (true ∷ false ∷ true ∷ true ∷ [])
    ∷ Row.matches three_nodes 5 (predicate 2) 4 (true ∷ false ∷ false ∷ false ∷ [])
    ∷ Row.matches three_nodes 5 (predicate 3) 4 (true ∷ true ∷ false ∷ false ∷ [])
    ∷ Row.matches (start 16 0 0 ∷ Call.on_key (key 32) (KeyCall.absent_insert octets 0 0 0 no_hours) ∷ []) 32 (net 1 2 3) 1 (true ∷ [])
    ∷ Row.matches (start 16 0 0 ∷ Call.on_key (key 32) (KeyCall.absent_insert octets 0 0 0 no_hours) ∷ []) 32 (net 2 2 3) 1 (false ∷ [])
    ∷ Row.matches (start 16 0 0 ∷ Call.on_key (key 32) (KeyCall.absent_insert octets 0 0 0 no_hours) ∷ []) 32 (net 1 3 3) 1 (false ∷ [])
    -- no further bucket is visited after the n-th item: the due pending of bucket 5 stays, then it is applied
    ∷ Row.answers (pending_at100 ++ (disconnected 1 ∷ []))
    (Call.list Listing.iter 1 60100 (zeros node_size) ∷ Call.take_applied_pending ∷ Call.list Listing.iter 2 60100 (zeros (2 * node_size)) ∷ Call.take_applied_pending ∷ [])
    (Answer.Found 1 ∷ no_record ∷ Answer.Found 2 ∷ evicting 48 32 ∷ [])
    -- Insert, first match: FailedFilter before TooManyIncoming, TooManyIncoming before Full
    ∷ Row.answers (start 0 0 1 ∷ Call.on_key (key 32) (KeyCall.absent_insert (addressed 1 0) 0 0 0 no_hours) ∷ Call.on_key (key 33) (KeyCall.absent_insert (addressed 2 0) 0 0 0 no_hours) ∷ [])
    (Call.on_key (key 34) (KeyCall.absent_insert (addressed 3 0) 1 1 0 no_hours) ∷ []) (Answer.Insert BucketInsertResult.FailedFilter ∷ [])
    ∷ Row.answers (start 0 0 0 ∷ from disconnected 32 16) (Call.on_key (key 48) (KeyCall.absent_insert (plain 48) 1 1 0 no_hours) ∷ [])
    (Answer.Insert BucketInsertResult.TooManyIncoming ∷ [])
    -- a due pending is dropped: 16 held and the bucket filter fails; a free place and the filter fails; 16 held and at the maximum
    ∷ Row.answers third_pending (Call.on_key (key 48) (KeyCall.entry 60000) ∷ Call.take_applied_pending ∷ []) (absent ∷ taken 48 Ending.BucketFilter ∷ [])
    ∷ Row.answers third_pending (Call.on_key (key 34) (KeyCall.remove 0) ∷ Call.on_key (key 48) (KeyCall.entry 60000) ∷ Call.take_applied_pending ∷ []) (Answer.Remove true ∷ absent ∷ taken 48 Ending.BucketFilter ∷ [])
    ∷ Row.answers (start 0 0 0 ∷ (from disconnected 32 16 ++ (connected 48 ∷ Call.on_key (key 48) (KeyCall.pending_update 1 1) ∷ [])))
    (Call.on_key (key 48) (KeyCall.entry 60000) ∷ Call.take_applied_pending ∷ []) (absent ∷ taken 48 Ending.TooManyIncoming ∷ [])
    -- another place given Connected, or place 0 given Disconnected, leaves the pending
    ∷ Row.answers pending_at100 (Call.on_key (key 33) (KeyCall.update_node_status 1 2 100) ∷ Call.on_key (key 32) (KeyCall.update_node_status 0 2 100) ∷ Call.on_key (key 48) (KeyCall.entry 100) ∷ [])
    (Answer.Update UpdateResult.UpdatedAndPromoted ∷ Answer.Update UpdateResult.NotModified ∷ pending true ∷ [])
    -- a direction that is given is set; update_node on a pending, with a state
    ∷ Row.answers (start 16 0 0 ∷ connected 32 ∷ []) (Call.on_key (key 32) (KeyCall.update_node_status 1 1 0) ∷ Call.on_key (key 32) (KeyCall.entry 0) ∷ [])
    (Answer.Update UpdateResult.Updated ∷ Answer.Entry (EntryKind.Present true true) ∷ [])
    ∷ Row.answers pending_at100 (Call.on_key (key 48) (KeyCall.pending_update 1 1) ∷ Call.on_key (key 48) (KeyCall.entry 100) ∷ [])
    (Answer.Update UpdateResult.UpdatedPending ∷ Answer.Entry (EntryKind.Pending true true) ∷ [])
    ∷ Row.answers pending_at100 (Call.on_key (key 48) (KeyCall.update_node (plain 7) 0 100) ∷ Call.on_key (key 48) (KeyCall.entry 100) ∷ [])
    (Answer.Update UpdateResult.UpdatedPending ∷ pending false ∷ [])
    -- the applying pass of nodes_by_distances stops after a placed record at which the buckets that yielded one hold n; bucket 0 yields none;
    -- the oldest record is taken first
    ∷ Row.answers two_pending
    (Call.list (Listing.nodes_by_distances (6 ∷ 7 ∷ [])) 16 60100 (zeros (16 * node_size)) ∷ Call.take_applied_pending ∷ Call.take_applied_pending ∷ [])
    (Answer.Found 16 ∷ evicting 48 32 ∷ no_record ∷ [])
    ∷ Row.answers two_pending
    (Call.list (Listing.nodes_by_distances (1 ∷ 6 ∷ 7 ∷ [])) 17 60100 (zeros (17 * node_size)) ∷ Call.take_applied_pending ∷ Call.take_applied_pending ∷ [])
    (Answer.Found 17 ∷ evicting 48 32 ∷ evicting 80 64 ∷ [])
    -- the local key
    ∷ Row.answers (start 16 0 0 ∷ [])
    (Call.on_key (key 0) (KeyCall.update_node_status 1 2 0) ∷ Call.on_key (key 0) (KeyCall.update_node (plain 0) 1 0) ∷ insert_or_update 0 ∷ Call.on_key (key 0) (KeyCall.remove 0) ∷ Call.on_key (key 0) (KeyCall.entry 0) ∷ [])
    (Answer.Update UpdateResult.NotModified ∷ Answer.Update UpdateResult.NotModified ∷ insert_failed FailureReason.InvalidSelfUpdate ∷ Answer.Remove false
    ∷ Answer.Entry EntryKind.SelfEntry ∷ [])
    ∷ Row.refuses (start 16 0 0 ∷ []) (Call.on_key (key 0) (KeyCall.present_update 1 2)) 7
    ∷ Row.refuses (start 16 0 0 ∷ []) (Call.on_key (key 0) (KeyCall.pending_update 1 0)) 7
    ∷ Row.refuses (start 16 0 0 ∷ []) (disconnected 0) 7
    -- an accepted new empties the table
    ∷ Row.answers pending_at100 (start 16 0 0 ∷ Call.on_key (key 32) (KeyCall.entry 0) ∷ Call.on_key (key 48) (KeyCall.entry 0) ∷ []) (Answer.New ∷ absent ∷ absent ∷ [])
    ∷ Row.answers two_applied (start 16 0 0 ∷ Call.take_applied_pending ∷ []) (Answer.New ∷ no_record ∷ [])
    -- the rows tell all answers apart
    ∷ Row.apart all_answers
    -- slots that differ in one byte, each of the eight (02, slip 2)
    ∷ joined unequal_slots (map (λ i. 256 ^ i) (numbers 0 slot_size))

-- 01, "The gatekeeper's questions": question 2, of the parts of a storage
unfoldable pub formed_cases : List Row
formed_cases =
    -- of a bucket: well formed; connected incoming beyond max_incoming; keys of another index
    Row.formed 5 1 four true
    ∷ Row.formed 5 0 four false
    ∷ Row.formed 6 1 four false
    -- a count that is too great, or leaves bytes that are not zero; the first connected place not exact
    ∷ Row.formed 5 1 (with 0 17) false
    ∷ Row.formed 5 1 (with 0 3) false
    ∷ Row.formed 5 1 (with 1 1) false
    ∷ Row.formed 5 1 (with 1 3) false
    ∷ Row.formed 5 1 (splice (zeros bucket_size) 0 (0 ∷ 1 ∷ [])) false
    -- a key held twice; a pending that is held, or of another index
    ∷ Row.formed 5 1 (four_nodes (node 32 0 0 ∷ node 32 0 0 ∷ []) (node 48 1 0)) false
    ∷ Row.formed 5 1 (four_nodes (node 32 0 0 ∷ node 33 0 0 ∷ []) (node 33 1 0)) false
    ∷ Row.formed 5 1 (four_nodes (node 32 0 0 ∷ node 33 0 0 ∷ []) (node 64 1 0)) false
    -- codes out of range: direction, address flag, octets at flag 0, pending flag; unused bytes that are not zero
    ∷ Row.formed 5 1 (with (place_at 0 + key_size + 1) 2) false
    ∷ Row.formed 5 1 (with (flag_at 0) 2) false
    ∷ Row.formed 5 1 (with (flag_at 0 + 4) 1) false
    ∷ Row.formed 5 1 (with pending_at 2) false
    ∷ Row.formed 5 1 (with pending_at 0) false
    ∷ Row.formed 5 1 (with (pending_at - 1) 1) false
    ∷ Row.formed 5 1 (with (pending_at + 1 + key_size) 2) false
    ∷ Row.formed 5 1 (splice (zeros bucket_size) (bucket_size - 1) (1 ∷ [])) false
    -- of a bucket in a storage: the local key and max_incoming are the header's
    ∷ Row.formed_at incoming_first 0 true
    ∷ Row.formed_at (splice incoming_first 0 (key 0)) 0 false
    ∷ Row.formed_at (splice incoming_first max_incoming_at (0 ∷ [])) 0 false
    -- of the header: codes out of range; 65 records; unused bytes that are not zero, the first and the last of the padding among them
    ∷ Row.formed_header (header_with 64 max_incoming_at (17 ∷ [])) false
    ∷ Row.formed_header (header_with 64 table_filter_at (2 ∷ [])) false
    ∷ Row.formed_header (header_with 64 bucket_filter_at (2 ∷ [])) false
    ∷ Row.formed_header (header_with 65 0 []) false
    ∷ Row.formed_header (header_with 0 (record_at 0) (1 ∷ [])) false
    ∷ Row.formed_header (header_with 64 padding_at (1 ∷ [])) false
    ∷ Row.formed_header (header_with 64 (record_at 0 - 1) (1 ∷ [])) false
    ∷ Row.formed_header (header_with 64 (record_at 63) (evicted_bytes 1 (plain_bytes 1 32))) true
    ∷ Row.formed_header (header_with 64 (record_at 63) (evicted_bytes 2 (plain_bytes 1 32))) false
    -- of a record: the kind; the evicted node's state, direction, address flag and octets; unused bytes that are not zero
    ∷ Row.formed_record (evicted_bytes 1 (plain_bytes 1 32)) true
    ∷ Row.formed_record (evicted_bytes 2 (plain_bytes 1 32)) false
    ∷ Row.formed_record (evicted_bytes 1 (plain_bytes 2 32)) false
    ∷ Row.formed_record (evicted_bytes 1 (key 32 ++ (0 ∷ 2 ∷ zeros value_size))) false
    ∷ Row.formed_record (evicted_bytes 1 (key 32 ++ (0 ∷ 0 ∷ 2 ∷ zeros (value_size - 1)))) false
    ∷ Row.formed_record (evicted_bytes 1 (key 32 ++ (0 ∷ 0 ∷ 0 ∷ 0 ∷ 0 ∷ 0 ∷ 1 ∷ zeros slot_size))) false
    ∷ Row.formed_record (evicted_bytes 0 (zeros node_size)) true
    ∷ Row.formed_record (evicted_bytes 0 (zeros (node_size - 1) ++ (1 ∷ []))) false
    ∷ Row.formed_record (evicted_bytes 2 (zeros node_size)) true
    ∷ Row.formed_record (evicted_bytes 6 (zeros node_size)) true
    ∷ Row.formed_record (evicted_bytes 6 (zeros (node_size - 1) ++ (1 ∷ []))) false
    ∷ Row.formed_record (evicted_bytes 7 (zeros node_size)) false
    ∷ []

-- the other questions
unfoldable pub question_cases : List Row
question_cases =
    -- question 1: a storage of five bytes; in front of question 2, max_incoming 17
    Row.refuses_bytes (zeros 5) (Call.list Listing.iter 1 0 (zeros node_size)) 1
    ∷ Row.refuses_bytes (zeros 5) (Call.new (key 0) 0 16 0 0) 1
    ∷ Row.refuses_bytes (zeros max_incoming_at ++ (17 ∷ [])) (Call.list Listing.iter 0 0 []) 1
    -- question 3: a key of 31 bytes, in front of a code out of range
    ∷ Row.refuses pending_at100 (Call.on_key (bytes 31 32) (KeyCall.update_node_status 2 2 0)) 3
    ∷ Row.refuses pending_at100 (Call.new (bytes 31 0) 0 16 0 0) 3
    ∷ Row.refuses pending_at100 (Call.list (Listing.closest_keys (bytes 31 0)) 1 0 (zeros key_size)) 3
    ∷ Row.refuses pending_at100 (Call.list (Listing.closest_values (bytes 33 0)) 0 0 []) 3
    ∷ Row.refuses pending_at100 (Call.list (Listing.closest_values_predicate (bytes 33 0) (predicate 0)) 0 0 []) 3
    -- question 5: the last time that fits
    ∷ Row.answers pending_at100 (Call.on_key (key 33) (KeyCall.remove (2 ^ 64 - 60001)) ∷ []) (Answer.Remove true ∷ [])
    -- question 6: n above 4,096, an output one byte short, and the one entry of nodes_by_distances at 0
    ∷ Row.refuses pending_at100 (Call.list (Listing.closest_keys (key 1)) 4097 60100 (zeros (4097 * key_size))) 6
    ∷ Row.refuses pending_at100 (Call.list Listing.iter 2 60100 (zeros (2 * node_size - 1))) 6
    ∷ Row.refuses pending_at100 (Call.list (Listing.nodes_by_distances (6 ∷ [])) 0 60100 (zeros (node_size - 1))) 6
    ∷ Row.refuses pending_at100 (Call.list (Listing.closest_keys (key 1)) 1 60100 (zeros 31)) 6
    ∷ Row.refuses pending_at100 (Call.list (Listing.closest_values (key 1)) 1 60100 (zeros (key_size + value_size - 1))) 6
    ∷ Row.refuses pending_at100 (Call.list (Listing.closest_values_predicate (key 1) (predicate 0)) 1 60100 (zeros (key_size + value_size))) 6
    ∷ Row.answers (start 16 0 0 ∷ []) (list (Listing.closest_keys (key 1)) key_size 4096 ∷ []) (Answer.Found 0 ∷ [])
    -- question 7: the key is of another kind; a due pending is still pending
    ∷ Row.refuses pending_at100 (Call.on_key (key 48) (KeyCall.present_update 0 2)) 7
    ∷ Row.refuses pending_at100 (Call.on_key (key 49) (KeyCall.present_update 0 2)) 7
    ∷ Row.refuses pending_at100 (Call.on_key (key 32) (KeyCall.pending_update 0 0)) 7
    ∷ Row.refuses pending_at100 (Call.on_key (key 32) (KeyCall.absent_insert (plain 32) 0 0 0 no_hours)) 7
    ∷ Row.refuses pending_at100 (Call.on_key (key 48) (KeyCall.absent_insert (plain 48) 0 0 60100 no_hours)) 7
    -- question 8: the 64th record fits, the next does not
    ∷ Row.answers (full_at_once ++ (applied 272 63 ++ (connected 335 ∷ []))) (settle 335 ∷ []) (Answer.Update UpdateResult.Updated ∷ [])
    ∷ Row.refuses (full_at_once ++ (applied 272 64 ++ (connected 336 ∷ []))) (settle 336) 8
    -- 02, slip 4: it counts every ending; Present update is asked it too, and refused only where it ends the pending
    ∷ Row.answers (full_at_once ++ (applied 272 63 ++ (connected 335 ∷ []))) (Call.on_key (key 319) (KeyCall.present_update 1 2) ∷ []) (Answer.Update UpdateResult.UpdatedAndPromoted ∷ [])
    ∷ Row.refuses (full_at_once ++ (applied 272 64 ++ (connected 336 ∷ []))) (Call.on_key (key 320) (KeyCall.present_update 1 2)) 8
    ∷ Row.answers (full_at_once ++ (applied 272 64 ++ (connected 336 ∷ []))) (Call.on_key (key 321) (KeyCall.present_update 1 2) ∷ []) (Answer.Update UpdateResult.UpdatedAndPromoted ∷ [])
    -- questions 4 and 5, of each call
    ∷ (refusals 4 codes_out_of_range ++ refusals 5 all_too_late)

-- calls on the bytes of a whole storage
unfoldable pub storage_cases : List Row
storage_cases =
    -- question 2: max_incoming 17; in front of a key of 31 bytes
    Row.refuses_bytes (zeros max_incoming_at ++ (17 ∷ zeros (storage_size - (max_incoming_at + 1)))) (Call.list (Listing.closest_keys (bytes 31 0)) 0 0 []) 2
    -- new is not asked question 2; the settings that it leaves
    ∷ Row.leaves (replicate storage_size 9) (Call.new (key 1) 60000 7 1 0) Answer.New 0 (key 1 ++ (zeros 6 ++ (234 ∷ 96 ∷ 7 ∷ 1 ∷ 0 ∷ 0 ∷ [])))
    ∷ []
