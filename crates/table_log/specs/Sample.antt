-- Lists of calls on which table and log are compared by computing. The first fills bucket 5 (keys 32 to 63), evicts, fails, is refused,
-- and changes state, direction and value of held and of pending nodes. The second has each of the six endings of a pending (02, slip 4). In
-- the third, nodes are loaded (02, slip 6).
use Rattle.std.specs.Prelude.{ℕ, ◌+◌, ◌*◌, ◌^◌, Bool, true, ◌&&◌, ◌||◌, List, [], ◌∷◌, ◌++◌, map, reverse, eqb}
use Rattle.std.proofs.Math.Option.{none, some}
use Rattle.model.specs.Base.{every, joined}
use Rattle.model.specs.Bytes.{zeros}
use Rattle.model.specs.Node.{Ending}
use Rattle.model.specs.Result.{FailureReason, BucketInsertResult, UpdateResult, InsertResult}
use Rattle.model.specs.Bucket.{nodes}
use Rattle.model.specs.Table.{Table, EntryKind, Answer}
use Rattle.model.specs.Sizes.{node_size}
use Rattle.model.specs.Call.{ValueArgument, Listing, Call, KeyCall, no_hours}
use Rattle.model.specs.Saved.{saved}
use Rattle.model.specs.Step.{node_of, act, step}
use Rattle.model.specs.Numbers.{same_numbers, node_numbers, settings_numbers, answer_numbers}
use Rattle.model.specs.Rows.{no_table, key, plain, addressed, from}
use Rattle.table_log.specs.Log.{Entry, Log, is_refused, log_of, log_bucket}
use Rattle.table_log.specs.Claim.{table_after, entries}
use Rattle.table_log.specs.Pending.{answered_pending, recorded, still_waiting, due_ended, one_record}

-- a new node at time 0, whose slot is its key
abbrev inserted : (state : ℕ) → ℕ → Call × Answer
inserted st k = (Call.on_key (key k) (KeyCall.insert_or_update (plain k) st 0 0 no_hours), Answer.InsertOrUpdate InsertResult.Inserted)

-- Calls and what they answer. At most one connected incoming node, bucket filter on, timeout 60,000.
unfoldable pub sample : List (Call × Answer)
sample =
    (Call.new (key 0) 60000 1 0 1, Answer.New)
    -- bucket 5 is filled with disconnected nodes
    ∷ (from (inserted 0) 32 16
    -- 48 is pending, due at 60,100; a second call on it fails, and what it gives does not count
    ++ ((Call.on_key (key 48) (KeyCall.insert_or_update (plain 48) 1 0 100 no_hours), Answer.InsertOrUpdate (InsertResult.Pending 32))
    ∷ (Call.on_key (key 48) (KeyCall.insert_or_update (plain 7) 1 0 101 no_hours), Answer.InsertOrUpdate (InsertResult.Failed FailureReason.BucketFull))
    -- refused: insert_or_update must be given a direction
    ∷ (Call.on_key (key 34) (KeyCall.insert_or_update (plain 7) 0 2 102 no_hours), Answer.Refused 4)
    -- 33 moves behind 47; 35 keeps its place and gets another slot
    ∷ (Call.on_key (key 33) (KeyCall.update_node_status 0 2 103), Answer.Update UpdateResult.NotModified)
    ∷ (Call.on_key (key 35) (KeyCall.update_node (plain 9) 2 104), Answer.Update UpdateResult.Updated)
    -- 48 is applied and evicts 32, which was held when the call came; 32 is pending then
    ∷ (Call.on_key (key 32) (KeyCall.insert_or_update (plain 32) 1 0 60100 no_hours), Answer.InsertOrUpdate (InsertResult.Pending 34))
    -- 36 connects, incoming; 37 would be one too many and is taken out; 38 is removed
    ∷ (Call.on_key (key 36) (KeyCall.update_node_status 1 1 60101), Answer.Update UpdateResult.UpdatedAndPromoted)
    ∷ (Call.on_key (key 37) (KeyCall.update_node_status 1 1 60102), Answer.Update (UpdateResult.Failed FailureReason.TooManyIncoming))
    ∷ (Call.on_key (key 38) (KeyCall.remove 60103), Answer.Remove true)
    -- the pending 32 gets another status; a listing applies it, with no eviction
    ∷ (Call.on_key (key 32) (KeyCall.pending_update 0 1), Answer.Update UpdateResult.UpdatedPending)
    ∷ (Call.list Listing.iter 2 120100 (zeros (2 * node_size)), Answer.Found 2)
    -- 37 comes again
    ∷ (Call.on_key (key 37) (KeyCall.absent_insert (plain 3) 1 0 120100 no_hours), Answer.Insert BucketInsertResult.Inserted)
    -- 49 is pending; the call that applies it moves 48 behind it
    ∷ (Call.on_key (key 49) (KeyCall.insert_or_update (plain 49) 1 0 120101 no_hours), Answer.InsertOrUpdate (InsertResult.Pending 34))
    ∷ (Call.on_key (key 48) (KeyCall.update_node_status 1 2 180101), Answer.Update UpdateResult.NotModified)
    -- two nodes of bucket 6; the first is set connected again and moves
    ∷ inserted 1 64
    ∷ inserted 1 65
    ∷ (Call.on_key (key 64) (KeyCall.present_update 1 2), Answer.Update UpdateResult.NotModified)
    ∷ (Call.take_applied_pending, Answer.TakeAppliedPending (some (record { key = 48; ending = Ending.Placed (some (node_of (key 32) (plain 32) 0 0)) })))
    -- a further new, with other settings and another local key; then 32 is of bucket 5 again
    ∷ (Call.new (key 1) 0 16 1 0, Answer.New)
    ∷ inserted 0 32
    ∷ []))

-- The bucket is full and d stands at place 0: a connected node becomes pending, due ten later.
abbrev waits : (k : ℕ) (v : ValueArgument) (direction now d : ℕ) → Call × Answer
waits k v dr now d = (Call.on_key (key k) (KeyCall.insert_or_update v 1 dr now no_hours), Answer.InsertOrUpdate (InsertResult.Pending d))

-- a call that applies what is due in the bucket
abbrev looks : ℕ → Call × Answer
looks now = (Call.on_key (key 63) (KeyCall.entry now), Answer.Entry EntryKind.Absent)

abbrev takes : ℕ → Ending → Call × Answer
takes k e = (Call.take_applied_pending, Answer.TakeAppliedPending (some (record { key = k; ending = e })))

-- All keys are of bucket 255. At most one connected incoming node, bucket filter on, timeout 10.
unfoldable pub endings : List (Call × Answer)
endings =
    (Call.new (key (2 ^ 255)) 10 1 0 1, Answer.New)
    -- four disconnected nodes and twelve connected
    ∷ (from (inserted 0) 32 4
    ++ (from (inserted 1) 36 12
    -- 48 is placed and evicts 32
    ++ (waits 48 (plain 48) 0 0 32
    ∷ looks 10
    -- 49 is cleared: place 0 is confirmed
    ∷ waits 49 (plain 49) 0 10 33
    ∷ (Call.on_key (key 33) (KeyCall.update_node_status 1 2 11), Answer.Update UpdateResult.UpdatedAndPromoted)
    -- 50 is dropped by the bucket filter: two nodes got addresses of its /24
    ∷ waits 50 (addressed 1 50) 0 12 34
    ∷ (Call.on_key (key 36) (KeyCall.update_node (addressed 2 36) 2 13), Answer.Update UpdateResult.Updated)
    ∷ (Call.on_key (key 37) (KeyCall.update_node (addressed 3 37) 2 14), Answer.Update UpdateResult.Updated)
    ∷ looks 22
    -- 51 is dropped by the incoming limit: 38 became incoming
    ∷ waits 51 (plain 51) 1 23 34
    ∷ (Call.on_key (key 38) (KeyCall.update_node_status 1 1 24), Answer.Update UpdateResult.Updated)
    ∷ looks 33
    -- 52 is cleared by a direct insert
    ∷ waits 52 (plain 52) 0 34 34
    ∷ (Call.on_key (key 39) (KeyCall.remove 35), Answer.Remove true)
    ∷ (Call.on_key (key 52) (KeyCall.insert_or_update (plain 52) 1 0 36 no_hours), Answer.InsertOrUpdate InsertResult.Inserted)
    -- 53 is dropped: all sixteen are connected by then
    ∷ waits 53 (plain 53) 0 37 34
    ∷ (Call.on_key (key 35) (KeyCall.update_node_status 1 2 38), Answer.Update UpdateResult.UpdatedAndPromoted)
    ∷ (Call.on_key (key 34) (KeyCall.remove 39), Answer.Remove true)
    ∷ (Call.on_key (key 54) (KeyCall.insert_or_update (plain 54) 1 0 40 no_hours), Answer.InsertOrUpdate InsertResult.Inserted)
    ∷ looks 47
    ∷ takes 48 (Ending.Placed (some (node_of (key 32) (plain 32) 0 0)))
    ∷ takes 49 Ending.FirstConfirmed
    ∷ takes 50 Ending.BucketFilter
    ∷ takes 51 Ending.TooManyIncoming
    ∷ takes 52 Ending.Inserted
    ∷ takes 53 Ending.FirstConnected
    ∷ (Call.take_applied_pending, Answer.TakeAppliedPending none)
    -- 55 waits, changed while it does; once it is due, an Absent insert does not end it
    ∷ (Call.on_key (key 54) (KeyCall.update_node_status 0 2 48), Answer.Update UpdateResult.Updated)
    ∷ waits 55 (plain 55) 0 49 54
    ∷ (Call.on_key (key 55) (KeyCall.pending_update 1 1), Answer.Update UpdateResult.UpdatedPending)
    ∷ (Call.on_key (key 56) (KeyCall.absent_insert (plain 56) 1 0 60 no_hours), Answer.Insert BucketInsertResult.Full)
    ∷ [])))

-- `new` ends 55 and leaves no record
abbrev pub new_again : List (Call × Answer)
new_again = (Call.new (key 0) 10 1 0 1, Answer.New) ∷ []

-- Two buckets of the old box: in each a greater key stands before a smaller one.
abbrev pub old_box : List (Call × Answer)
old_box =
    (Call.new (key 0) 60000 1 0 1, Answer.New)
    ∷ inserted 0 33
    ∷ inserted 1 35
    ∷ inserted 0 32
    ∷ (Call.on_key (key 34) (KeyCall.insert_or_update (addressed 1 34) 1 1 0 no_hours), Answer.InsertOrUpdate InsertResult.Inserted)
    ∷ inserted 1 65
    ∷ inserted 1 64
    ∷ []

-- Calls on the new one: 33 moves behind 32; 34 disconnects and moves behind 33; 36 comes; 64 departs.
abbrev pub new_box : List (Call × Answer)
new_box =
    (Call.on_key (key 33) (KeyCall.update_node_status 0 2 1), Answer.Update UpdateResult.NotModified)
    ∷ (Call.on_key (key 34) (KeyCall.update_node_status 0 2 2), Answer.Update UpdateResult.Updated)
    ∷ inserted 1 36
    ∷ (Call.on_key (key 64) (KeyCall.remove 3), Answer.Remove true)
    ∷ []

abbrev pub calls : List (Call × Answer) → List Call
calls cs = map (λ (c : Call × Answer). c.0) cs

-- the calls answer what stands beside them
abbrev pub answers_on : Table → List (Call × Answer) → Bool
answers_on t cs =
    same_numbers (joined (λ (e : Entry). answer_numbers e.answer) (entries (calls cs) t)) (joined (λ (c : Call × Answer). answer_numbers c.1) cs)

unfoldable pub answers_hold : List (Call × Answer) → Bool
answers_hold cs = answers_on no_table cs

-- bucket i of the table and of the log: keys, states, directions and values, place by place
abbrev pub same_bucket : Table → Log → ℕ → Bool
same_bucket t l i = same_numbers (joined node_numbers (nodes (t.buckets i))) (joined node_numbers (log_bucket l i))

-- the settings and the buckets named are what the log says of the calls
abbrev pub agrees_after : List ℕ → List Call → Bool
agrees_after is cs =
    let t = table_after cs no_table in
    let l = log_of (reverse (entries cs no_table)) in
    same_numbers (settings_numbers t.settings) (settings_numbers l.settings) && every (same_bucket t l) is

-- the beginnings of a list, itself among them
abbrev pub beginnings : {A : Type 0} → List A → List (List A)
beginnings [] = [] ∷ []
beginnings (x ∷ xs) = [] ∷ map (λ ys. x ∷ ys) (beginnings xs)

-- so it is after all of them
unfoldable pub end_agrees : List ℕ → List (Call × Answer) → Bool
end_agrees is cs = agrees_after is (calls cs)

-- and after each
unfoldable pub log_agrees : List ℕ → List (Call × Answer) → Bool
log_agrees is cs = every (agrees_after is) (beginnings (calls cs))

-- After `new`, a read of the old box's nodes and calls on them. The read is `act`'s: that it is accepted is a law (crates/laws, Saved).
unfoldable pub swap_agrees : List ℕ → List (Call × Answer) → Bool
swap_agrees is cs =
    let made : Call = Call.new (key 0) 60000 1 0 1 in
    let load : Call = Call.read (saved (table_after (calls old_box) no_table)) in
    let o = act load (step made no_table).table in
    let h : List Entry = record { call = load; answer = o.answer; records = o.records } ∷ entries (made ∷ []) no_table in
    let l : Log = log_of (reverse (entries (calls cs) o.table) ++ h) in
    answers_on no_table old_box && (answers_on o.table cs && every (same_bucket (table_after (calls cs) o.table) l) is)

-- Pendings: the counts after each call, a due pending of a bucket that the call applies, one record. h: the entries so far, newest first
abbrev pub pendings_after : List Call → List Entry → Table → Bool
pendings_after [] h t = true
pendings_after (c ∷ cs) h t =
    let o = step c t in
    let h' : List Entry = record { call = c; answer = o.answer; records = o.records } ∷ h in
    eqb (answered_pending h') (recorded h' + still_waiting o.table)
    && ((is_refused o.answer || due_ended c t o.records) && (one_record c o.records && pendings_after cs h' o.table))

unfoldable pub pendings_hold : List (Call × Answer) → Bool
pendings_hold cs = pendings_after (calls cs) [] no_table
