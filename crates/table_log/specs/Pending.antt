-- What became of a pending (02, slip 4): what is claimed of every list of calls that follows an accepted `new`, and of every call.
use Rattle.std.specs.Prelude.{ℕ, zero, suc, ◌+◌, ◌≡◌, Bool, true, false, cond, not, ◌||◌, List, [], ◌∷◌, length, leb}
use Rattle.std.proofs.Math.Option.{Option, none, some}
use Rattle.model.specs.Base.{same, every}
use Rattle.model.specs.Node.{PendingNode, EndedPending}
use Rattle.model.specs.Result.{BucketInsertResult, InsertResult}
use Rattle.model.specs.Bucket.{Bucket}
use Rattle.model.specs.Table.{Table, Answer, num_buckets}
use Rattle.model.specs.Call.{Call, KeyCall}
use Rattle.model.specs.Listing.{applies}
use Rattle.model.specs.Question.{arguments}
use Rattle.model.specs.StepBytes.{bucket_of_key}
use Rattle.table_log.specs.Log.{Entry, Role, role, is_refused}

-- Inserts that answered Pending: of insert_or_update and of Absent insert.

abbrev pub insert_pending : InsertResult → ℕ
insert_pending InsertResult.Inserted = 0
insert_pending (InsertResult.Pending k) = 1
insert_pending (InsertResult.StatusUpdated p) = 0
insert_pending InsertResult.ValueUpdated = 0
insert_pending (InsertResult.Updated p) = 0
insert_pending InsertResult.UpdatedPending = 0
insert_pending (InsertResult.Failed r) = 0

abbrev pub bucket_insert_pending : BucketInsertResult → ℕ
bucket_insert_pending BucketInsertResult.Inserted = 0
bucket_insert_pending (BucketInsertResult.Pending k) = 1
bucket_insert_pending BucketInsertResult.FailedFilter = 0
bucket_insert_pending BucketInsertResult.TooManyIncoming = 0
bucket_insert_pending BucketInsertResult.Full = 0
bucket_insert_pending BucketInsertResult.NodeExists = 0

abbrev pub pending_answer : Answer → ℕ
pending_answer (Answer.Refused n) = 0
pending_answer Answer.New = 0
pending_answer (Answer.Update r) = 0
pending_answer (Answer.InsertOrUpdate r) = insert_pending r
pending_answer (Answer.Insert r) = bucket_insert_pending r
pending_answer (Answer.Remove r) = 0
pending_answer (Answer.Entry k) = 0
pending_answer (Answer.Found n) = 0
pending_answer (Answer.TakeAppliedPending r) = 0
pending_answer (Answer.Read n) = 0

-- A count since the table was made: an accepted `new` starts it again, a refused call adds nothing. A history is the entries, newest first.
abbrev pub since_made : Role → (added before : ℕ) → ℕ
since_made (Role.names k n) added before = before + added
since_made (Role.empties s) added before = 0
since_made (Role.loads ns) added before = before + added
since_made Role.silent added before = before + added

abbrev pub count_of : (Entry → ℕ) → List Entry → ℕ
count_of f [] = 0
count_of f (e ∷ h) = cond (is_refused e.answer) (count_of f h) (since_made (role e.call) (f e) (count_of f h))

-- inserts that answered Pending
abbrev pub answered_pending : List Entry → ℕ
answered_pending h = count_of (λ (e : Entry). pending_answer e.answer) h

-- endings recorded
abbrev pub recorded : List Entry → ℕ
recorded h = count_of (λ (e : Entry). length e.records) h

abbrev pub waits : Option PendingNode → ℕ
waits none = 0
waits (some p) = 1

-- the pendings that wait in the buckets below n
unfoldable pub waiting : ℕ → (ℕ → Bucket) → ℕ
waiting zero bs = 0
waiting (suc n) bs = waiting n bs + waits (bs n).pending

-- the pendings still waiting
abbrev pub still_waiting : Table → ℕ
still_waiting t = waiting num_buckets t.buckets

-- 02, slip 4: inserts that answered Pending equal endings recorded plus pendings still waiting
abbrev pub Conserved : List Entry → Table → Type 0
Conserved h t = answered_pending h ≡ recorded h + still_waiting t

-- 01, Entries: the later action applies no pending
abbrev pub applies_due : KeyCall → Bool
applies_due (KeyCall.update_node_status st dr now) = true
applies_due (KeyCall.update_node v st now) = true
applies_due (KeyCall.insert_or_update v st dr now hs) = true
applies_due (KeyCall.remove now) = true
applies_due (KeyCall.entry now) = true
applies_due (KeyCall.present_update st dr) = false
applies_due (KeyCall.pending_update st dr) = false
applies_due (KeyCall.absent_insert v st dr now hs) = false

-- the buckets that a call applies
abbrev pub applied_by : Call → Table → List ℕ
applied_by (Call.new k timeout m tf bf) t = []
applied_by (Call.on_key k c) t = cond (applies_due c) (bucket_of_key k t) []
applied_by (Call.list l n now out) t = applies l n now t
applied_by Call.take_applied_pending t = []
applied_by (Call.read bs) t = []

abbrev pub is_due : Option ℕ → PendingNode → Bool
is_due none p = false
is_due (some now) p = leb p.deadline now

-- a record of this key is among the records
abbrev pub has_record : ℕ → List EndedPending → Bool
has_record k [] = false
has_record k (r ∷ rs) = same r.key k || has_record k rs

abbrev pub ended_if_due : Option ℕ → List EndedPending → Option PendingNode → Bool
ended_if_due now rs none = true
ended_if_due now rs (some p) = not (is_due now p) || has_record p.node.key rs

-- 02, slip 4: a pending due at a call's `now` is ended by that call if it is accepted and applies its bucket. t: the table before; rs: the
-- call's records. A pending may stand there afterwards: with timeout 0 the call may make one that is due at once.
abbrev pub due_ended : Call → Table → List EndedPending → Bool
due_ended c t rs = every (λ i. ended_if_due (arguments c).now rs (t.buckets i).pending) (applied_by c t)

abbrev pub lists : Call → Bool
lists (Call.new k timeout m tf bf) = false
lists (Call.on_key k c) = false
lists (Call.list l n now out) = true
lists Call.take_applied_pending = false
lists (Call.read bs) = false

-- no call but a listing leaves more than one record
abbrev pub one_record : Call → List EndedPending → Bool
one_record c rs = lists c || leb (length rs) 1
