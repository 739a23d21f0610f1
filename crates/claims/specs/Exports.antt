-- The table's functions that a C host calls: what it sees of a call, and how it reads the answer (include/kbuckets.h).
use Rattle.std.specs.Prelude.{ℕ, ◌-◌, ◌%◌, ◌≡◌, Bool, true, false, cond, List, [], ◌∷◌, length, eqb, leb, ltb}
use Rattle.std.proofs.Math.Option.{none, some}
use contract.Lifetimes.{Lfts}
use Rattle.model.specs.Bytes.{number, part}
use Rattle.model.specs.Result.{FailureReason, BucketInsertResult, UpdateResult, InsertResult}
use Rattle.model.specs.Table.{EntryKind, Answer}
use Rattle.model.specs.Sizes.{key_size, record_size}
use Rattle.model.specs.Call.{Listing, Call, KeyCall, is_one}
use Rattle.model.specs.Layout.{record_in}
use Rattle.model.specs.StepBytes.{all_questions, output_of}
use Rattle.session.specs.Hours.{session_of}
use Rattle.codes.specs.Codes.{refused_code, answer_size}
use Rattle.model.specs.Question.{with_room}
use Rattle.codes.specs.Exported.{Exported, exported, exported_with}
use Rattle.table_log.specs.Log.{Entry}
use Rattle.kbuckets.proofs.kbuckets_new.Reads as New
use Rattle.kbuckets.proofs.kbuckets_update_node_status.Reads as UpdateNodeStatus
use Rattle.kbuckets.proofs.kbuckets_update_node.Reads as UpdateNode
use Rattle.kbuckets.proofs.kbuckets_insert_or_update.Reads as InsertOrUpdate
use Rattle.kbuckets.proofs.kbuckets_remove.Reads as Remove
use Rattle.kbuckets.proofs.kbuckets_entry.Reads as EntryOf
use Rattle.kbuckets.proofs.kbuckets_present_update.Reads as PresentUpdate
use Rattle.kbuckets.proofs.kbuckets_pending_update.Reads as PendingUpdate
use Rattle.kbuckets.proofs.kbuckets_absent_insert.Reads as AbsentInsert
use Rattle.kbuckets.proofs.kbuckets_iter.Reads as Iter
use Rattle.kbuckets.proofs.kbuckets_nodes_by_distances.Reads as NodesByDistances
use Rattle.kbuckets.proofs.kbuckets_closest_keys.Reads as ClosestKeys
use Rattle.kbuckets.proofs.kbuckets_closest_values.Reads as ClosestValues
use Rattle.kbuckets.proofs.kbuckets_closest_values_predicate.Reads as ClosestValuesPredicate
use Rattle.kbuckets.proofs.kbuckets_take_applied_pending.Reads as TakeAppliedPending
use Rattle.kbuckets.proofs.kbuckets_read.Reads as Read
use Rattle.claims.specs.Ran.{◌&◌, Slice, Lent}
use Rattle.claims.specs.Runs.{fed}

-- A call of a function that a C host calls, by kbuckets_c: code is the number that it returned, s and s' the storage before and after, answer
-- the bytes lent for what the answer carries, empty where it carries nothing, out' what stands in them after the call, or in the output of a
-- listing. The function's contract holds of what it was given, in the order of its parameters, of the code, and of what is left.
pub data Called : (c : Call) (answer s : List ℕ) (code : ℕ) (s' out' : List ℕ) → Type 0 where
  new : (κs : Lfts 2) (s : Lent) (key : Slice) (s' : Lent) (timeout m tf bf : ℕ) (code : ℕ) (others : _)
      → New.Post κs (s & key & timeout & m & tf & bf & tt) code (s' & others)
      → Called (Call.new key.now timeout m tf bf) [] s.now code s'.now []
  update_node_status : (κs : Lfts 2) (s : Lent) (key : Slice) (s' : Lent) (state direction time : ℕ) (code : ℕ) (others : _)
      → UpdateNodeStatus.Post κs (s & key & state & direction & time & tt) code (s' & others)
      → Called (Call.on_key key.now (KeyCall.update_node_status state direction time)) [] s.now code s'.now []
  update_node : (κs : Lfts 2) (s : Lent) (key : Slice) (s' : Lent) (flag a b c d slot state time : ℕ) (code : ℕ) (others : _)
      → UpdateNode.Post κs (s & key & flag & a & b & c & d & slot & state & time & tt) code (s' & others)
      → Called (Call.on_key key.now (KeyCall.update_node (record { flag = flag; a = a; b = b; c = c; d = d; slot = slot }) state time)) [] s.now code s'.now []
  insert_or_update : (κs : Lfts 5) (s : Lent) (key windows closed : Slice) (answer s' : Lent) (key' windows' closed' : Slice) (answer' : Lent) (flag a b c d slot state direction time year month day minute : ℕ)
      (flag' a' b' c' d' slot' state' direction' time' year' month' day' minute' : ℕ) (code : ℕ)
      → InsertOrUpdate.Post κs (s & key & flag & a & b & c & d & slot & state & direction & time & windows & closed & year & month & day & minute & answer & tt) code
      (s' & key' & flag' & a' & b' & c' & d' & slot' & state' & direction' & time' & windows' & closed' & year' & month' & day' & minute' & answer' & tt)
      → Called (Call.on_key key.now (KeyCall.insert_or_update (record { flag = flag; a = a; b = b; c = c; d = d; slot = slot }) state direction time
      (session_of windows.now closed.now (record { date = record { year = year; month = month; day = day }; minute = minute })))) answer.now s.now code s'.now answer'.now
  remove : (κs : Lfts 2) (s : Lent) (key : Slice) (s' : Lent) (time : ℕ) (code : ℕ) (others : _)
      → Remove.Post κs (s & key & time & tt) code (s' & others)
      → Called (Call.on_key key.now (KeyCall.remove time)) [] s.now code s'.now []
  entry : (κs : Lfts 2) (s : Lent) (key : Slice) (s' : Lent) (time : ℕ) (code : ℕ) (others : _)
      → EntryOf.Post κs (s & key & time & tt) code (s' & others)
      → Called (Call.on_key key.now (KeyCall.entry time)) [] s.now code s'.now []
  present_update : (κs : Lfts 2) (s : Lent) (key : Slice) (s' : Lent) (state direction : ℕ) (code : ℕ) (others : _)
      → PresentUpdate.Post κs (s & key & state & direction & tt) code (s' & others)
      → Called (Call.on_key key.now (KeyCall.present_update state direction)) [] s.now code s'.now []
  pending_update : (κs : Lfts 2) (s : Lent) (key : Slice) (s' : Lent) (state direction : ℕ) (code : ℕ) (others : _)
      → PendingUpdate.Post κs (s & key & state & direction & tt) code (s' & others)
      → Called (Call.on_key key.now (KeyCall.pending_update state direction)) [] s.now code s'.now []
  absent_insert : (κs : Lfts 5) (s : Lent) (key windows closed : Slice) (answer s' : Lent) (key' windows' closed' : Slice) (answer' : Lent) (flag a b c d slot state direction time year month day minute : ℕ)
      (flag' a' b' c' d' slot' state' direction' time' year' month' day' minute' : ℕ) (code : ℕ)
      → AbsentInsert.Post κs (s & key & flag & a & b & c & d & slot & state & direction & time & windows & closed & year & month & day & minute & answer & tt) code
      (s' & key' & flag' & a' & b' & c' & d' & slot' & state' & direction' & time' & windows' & closed' & year' & month' & day' & minute' & answer' & tt)
      → Called (Call.on_key key.now (KeyCall.absent_insert (record { flag = flag; a = a; b = b; c = c; d = d; slot = slot }) state direction time
      (session_of windows.now closed.now (record { date = record { year = year; month = month; day = day }; minute = minute })))) answer.now s.now code s'.now answer'.now
  iter : (κs : Lfts 2) (s out s' out' : Lent) (n time n' time' : ℕ) (code : ℕ)
      → Iter.Post κs (s & n & time & out & tt) code (s' & n' & time' & out' & tt)
      → Called (Call.list Listing.iter n time out.now) [] s.now code s'.now out'.now
  nodes_by_distances : (κs : Lfts 3) (s : Lent) (distances : Slice) (out s' : Lent) (distances' : Slice) (out' : Lent) (n time n' time' : ℕ) (code : ℕ)
      → NodesByDistances.Post κs (s & distances & n & time & out & tt) code (s' & distances' & n' & time' & out' & tt)
      → Called (Call.list (Listing.nodes_by_distances distances.now) n time out.now) [] s.now code s'.now out'.now
  closest_keys : (κs : Lfts 3) (s : Lent) (target : Slice) (out s' : Lent) (target' : Slice) (out' : Lent) (n time n' time' : ℕ) (code : ℕ)
      → ClosestKeys.Post κs (s & target & n & time & out & tt) code (s' & target' & n' & time' & out' & tt)
      → Called (Call.list (Listing.closest_keys target.now) n time out.now) [] s.now code s'.now out'.now
  closest_values : (κs : Lfts 3) (s : Lent) (target : Slice) (out s' : Lent) (target' : Slice) (out' : Lent) (n time n' time' : ℕ) (code : ℕ)
      → ClosestValues.Post κs (s & target & n & time & out & tt) code (s' & target' & n' & time' & out' & tt)
      → Called (Call.list (Listing.closest_values target.now) n time out.now) [] s.now code s'.now out'.now
  closest_values_predicate : (κs : Lfts 3) (s : Lent) (target : Slice) (out s' : Lent) (target' : Slice) (out' : Lent) (predicate a b c slot n time : ℕ) (predicate' a' b' c' slot' n' time' : ℕ) (code : ℕ)
      → ClosestValuesPredicate.Post κs (s & target & predicate & a & b & c & slot & n & time & out & tt) code
      (s' & target' & predicate' & a' & b' & c' & slot' & n' & time' & out' & tt)
      → Called (Call.list (Listing.closest_values_predicate target.now (record { predicate = predicate; a = a; b = b; c = c; slot = slot })) n time out.now) []
      s.now code s'.now out'.now
  take_applied_pending : (κs : Lfts 2) (s answer s' answer' : Lent) (code : ℕ)
      → TakeAppliedPending.Post κs (s & answer & tt) code (s' & answer' & tt)
      → Called Call.take_applied_pending answer.now s.now code s'.now answer'.now
  read : (κs : Lfts 2) (s : Lent) (bytes : Slice) (s' : Lent) (code : ℕ) (others : _)
      → Read.Post κs (s & bytes & tt) code (s' & others)
      → Called (Call.read bytes.now) [] s.now code s'.now []

-- the calls whose answer can carry a key or a record
abbrev pub key_carries : KeyCall → Bool
key_carries (KeyCall.update_node_status st dr now) = false
key_carries (KeyCall.update_node v st now) = false
key_carries (KeyCall.insert_or_update v st dr now hs) = true
key_carries (KeyCall.remove now) = false
key_carries (KeyCall.entry now) = false
key_carries (KeyCall.present_update st dr) = false
key_carries (KeyCall.pending_update st dr) = false
key_carries (KeyCall.absent_insert v st dr now hs) = true

abbrev pub carries : Call → Bool
carries (Call.new k timeout m tf bf) = false
carries (Call.on_key k c) = key_carries c
carries (Call.list l n now out) = false
carries Call.take_applied_pending = true
carries (Call.read bs) = false

-- what an export returns and leaves
abbrev pub seen : Call → (answer s : List ℕ) → Exported
seen c answer s = cond (carries c) (exported_with c answer s) (exported c s)

-- the questions of an export: 6 asks room for what the answer can carry too
abbrev pub host_questions : Call → (answer s : List ℕ) → List (ℕ × Bool)
host_questions c answer s = cond (carries c) (with_room (leb answer_size (length answer)) (all_questions c s)) (all_questions c s)

-- demand 1 for a host: the code of the question, and all that was lent as it was
pub record HostRefusal (q : ℕ) (c : Call) (answer s : List ℕ) (code : ℕ) (s' out' : List ℕ) : Type 0 where
  pub code_is : code ≡ refused_code q
  pub storage : s' ≡ s
  pub output : out' ≡ cond (carries c) answer (output_of c)

-- How a host reads an answer: codes/specs/Codes the other way.

abbrev pub reason_of : ℕ → FailureReason
reason_of n =
    cond (eqb n 16) FailureReason.TooManyIncoming
    (cond (eqb n 17) FailureReason.BucketFilter
    (cond (eqb n 18) FailureReason.TableFilter
    (cond (eqb n 19) FailureReason.KeyNonExistent (cond (eqb n 20) FailureReason.BucketFull FailureReason.InvalidSelfUpdate))))

abbrev pub update_of : ℕ → UpdateResult
update_of n =
    cond (eqb n 0) UpdateResult.NotModified
    (cond (eqb n 1) UpdateResult.Updated
    (cond (eqb n 2) UpdateResult.UpdatedAndPromoted (cond (eqb n 3) UpdateResult.UpdatedPending (UpdateResult.Failed (reason_of n)))))

abbrev pub insert_of : ℕ → (key : ℕ) → InsertResult
insert_of n k =
    cond (eqb n 0) InsertResult.Inserted
    (cond (eqb n 1) (InsertResult.Pending k)
    (cond (leb n 3) (InsertResult.StatusUpdated (eqb n 3))
    (cond (eqb n 4) InsertResult.ValueUpdated
    (cond (leb n 6) (InsertResult.Updated (eqb n 6)) (cond (eqb n 7) InsertResult.UpdatedPending (InsertResult.Failed (reason_of n)))))))

abbrev pub bucket_insert_of : ℕ → (key : ℕ) → BucketInsertResult
bucket_insert_of n k =
    cond (eqb n 0) BucketInsertResult.Inserted
    (cond (eqb n 1) (BucketInsertResult.Pending k)
    (cond (eqb n 2) BucketInsertResult.FailedFilter
    (cond (eqb n 3) BucketInsertResult.TooManyIncoming (cond (eqb n 4) BucketInsertResult.Full BucketInsertResult.NodeExists))))

abbrev pub kind_of : ℕ → EntryKind
kind_of n =
    cond (eqb n 0) EntryKind.Absent
    (cond (eqb n 1) EntryKind.SelfEntry
    (cond (ltb n 32) (EntryKind.Present (leb 18 n) (is_one (n % 2))) (EntryKind.Pending (leb 34 n) (is_one (n % 2)))))

-- the key, or the record, at the front of the answer's bytes
abbrev pub key_at : List ℕ → ℕ
key_at bs = number (part bs 0 key_size)

abbrev pub key_answer_of : KeyCall → ℕ → List ℕ → Answer
key_answer_of (KeyCall.update_node_status st dr now) n bs = Answer.Update (update_of n)
key_answer_of (KeyCall.update_node v st now) n bs = Answer.Update (update_of n)
key_answer_of (KeyCall.insert_or_update v st dr now hs) n bs = Answer.InsertOrUpdate (insert_of n (key_at bs))
key_answer_of (KeyCall.remove now) n bs = Answer.Remove (is_one n)
key_answer_of (KeyCall.entry now) n bs = Answer.Entry (kind_of n)
key_answer_of (KeyCall.present_update st dr) n bs = Answer.Update (update_of n)
key_answer_of (KeyCall.pending_update st dr) n bs = Answer.Update (update_of n)
key_answer_of (KeyCall.absent_insert v st dr now hs) n bs = Answer.Insert (bucket_insert_of n (key_at bs))

abbrev pub accepted_answer_of : Call → ℕ → List ℕ → Answer
accepted_answer_of (Call.new k timeout m tf bf) n bs = Answer.New
accepted_answer_of (Call.on_key k c) n bs = key_answer_of c n bs
accepted_answer_of (Call.list l m now out) n bs = Answer.Found n
accepted_answer_of Call.take_applied_pending n bs = Answer.TakeAppliedPending (cond (eqb n 0) none (some (record_in (part bs 0 record_size))))
accepted_answer_of (Call.read r) n bs = Answer.Read n

abbrev pub answer_of : Call → (code : ℕ) (bytes : List ℕ) → Answer
answer_of c n bs = cond (leb (refused_code 0) n) (Answer.Refused (n - refused_code 0)) (accepted_answer_of c n bs)

-- Calls of exports one after the other, each on the storage that the one before left, and what the log is fed of them, oldest first: each
-- answer as the host reads it.
pub data HostRuns : (cs : List Call) (s : List ℕ) (es : List Entry) (s' : List ℕ) → Type 0 where
  start : {s : List ℕ} → HostRuns [] s [] s
  next : {c : Call} {cs : List Call} {answer s : List ℕ} {code : ℕ} {r out' : List ℕ} {es : List Entry} {s' : List ℕ}
      → Called c answer s code r out' → HostRuns cs r es s' → HostRuns (c ∷ cs) s (fed c s (answer_of c code out') r ∷ es) s'
