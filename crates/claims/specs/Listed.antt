-- The answers that each call can give where it is not refused: those that include/kbuckets.h lists, and no other.
use Rattle.std.specs.Prelude.{Bool, true, false, ◌||◌}
use Rattle.model.specs.Result.{FailureReason, BucketInsertResult, UpdateResult, InsertResult}
use Rattle.model.specs.Table.{Answer}
use Rattle.model.specs.Call.{Call, KeyCall}
use Rattle.table_log.specs.Log.{is_refused}

-- Tests of answers. In each list a Bool says whether the answer is one that the call can give.

abbrev pub reasons : (tooManyIncoming bucket_filter table_filter keyNonExistent bucketFull invalidSelfUpdate : Bool) → FailureReason → Bool
reasons a b c d e f FailureReason.TooManyIncoming = a
reasons a b c d e f FailureReason.BucketFilter = b
reasons a b c d e f FailureReason.TableFilter = c
reasons a b c d e f FailureReason.KeyNonExistent = d
reasons a b c d e f FailureReason.BucketFull = e
reasons a b c d e f FailureReason.InvalidSelfUpdate = f

abbrev pub updates : (notModified updated updatedAndPromoted updatedPending : Bool) → (FailureReason → Bool) → UpdateResult → Bool
updates a b c d f UpdateResult.NotModified = a
updates a b c d f UpdateResult.Updated = b
updates a b c d f UpdateResult.UpdatedAndPromoted = c
updates a b c d f UpdateResult.UpdatedPending = d
updates a b c d f (UpdateResult.Failed r) = f r

-- update_node_status, a bucket's update_status: Failed with TooManyIncoming, BucketFilter or KeyNonExistent
abbrev pub status_updates : UpdateResult → Bool
status_updates r = updates true true true true (reasons true true false true false false) r

-- update_node: with TableFilter too
abbrev pub node_updates : UpdateResult → Bool
node_updates r = updates true true true true (reasons true true true true false false) r

-- Present update: not UpdatedPending; Failed with TooManyIncoming or BucketFilter
abbrev pub present_updates : UpdateResult → Bool
present_updates r = updates true true true false (reasons true true false false false false) r

-- Pending update: UpdatedPending alone
abbrev pub pending_updates : UpdateResult → Bool
pending_updates r = updates false false false true (reasons false false false false false false) r

-- a bucket's update_value: does not promote; Failed with BucketFilter or KeyNonExistent
abbrev pub value_updates : UpdateResult → Bool
value_updates r = updates true true false true (reasons false true false true false false) r

-- insert_or_update: not UpdatedPending; Failed with all but KeyNonExistent
abbrev pub insert_results : InsertResult → Bool
insert_results InsertResult.Inserted = true
insert_results (InsertResult.Pending k) = true
insert_results (InsertResult.StatusUpdated p) = true
insert_results InsertResult.ValueUpdated = true
insert_results (InsertResult.Updated p) = true
insert_results InsertResult.UpdatedPending = false
insert_results (InsertResult.Failed r) = reasons true true true false true true r

-- Absent insert: not NodeExists
abbrev pub absent_inserts : BucketInsertResult → Bool
absent_inserts BucketInsertResult.Inserted = true
absent_inserts (BucketInsertResult.Pending k) = true
absent_inserts BucketInsertResult.FailedFilter = true
absent_inserts BucketInsertResult.TooManyIncoming = true
absent_inserts BucketInsertResult.Full = true
absent_inserts BucketInsertResult.NodeExists = false

abbrev pub no : {A : Type 0} → A → Bool
no a = false

-- which answers a call on one key gives
pub record KeyKinds : Type 0 where
  pub remove : Bool
  pub entry : Bool
  pub update : UpdateResult → Bool
  pub insert_or_update : InsertResult → Bool
  pub insert : BucketInsertResult → Bool

abbrev pub kinds : (remove entry : Bool) → (UpdateResult → Bool) → (InsertResult → Bool) → (BucketInsertResult → Bool) → KeyKinds
kinds a b u v w = record { remove = a; entry = b; update = u; insert_or_update = v; insert = w }

-- which answers a call gives
pub record Kinds : Type 0 where
  pub new : Bool
  pub found : Bool
  pub take : Bool
  pub read : Bool
  pub by_key : KeyKinds

abbrev pub among : Kinds → Answer → Bool
among k (Answer.Refused n) = false
among k Answer.New = k.new
among k (Answer.Found n) = k.found
among k (Answer.TakeAppliedPending r) = k.take
among k (Answer.Read n) = k.read
among k (Answer.Remove r) = k.by_key.remove
among k (Answer.Entry e) = k.by_key.entry
among k (Answer.Update r) = k.by_key.update r
among k (Answer.InsertOrUpdate r) = k.by_key.insert_or_update r
among k (Answer.Insert r) = k.by_key.insert r

abbrev pub key_kinds : KeyCall → KeyKinds
key_kinds (KeyCall.update_node_status st dr now) = kinds false false status_updates no no
key_kinds (KeyCall.update_node v st now) = kinds false false node_updates no no
key_kinds (KeyCall.insert_or_update v st dr now hs) = kinds false false no insert_results no
key_kinds (KeyCall.remove now) = kinds true false no no no
key_kinds (KeyCall.entry now) = kinds false true no no no
key_kinds (KeyCall.present_update st dr) = kinds false false present_updates no no
key_kinds (KeyCall.pending_update st dr) = kinds false false pending_updates no no
key_kinds (KeyCall.absent_insert v st dr now hs) = kinds false false no no absent_inserts

abbrev pub on_key : KeyKinds → Kinds
on_key k = record { new = false; found = false; take = false; read = false; by_key = k }

abbrev pub kinds_of : Call → Kinds
kinds_of (Call.new k timeout m tf bf) = record { new = true; found = false; take = false; read = false; by_key = kinds false false no no no }
kinds_of (Call.on_key k c) = on_key (key_kinds c)
kinds_of (Call.list l n now out) = record { new = false; found = true; take = false; read = false; by_key = kinds false false no no no }
kinds_of Call.take_applied_pending = record { new = false; found = false; take = true; read = false; by_key = kinds false false no no no }
kinds_of (Call.read bs) = record { new = false; found = false; take = false; read = true; by_key = kinds false false no no no }

-- a refusal, or an answer of the call's own kind
abbrev pub can_answer : Call → Answer → Bool
can_answer c a = is_refused a || among (kinds_of c) a
