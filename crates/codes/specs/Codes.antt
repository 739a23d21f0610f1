-- The number that an export returns for each answer, and the bytes that go with it.
use Rattle.std.specs.Prelude.{ℕ, ◌+◌, ◌*◌, Bool, List, []}
use Rattle.std.proofs.Math.Option.{Option, none, some}
use Rattle.model.specs.Bytes.{bytes}
use Rattle.model.specs.Node.{EndedPending}
use Rattle.model.specs.Result.{FailureReason, BucketInsertResult, UpdateResult, InsertResult}
use Rattle.model.specs.Table.{EntryKind, Answer}
use Rattle.model.specs.Sizes.{key_size, record_size}
use Rattle.model.specs.Layout.{flag_byte, record_bytes}

-- refused by question q
abbrev pub refused_code : ℕ → ℕ
refused_code q = 65536 + q

abbrev pub failed_code : FailureReason → ℕ
failed_code FailureReason.TooManyIncoming = 16
failed_code FailureReason.BucketFilter = 17
failed_code FailureReason.TableFilter = 18
failed_code FailureReason.KeyNonExistent = 19
failed_code FailureReason.BucketFull = 20
failed_code FailureReason.InvalidSelfUpdate = 21

abbrev pub update_code : UpdateResult → ℕ
update_code UpdateResult.NotModified = 0
update_code UpdateResult.Updated = 1
update_code UpdateResult.UpdatedAndPromoted = 2
update_code UpdateResult.UpdatedPending = 3
update_code (UpdateResult.Failed r) = failed_code r

abbrev pub insert_code : InsertResult → ℕ
insert_code InsertResult.Inserted = 0
insert_code (InsertResult.Pending k) = 1
insert_code (InsertResult.StatusUpdated promoted) = 2 + flag_byte promoted
insert_code InsertResult.ValueUpdated = 4
insert_code (InsertResult.Updated promoted) = 5 + flag_byte promoted
insert_code InsertResult.UpdatedPending = 7
insert_code (InsertResult.Failed r) = failed_code r

abbrev pub bucket_insert_code : BucketInsertResult → ℕ
bucket_insert_code BucketInsertResult.Inserted = 0
bucket_insert_code (BucketInsertResult.Pending k) = 1
bucket_insert_code BucketInsertResult.FailedFilter = 2
bucket_insert_code BucketInsertResult.TooManyIncoming = 3
bucket_insert_code BucketInsertResult.Full = 4
bucket_insert_code BucketInsertResult.NodeExists = 5

-- 2 * state + direction
abbrev pub status_code : Bool → Bool → ℕ
status_code connected incoming = 2 * flag_byte connected + flag_byte incoming

abbrev pub entry_code : EntryKind → ℕ
entry_code EntryKind.Absent = 0
entry_code EntryKind.SelfEntry = 1
entry_code (EntryKind.Present u d) = 16 + status_code u d
entry_code (EntryKind.Pending u d) = 32 + status_code u d

-- none, or a record
abbrev pub applied_code : Option EndedPending → ℕ
applied_code none = 0
applied_code (some r) = 1

abbrev pub answer_code : Answer → ℕ
answer_code (Answer.Refused q) = refused_code q
answer_code Answer.New = 0
answer_code (Answer.Update r) = update_code r
answer_code (Answer.InsertOrUpdate r) = insert_code r
answer_code (Answer.Insert r) = bucket_insert_code r
answer_code (Answer.Remove found) = flag_byte found
answer_code (Answer.Entry k) = entry_code k
answer_code (Answer.Found n) = n
answer_code (Answer.TakeAppliedPending r) = applied_code r
answer_code (Answer.Read n) = n

-- the bytes that an answer carries: a key, or a record

abbrev pub insert_bytes : InsertResult → List ℕ
insert_bytes InsertResult.Inserted = []
insert_bytes (InsertResult.Pending k) = bytes key_size k
insert_bytes (InsertResult.StatusUpdated promoted) = []
insert_bytes InsertResult.ValueUpdated = []
insert_bytes (InsertResult.Updated promoted) = []
insert_bytes InsertResult.UpdatedPending = []
insert_bytes (InsertResult.Failed r) = []

abbrev pub bucket_insert_bytes : BucketInsertResult → List ℕ
bucket_insert_bytes BucketInsertResult.Inserted = []
bucket_insert_bytes (BucketInsertResult.Pending k) = bytes key_size k
bucket_insert_bytes BucketInsertResult.FailedFilter = []
bucket_insert_bytes BucketInsertResult.TooManyIncoming = []
bucket_insert_bytes BucketInsertResult.Full = []
bucket_insert_bytes BucketInsertResult.NodeExists = []

abbrev pub applied_bytes : Option EndedPending → List ℕ
applied_bytes none = []
applied_bytes (some r) = record_bytes r

abbrev pub answer_bytes : Answer → List ℕ
answer_bytes (Answer.Refused q) = []
answer_bytes Answer.New = []
answer_bytes (Answer.Update r) = []
answer_bytes (Answer.InsertOrUpdate r) = insert_bytes r
answer_bytes (Answer.Insert r) = bucket_insert_bytes r
answer_bytes (Answer.Remove found) = []
answer_bytes (Answer.Entry k) = []
answer_bytes (Answer.Found n) = []
answer_bytes (Answer.TakeAppliedPending r) = applied_bytes r
answer_bytes (Answer.Read n) = []

-- what `answer` has room for at the least: the longest, a record
abbrev pub answer_size : ℕ
answer_size = record_size
