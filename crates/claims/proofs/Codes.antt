-- No answer's code is a refusal's, but a refusal's.
use Prim.Native.Nat.{ℕ, ◌≤◌, ◌<◌}
use native.Mathlib.Omega.{arith}
use mathlib.Core.Path.{◌≡◌, refl}
use mathlib.Core.Bool.{Bool, true, false}
use mathlib.Core.Option.{Option, none, some}
use Rattle.model.specs.Node.{EndedPending}
use Rattle.model.specs.Result.{FailureReason, BucketInsertResult, UpdateResult, InsertResult}
use Rattle.model.specs.Table.{EntryKind, Answer}
use Rattle.model.specs.Question.{max_count}
use Rattle.model.specs.Layout.{flag_byte}
use Rattle.table_log.specs.Log.{is_refused}
use Rattle.laws.proofs.Tests.{clash}
use Rattle.codes.specs.Codes.{refused_code, failed_code, update_code, insert_code, bucket_insert_code, entry_code, applied_code, answer_code}
use Rattle.codes.proofs.Apart.{found_apart}

abbrev pub Below : ℕ → Type 0
Below n = n < refused_code 0

flag_below : (b : Bool) → flag_byte b < 2
flag_below true = omega arith
flag_below false = omega arith

reason_below : (r : FailureReason) → Below (failed_code r)
reason_below FailureReason.TooManyIncoming = omega arith
reason_below FailureReason.BucketFilter = omega arith
reason_below FailureReason.TableFilter = omega arith
reason_below FailureReason.KeyNonExistent = omega arith
reason_below FailureReason.BucketFull = omega arith
reason_below FailureReason.InvalidSelfUpdate = omega arith

update_below : (r : UpdateResult) → Below (update_code r)
update_below UpdateResult.NotModified = omega arith
update_below UpdateResult.Updated = omega arith
update_below UpdateResult.UpdatedAndPromoted = omega arith
update_below UpdateResult.UpdatedPending = omega arith
update_below (UpdateResult.Failed r) = reason_below r

insert_below : (r : InsertResult) → Below (insert_code r)
insert_below InsertResult.Inserted = omega arith
insert_below (InsertResult.Pending k) = omega arith
insert_below (InsertResult.StatusUpdated p) = omega (arith, flag_below p)
insert_below InsertResult.ValueUpdated = omega arith
insert_below (InsertResult.Updated p) = omega (arith, flag_below p)
insert_below InsertResult.UpdatedPending = omega arith
insert_below (InsertResult.Failed r) = reason_below r

bucket_insert_below : (r : BucketInsertResult) → Below (bucket_insert_code r)
bucket_insert_below BucketInsertResult.Inserted = omega arith
bucket_insert_below (BucketInsertResult.Pending k) = omega arith
bucket_insert_below BucketInsertResult.FailedFilter = omega arith
bucket_insert_below BucketInsertResult.TooManyIncoming = omega arith
bucket_insert_below BucketInsertResult.Full = omega arith
bucket_insert_below BucketInsertResult.NodeExists = omega arith

entry_below : (k : EntryKind) → Below (entry_code k)
entry_below EntryKind.Absent = omega arith
entry_below EntryKind.SelfEntry = omega arith
entry_below (EntryKind.Present u d) = omega (arith, flag_below u, flag_below d)
entry_below (EntryKind.Pending u d) = omega (arith, flag_below u, flag_below d)

applied_below : (o : Option EndedPending) → Below (applied_code o)
applied_below none = omega arith
applied_below (some r) = omega arith

-- a number of nodes that an answer gives is at most 4,096
abbrev pub Few : Answer → Type 0
Few (Answer.Refused q) = Unit {0}
Few Answer.New = Unit {0}
Few (Answer.Update r) = Unit {0}
Few (Answer.InsertOrUpdate r) = Unit {0}
Few (Answer.Insert r) = Unit {0}
Few (Answer.Remove b) = Unit {0}
Few (Answer.Entry k) = Unit {0}
Few (Answer.Found n) = n ≤ max_count
Few (Answer.TakeAppliedPending r) = Unit {0}
Few (Answer.Read n) = n ≤ max_count

pub answer_below : (a : Answer) → is_refused a ≡ false → Few a → Below (answer_code a)
answer_below (Answer.Refused q) h f = clash refl h
answer_below Answer.New h f = omega arith
answer_below (Answer.Update r) h f = update_below r
answer_below (Answer.InsertOrUpdate r) h f = insert_below r
answer_below (Answer.Insert r) h f = bucket_insert_below r
answer_below (Answer.Remove b) h f = omega (arith, flag_below b)
answer_below (Answer.Entry k) h f = entry_below k
answer_below (Answer.Found n) h f = found_apart n f
answer_below (Answer.TakeAppliedPending r) h f = applied_below r
answer_below (Answer.Read n) h f = found_apart n f
