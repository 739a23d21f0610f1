-- What the calls answer, under the Rust's names (bucket.rs, kbucket.rs).
use Rattle.std.specs.Prelude.{ℕ, Bool, true, false}

-- bucket.rs, FailureReason
pub data FailureReason : Type 0 where
  TooManyIncoming : FailureReason
  BucketFilter : FailureReason
  TableFilter : FailureReason
  KeyNonExistent : FailureReason
  BucketFull : FailureReason
  InvalidSelfUpdate : FailureReason

-- bucket.rs, InsertResult, which kbucket.rs calls BucketInsertResult. Pending names the node at place 0.
pub data BucketInsertResult : Type 0 where
  Inserted : BucketInsertResult
  Pending : (disconnected : ℕ) → BucketInsertResult
  FailedFilter : BucketInsertResult
  TooManyIncoming : BucketInsertResult
  Full : BucketInsertResult
  NodeExists : BucketInsertResult

-- bucket.rs, UpdateResult
pub data UpdateResult : Type 0 where
  Updated : UpdateResult
  UpdatedAndPromoted : UpdateResult
  UpdatedPending : UpdateResult
  Failed : FailureReason → UpdateResult
  NotModified : UpdateResult

-- kbucket.rs, InsertResult: what insert_or_update answers
pub data InsertResult : Type 0 where
  Inserted : InsertResult
  Pending : (disconnected : ℕ) → InsertResult
  StatusUpdated : (promotedToConnected : Bool) → InsertResult
  ValueUpdated : InsertResult
  Updated : (promotedToConnected : Bool) → InsertResult
  UpdatedPending : InsertResult
  Failed : FailureReason → InsertResult

abbrev pub is_inserted : BucketInsertResult → Bool
is_inserted BucketInsertResult.Inserted = true
is_inserted (BucketInsertResult.Pending k) = false
is_inserted BucketInsertResult.FailedFilter = false
is_inserted BucketInsertResult.TooManyIncoming = false
is_inserted BucketInsertResult.Full = false
is_inserted BucketInsertResult.NodeExists = false

abbrev pub is_failed : UpdateResult → Bool
is_failed UpdateResult.Updated = false
is_failed UpdateResult.UpdatedAndPromoted = false
is_failed UpdateResult.UpdatedPending = false
is_failed (UpdateResult.Failed r) = true
is_failed UpdateResult.NotModified = false

-- what a query, or a call on a bucket by itself, answers: the number of the question that failed, or its answer
pub data Reply (A : Type 0) : Type 0 where
  Refused : (question : ℕ) → Reply A
  Answered : A → Reply A
