-- What the answers mean, and the calls on a bucket by itself: the questions that each is asked, and what it answers and leaves.
use Rattle.std.specs.Prelude.{Result, Ok, Err, Some, None, ℕ, Bool, true, false, cond, ◌&&◌, List, [], ◌∷◌, leb}
use Rattle.std.specs.Prelude as code
use Rattle.std.proofs.Math.Option.{Option, none, some}
use Rattle.model.specs.Node as model
use Rattle.model.specs.Result as result
use Rattle.model.specs.Result.{Reply}
use Rattle.model.specs.Bucket as bucket
use Rattle.model.specs.Call.{is_one, optional}
use Rattle.model.specs.Question.{first_failed, deadline_fits}
use Rattle.key.specs.declared.Key.{Key}
use Rattle.key.specs.Key.{num}
use Rattle.node.specs.declared.Value.{Value}
use Rattle.node.specs.declared.NodeStatus.{NodeStatus}
use Rattle.node.specs.declared.Node.{Node}
use Rattle.node.specs.Node.{value_of, node_of, value_codes, node_codes}
use Rattle.bucket.specs.declared.KBucket.{KBucket}
use Rattle.bucket.specs.declared.InsertResult.{InsertResult}
use Rattle.bucket.specs.declared.FailureReason.{FailureReason}
use Rattle.bucket.specs.declared.UpdateResult.{UpdateResult}
use Rattle.bucket.specs.declared.ending.EndedPending.{EndedPending}
use Rattle.bucket.specs.declared.InsertResult.TheVariants as insert_result
use Rattle.bucket.specs.declared.FailureReason.TheVariants as reason
use Rattle.bucket.specs.declared.UpdateResult.TheVariants as update-result
use Rattle.bucket.specs.Bucket.{bucket_of, settings_of, stored, sound}
use Rattle.bucket.specs.Ending.{ending_of}

-- What the results mean.

abbrev pub insert_result_of : InsertResult → result.BucketInsertResult
insert_result_of insert_result.Inserted = result.BucketInsertResult.Inserted
insert_result_of (insert_result.Pending k) = result.BucketInsertResult.Pending (num k)
insert_result_of insert_result.FailedFilter = result.BucketInsertResult.FailedFilter
insert_result_of insert_result.TooManyIncoming = result.BucketInsertResult.TooManyIncoming
insert_result_of insert_result.Full = result.BucketInsertResult.Full
insert_result_of insert_result.NodeExists = result.BucketInsertResult.NodeExists

abbrev pub failure_reason_of : FailureReason → result.FailureReason
failure_reason_of reason.TooManyIncoming = result.FailureReason.TooManyIncoming
failure_reason_of reason.BucketFilter = result.FailureReason.BucketFilter
failure_reason_of reason.TableFilter = result.FailureReason.TableFilter
failure_reason_of reason.KeyNonExistent = result.FailureReason.KeyNonExistent
failure_reason_of reason.BucketFull = result.FailureReason.BucketFull
failure_reason_of reason.InvalidSelfUpdate = result.FailureReason.InvalidSelfUpdate

abbrev pub update_result_of : UpdateResult → result.UpdateResult
update_result_of update-result.Updated = result.UpdateResult.Updated
update_result_of update-result.UpdatedAndPromoted = result.UpdateResult.UpdatedAndPromoted
update_result_of update-result.UpdatedPending = result.UpdateResult.UpdatedPending
update_result_of (update-result.Failed r) = result.UpdateResult.Failed (failure_reason_of r)
update_result_of update-result.NotModified = result.UpdateResult.NotModified

-- the records of ended pendings: one, or none
abbrev pub records_of : code.Option EndedPending → List model.EndedPending
records_of None = []
records_of (Some e) = record { key = num e.key; ending = ending_of e.ending } ∷ []

-- The calls. A refusal is the number alone, and the bucket comes back as it was.

abbrev pub answered : {A : Type 0} → KBucket → Option ℕ → A × bucket.Bucket → Reply A × KBucket
answered b (some q) r = (Reply.Refused q, b)
answered b none r = (Reply.Answered r.0, stored (settings_of b) r.1)

-- question 2, all but the index, 4, and 5
abbrev pub questions : KBucket → Bool → Option ℕ → List (ℕ × Bool)
questions b codes now = (2, sound b) ∷ (4, codes) ∷ (5, deadline_fits b.settings.pending_timeout now) ∷ []

unfoldable pub insert_call : KBucket → Node → ℕ → Reply result.BucketInsertResult × KBucket
insert_call b n now =
    answered b (first_failed (questions b (node_codes n) (some now))) (bucket.insert (settings_of b) now (node_of n) (bucket_of b))

-- 01, Apply pending: a drop leaves no record. 02, slip 4, gives one to table calls only.
unfoldable pub apply_pending_call : KBucket → ℕ → Reply (List model.EndedPending) × KBucket
apply_pending_call b now =
    let r = bucket.apply_pending (settings_of b) now (bucket_of b) in
    answered b (first_failed (questions b true (some now))) (model.placed_of r.1, r.0)

unfoldable pub update_status_call : KBucket → Key → ℕ → ℕ → Reply result.UpdateResult × KBucket
update_status_call b k state direction =
    answered b (first_failed (questions b (leb state 1 && leb direction 2) none))
    (bucket.update_status (settings_of b) (num k) (is_one state) (optional direction) (bucket_of b))

unfoldable pub update_value_call : KBucket → Key → Value → Reply result.UpdateResult × KBucket
update_value_call b k v =
    answered b (first_failed (questions b (value_codes v) none)) (bucket.update_value (settings_of b) (num k) (value_of v) (bucket_of b))

unfoldable pub update_pending_call : KBucket → NodeStatus → Reply (Unit {0}) × KBucket
update_pending_call b s =
    answered b (first_failed (questions b (leb s.state 1 && leb s.direction 1) none))
    (tt, bucket.update_pending (is_one s.state) (is_one s.direction) (bucket_of b))

unfoldable pub remove_call : KBucket → Key → ℕ → Reply Bool × KBucket
remove_call b k now =
    answered b (first_failed (questions b true (some now))) (bucket.remove (settings_of b) now (num k) (bucket_of b))

-- 01, question 4: max_incoming 0 to 16, filter 0 or 1. A refusal comes with the bucket that is all zero.
unfoldable pub new_call : ℕ → ℕ → ℕ → Reply (Unit {0}) × KBucket
new_call pending_timeout max_incoming filter =
    cond (leb max_incoming bucket.max_nodes_per_bucket && leb filter 1)
    (Reply.Answered tt, stored (record { pending_timeout = pending_timeout; max_incoming = max_incoming; filter = is_one filter }) bucket.empty_bucket)
    (Reply.Refused 4, stored (record { pending_timeout = 0; max_incoming = 0; filter = false }) bucket.empty_bucket)
