-- A member's own old record (02, slip 3): what the promise is stated with, for an update that keeps the /24 of the key's held value.
use Rattle.std.specs.Prelude.{ℕ, ◌≤◌, ◌<◌, ◌≡◌, Bool, true, false, List, length}
use Rattle.std.proofs.Math.Option.{Option, none, some}
use Rattle.model.specs.Bytes.{number}
use Rattle.model.specs.Value.{Value, shares_net}
use Rattle.model.specs.Node.{Node}
use Rattle.model.specs.Filter.{of_net}
use Rattle.model.specs.Result.{FailureReason, UpdateResult, InsertResult}
use Rattle.model.specs.Bucket.{get}
use Rattle.model.specs.Table.{Table, Answer, num_buckets, held_nodes}
use Rattle.model.specs.Call.{KeyCall, value_of}

-- the value that an update gives, in the two calls in which the table filter runs
abbrev pub new_value : KeyCall → Option Value
new_value (KeyCall.update_node v st now) = some (value_of v)
new_value (KeyCall.insert_or_update v st dr now hs) = some (value_of v)
new_value (KeyCall.update_node_status st dr now) = none
new_value (KeyCall.remove now) = none
new_value (KeyCall.entry now) = none
new_value (KeyCall.present_update st dr) = none
new_value (KeyCall.pending_update st dr) = none
new_value (KeyCall.absent_insert v st dr now hs) = none

-- 02: the key is held, the call keeps the /24 of its held value, and at most ten are held there, the key's own among them; all this in the
-- table as the call finds it
pub record KeepsNet (key : List ℕ) (c : KeyCall) (t : Table) : Type 0 where
  pub value : Value
  pub given : new_value c ≡ some value
  pub bucket : ℕ
  pub below : bucket < num_buckets
  pub node : Node
  pub held : get (number key) (t.buckets bucket) ≡ some node
  pub net_kept : shares_net value.address node.value.address ≡ true
  pub at_most_ten : length (of_net value (held_nodes num_buckets t.buckets)) ≤ 10

abbrev is_table_filter : FailureReason → Bool
is_table_filter FailureReason.TableFilter = true
is_table_filter FailureReason.TooManyIncoming = false
is_table_filter FailureReason.BucketFilter = false
is_table_filter FailureReason.KeyNonExistent = false
is_table_filter FailureReason.BucketFull = false
is_table_filter FailureReason.InvalidSelfUpdate = false

-- the answer Failed(TableFilter), which only these two calls can give
abbrev pub failed_table_filter : Answer → Bool
failed_table_filter (Answer.Update (UpdateResult.Failed r)) = is_table_filter r
failed_table_filter (Answer.Update UpdateResult.Updated) = false
failed_table_filter (Answer.Update UpdateResult.UpdatedAndPromoted) = false
failed_table_filter (Answer.Update UpdateResult.UpdatedPending) = false
failed_table_filter (Answer.Update UpdateResult.NotModified) = false
failed_table_filter (Answer.InsertOrUpdate (InsertResult.Failed r)) = is_table_filter r
failed_table_filter (Answer.InsertOrUpdate InsertResult.Inserted) = false
failed_table_filter (Answer.InsertOrUpdate (InsertResult.Pending k)) = false
failed_table_filter (Answer.InsertOrUpdate (InsertResult.StatusUpdated p)) = false
failed_table_filter (Answer.InsertOrUpdate InsertResult.ValueUpdated) = false
failed_table_filter (Answer.InsertOrUpdate (InsertResult.Updated p)) = false
failed_table_filter (Answer.InsertOrUpdate InsertResult.UpdatedPending) = false
failed_table_filter (Answer.Refused q) = false
failed_table_filter Answer.New = false
failed_table_filter (Answer.Insert r) = false
failed_table_filter (Answer.Remove r) = false
failed_table_filter (Answer.Entry e) = false
failed_table_filter (Answer.Found n) = false
failed_table_filter (Answer.TakeAppliedPending r) = false
failed_table_filter (Answer.Read n) = false
