-- A held node put again, with another status and another value.
use Rattle.std.specs.Prelude.{cond}
use Rattle.std.proofs.Math.Option.{Option}
use Rattle.model.specs.Value.{Value, same_value}
use Rattle.model.specs.Node.{Node}
use Rattle.model.specs.Result.{FailureReason, UpdateResult}
use Rattle.model.specs.Bucket.{Bucket, BucketSettings, reinsert, taken_out}

-- 01, update_status: the node of n's key is taken out, and n is inserted
abbrev pub put_again : BucketSettings → Node → Bucket → Option FailureReason × Bucket
put_again s n b = reinsert s n (taken_out n.key n.connected b)

-- 01, update_value, where no filter fails
abbrev pub value_result : Value → Value → UpdateResult
value_result old v = cond (same_value old v) UpdateResult.NotModified UpdateResult.Updated
