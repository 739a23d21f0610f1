-- What the types stand for.
use Rattle.std.specs.Prelude.{Option, Some, None, ℕ, List, [], ◌++◌}
use Rattle.model.specs.Layout.{table_of}
use Rattle.model.specs.Explain as explain
use Rattle.model.specs.Explain.{table_filter_reason, bucket_filter_reason, incoming_limit_reason, key_text, failure_text, flag_text, reason_text, reason_keys, keys_text}
use Rattle.key.specs.Key.{num}
use Rattle.node.specs.Node.{value_of}
use Rattle.bucket.specs.Bucket.{bucket_of}
use Rattle.bucket.specs.Calls.{failure_reason_of}
use Rattle.explanation.specs.declared.Told.{Told}
use Rattle.explanation.specs.declared.Told.TheVariants as told
use Rattle.explanation.specs.declared.Reason.{Reason}
use Rattle.explanation.specs.declared.Reason.TheVariants as reason

abbrev pub told_of : Told → explain.Told
told_of told.Inserted = explain.Told.Inserted
told_of (told.Pending k) = explain.Told.Pending (num k)
told_of (told.StatusUpdated p) = explain.Told.StatusUpdated p
told_of told.ValueUpdated = explain.Told.ValueUpdated
told_of (told.UpdatedBoth p) = explain.Told.UpdatedBoth p
told_of told.Updated = explain.Told.Updated
told_of told.UpdatedAndPromoted = explain.Told.UpdatedAndPromoted
told_of told.UpdatedPending = explain.Told.UpdatedPending
told_of told.NotModified = explain.Told.NotModified
told_of (told.Failed r) = explain.Told.Failed (failure_reason_of r)
told_of told.FailedFilter = explain.Told.FailedFilter
told_of told.TooManyIncoming = explain.Told.TooManyIncoming
told_of told.Full = explain.Told.Full
told_of told.NodeExists = explain.Told.NodeExists
told_of (told.Removed r) = explain.Told.Removed r

-- the key, the flag or the failure behind an answer's name
abbrev pub told_detail : explain.Told → List ℕ
told_detail explain.Told.Inserted = []
told_detail (explain.Told.Pending k) = key_text k
told_detail (explain.Told.StatusUpdated p) = flag_text p
told_detail explain.Told.ValueUpdated = []
told_detail (explain.Told.UpdatedBoth p) = flag_text p
told_detail explain.Told.Updated = []
told_detail explain.Told.UpdatedAndPromoted = []
told_detail explain.Told.UpdatedPending = []
told_detail explain.Told.NotModified = []
told_detail (explain.Told.Failed r) = failure_text r
told_detail explain.Told.FailedFilter = []
told_detail explain.Told.TooManyIncoming = []
told_detail explain.Told.Full = []
told_detail explain.Told.NodeExists = []
told_detail (explain.Told.Removed r) = flag_text r

-- the reason with its keys, or none
abbrev pub reason_of : Option Reason → explain.Reason
reason_of None = explain.Reason.None
reason_of (Some (reason.TableFilter t k v)) = table_filter_reason (num k) (value_of v) (table_of t.s.now).buckets
reason_of (Some (reason.BucketFilter b v)) = bucket_filter_reason (value_of v) (bucket_of b.bucket)
reason_of (Some (reason.IncomingLimit b)) = incoming_limit_reason (bucket_of b.bucket)
reason_of (Some reason.NewcomerDisconnected) = explain.Reason.NewcomerDisconnected
reason_of (Some reason.AllConnected) = explain.Reason.AllConnected
reason_of (Some (reason.Pending k)) = explain.Reason.Pending (num k)
reason_of (Some reason.NoSuchKey) = explain.Reason.NoSuchKey
reason_of (Some reason.LocalKey) = explain.Reason.LocalKey

-- the text of a reason and its keys
unfoldable pub why_text : explain.Reason → List ℕ
why_text r = reason_text r ++ keys_text (reason_keys r)
