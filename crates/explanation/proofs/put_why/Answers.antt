use Rattle.std.proofs.Common.{Some, ap, length, append-nil, arith}
use Rattle.model.specs.Filter.{max_nodes_per_subnet_table, max_nodes_per_subnet_bucket}
use Rattle.model.specs.Bucket.{nodes}
use Rattle.model.specs.Table.{num_buckets, held_nodes, other_nodes}
use Rattle.model.specs.Layout.{table_of}
use Rattle.key.specs.Key.{num}
use Rattle.node.specs.Node.{value_of}
use Rattle.bucket.specs.Bucket.{bucket_of}
use Rattle.table_filter.proofs.Held.{counted_others}
use Rattle.explanation.specs.declared.Reason.TheVariants as reason
use Rattle.explanation.specs.Explanation.{why_text}
use Rattle.explanation.proofs.Text.{put_left, put_then}
use Rattle.bucket.proofs.Sound.{nodes_of}
use Rattle.explanation.proofs.Keys.{keys_text_none, filter_put, held_few}
use Rattle.explanation.proofs.Short.{incoming_put, words_short, why_put, no_keys}
use Rattle.explanation.proofs.put_why.Goals as goal

pub returns-in_default : goal.returns-in_default
unfolding why_text
returns-in_default c = rw (c.in_default.is, keys_text_none) c.put_word.ensures

pub put_word-n-requires : goal.put_word-n-requires
put_word-n-requires c = omega (arith, words_short (Some c.in-Some.reason) c.words.ensures)

pub slice_bounds-put_table-end : goal.slice_bounds-put_table-end
slice_bounds-put_table-end c = omega (arith, ap length (rw c.in-TableFilter.is at c.words.ensures), c.put_word-n.ensures.next)

pub slice_bounds-put_held-end : goal.slice_bounds-put_held-end
slice_bounds-put_held-end c = omega (arith, ap length (rw c.in-BucketFilter.is at c.words.ensures), c.put_word-n.ensures.next)

pub put_spaced_key-requires : goal.put_spaced_key-requires
put_spaced_key-requires c = put_left c.put_word-n.ensures _ (omega (arith, ap length (rw c.in-Pending.is at c.words.ensures)))

pub returns-in-TableFilter : goal.returns-in-TableFilter
returns-in-TableFilter c =
    let e = rw c.in-TableFilter.is at c.words.ensures in
    let bs = (table_of c.in-TableFilter.table.s.now).buckets in
    let k = num c.in-TableFilter.key in
    let v = value_of c.in-TableFilter.value in
    rw (c.in-Some.is, c.in-TableFilter.is)
    (why_put (Some (reason.TableFilter c.in-TableFilter.table c.in-TableFilter.key c.in-TableFilter.value)) e
    (filter_put _ max_nodes_per_subnet_table v (other_nodes k bs) (omega arith) (omega (arith, ap length e)) c.put_word-n.ensures
    (rw (counted_others k v (held_nodes num_buckets bs)) c.put_table.ensures)))

pub returns-in-BucketFilter : goal.returns-in-BucketFilter
returns-in-BucketFilter c =
    let e = rw c.in-BucketFilter.is at c.words.ensures in
    let b = bucket_of c.in-BucketFilter.b.bucket in
    rw (c.in-Some.is, c.in-BucketFilter.is)
    (why_put (Some (reason.BucketFilter c.in-BucketFilter.b c.in-BucketFilter.value)) e
    (filter_put _ max_nodes_per_subnet_bucket (value_of c.in-BucketFilter.value) (nodes b) (omega arith) (omega (arith, ap length e)) c.put_word-n.ensures
    (rw nodes_of (rw c.nodes.ensures at c.put_held.ensures))))

pub returns-in-IncomingLimit : goal.returns-in-IncomingLimit
returns-in-IncomingLimit c =
    let e = rw c.in-IncomingLimit.is at c.words.ensures in
    let b = c.in-IncomingLimit.b in
    rw (c.in-Some.is, c.in-IncomingLimit.is)
    (why_put (Some (reason.IncomingLimit b)) e
    (incoming_put (bucket_of b.bucket) (held_few b.bucket b.sound.few) (omega (arith, ap length e)) c.put_word-n.ensures (rw nodes_of (rw c.nodes-in-IncomingLimit.ensures at c.put_held-in-IncomingLimit.ensures))))

pub returns-in-Pending : goal.returns-in-Pending
returns-in-Pending c =
    rw (c.in-Some.is, c.in-Pending.is) (why_put (Some (reason.Pending c.in-Pending.key)) (rw c.in-Pending.is at c.words.ensures) (put_then c.put_word-n.ensures c.put_spaced_key.ensures))

pub returns-in_default-reason : goal.returns-in_default-reason
returns-in_default-reason c =
    let r = c.in-Some.reason in
    let d = c.in_default-reason in
    rw c.in-Some.is
    (why_put (Some r) c.words.ensures (rw (no_keys r d.not-TableFilter d.not-BucketFilter d.not-IncomingLimit d.not-Pending, append-nil) c.put_word-n.ensures))
