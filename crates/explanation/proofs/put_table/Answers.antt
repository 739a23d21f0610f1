use Rattle.model.specs.Table.{held_nodes}
use Rattle.model.specs.Layout.{table_of}
use Rattle.laws.proofs.TableBytes.{bucket_passes}
use Rattle.table_filter.proofs.Held.{table_bucket, own_count}
use Rattle.explanation.specs.Put.{passes}
use Rattle.explanation.proofs.Keys.{keys_none, bucket_next}
use Rattle.explanation.proofs.put_table.Goals as goal

pub loop-i-init : goal.loop-i-init
unfolding held_nodes
loop-i-init c = keys_none _

pub of-requires : goal.of-requires
of-requires c =
    let s = c.args.table.s.now in
    let i = c.loop-i.i in
    rw c.bucket.ensures (own_count s i (bucket_passes s c.args.table.formed i c.loop-i-test.true))

pub loop-i-preserved : goal.loop-i-preserved
loop-i-preserved c =
    bucket_next (passes c.args.test) (table_of c.args.table.s.now).buckets c.loop-i.i c.loop-i.invariant (rw (table_bucket, ← c.bucket.ensures, ← c.of.ensures) c.put_stored-n.ensures)
