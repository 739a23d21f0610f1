use Rattle.std.proofs.Common.{◌≡◌, ◌*◌, ◌≤◌, true, length}
use Rattle.model.specs.Base.{select, all_below}
use Rattle.model.specs.Bucket.{max_nodes_per_bucket}
use Rattle.model.specs.Table.{held_nodes}
use Rattle.model.specs.Layout.{table_of}
use Rattle.model.specs.Formed.{bucket_formed_at}
use Rattle.key.specs.Key.{num}
use Rattle.node.specs.Node.{value_of}
use Rattle.table_filter.specs.Counted.{counts_other}
use Rattle.table_filter.proofs.walked.Given as goal

-- the buckets below i were asked and counted
abbrev pub invariant-loop-i : goal.invariant-loop-i
invariant-loop-i l = record {
  few : l.n ≤ l.i * max_nodes_per_bucket;
  asked : all_below l.i (bucket_formed_at l.s) ≡ true;
  counted : l.n ≡ length (select (counts_other (num l.key) (value_of l.value)) (held_nodes l.i (table_of l.s).buckets));
}
