use Rattle.std.proofs.Common.{◌≡◌, length}
use Rattle.model.specs.Bucket.{max_nodes_per_bucket}
use Rattle.places.specs.Places.{padded}
use Rattle.buckets.specs.Read.{read_places}
use Rattle.buckets.proofs.load.Given as goal

abbrev pub invariant-loop-i : goal.invariant-loop-i
invariant-loop-i l = record {
  length_nodes : length l.nodes ≡ max_nodes_per_bucket;
  places : l.nodes ≡ padded (read_places l.bucket l.i);
}
