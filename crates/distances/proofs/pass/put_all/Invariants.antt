use Rattle.std.proofs.Common.{length, drop}
use Rattle.model.specs.Layout.{table_of}
use Rattle.model.specs.Listing.{buckets_at}
use Rattle.distances.specs.Passes.{listed_nodes}
use Rattle.distances.proofs.Written.{Writing}
use Rattle.distances.proofs.pass.put_all.Given as goal

abbrev pub invariant-loop-i : goal.invariant-loop-i
invariant-loop-i l = Writing l.s l.n (listed_nodes (table_of l.s) l.n l.distances) l.fn.out l.out l.k (drop (length l.yielded) (buckets_at l.distances))
