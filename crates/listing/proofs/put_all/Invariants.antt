use Rattle.model.specs.Layout.{table_of}
use Rattle.visit.specs.Passes.{buckets_of}
use Rattle.listing.specs.Listed.{first_nodes}
use Rattle.listing.proofs.Putting.{Putting}
use Rattle.listing.proofs.put_all.Given as goal

abbrev pub invariant-loop-i : goal.invariant-loop-i
invariant-loop-i l =
    Putting l.shape l.s l.n (first_nodes l.n l.shape (table_of l.s) (buckets_of l.fn.visit.order)) l.fn.out l.out l.k (buckets_of l.i-iterator)
