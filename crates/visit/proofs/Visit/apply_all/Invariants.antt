use Rattle.model.specs.Layout.{table_of}
use Rattle.visit.specs.Passes.{buckets_of, visited_by}
use Rattle.visit.proofs.Applying.{Appliable}
use Rattle.visit.proofs.Passes.{Visiting}
use Rattle.visit.proofs.Visit.apply_all.Given as goal

abbrev pub invariant-loop-i : goal.invariant-loop-i
invariant-loop-i l =
    Appliable l.fn.s l.fn.self.time (visited_by l.fn.self.time l.fn.self.n (buckets_of l.fn.self.order) (table_of l.fn.s))
    × Visiting l.fn.self.time l.fn.self.n (buckets_of l.fn.self.order) l.fn.s l.s l.left (buckets_of l.i-iterator)
