use Rattle.visit.specs.Passes.{buckets_of}
use Rattle.visit.proofs.Counts.{Counting}
use Rattle.visit.proofs.Visit.survey.Given as goal

abbrev pub invariant-loop-i : goal.invariant-loop-i
invariant-loop-i l = Counting l.fn.self.time l.fn.self.n (buckets_of l.fn.self.order) l.s l.c (buckets_of l.i-iterator)
