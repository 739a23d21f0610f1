use Rattle.distances.proofs.Passes.{Counting}
use Rattle.distances.proofs.pass.survey.Given as goal

abbrev pub invariant-loop-p : goal.invariant-loop-p
invariant-loop-p l = Counting l.time l.n l.distances l.s l.records l.seen l.p
