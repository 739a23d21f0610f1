use Rattle.std.proofs.Common.{◌≡◌, eqb}
use Rattle.model.specs.Formed.{are_zero}
use Rattle.words.proofs.all_zero.Given as goal

abbrev pub invariant-loop-b : goal.invariant-loop-b
invariant-loop-b l = eqb l.x 0 ≡ are_zero l.s 0 l.b-index
