use Rattle.std.proofs.Common.{◌≡◌}
use Rattle.model.specs.Session.{year_start}
use Rattle.years.proofs.main.Given as goal

abbrev pub invariant-loop-n : goal.invariant-loop-n
invariant-loop-n l = l.start ≡ year_start l.n
