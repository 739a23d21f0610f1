use Rattle.std.proofs.Common.{◌≡◌, ◌*◌, true}
use Rattle.model.specs.Formed.{are_zero}
use Rattle.words.proofs.all_zero_by.Given as goal

-- the steps before this one are zero
abbrev pub invariant-loop-step : goal.invariant-loop-step
invariant-loop-step g l = are_zero l.s 0 (l.step-index * g.row.STEP) ≡ true
