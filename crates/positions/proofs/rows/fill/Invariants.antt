use Rattle.std.proofs.Common.{◌≡◌, ◌+◌, ◌-◌}
use Rattle.positions.specs.Positions.{filled}
use Rattle.positions.proofs.rows.fill.Given as goal

abbrev pub invariant-loop-key : goal.invariant-loop-key
invariant-loop-key l = filled (l.k + l.n - l.key) l.key l.state l.b ≡ filled l.n l.k l.state l.fn.b
