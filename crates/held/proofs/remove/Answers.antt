use Rattle.std.proofs.Common.{arith}
use Rattle.key.specs.Key.{num}
use Rattle.held.proofs.Steps.{removes, removes_none}
use Rattle.held.proofs.remove.Goals as goal

pub returns-in_default : goal.returns-in_default
returns-in_default c = λ d time. removes_none c.requires (num c.args.key) d time (omega (arith, rw c.nodes.ensures at c.in_default.ensures))

pub returns : goal.returns
returns c =
    let f = rw c.nodes.ensures at c.in-Some.ensures in
    λ d time. removes c.requires (num c.args.key) d time (omega (arith, f.0, f.1)) (c.take_out.ensures (num c.args.key) f.0)
