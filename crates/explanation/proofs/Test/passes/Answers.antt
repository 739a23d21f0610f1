use Rattle.std.proofs.Common.{Bool, not, ◌&&◌, ap₂}
use Rattle.explanation.proofs.Test.passes.Goals as goal

pub returns-in-Counts : goal.returns-in-Counts
returns-in-Counts c = rw c.in-Counts.is c.counts.ensures

pub returns-in-CountsOther : goal.returns-in-CountsOther
returns-in-CountsOther c = rw c.in-CountsOther.is (ap₂ (λ (x y : Bool). x && not y) c.counts-in-CountsOther.ensures c.eq.ensures)

pub returns-in-Incoming : goal.returns-in-Incoming
returns-in-Incoming c = rw c.in-Incoming.is c.is_connected_incoming.ensures
