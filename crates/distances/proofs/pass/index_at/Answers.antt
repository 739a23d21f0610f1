use Rattle.std.proofs.Common.{sym, arith}
use Rattle.distances.proofs.Named.{index_zero, index_past, index_in}
use Rattle.distances.proofs.pass.index_at.Goals as goal

pub returns-in-1-to-256 : goal.returns-in-1-to-256
returns-in-1-to-256 c = sym (index_in c.args.d (omega arith) (omega arith))

pub returns-in_default : goal.returns-in_default
returns-in_default c = sym (index_zero c.args.d (omega arith))

pub returns-in_default-2 : goal.returns-in_default-2
returns-in_default-2 c = sym (index_past c.args.d (omega arith))
