use Rattle.std.proofs.Common.{arith, refl}
use Rattle.model.specs.Bytes.{part}
use Rattle.held.proofs.Moves.{taken}
use Rattle.held.proofs.take_out.Goals as goal

pub returns : goal.returns
unfolding part
returns c = λ k e. rw c.from.ensures (taken c.requires.quiet c.from-count.ensures c.from-first.ensures k c.args.pos e (omega arith) refl c.close_place.ensures)
