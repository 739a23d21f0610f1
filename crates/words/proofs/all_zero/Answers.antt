use Rattle.std.proofs.Common.{ℕ, get_or, sym, ap, ◌∙◌, arith}
use Rattle.words.proofs.Zero.{zero_none, zero_next, zero_whole}
use Rattle.words.proofs.all_zero.Goals as goal

pub loop-b-init : goal.loop-b-init
loop-b-init c = sym (zero_none _ _)

pub loop-b-preserved : goal.loop-b-preserved
loop-b-preserved c = zero_next c.args.s.now 0 c.loop-b.b-index c.loop-b.x _ c.loop-b.invariant (ap (λ (j : ℕ). get_or c.args.s.now j 0) (omega arith))

pub returns : goal.returns
returns c = c.loop-b.invariant ∙ sym (zero_whole c.args.s.now c.loop-b.b-index (omega arith))
