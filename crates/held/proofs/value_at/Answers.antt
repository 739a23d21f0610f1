use Rattle.std.proofs.Common.{arith, refl}
use Rattle.bucket.specs.Settings.{settings_of}
use Rattle.held.proofs.Steps.{value_kept, value_out, value_set}
use Rattle.held.proofs.value_at.Goals as goal

pub returns-then-eq : goal.returns-then-eq
returns-then-eq c =
    λ k e.
    value_kept c.requires.quiet (settings_of c.args.settings) k c.args.pos e c.requires.held c.args.value.value (rw (c.place.ensures, c.nodes-held.ensures) at c.node_value.ensures) c.eq.ensures c.if-eq.true

pub returns-then-fails_filter : goal.returns-then-fails_filter
returns-then-fails_filter c =
    λ k e.
    value_out c.requires.quiet (settings_of c.args.settings) k c.args.pos e c.requires.held c.args.value.value (rw (c.place.ensures, c.nodes-held.ensures) at c.node_value.ensures) c.eq.ensures c.if-eq.false
    (rw c.nodes-held.ensures at c.fails_filter.ensures) c.if-fails_filter.true (c.take_out.ensures k e)

pub returns : goal.returns
returns c =
    λ k e.
    value_set c.requires.quiet (settings_of c.args.settings) k c.args.pos e c.requires.held c.args.value.value (rw (c.place.ensures, c.nodes-held.ensures) at c.node_value.ensures) c.eq.ensures c.if-eq.false
    (rw c.nodes-held.ensures at c.fails_filter.ensures) c.if-fails_filter.false refl (omega arith) c.store_value.ensures
