use Rattle.std.proofs.Common.{sym, ◌∙◌, arith}
use Rattle.node.specs.Node.{zero_node}
use Rattle.places.proofs.Laws.{different_hit, different_miss, found_is}
use Rattle.places.proofs.all_different.Goals as goal

pub returns-then-is_some : goal.returns-then-is_some
returns-then-is_some c =
    sym (c.loop-i.invariant ∙ different_miss c.args.nodes.now c.loop-i.i zero_node (omega arith) (sym (found_is _ _ c.position.result c.position.ensures) ∙ sym c.is_some.ensures ∙ c.if-is_some.true))

pub loop-i-preserved : goal.loop-i-preserved
loop-i-preserved c =
    c.loop-i.invariant
    ∙ different_hit c.args.nodes.now c.loop-i.i zero_node (omega arith) (sym (found_is _ _ c.position.result c.position.ensures) ∙ sym c.is_some.ensures ∙ c.if-is_some.false)
