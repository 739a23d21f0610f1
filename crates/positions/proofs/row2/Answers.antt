use Rattle.std.proofs.Common.{◌∙◌}
use Rattle.positions.proofs.Computed.{indices}
use Rattle.positions.proofs.Checks.{is_index}
use Rattle.positions.proofs.row2.Goals as goal

pub prove-unreachable-requires : goal.prove-unreachable-requires
prove-unreachable-requires g c = is_index c.index_of-a.result 0 (c.index_of-a.ensures ∙ indices.1) c.eq.ensures c.if-prove.true

pub prove-unreachable-requires-2 : goal.prove-unreachable-requires-2
prove-unreachable-requires-2 g c = is_index c.index_of-b.result 1 (c.index_of-b.ensures ∙ indices.2) c.eq-2.ensures c.if-prove-2.true

pub prove-unreachable-requires-3 : goal.prove-unreachable-requires-3
prove-unreachable-requires-3 g c = is_index c.index_of-c.result 1 (c.index_of-c.ensures ∙ indices.3) c.eq-3.ensures c.if-prove-3.true

pub prove-unreachable-requires-4 : goal.prove-unreachable-requires-4
prove-unreachable-requires-4 g c = is_index c.index_of-d.result 255 (c.index_of-d.ensures ∙ indices.4) c.eq-4.ensures c.if-prove-4.true
