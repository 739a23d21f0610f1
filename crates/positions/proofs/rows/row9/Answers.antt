use Rattle.std.proofs.Common.{ap, ◌∙◌}
use Rattle.positions.specs.Positions.{filled}
use Rattle.positions.proofs.Calls.{insert_answers, insert_leaves}
use Rattle.positions.proofs.Computed.{names_place_0, full_beside}
use Rattle.positions.proofs.rows.row9.Goals as goal

pub returns : goal.returns
returns c =
    let e = c.fill-full.ensures ∙ ap (filled 15 33 1) (c.fill-one.ensures ∙ ap (filled 1 32 0) c.empty.ensures) in
    let p = insert_leaves 0 e c.node_from.ensures c.insert-first.ensures in record {
      first_value = insert_answers 0 e c.node_from.ensures c.insert-first.ensures ∙ names_place_0;
      second_value = insert_answers 0 p c.node_from-2.ensures c.insert-second.ensures ∙ full_beside;
    }
