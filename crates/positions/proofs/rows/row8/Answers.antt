use Rattle.std.proofs.Common.{refl, ◌∙◌}
use Rattle.bucket.specs.declared.InsertResult.{InsertResult}
use Rattle.positions.proofs.Calls.{insert_answers}
use Rattle.positions.proofs.Checks.{is_answer}
use Rattle.positions.proofs.Computed.{too_many, not_too_many}
use Rattle.positions.proofs.rows.row8.Goals as goal

pub returns : goal.returns
returns c = record {
  first_value = is_answer _ InsertResult.TooManyIncoming (insert_answers 0 c.empty-b.ensures c.node_from.ensures c.insert-connected.ensures ∙ too_many) refl;
  second_value = is_answer _ InsertResult.Inserted (insert_answers 0 c.empty-b.ensures c.node_from-2.ensures c.insert-disconnected.ensures ∙ not_too_many) refl;
}
