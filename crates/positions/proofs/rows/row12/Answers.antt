use Rattle.std.proofs.Common.{refl, ◌∙◌}
use Rattle.bucket.specs.declared.InsertResult.{InsertResult}
use Rattle.positions.proofs.Calls.{insert_answers, insert_leaves}
use Rattle.positions.proofs.Checks.{is_answer}
use Rattle.positions.proofs.Computed.{third_value, value_again}
use Rattle.positions.proofs.rows.row12.Goals as goal

pub returns : goal.returns
returns c =
    let e = insert_leaves 0 c.empty.ensures c.node_at.ensures c.insert.ensures in
    let f = insert_leaves 0 e c.node_at-2.ensures c.insert-2.ensures in record {
      first_value = is_answer _ InsertResult.FailedFilter (insert_answers 0 f c.node_at-3.ensures c.insert-third.ensures ∙ third_value) refl;
      second_value = is_answer _ InsertResult.Inserted (insert_answers 0 f c.node_at-4.ensures c.insert-again.ensures ∙ value_again) refl;
    }
