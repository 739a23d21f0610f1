use Rattle.std.proofs.Common.{ap, ◌∙◌}
use Rattle.bucket.specs.declared.KBucket.{KBucket}
use Rattle.bucket.specs.Calls.{apply_pending_call}
use Rattle.positions.specs.Positions.{filled}
use Rattle.positions.proofs.Calls.{answer_of, insert_leaves}
use Rattle.positions.proofs.Computed.{not_due, due}
use Rattle.positions.proofs.rows.row6.Goals as goal

pub returns : goal.returns
returns c =
    let e = c.fill-full.ensures ∙ ap (filled 16 32 0) c.empty.ensures in
    let p = insert_leaves 100 e c.node_from.ensures c.insert.ensures in record {
      early_value = answer_of c.apply_pending-early.ensures ∙ ap (λ (b : KBucket). (apply_pending_call b 60099).0) p ∙ not_due;
      due_value = answer_of c.apply_pending-due.ensures ∙ ap (λ (b : KBucket). (apply_pending_call b 60100).0) p ∙ due;
    }
