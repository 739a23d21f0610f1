use Rattle.std.proofs.Common.{ap, ◌∙◌}
use Rattle.model.specs.Result.{UpdateResult, Reply}
use Rattle.bucket.specs.declared.KBucket.{KBucket}
use Rattle.bucket.specs.Calls.{update_result_of}
use Rattle.lent_run.proofs.Computed.{steps, is_form, step_refused}
use Rattle.lent_run.proofs.lends.refused_status.Goals as goal

pub returns : goal.returns
returns c =
    let e = steps c.broken.ensures c.from.ensures c.update_status_by.ensures ∙ step_refused in record {
      answer_value = is_form update_result_of c.update_status_by.result.result (ap (λ (y : Reply UpdateResult × KBucket). y.0) e);
      bucket_value = ap (λ (y : Reply UpdateResult × KBucket). y.1) e;
    }
