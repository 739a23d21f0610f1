use Rattle.std.proofs.Common.{ap, ◌∙◌}
use Rattle.model.specs.Result.{BucketInsertResult, Reply}
use Rattle.bucket.specs.declared.KBucket.{KBucket}
use Rattle.bucket.specs.Calls.{insert_result_of}
use Rattle.lent_run.proofs.Computed.{inserts, is_form, insert_refused}
use Rattle.lent_run.proofs.lends.refused_insert.Goals as goal

pub returns : goal.returns
returns c =
    let e = inserts c.broken.ensures c.node_from.ensures c.insert_by.ensures ∙ insert_refused in record {
      answer_value = is_form insert_result_of c.insert_by.result.result (ap (λ (y : Reply BucketInsertResult × KBucket). y.0) e);
      bucket_value = ap (λ (y : Reply BucketInsertResult × KBucket). y.1) e;
    }
