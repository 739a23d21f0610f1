use Rattle.std.proofs.Common.{ap, ◌∙◌}
use Rattle.model.specs.Result.{BucketInsertResult, Reply}
use Rattle.bucket.specs.declared.KBucket.{KBucket}
use Rattle.lent_run.proofs.Computed.{inserts, inserted}
use Rattle.lent_run.proofs.lends.inserted.Goals as goal

pub returns : goal.returns
returns c =
    let e = ap (λ (y : Reply BucketInsertResult × KBucket). y.1) (inserts c.empty.ensures c.node_from.ensures c.insert_by-one.ensures) in
    let f = inserts e c.node_from-2.ensures c.insert_by.ensures in record {
      answer_value = ap (λ (y : Reply BucketInsertResult × KBucket). y.0) f ∙ inserted;
      bucket_value = ap (λ (y : Reply BucketInsertResult × KBucket). y.1) f;
    }
