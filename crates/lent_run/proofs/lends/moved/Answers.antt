use Rattle.std.proofs.Common.{ap, ◌∙◌}
use Rattle.model.specs.Result.{UpdateResult, Reply}
use Rattle.bucket.specs.declared.KBucket.{KBucket}
use Rattle.bucket.specs.Bucket.{key_at}
use Rattle.lent_run.proofs.Computed.{steps, moved}
use Rattle.lent_run.proofs.lends.moved.Goals as goal

pub returns : goal.returns
returns c =
    let e = steps c.inserted.ensures.bucket_value c.from.ensures c.update_status_by.ensures in
    let b = ap (λ (y : Reply UpdateResult × KBucket). y.1) e in record {
      answer_value = ap (λ (y : Reply UpdateResult × KBucket). y.0) e ∙ moved.0;
      bucket_value = ap (λ (x : KBucket). key_at x 0) b ∙ moved.1;
      bucket_value_2 = ap (λ (x : KBucket). key_at x 1) b ∙ moved.2;
    }
