use Rattle.std.proofs.Common.{ap, ◌∙◌}
use Rattle.model.specs.Result.{UpdateResult, Reply}
use Rattle.key.specs.declared.Key.{Key}
use Rattle.bucket.specs.declared.KBucket.{KBucket}
use Rattle.bucket.specs.Bucket.{key_at}
use Rattle.bucket.specs.Calls.{update_status_call}
use Rattle.positions.specs.Positions.{emptied, filled}
use Rattle.positions.proofs.Calls.{answer_of, bucket_of_lem}
use Rattle.positions.proofs.Computed.{moved}
use Rattle.positions.proofs.rows.row10.Goals as goal

pub returns : goal.returns
returns c =
    let e = c.fill.ensures ∙ ap (filled 2 32 1) c.empty.ensures in
    let s = ap (λ (b : KBucket). update_status_call b c.from.result 1 2) e
    ∙ ap (λ (x : Key). update_status_call (filled 2 32 1 (emptied 16 0)) x 1 2) c.from.ensures in
    let b = bucket_of_lem c.update_status.ensures ∙ ap (λ (y : Reply UpdateResult × KBucket). y.1) s in record {
      bucket_value = ap (λ (x : KBucket). key_at x 0) b ∙ moved.0;
      bucket_value_2 = ap (λ (x : KBucket). key_at x 1) b ∙ moved.1;
      answer_value = answer_of c.update_status.ensures ∙ ap (λ (y : Reply UpdateResult × KBucket). y.0) s ∙ moved.2;
    }
