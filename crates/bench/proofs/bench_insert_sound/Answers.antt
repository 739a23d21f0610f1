use Rattle.std.proofs.Common.{ap, arith}
use Rattle.model.specs.Bucket.{BucketSettings}
use Rattle.bench.proofs.bench_insert_sound.Goals as goal

pub loop-k-preserved : goal.loop-k-preserved
loop-k-preserved c =
    let kept = ap (λ (s : BucketSettings). s.pending_timeout) c.insert.ensures.becomes.settings in
    (omega arith, c.insert.result.bucket.sound)
