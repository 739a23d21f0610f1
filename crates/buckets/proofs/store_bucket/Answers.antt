use Rattle.std.proofs.Common.{◌∙◌, arith}
use Rattle.bucket.specs.Bucket.{bucket_of}
use Rattle.bucket.proofs.Sound.{count_of}
use Rattle.laws.proofs.BucketBytes.{length_bucket}
use Rattle.words.proofs.Words.{put_mid_splice}
use Rattle.buckets.proofs.store_bucket.Goals as goal

pub returns : goal.returns
returns c =
    let s = c.args.b.now.sound in
    rw c.bucket_range.ensures
    (put_mid_splice c.args.s.now _ _ c.store.ensures (length_bucket (bucket_of c.args.b.now.bucket) (rw (← count_of c.args.b.now.bucket s) s.few) ∙ omega arith))
