use Rattle.bucket.specs.Bucket.{bucket_of}
use Rattle.bucket.proofs.Sound.{count_of}
use Rattle.laws.proofs.BucketBytes.{length_bucket}
use Rattle.words.proofs.Words.{put_mid_splice}
use Rattle.bucket_calls.proofs.stored.store.Goals as goal

pub returns : goal.returns
returns c =
    let b = c.args.b.now in
    put_mid_splice c.args.s.now 0 810 c.store.ensures (length_bucket (bucket_of b.bucket) (rw (← count_of b.bucket b.sound) b.sound.few))
