use mathlib.Core.Option.{none}
use Rattle.model.specs.Bucket.{BucketSettings, Bucket, with_pending}
use Rattle.bucket.proofs.Steps.{then_becomes, put_into}
use Rattle.bucket.proofs.SoundBucket.rest_at.Goals as goal

pub returns-then-connected-pos : goal.returns-then-connected-pos
returns-then-connected-pos c =
    put_into c.args.self.now.bucket c.args.self.now.sound c.args.pos c.requires c.args.connected c.if-connected-pos.true
    (then_becomes c.taken_out-rest.ensures (λ (s : BucketSettings) (m : Bucket). with_pending none m) c.without_pending.ensures)

pub returns : goal.returns
returns c = put_into c.args.self.now.bucket c.args.self.now.sound c.args.pos c.requires c.args.connected c.if-connected-pos.false c.taken_out-rest.ensures
