use Rattle.key.specs.Key.{num}
use Rattle.node.specs.Node.{value_of}
use Rattle.bucket.specs.Bucket.{bucket_of, settings_of}
use Rattle.bucket.proofs.Held.{found, absent}
use Rattle.bucket.proofs.Rules.{value_absent}
use Rattle.bucket.proofs.Steps.{by_rule}
use Rattle.bucket.proofs.SoundBucket.update_value.Goals as goal

pub returns-in-Some : goal.returns-in-Some
returns-in-Some c = rw (found c.args.self.bucket (num c.args.key) c.position.ensures c.in-Some.is).1 at c.value_at.ensures

pub returns-in-None : goal.returns-in-None
returns-in-None c =
    let b = c.args.self.bucket in
    let k = num c.args.key in
    by_rule (value_absent (settings_of b) k (value_of c.args.value.value) (bucket_of b) (absent b k c.position.ensures c.in-None.is)) c.value_pending.ensures
