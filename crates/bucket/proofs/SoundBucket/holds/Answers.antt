use Rattle.std.proofs.Common.{◌∙◌}
use Rattle.key.specs.Key.{num}
use Rattle.bucket.proofs.Held.{found_or_not}
use Rattle.bucket.proofs.SoundBucket.holds.Goals as goal

pub returns : goal.returns
returns c =
    let b = c.args.self.now in
    c.is_some.ensures ∙ found_or_not b.bucket b.sound (num c.args.key) c.position.result c.position.ensures
