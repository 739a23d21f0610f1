use Rattle.key.specs.Key.{num}
use Rattle.bucket.proofs.Held.{finds}
use Rattle.bucket.proofs.SoundBucket.position.Goals as goal

pub returns : goal.returns
returns c =
    let b = c.args.self.now in
    finds b.bucket b.sound (num c.args.key) c.position.result (rw c.nodes.ensures at c.position.ensures)
