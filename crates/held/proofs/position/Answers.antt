use Rattle.key.specs.Key.{num}
use Rattle.held.proofs.Quiet.{position_is}
use Rattle.held.proofs.position.Goals as goal

pub returns : goal.returns
returns c = let h = c.args.held in position_is h.bucket.now h.counts (num c.args.key) c.position.result c.position.ensures
