use Rattle.key.specs.Key.{num}
use Rattle.well_formed.proofs.KeyPlace.{none_found}
use Rattle.well_formed.proofs.not_held.Goals as goal

pub returns : goal.returns
returns c = none_found c.args.bucket.now c.args.k (num c.args.key) c.position.result c.position.ensures c.is_none.ensures
