use Rattle.well_formed.proofs.Buckets.{formed_is}
use Rattle.well_formed.proofs.formed.Goals as goal

pub returns : goal.returns
returns c = rw formed_is (cc)
