use Rattle.std.proofs.Common.{refl}
use Rattle.model.specs.Layout.{node_in}
use Rattle.well_formed.proofs.is_incoming.Goals as goal

pub returns : goal.returns
unfolding node_in
returns c = refl
