use Rattle.std.proofs.Common.{arith, refl, ap, ◌∙◌}
use Rattle.model.specs.Bytes.{zeros}
use Rattle.model.specs.Sizes.{node_size}
use Rattle.held.proofs.Moves.{rest_length, behind_is}
use Rattle.held.proofs.close_place.Goals as goal

pub returns : goal.returns
returns c =
    behind_is c.args.run.now c.requires (zeros node_size) (c.put_zeros.ensures ∙ ap zeros (rest_length c.shift_down.new.s (omega (arith, c.shift_down.auto.s)) refl refl)) refl c.shift_down.ensures refl refl
