-- The code of a state or direction leads back to it.
use mathlib.Core.Path.{◌≡◌, refl}
use Rattle.node.specs.declared.ConnectionState.{ConnectionState}
use Rattle.node.specs.declared.ConnectionDirection.{ConnectionDirection}
use Rattle.node.specs.declared.ConnectionState.TheVariants.{Connected, Disconnected}
use Rattle.node.specs.declared.ConnectionDirection.TheVariants.{Incoming, Outgoing}
use Rattle.std.proofs.Common.{Ok}
use Rattle.node.specs.Status.{state_code, direction_code, state_of, direction_of}

pub state_of_code : (s : ConnectionState) → state_of (state_code s) ≡ Ok s
state_of_code Connected = refl
state_of_code Disconnected = refl

pub direction_of_code : (d : ConnectionDirection) → direction_of (direction_code d) ≡ Ok d
direction_of_code Incoming = refl
direction_of_code Outgoing = refl
