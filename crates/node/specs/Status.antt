-- The codes of states and directions.
use Rattle.std.specs.Prelude.{ℕ, Bool, Option, Some, None, Result, Ok, Err, cond, eqb}
use Rattle.std.proofs.Math.Option as math
use Rattle.model.specs.Call.{is_one}
use Rattle.node.specs.declared.Refusal.{Refusal}
use Rattle.node.specs.declared.ConnectionState.{ConnectionState}
use Rattle.node.specs.declared.ConnectionDirection.{ConnectionDirection}
use Rattle.node.specs.declared.ConnectionState.TheVariants.{Connected, Disconnected}
use Rattle.node.specs.declared.ConnectionDirection.TheVariants.{Incoming, Outgoing}

-- 01, question 4: state 0 disconnected or 1 connected
abbrev pub state_code : ConnectionState → ℕ
state_code Connected = 1
state_code Disconnected = 0

-- 01, question 4: direction 0 outgoing or 1 incoming
abbrev pub direction_code : ConnectionDirection → ℕ
direction_code Incoming = 1
direction_code Outgoing = 0

-- the state of a code; no code but those two is in range
abbrev pub state_of : ℕ → Result ConnectionState Refusal
state_of x = cond (eqb x 1) (Ok Connected) (cond (eqb x 0) (Ok Disconnected) (Err Refusal.Code))

abbrev pub direction_of : ℕ → Result ConnectionDirection Refusal
direction_of x = cond (eqb x 1) (Ok Incoming) (cond (eqb x 0) (Ok Outgoing) (Err Refusal.Code))

-- a code that need not be given, as the model's flag
abbrev pub optional_of : Option ℕ → math.Option Bool
optional_of None = math.none
optional_of (Some x) = math.some (is_one x)
