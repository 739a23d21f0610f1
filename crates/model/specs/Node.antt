-- Nodes, pending nodes, and the records of ended pendings (bucket.rs: Node, NodeStatus, PendingNode, AppliedPending; 02, slip 4).
use Rattle.std.specs.Prelude.{ℕ, Bool, true, false, not, ◌&&◌, List, [], ◌∷◌}
use Rattle.std.specs.Bool.{beq}
use Rattle.std.proofs.Math.Option.{Option, none, some}
use Rattle.model.specs.Base.{select, given}
use Rattle.model.specs.Value.{Value}

pub record Node : Type 0 where
  pub key : ℕ
  pub value : Value
  -- the state: connected, or else disconnected
  pub connected : Bool
  -- the direction: incoming, or else outgoing
  pub incoming : Bool

pub record PendingNode : Type 0 where
  pub node : Node
  -- from this time on it is due
  pub deadline : ℕ

-- 02, slip 4: what became of a pending. Placed, with the node that it evicted, if any; dropped because 16 are held and place 0 is
-- connected; dropped by the bucket filter; dropped by the incoming limit; cleared by a direct insert of its key; cleared because place 0
-- was confirmed.
pub data Ending : Type 0 where
  Placed : (evicted : Option Node) → Ending
  FirstConnected : Ending
  BucketFilter : Ending
  TooManyIncoming : Ending
  Inserted : Ending
  FirstConfirmed : Ending

-- the record of a pending that was ended: its key and its ending
pub record EndedPending : Type 0 where
  pub key : ℕ
  pub ending : Ending

abbrev pub is_placed : Ending → Bool
is_placed (Ending.Placed n) = true
is_placed Ending.FirstConnected = false
is_placed Ending.BucketFilter = false
is_placed Ending.TooManyIncoming = false
is_placed Ending.Inserted = false
is_placed Ending.FirstConfirmed = false

-- the records of those that were placed
abbrev pub placed_of : List EndedPending → List EndedPending
placed_of rs = select (λ (r : EndedPending). is_placed r.ending) rs

-- the node that was evicted, if any
abbrev pub evicted_in : Ending → Option Node
evicted_in (Ending.Placed n) = n
evicted_in Ending.FirstConnected = none
evicted_in Ending.BucketFilter = none
evicted_in Ending.TooManyIncoming = none
evicted_in Ending.Inserted = none
evicted_in Ending.FirstConfirmed = none

-- the one record of a pending
abbrev pub ended : Node → Ending → List EndedPending
ended n e = record { key = n.key; ending = e } ∷ []

-- the record of a pending, if there is one
abbrev pub ended_if : Ending → Option PendingNode → List EndedPending
ended_if e none = []
ended_if e (some p) = ended p.node e

-- a connected incoming node
abbrev pub connected_incoming : Node → Bool
connected_incoming n = n.connected && n.incoming

-- the node with another status; a direction that is not given stays
abbrev pub with_status : Bool → Option Bool → Node → Node
with_status u d n = record { key = n.key; value = n.value; connected = u; incoming = given d n.incoming }

abbrev pub with_value : Value → Node → Node
with_value v n = record { key = n.key; value = v; connected = n.connected; incoming = n.incoming }

abbrev pub same_status : Node → Node → Bool
same_status m n = beq m.connected n.connected && beq m.incoming n.incoming

-- from disconnected to connected
abbrev pub promotes : Node → Node → Bool
promotes m n = not m.connected && n.connected
