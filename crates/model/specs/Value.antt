-- The value of a node (01, "Rust forms that are recast", Value).
use Rattle.std.specs.Prelude.{ℕ, Bool, true, false, ◌&&◌}
use Rattle.std.proofs.Math.Option.{Option, none, some}
use Rattle.model.specs.Base.{same, is_some}

-- an IPv4 address: four octets
pub record Address : Type 0 where
  pub a : ℕ
  pub b : ℕ
  pub c : ℕ
  pub d : ℕ

-- an optional address, and a slot of the host's record store
pub record Value : Type 0 where
  pub address : Option Address
  pub slot : ℕ

-- the first three octets are the same: both addresses are of one /24
unfoldable pub same_net : Address → Address → Bool
same_net x y = same x.a y.a && (same x.b y.b && same x.c y.c)

abbrev pub same_address : Option Address → Option Address → Bool
same_address none none = true
same_address none (some y) = false
same_address (some x) none = false
same_address (some x) (some y) = same_net x y && same x.d y.d

-- 01, Value: values are equal when all of it is equal
unfoldable pub same_value : Value → Value → Bool
same_value v w = same_address v.address w.address && same v.slot w.slot

abbrev pub has_address : Value → Bool
has_address v = is_some v.address

-- both have an address, and the first three octets are the same
abbrev pub shares_net : Option Address → Option Address → Bool
shares_net none y = false
shares_net (some x) none = false
shares_net (some x) (some y) = same_net x y
