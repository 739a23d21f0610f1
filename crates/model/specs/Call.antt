-- The table's calls, with the arguments as a host gives them: keys as bytes of any length, codes as any number, and a listing's
-- output as the bytes that are lent. A refused call is a call too.
use Rattle.std.specs.Prelude.{ℕ, Bool, true, false, cond, List, [], eqb}
use Rattle.std.proofs.Math.Option.{Option, none, some}
use Rattle.model.specs.Base.{same}
use Rattle.model.specs.Value.{Address, Value, same_net, has_address}
use Rattle.model.specs.Session.{Session}

-- 01, Value: address flag, four octets, slot
pub record ValueArgument : Type 0 where
  pub flag : ℕ
  pub a : ℕ
  pub b : ℕ
  pub c : ℕ
  pub d : ℕ
  pub slot : ℕ

-- 01, Closures: 0 always, 1 has an address, 2 address in the /24 of a, b, c, 3 slot equals
pub record PredicateArgument : Type 0 where
  pub predicate : ℕ
  pub a : ℕ
  pub b : ℕ
  pub c : ℕ
  pub slot : ℕ

pub data Listing : Type 0 where
  iter : Listing
  nodes_by_distances : (distances : List ℕ) → Listing
  closest_keys : (target : List ℕ) → Listing
  closest_values : (target : List ℕ) → Listing
  closest_values_predicate : (target : List ℕ) (predicate : PredicateArgument) → Listing

-- a call on one key, but for the key; with the two that may admit a new key the host gives session hours (02, slip 8)
pub data KeyCall : Type 0 where
  update_node_status : (state direction now : ℕ) → KeyCall
  update_node : (value : ValueArgument) (state now : ℕ) → KeyCall
  insert_or_update : (value : ValueArgument) (state direction now : ℕ) (session : Session) → KeyCall
  remove : (now : ℕ) → KeyCall
  entry : (now : ℕ) → KeyCall
  present_update : (state direction : ℕ) → KeyCall
  pending_update : (state direction : ℕ) → KeyCall
  absent_insert : (value : ValueArgument) (state direction now : ℕ) (session : Session) → KeyCall

-- `list` is any of the five listings; n is its count. `read` loads what the writer puts out (02, slip 6).
pub data Call : Type 0 where
  new : (local_key : List ℕ) (pending_timeout max_incoming table_filter bucket_filter : ℕ) → Call
  on_key : (key : List ℕ) (call : KeyCall) → Call
  list : (listing : Listing) (n now : ℕ) (output : List ℕ) → Call
  take_applied_pending : Call
  read : (bytes : List ℕ) → Call

-- what a host without session hours gives
abbrev pub no_hours : Session
no_hours = record { windows = []; closed = []; today = record { year = 0; month = 0; day = 0 }; minute = 0 }

-- the call with these hours, where it is given any
abbrev pub with_hours : Session → KeyCall → KeyCall
with_hours x (KeyCall.update_node_status st dr now) = KeyCall.update_node_status st dr now
with_hours x (KeyCall.update_node v st now) = KeyCall.update_node v st now
with_hours x (KeyCall.insert_or_update v st dr now hs) = KeyCall.insert_or_update v st dr now x
with_hours x (KeyCall.remove now) = KeyCall.remove now
with_hours x (KeyCall.entry now) = KeyCall.entry now
with_hours x (KeyCall.present_update st dr) = KeyCall.present_update st dr
with_hours x (KeyCall.pending_update st dr) = KeyCall.pending_update st dr
with_hours x (KeyCall.absent_insert v st dr now hs) = KeyCall.absent_insert v st dr now x

-- 01, question 4: state 0 disconnected or 1 connected; direction 0 outgoing or 1 incoming; a flag or a filter 0 or 1
abbrev pub is_one : ℕ → Bool
is_one x = eqb x 1

-- 01, question 4: 2 for "not given"
abbrev pub optional : ℕ → Option Bool
optional x = cond (eqb x 2) none (some (is_one x))

abbrev pub value_of : ValueArgument → Value
value_of v = record { address = cond (is_one v.flag) (some (record { a = v.a; b = v.b; c = v.c; d = v.d })) none; slot = v.slot }

abbrev pub in_net : PredicateArgument → Option Address → Bool
in_net p none = false
in_net p (some x) = same_net x (record { a = p.a; b = p.b; c = p.c; d = 0 })

-- 01, Closures
abbrev pub matches : PredicateArgument → Value → Bool
matches p v =
    cond (eqb p.predicate 0) true
    (cond (eqb p.predicate 1) (has_address v) (cond (eqb p.predicate 2) (in_net p v.address) (same v.slot p.slot)))
