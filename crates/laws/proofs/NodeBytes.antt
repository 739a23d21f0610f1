-- The bytes of a value, of a node and of a record of the queue: what is written is read again.
use mathlib.Core.Path.{◌≡◌, refl, ◌∙◌}
use mathlib.Core.Bool.{Bool, true, false}
use mathlib.Core.List.{List, ◌∷◌, ◌++◌}
use mathlib.Core.Option.{Option, none, some}
use Prim.Native.Nat.{ℕ, ◌+◌, ◌<◌}
use native.Mathlib.Omega.{arith}
use lib.ListN.{length, get_or, length-append, length-replicate}
use lib.Dec.{eqb}
use Rattle.model.specs.Bytes.{number, bytes, part, zeros, Bytes}
use Rattle.model.specs.Value.{Address, Value}
use Rattle.model.specs.Node.{Node, Ending, EndedPending, evicted_in}
use Rattle.model.specs.Sizes.{key_size, slot_size, value_size, node_size, record_size}
use Rattle.model.specs.Layout.{flag_byte, address_bytes, value_bytes, node_bytes, evicting_kind, ending_kind, evicted_bytes, record_bytes, address_in, value_in, node_in, ending_of, ending_in, record_in}
use Rattle.model.specs.Fits.{Opt, FitsAddress, FitsValue, FitsNode, FitsRecord}
use Rattle.laws.proofs.Parts.{part_front, part_right, part_end, part_all, get_or_right}
use Rattle.laws.proofs.Bytes.{length_bytes, number_there, Bytes_cons, Bytes_all, Bytes_append, Bytes_zeros, Bytes_bytes}

-- lengths

pub length_address : (a : Option Address) → length (address_bytes a) ≡ 5
length_address none = refl
length_address (some x) = refl

pub length_value : (v : Value) → length (value_bytes v) ≡ value_size
unfolding value_bytes
length_value v = simp (length-append, length_address, length_bytes)

pub length_node : (n : Node) → length (node_bytes n) ≡ node_size
unfolding node_bytes
length_node n = simp (length-append, length_bytes, length_value)

pub length_evicted : (o : Option Node) → length (evicted_bytes o) ≡ node_size
length_evicted none = length-replicate {A = ℕ} node_size 0
length_evicted (some n) = length_node n

pub length_record : (r : EndedPending) → length (record_bytes r) ≡ record_size
unfolding record_bytes
length_record r = simp (length-append, length_bytes, length_evicted)

-- what is written is bytes

pub Bytes_flag : (b : Bool) (s : List ℕ) → Bytes s → Bytes (flag_byte b ∷ s)
Bytes_flag true s h = Bytes_cons 1 s (omega arith) h
Bytes_flag false s h = Bytes_cons 0 s (omega arith) h

pub Bytes_address : (a : Option Address) → Opt FitsAddress a → Bytes (address_bytes a)
Bytes_address none f = Bytes_zeros 5
Bytes_address (some x) f = Bytes_all (address_bytes (some x)) (omega arith, (f.a, (f.b, (f.c, (f.d, tt)))))

pub Bytes_value : (v : Value) → FitsValue v → Bytes (value_bytes v)
unfolding value_bytes
Bytes_value v f = Bytes_append (address_bytes v.address) (bytes slot_size v.slot) (Bytes_address v.address f.address) (Bytes_bytes slot_size v.slot)

pub Bytes_node : (n : Node) → FitsNode n → Bytes (node_bytes n)
unfolding node_bytes
Bytes_node n f =
    Bytes_append (bytes key_size n.key) (flag_byte n.connected ∷ flag_byte n.incoming ∷ value_bytes n.value) (Bytes_bytes key_size n.key)
    (Bytes_flag n.connected (flag_byte n.incoming ∷ value_bytes n.value) (Bytes_flag n.incoming (value_bytes n.value) (Bytes_value n.value f.value)))

pub Bytes_evicted : (o : Option Node) → Opt FitsNode o → Bytes (evicted_bytes o)
Bytes_evicted none f = Bytes_zeros node_size
Bytes_evicted (some n) f = Bytes_node n f

kind_within : (e : Ending) → ending_kind e < 256
kind_within (Ending.Placed none) = omega arith
kind_within (Ending.Placed (some n)) = omega arith
kind_within Ending.FirstConnected = omega arith
kind_within Ending.BucketFilter = omega arith
kind_within Ending.TooManyIncoming = omega arith
kind_within Ending.Inserted = omega arith
kind_within Ending.FirstConfirmed = omega arith

pub Bytes_record : (r : EndedPending) → FitsRecord r → Bytes (record_bytes r)
unfolding record_bytes
Bytes_record r f =
    Bytes_append (bytes key_size r.key) (ending_kind r.ending ∷ evicted_bytes (evicted_in r.ending)) (Bytes_bytes key_size r.key)
    (Bytes_cons (ending_kind r.ending) (evicted_bytes (evicted_in r.ending)) (kind_within r.ending) (Bytes_evicted (evicted_in r.ending) f.evicted))

-- what is written is read again

pub flag_there : (b : Bool) → eqb (flag_byte b) 1 ≡ b
flag_there true = refl
flag_there false = refl

pub address_there : (a : Option Address) (s : List ℕ) → address_in (address_bytes a ++ s) ≡ a
address_there none s = refl
address_there (some x) s = refl

pub value_there : (v : Value) → FitsValue v → value_in (value_bytes v) ≡ v
unfolding value_in value_bytes
value_there v f =
    rw (
      address_there v.address (bytes slot_size v.slot),
      part_end (address_bytes v.address) (bytes slot_size v.slot) 5 slot_size (length_address v.address) (length_bytes slot_size v.slot),
      number_there slot_size v.slot f.slot,
    )

-- the fields of a node's bytes
module _ (n : Node) where
  pub node_key : FitsNode n → number (part (node_bytes n) 0 key_size) ≡ n.key
  unfolding node_bytes
  node_key f = rw (part_front (bytes key_size n.key) (flag_byte n.connected ∷ flag_byte n.incoming ∷ value_bytes n.value) key_size (length_bytes key_size n.key)) (number_there key_size n.key f.key)

  pub node_state : get_or (node_bytes n) key_size 0 ≡ flag_byte n.connected
  unfolding node_bytes
  node_state = get_or_right (bytes key_size n.key) _ key_size 0 (length_bytes key_size n.key)

  pub node_direction : get_or (node_bytes n) (key_size + 1) 0 ≡ flag_byte n.incoming
  unfolding node_bytes
  node_direction = get_or_right (bytes key_size n.key) _ key_size 1 (length_bytes key_size n.key)

  pub node_value : part (node_bytes n) (key_size + 2) value_size ≡ value_bytes n.value
  unfolding node_bytes part
  node_value =
      part_right (bytes key_size n.key) (flag_byte n.connected ∷ flag_byte n.incoming ∷ value_bytes n.value) key_size 2 value_size (length_bytes key_size n.key)
      ∙ part_all (value_bytes n.value) value_size (omega (arith, length_value n.value))

  pub node_there : FitsNode n → node_in (node_bytes n) ≡ n
  unfolding node_in
  node_there f = rw (node_key f, node_state, node_direction, node_value, flag_there n.connected, flag_there n.incoming, value_there n.value f.value)

-- a kind with no node behind it
plain_there : (k : ℕ) (a : List ℕ) → length a ≡ key_size → eqb k evicting_kind ≡ false → ending_in (a ++ (k ∷ zeros node_size)) ≡ ending_of k
plain_there k a e h = rw (get_or_right a (k ∷ zeros node_size) key_size 0 e, h)

pub ending_there : (x : Ending) (a : List ℕ) → length a ≡ key_size → Opt FitsNode (evicted_in x)
    → ending_in (a ++ (ending_kind x ∷ evicted_bytes (evicted_in x))) ≡ x
unfolding part
ending_there (Ending.Placed none) a e f = plain_there 0 a e refl
ending_there (Ending.Placed (some n)) a e f =
    rw (
      get_or_right a (evicting_kind ∷ node_bytes n) key_size 0 e,
      part_right a (evicting_kind ∷ node_bytes n) key_size 1 node_size e,
      part_all (node_bytes n) node_size (omega (arith, length_node n)),
      node_there n f,
    )
ending_there Ending.FirstConnected a e f = plain_there 2 a e refl
ending_there Ending.BucketFilter a e f = plain_there 3 a e refl
ending_there Ending.TooManyIncoming a e f = plain_there 4 a e refl
ending_there Ending.Inserted a e f = plain_there 5 a e refl
ending_there Ending.FirstConfirmed a e f = plain_there 6 a e refl

pub record_there : (r : EndedPending) → FitsRecord r → record_in (record_bytes r) ≡ r
unfolding record_in record_bytes
record_there r f =
    rw (
      part_front (bytes key_size r.key) (ending_kind r.ending ∷ evicted_bytes (evicted_in r.ending)) key_size (length_bytes key_size r.key),
      number_there key_size r.key f.key,
      ending_there r.ending (bytes key_size r.key) (length_bytes key_size r.key) f.evicted,
    )
