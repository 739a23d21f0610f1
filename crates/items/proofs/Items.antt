-- What is written of one node: the bytes of an item by those of the node.
use mathlib.Core.Path.{◌≡◌, refl, sym, ap, ◌∙◌}
use mathlib.Core.Bool.{Bool, true, false, cond, ◌&&◌}
use mathlib.Core.List.{List, [], ◌∷◌, ◌++◌, map, map-append, append-nil}
use mathlib.Core.Option.{none, some}
use Prim.Native.Nat.{ℕ, ◌+◌, ◌-◌, ◌*◌, ◌≤◌}
use native.Mathlib.Nat.{zero-add}
use native.Mathlib.Omega.{arith}
use lib.Dec.{eqb}
use lib.ListN.{length, take, drop, length-append, length-take, length-drop, drop_of_length-le}
use lib.Seq.{take_all, drop-drop}
use borrow.Rule.Slice.PartMut.{put_mid}
use borrow.Author.Tests.{ne_eqb}
use Rattle.model.specs.Base.{same, joined}
use Rattle.model.specs.Bytes.{bytes, part, splice, Bytes}
use Rattle.model.specs.Value as model
use Rattle.model.specs.Node.{Node}
use Rattle.model.specs.Sizes.{key_size, value_size, node_size}
use Rattle.model.specs.Call.{matches, in_net}
use Rattle.model.specs.Layout.{flag_byte, value_bytes, node_bytes, item_bytes, node_in}
use Rattle.model.specs.Formed.{node_codes, key_in}
use Rattle.laws.proofs.Lists.{joined_append, joined_map, length_joined}
use Rattle.laws.proofs.All.{all_any}
use Rattle.laws.proofs.Parts.{length_splice, splice_next}
use Rattle.laws.proofs.Bytes.{length_bytes, number_back}
use Rattle.laws.proofs.NodeBytes.{length_value, length_node, node_value}
use Rattle.laws.proofs.NodeFormed.{node_back}
use Rattle.words.proofs.Words.{put_mid_splice}
use Rattle.key.proofs.Bytes.{splice_all}
use Rattle.node.specs.declared.Value.{Value}
use Rattle.node.specs.Node.{value_of}
use Rattle.storage.specs.Read.{read_value}
use Rattle.storage.proofs.Bytes.{value_of_read}
use Rattle.items.specs.declared.Predicate.{Predicate}
use Rattle.items.specs.declared.Form.{Form}
use Rattle.items.specs.declared.Shape.{Shape}
use Rattle.items.specs.Shape.{predicate_of, closest_item, closest_size, item_by, items_by, size_by}

-- the predicate

in_net_of : (t : Bool) (x : Predicate) (y : model.Address) → (t && model.same_net y (record { a = x.a; b = x.b; c = x.c; d = 0 })) ≡ in_net (predicate_of x) (cond t (some y) none)
in_net_of true x y = refl
in_net_of false x y = refl

pub in_net_is : (x : Predicate) (v : Value) → (eqb v.flag 1 && (eqb v.a x.a && (eqb v.b x.b && eqb v.c x.c))) ≡ in_net (predicate_of x) (value_of v).address
unfolding model.same_net same
in_net_is x v = in_net_of (eqb v.flag 1) x (record { a = v.a; b = v.b; c = v.c; d = v.d })

module _ (x : Predicate) (v : Value) where
  abbrev met : Bool
  met = matches (predicate_of x) (value_of v)

  pub match_slot : (x.predicate ≡ 0 → ⊥) → (x.predicate ≡ 1 → ⊥) → (x.predicate ≡ 2 → ⊥) → eqb v.slot x.slot ≡ met
  unfolding same
  match_slot n m p = rw (ne_eqb x.predicate 0 n, ne_eqb x.predicate 1 m, ne_eqb x.predicate 2 p)

-- the form

pub size_least : (f : Form) → key_size ≤ closest_size f
unfolding closest_size
size_least Form.Key = omega arith
size_least Form.ClosestValue = omega arith
size_least (Form.PredicateValue p) = omega arith

pub size_key : {f : Form} → f ≡ Form.Key → closest_size f ≡ key_size
unfolding closest_size
size_key e = rw e

pub size_value : {f : Form} → f ≡ Form.ClosestValue → closest_size f ≡ key_size + value_size
unfolding closest_size
size_value e = rw e

pub size_match : {f : Form} {p : Predicate} → f ≡ Form.PredicateValue p → closest_size f ≡ key_size + 1 + value_size
unfolding closest_size
size_match e = rw e

-- an item has the size of its form
pub length_item : (f : Form) (n : Node) → length (item_bytes (closest_item f n)) ≡ closest_size f
unfolding closest_item closest_size item_bytes
length_item Form.Key n = length_bytes key_size n.key
length_item Form.ClosestValue n = simp (length-append, length_bytes, length_value)
length_item (Form.PredicateValue p) n = simp (length-append, length_bytes, length_value)

-- bytes put behind those that are there, up to the end
pub put_last : {t w : List ℕ} (o a b : List ℕ) (k n : ℕ) → t ≡ splice o 0 a → w ≡ b → length a ≡ k → length b ≡ n → length o ≡ k + n → put_mid k n t w ≡ a ++ b
put_last {t} o a b k n e f l m h =
    put_mid_splice t k n f m ∙ ap (λ (s : List ℕ). splice s k b) e ∙ ap (λ (i : ℕ). splice (splice o 0 a) i b) (sym (zero-add k)) ∙ splice_next o 0 k a b l (omega arith)
    ∙ splice_all o (a ++ b) (simp length-append (omega arith))

-- m bytes from k on
pub room_behind : (o : List ℕ) (k m : ℕ) → k + m ≤ length o → m ≤ length (take (length o - k) (drop k o))
room_behind o k m h = omega (arith, length-take (length o - k) (drop k o), length-drop k o)

-- what is put to the front of the bytes from k on
pub put_behind : {t : List ℕ} (o v : List ℕ) (k : ℕ) → t ≡ splice (take (length o - k) (drop k o)) 0 v → put_mid k (length o - k) o t ≡ splice o k v
unfolding splice
put_behind o v k e =
    let z : drop (length o - k) (drop k o) ≡ [] = drop_of_length-le (drop k o) (omega (arith, length-drop k o)) in
    let y : take (length o - k) (drop k o) ≡ drop k o = take_all (length o - k) (drop k o) (omega (arith, length-drop k o)) in
    rw (e, z, y, append-nil, drop-drop) (simp zero-add)

-- bytes put at the start
pub length_put : (o w : List ℕ) (k : ℕ) → length w ≡ k → k ≤ length o → length (put_mid 0 k o w) ≡ length o
length_put o w k l h = ap length (put_mid_splice o 0 k {v = w} refl l) ∙ length_splice o 0 w (omega arith)

-- bytes put over all that are there
pub put_all_of : {w : List ℕ} (o a : List ℕ) (k : ℕ) → w ≡ a → length a ≡ k → length o ≡ k → put_mid 0 k o w ≡ a
put_all_of o a k f l h = put_mid_splice o 0 k f l ∙ splice_all o a (omega arith)

-- the bytes of a node, part by part

module _ (bs : List ℕ) (h : Bytes bs) (l : length bs ≡ node_size) where
  pub key_bytes : bytes key_size (node_in bs).key ≡ part bs 0 key_size
  unfolding node_in
  key_bytes = number_back bs 0 key_size (omega arith) h

  pub key_put : {v : List ℕ} {k : ℕ} → v ≡ bytes key_size k → k ≡ key_in bs → v ≡ part bs 0 key_size
  unfolding node_in
  key_put e f = e ∙ ap (bytes key_size) f ∙ key_bytes

  module _ (c : node_codes bs ≡ true) where
    pub value_bytes_lem : value_bytes (node_in bs).value ≡ part bs (key_size + 2) value_size
    value_bytes_lem = sym (node_value (node_in bs)) ∙ ap (λ (r : List ℕ). part r (key_size + 2) value_size) (node_back bs l h c)

    pub item_key : item_bytes (closest_item Form.Key (node_in bs)) ≡ part bs 0 key_size
    unfolding closest_item item_bytes
    item_key = key_bytes

    pub item_value : item_bytes (closest_item Form.ClosestValue (node_in bs)) ≡ part bs 0 key_size ++ part bs (key_size + 2) value_size
    unfolding closest_item item_bytes
    item_value = rw (key_bytes, value_bytes_lem)

    pub item_match : (p : Predicate)
        → item_bytes (closest_item (Form.PredicateValue p) (node_in bs)) ≡ part bs 0 key_size ++ (flag_byte (matches (predicate_of p) (node_in bs).value) ∷ part bs (key_size + 2) value_size)
    unfolding closest_item item_bytes
    item_match p = rw (key_bytes, value_bytes_lem)

-- the predicate of the value that is read
pub match_read : (bs : List ℕ) (x : Predicate) (v : Value) (r : Bool) → v ≡ read_value (part bs (key_size + 2) value_size) → r ≡ matches (predicate_of x) (value_of v)
    → flag_byte r ≡ flag_byte (matches (predicate_of x) (node_in bs).value)
unfolding node_in
match_read bs x v r e f =
    ap flag_byte (f ∙ ap (λ (w : Value). matches (predicate_of x) (value_of w)) e ∙ ap (matches (predicate_of x)) (value_of_read (part bs (key_size + 2) value_size)))

-- the items of some nodes

pub length_item_by : (x : Shape) (n : Node) → length (item_bytes (item_by x n)) ≡ size_by x
unfolding item_by size_by item_bytes
length_item_by Shape.Nodes n = length_node n
length_item_by (Shape.Closest k f) n = length_item f n

module _ (x : Shape) where
  pub length_items : (ns : List Node) → length (items_by x ns) ≡ length ns * size_by x
  length_items ns =
      ap length (joined_map item_bytes (item_by x) ns) ∙ length_joined (λ (n : Node). item_bytes (item_by x n)) (size_by x) ns (all_any _ ns (length_item_by x))

  pub items_append : (ns ms : List Node) → items_by x (ns ++ ms) ≡ items_by x ns ++ items_by x ms
  items_append ns ms = ap (joined item_bytes) (map-append (item_by x) ns ms) ∙ joined_append item_bytes (map (item_by x) ns) (map (item_by x) ms)

-- nodes are written as they are stored
pub nodes_written : (ns : List Node) → items_by Shape.Nodes ns ≡ joined node_bytes ns
unfolding item_by item_bytes
nodes_written ns = joined_map item_bytes (item_by Shape.Nodes) ns
