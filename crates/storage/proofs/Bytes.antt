-- The bytes of declared values and nodes, read field by field and written field by field; an entry copied by two words.
use mathlib.Core.Path.{◌≡◌, refl, sym, ap, ◌∙◌}
use mathlib.Core.Bool.{Bool, true, ◌&&◌, ◌||◌, and_assoc}
use mathlib.Core.List.{List, [], ◌∷◌, ◌++◌, append_assoc}
use mathlib.Core.Option.{Option, none, some}
use Prim.Native.Nat.{ℕ, ◌+◌, ◌<◌}
use native.Mathlib.Omega.{arith}
use lib.Dec.{eqb, leb}
use lib.ListN.{length, get_or, set, length-append}
use borrow.Author.Tests.{eqb-true, eqb-false, lt-leb}
use Rattle.model.specs.Base.{all_below}
use Rattle.model.specs.Bytes.{number, bytes, part, splice, Bytes}
use Rattle.model.specs.Value as model-value
use Rattle.model.specs.Sizes.{key_size, slot_size, value_size, node_size}
use Rattle.model.specs.Layout.{address_bytes, value_bytes, node_bytes, value_in, node_in}
use Rattle.model.specs.Formed as formed
use Rattle.model.specs.Saved.{saved_entry_size}
use Rattle.laws.proofs.Tests.{split, and_left, and_right}
use Rattle.laws.proofs.Parts.{length_part, part_append, part_all, get_d_part, length_splice, set_splice, splice_next, splice_over}
use borrow.Rule.Slice.PartMut.{put_mid}
use Rattle.words.proofs.Words.{set_more, put_mid_splice}
use Rattle.key.proofs.Bytes.{splice_all}
use Rattle.laws.proofs.Bytes.{length_bytes, number_back}
use Rattle.laws.proofs.NodeBytes.{length_value, length_node}
use Rattle.laws.proofs.NodeFormed.{flag_back}
use Rattle.key.specs.Key.{num}
use Rattle.node.specs.declared.Value.{Value}
use Rattle.node.specs.declared.Node.{Node}
use Rattle.node.specs.Node.{value_of, node_of, value_codes, node_codes, stored_address}
use Rattle.key.proofs.Words.{num_key_of}
use Rattle.node.proofs.Stored.{stored_value_of}
use Rattle.storage.specs.Read.{read_value, read_node}

-- what is read stands for what the model reads

pub value_of_read : (bs : List ℕ) → value_of (read_value bs) ≡ value_in bs
unfolding read_value value_in
value_of_read bs = refl

pub node_of_read : (bs : List ℕ) → node_of (read_node bs) ≡ node_in bs
unfolding read_node node_in
node_of_read bs = rw (num_key_of, value_of_read)

-- its codes are in range where those of the bytes are
codes_by : (x : ℕ) (z : Bool) → (eqb x 1 || (eqb x 0 && z)) ≡ (leb x 1 && (eqb x 1 || z))
codes_by x z =
    split (eqb x 1)
    (λ e. rw (eqb-true x 1 e))
    (λ e. split (eqb x 0) (λ f. rw (eqb-true x 0 f)) (λ f. rw (e, f, lt-leb x 1 (more (eqb-false x 1 e) (eqb-false x 0 f)))))
  where
    more : (x ≡ 1 → ⊥) → (x ≡ 0 → ⊥) → 1 < x
    more p q = omega (arith, p, q)

pub codes_read : (bs : List ℕ) → node_codes (read_node bs) ≡ formed.node_codes bs
unfolding read_node read_value formed.node_codes formed.are_zero all_below
codes_read bs =
    let z : ℕ → Bool = λ j. eqb (get_or bs (key_size + j) 0) 0 in
    rw (
      get_d_part bs (key_size + 2) value_size 0 (omega arith),
      get_d_part bs (key_size + 2) value_size 1 (omega arith),
      get_d_part bs (key_size + 2) value_size 2 (omega arith),
      get_d_part bs (key_size + 2) value_size 3 (omega arith),
      get_d_part bs (key_size + 2) value_size 4 (omega arith),
      codes_by,
      ← and_assoc (z 3) (z 4) (z 5 && z 6),
      ← and_assoc (z 3 && z 4) (z 5) (z 6),
    )

-- what is written

octets : Value → List ℕ
octets v = v.flag ∷ v.a ∷ v.b ∷ v.c ∷ v.d ∷ []

stored_bytes : (o : Option model-value.Address) (slot : ℕ) → address_bytes o ≡ octets (stored_address slot o)
unfolding octets
stored_bytes none slot = refl
stored_bytes (some x) slot = refl

pub value_bytes_lem : (v : Value) → value_codes v ≡ true → value_bytes (value_of v) ≡ (v.flag ∷ v.a ∷ v.b ∷ v.c ∷ v.d ∷ []) ++ bytes slot_size v.slot
unfolding value_bytes octets
value_bytes_lem v h = ap (λ (l : List ℕ). l ++ bytes slot_size v.slot) (stored_bytes (value_of v).address v.slot ∙ ap octets (stored_value_of v h))

module _ (n : Node) (h : node_codes n ≡ true) where
  pub codes_value : value_codes n.value ≡ true
  codes_value = and_right (leb n.status.direction 1) (value_codes n.value) (and_right (leb n.status.state 1) _ h)

  pub node_bytes_lem : node_bytes (node_of n) ≡ bytes key_size (num n.key) ++ (n.status.state ∷ n.status.direction ∷ value_bytes (value_of n.value))
  unfolding node_bytes
  node_bytes_lem =
      rw (
        flag_back n.status.state (and_left (leb n.status.state 1) _ h),
        flag_back n.status.direction (and_left (leb n.status.direction 1) (value_codes n.value) (and_right (leb n.status.state 1) _ h)),
      )

-- written into a run that is as long, over all that it held
module _ (s : List ℕ) where
  pub value_put : (v : Value) → value_codes v ≡ true → length s ≡ value_size → (w : List ℕ) → w ≡ bytes slot_size v.slot
      → put_mid 5 8 (set (set (set (set (set s 0 v.flag) 1 v.a) 2 v.b) 3 v.c) 4 v.d) w ≡ value_bytes (value_of v)
  value_put v h l w e =
      let e0 : set s 0 v.flag ≡ splice s 0 (v.flag ∷ []) = set_splice s 0 v.flag (omega arith) in
      let e1 : set (set s 0 v.flag) 1 v.a ≡ splice s 0 (v.flag ∷ v.a ∷ []) = set_more s 0 1 (v.flag ∷ []) v.a e0 refl (omega arith) in
      let e2 = set_more s 0 2 (v.flag ∷ v.a ∷ []) v.b e1 refl (omega arith) in
      let e3 = set_more s 0 3 (v.flag ∷ v.a ∷ v.b ∷ []) v.c e2 refl (omega arith) in
      let e4 = set_more s 0 4 (v.flag ∷ v.a ∷ v.b ∷ v.c ∷ []) v.d e3 refl (omega arith) in
      put_mid_splice _ 5 8 e (length_bytes 8 v.slot) ∙ ap (λ (t : List ℕ). splice t 5 (bytes slot_size v.slot)) e4
      ∙ splice_next s 0 5 (v.flag ∷ v.a ∷ v.b ∷ v.c ∷ v.d ∷ []) (bytes slot_size v.slot) refl (simp length_bytes (omega arith))
      ∙ ap (splice s 0) (sym (value_bytes_lem v h)) ∙ splice_all s (value_bytes (value_of v)) (l ∙ sym (length_value (value_of v)))

  pub node_put : (n : Node) → node_codes n ≡ true → length s ≡ node_size → (k w : List ℕ) → k ≡ bytes key_size (num n.key) → w ≡ value_bytes (value_of n.value)
      → put_mid 34 13 (set (set (put_mid 0 32 s k) 32 n.status.state) 33 n.status.direction) w ≡ node_bytes (node_of n)
  node_put n h l k w e f =
      let key : List ℕ = bytes key_size (num n.key) in
      let d : ℕ = n.status.direction in
      let front : List ℕ = key ++ (n.status.state ∷ []) in
      let e0 = put_mid_splice s 0 32 e (length_bytes key_size _) in
      let e1 = set_more s 0 32 key n.status.state e0 (length_bytes key_size _) (omega arith) in
      let e2 = set_more s 0 33 front d e1 (simp (length-append, length_bytes)) (omega arith) in
      put_mid_splice _ 34 13 f (length_value _) ∙ ap (λ (t : List ℕ). splice t 34 (value_bytes (value_of n.value))) e2
      ∙ splice_next s 0 34 (front ++ (d ∷ [])) (value_bytes (value_of n.value)) (simp (length-append, length_bytes)) (simp length_value (omega arith))
      ∙ ap (splice s 0) (simp append_assoc (sym (node_bytes_lem n h))) ∙ splice_all s (node_bytes (node_of n)) (l ∙ sym (length_node (node_of n)))

-- an entry by its first and its last eight bytes
pub entry_put : {v w : List ℕ} (s o : List ℕ) (front back : ℕ) → Bytes s → length s ≡ saved_entry_size → length o ≡ saved_entry_size
    → front ≡ number (part s 0 8) → back ≡ number (part s 7 8) → v ≡ bytes 8 front → w ≡ bytes 8 back → put_mid 7 8 (put_mid 0 8 o v) w ≡ s
entry_put s o front back h l m f b e g =
    let x : bytes 8 front ≡ part s 0 7 ++ part s 7 1 = ap (bytes 8) f ∙ number_back s 0 8 (omega arith) h ∙ part_append s 0 7 1 in
    let y : bytes 8 back ≡ part s 7 8 = ap (bytes 8) b ∙ number_back s 7 8 (omega arith) h in
    let n : length (part s 0 7) ≡ 7 = length_part s 0 7 (omega arith) in
    let i : length (part s 7 1) ≡ 1 = length_part s 7 1 (omega arith) in
    let j : length (part s 7 8) ≡ 8 = length_part s 7 8 (omega arith) in
    let q : length (splice o 0 (part s 0 7)) ≡ length o = length_splice o 0 (part s 0 7) (omega arith) in
    rw (
      put_mid_splice _ 7 8 g (length_bytes 8 back),
      put_mid_splice o 0 8 e (length_bytes 8 front),
      x,
      y,
      ← splice_next o 0 7 (part s 0 7) (part s 7 1) n (omega arith),
      splice_over (splice o 0 (part s 0 7)) 7 (part s 7 1) (part s 7 8) (omega arith) (omega arith),
      splice_next o 0 7 (part s 0 7) (part s 7 8) n (omega arith),
      ← part_append s 0 7 8,
    )
    (splice_all o (part s 0 15) (m ∙ sym (length_part s 0 15 (omega arith))) ∙ part_all s 15 (omega arith))
