-- What is written of a node, and of nodes one behind the other.
use mathlib.Core.Path.{◌≡◌, sym, ap, ◌∙◌}
use mathlib.Core.Bool.{true}
use mathlib.Core.List.{List, [], ◌∷◌, ◌++◌, append-nil}
use Prim.Native.Nat.{ℕ, ◌+◌, ◌*◌, ◌≤◌, ◌<◌}
use native.Mathlib.Nat.{zero-add}
use native.Mathlib.Omega.{arith}
use lib.ListN.{length}
use borrow.Rule.Slice.PartMut.{put_mid}
use Rattle.model.specs.Base.{joined}
use Rattle.model.specs.Bytes.{number, bytes, part, splice, Bytes}
use Rattle.model.specs.Node.{Node}
use Rattle.model.specs.Sizes.{key_size, node_size}
use Rattle.model.specs.Layout.{node_bytes, node_in}
use Rattle.model.specs.Formed.{node_codes}
use Rattle.model.specs.Saved.{saved_entry, saved_entry_size}
use Rattle.laws.proofs.All.{all_any}
use Rattle.laws.proofs.Lists.{joined_append, length_joined}
use Rattle.laws.proofs.Parts.{part_end, splice_nil, splice_next, slot_before}
use Rattle.laws.proofs.Bytes.{length_bytes}
use Rattle.laws.proofs.NodeBytes.{length_value}
use Rattle.laws.proofs.NodeFormed.{node_back}
use Rattle.words.proofs.Words.{put_mid_splice}
use Rattle.key.proofs.Bytes.{splice_all}
use Rattle.saved.specs.declared.Field.{Field}
use Rattle.saved.specs.Fields.{field_bytes, field_size}

-- by what a field is

pub size_key : {f : Field} → f ≡ Field.Key → field_size f ≡ key_size
unfolding field_size
size_key e = rw e

pub size_entry : {f : Field} → f ≡ Field.Entry → field_size f ≡ saved_entry_size
unfolding field_size
size_entry e = rw e

pub key_is : (bs : List ℕ) {f : Field} {k : ℕ} → f ≡ Field.Key → k ≡ number (part bs 0 key_size) → bytes key_size k ≡ field_bytes f (node_in bs)
unfolding field_bytes node_in
key_is bs e g = rw (e, g)

pub entry_is : (bs : List ℕ) {f : Field} → Bytes bs → length bs ≡ node_size → f ≡ Field.Entry → node_codes bs ≡ true → part bs key_size saved_entry_size ≡ field_bytes f (node_in bs)
unfolding field_bytes node_bytes
entry_is bs h l e c =
    let n : Node = node_in bs in
    ap (λ (r : List ℕ). part r key_size saved_entry_size) (sym (node_back bs l h c))
    ∙ part_end (bytes key_size n.key) (saved_entry n) key_size saved_entry_size (length_bytes key_size n.key) (rw length_value)
    ∙ ap (λ (f : Field). field_bytes f n) (sym e)

-- nodes one behind the other

length_field : (f : Field) (n : Node) → length (field_bytes f n) ≡ field_size f
unfolding field_bytes field_size
length_field Field.Key n = length_bytes key_size n.key
length_field Field.Entry n = rw length_value

module _ (f : Field) where
  abbrev pub written : List Node → List ℕ
  written ns = joined (field_bytes f) ns

  pub length_fields : (ns : List Node) → length (written ns) ≡ length ns * field_size f
  length_fields ns = length_joined (field_bytes f) (field_size f) ns (all_any _ ns (length_field f))

  pub written_one : (n : Node) → field_bytes f n ≡ written (n ∷ [])
  unfolding joined
  written_one n = sym (append-nil (field_bytes f n))

  -- node j of n ends within the run of n
  pub slot_fits : (count j l : ℕ) {size : ℕ} → size ≡ field_size f → j < count → l ≡ count * field_size f → (j + 1) * size ≤ l
  slot_fits count j l e h g = rw (e, g) (omega (arith, slot_before j count (field_size f) h))

  module _ (o : List ℕ) where
    pub written_none : o ≡ splice o 0 (written [])
    unfolding joined
    written_none = sym (splice_nil o 0)

    -- more of them, behind those that are there
    pub written_more : {t v : List ℕ} (ns ms : List Node) (at k : ℕ) → at ≡ length ns * field_size f → k ≡ length ms * field_size f → at + k ≤ length o
        → t ≡ splice o 0 (written ns) → v ≡ written ms → put_mid at k t v ≡ splice o 0 (written (ns ++ ms))
    written_more {t} ns ms at k a b h e g =
        let n : length (written ns) ≡ at = length_fields ns ∙ sym a in
        let m : length (written ms) ≡ k = length_fields ms ∙ sym b in
        put_mid_splice t at k g m ∙ ap (λ (s : List ℕ). splice s at (written ms)) e ∙ ap (λ (i : ℕ). splice (splice o 0 (written ns)) i (written ms)) (sym (zero-add at))
        ∙ splice_next o 0 at (written ns) (written ms) n (omega arith) ∙ ap (splice o 0) (sym (joined_append (field_bytes f) ns ms))

    -- they fill the run
    pub written_all : {t : List ℕ} (ns : List Node) → length o ≡ length ns * field_size f → t ≡ splice o 0 (written ns) → t ≡ written ns
    written_all ns h e = e ∙ splice_all o (written ns) (h ∙ sym (length_fields ns))
