-- The kind of a key in its bucket, the codes of its status, and the codes of an inserted node.
use Prim.Native.Nat.{ℕ}
use mathlib.Core.Path.{◌≡◌, refl, sym, ap, ◌∙◌}
use mathlib.Core.Bool.{Bool, true, false, cond, ◌&&◌}
use mathlib.Core.List.{List}
use mathlib.Core.Option.{Option, none, some}
use lib.Dec.{leb}
use Rattle.model.specs.Base.{same}
use Rattle.model.specs.Bytes.{number}
use Rattle.model.specs.Node.{Node, PendingNode}
use Rattle.model.specs.Bucket.{Bucket, get}
use Rattle.model.specs.Table.{EntryKind, kind_if_pending, kind_of_node, kind_of, kind_in, index_in}
use Rattle.model.specs.Layout.{table_of}
use Rattle.model.specs.Question.{is_present, is_pending, is_absent, kind_of_key}
use Rattle.laws.proofs.Tests.{and_left, and_right}
use Rattle.key.specs.declared.Key.{Key}
use Rattle.key.specs.Key.{num}
use Rattle.node.specs.declared.NodeStatus.{NodeStatus}
use Rattle.node.specs.declared.Node as declared
use Rattle.node.specs.Node.{node_codes}
use Rattle.bucket.specs.declared.KBucket.{KBucket}
use Rattle.bucket.specs.Bucket.{bucket_of, Becomes}
use Rattle.on_key.specs.Start.{AtBucket}
use Rattle.entry.specs.declared.EntryKind as code
use Rattle.entry.specs.Kind.{kind_of as told}

module _ (k : ℕ) (m : Bucket) where
  pub kind_held : (n : Node) → get k m ≡ some n → EntryKind.Present n.connected n.incoming ≡ kind_of k m
  kind_held n e = ap (kind_of_node k m) (sym e)

  module _ (e : get k m ≡ none) where
    pub kind_none : m.pending ≡ none → EntryKind.Absent ≡ kind_of k m
    kind_none p = ap (kind_if_pending k) (sym p) ∙ ap (kind_of_node k m) (sym e)

    module _ (q : PendingNode) (p : m.pending ≡ some q) where
      pub kind_pending : same q.node.key k ≡ true → EntryKind.Pending q.node.connected q.node.incoming ≡ kind_of k m
      kind_pending f =
          ap (λ (t : Bool). cond t (EntryKind.Pending q.node.connected q.node.incoming) EntryKind.Absent) (sym f) ∙ ap (kind_if_pending k) (sym p) ∙ ap (kind_of_node k m) (sym e)

      pub kind_other : same q.node.key k ≡ false → EntryKind.Absent ≡ kind_of k m
      kind_other f =
          ap (λ (t : Bool). cond t (EntryKind.Pending q.node.connected q.node.incoming) EntryKind.Absent) (sym f) ∙ ap (kind_if_pending k) (sym p) ∙ ap (kind_of_node k m) (sym e)

-- the kind of a key by its index
module _ (s key : List ℕ) where
  pub kind_self : index_in (table_of s) (number key) ≡ none → kind_of_key key (table_of s) ≡ EntryKind.SelfEntry
  kind_self e = ap (kind_in (table_of s) (number key)) e

  pub kind_at : (i : ℕ) → index_in (table_of s) (number key) ≡ some i → kind_of_key key (table_of s) ≡ kind_of (number key) ((table_of s).buckets i)
  kind_at i e = ap (kind_in (table_of s) (number key)) e

-- the kind that was told of the key in its bucket
pub kind_told : {s key : List ℕ} {codes : Bool} {now : Option ℕ} {k : Key} {i : ℕ} → AtBucket s key codes now k i → {b : KBucket}
    → Becomes (table_of s).settings.bucket ((table_of s).buckets i) b → {r : EntryKind} → r ≡ kind_of (num k) (bucket_of b) → kind_of_key key (table_of s) ≡ r
kind_told {s} {key} {k = k} {i = i} y x e =
    kind_at s key i y.index ∙ ap (λ (n : ℕ). kind_of n ((table_of s).buckets i)) (sym y.key_is) ∙ ap (kind_of (num k)) (sym x.bucket) ∙ sym e

-- the codes of the status of a node
pub status_codes : (n : declared.Node) → node_codes n ≡ true → (leb n.status.state 1 && leb n.status.direction 1) ≡ true
status_codes n h =
    rw (and_left (leb n.status.state 1) _ h) (and_left (leb n.status.direction 1) _ (and_right (leb n.status.state 1) _ h))

-- a kind that is none of the entry's action
pub not_present : (x : code.EntryKind) → ((s : NodeStatus) → x ≡ code.EntryKind.Present s → ⊥) → is_present (told x) ≡ false
not_present (code.EntryKind.Present s) h = absurd (h s refl)
not_present (code.EntryKind.Pending s) h = refl
not_present code.EntryKind.Absent h = refl
not_present code.EntryKind.SelfEntry h = refl

pub not_pending : (x : code.EntryKind) → ((s : NodeStatus) → x ≡ code.EntryKind.Pending s → ⊥) → is_pending (told x) ≡ false
not_pending (code.EntryKind.Present s) h = refl
not_pending (code.EntryKind.Pending s) h = absurd (h s refl)
not_pending code.EntryKind.Absent h = refl
not_pending code.EntryKind.SelfEntry h = refl

pub not_absent : (x : code.EntryKind) → (x ≡ code.EntryKind.Absent → ⊥) → is_absent (told x) ≡ false
not_absent (code.EntryKind.Present s) h = refl
not_absent (code.EntryKind.Pending s) h = refl
not_absent code.EntryKind.Absent h = absurd (h refl)
not_absent code.EntryKind.SelfEntry h = refl
