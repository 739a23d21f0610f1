-- A key of a bucket without a pending, in the bucket's bytes: its kind by its place.
use Prim.Native.Nat.{ℕ, ◌≤◌}
use native.Mathlib.Omega.{arith}
use mathlib.Core.Path.{◌≡◌, sym, ap, ◌∙◌, refl}
use mathlib.Core.Bool.{Bool, false, not}
use mathlib.Core.List.{List}
use mathlib.Core.Option.{Option, none, some}
use lib.ListN.{get_or}
use borrow.Author.Tests.{lt-ltb, le-ltb}
use Rattle.std.specs.Prelude as code
use Rattle.std.specs.Prelude.{Some, None}
use Rattle.std.specs.Option.{is_some as answered}
use Rattle.std.specs.declared.ops.Range.{Range}
use Rattle.model.specs.Base.{is_some}
use Rattle.model.specs.Bytes.{number, splice}
use Rattle.model.specs.Node.{Node, PendingNode}
use Rattle.model.specs.Bucket.{Bucket, nodes, get}
use Rattle.model.specs.Table.{EntryKind, kind_if_pending, kind_of_node, kind_of}
use Rattle.model.specs.Sizes.{bucket_size, bucket_at}
use Rattle.model.specs.Layout.{bucket_in, bucket_part, table_of}
use Rattle.model.specs.Question.{is_present, is_absent, kind_of_key}
use Rattle.laws.proofs.Tests.{clash}
use Rattle.laws.proofs.KeepLists.{get_nodes}
use Rattle.laws.proofs.Parts.{splice_part}
use Rattle.key.specs.declared.Key.{Key}
use Rattle.key.specs.Key.{num}
use Rattle.places.proofs.Model.{held_is, find_absent}
use Rattle.well_formed.specs.Tests.{place, Position}
use Rattle.held.specs.Held.{Quiet}
use Rattle.held.proofs.Quiet.{many}
use Rattle.on_key.specs.Start.{AtBucket}
use Rattle.on_key.proofs.InPlace.{Did, range_of, ranged, ranged_is}
use Rattle.entry.proofs.Kind.{kind_at}

-- the key is held where it has a place, and is neither held nor pending where it has none
module _ {u : List ℕ} (q : Quiet u) where
  abbrev here : Bucket
  here = bucket_in u

  known_node : (k : ℕ) (o : Option Node) → not (is_absent (kind_of_node k here o)) ≡ is_some o
  known_node k none = ap (λ (o : Option PendingNode). not (is_absent (kind_if_pending k o))) q.pending
  known_node k (some n) = refl

  present_node : (k : ℕ) (o : Option Node) → is_present (kind_of_node k here o) ≡ is_some o
  present_node k none = ap (λ (o : Option PendingNode). is_present (kind_if_pending k o)) q.pending
  present_node k (some n) = refl

  some_place : (k : ℕ) (r : code.Option ℕ) → Position k (nodes here) (get_or u 0 0) r → is_some (get k here) ≡ answered r
  some_place k None e = ap is_some (get_nodes k here) ∙ held_is k (nodes here) ∙ le-ltb _ _ (omega (arith, many q, e))
  some_place k (Some p) e = ap is_some (get_nodes k here) ∙ held_is k (nodes here) ∙ lt-ltb _ _ (omega (arith, many q, e))

  pub absent_get : (k : ℕ) → place k (nodes here) ≡ get_or u 0 0 → get k here ≡ none
  absent_get k e = get_nodes k here ∙ find_absent k (nodes here) (omega (arith, many q, e))

-- the key's place among the nodes that bucket i's bytes hold, in the range of the storage's bytes that is written
module _ (s : List ℕ) (i : ℕ) {bs h : List ℕ} (e : bs ≡ bucket_part s i) {g : Range ℕ} (x : g ≡ range_of i) (o : h ≡ bs) (k : ℕ) (r : code.Option ℕ)
    (f : Position k (nodes (bucket_in h)) (get_or h 0 0) r) where
  pub position_there : Position k (nodes (bucket_in (ranged s g))) (get_or (ranged s g) 0 0) r
  position_there = rw (o ∙ ranged_is s i e x) at f

  pub absent_there : answered r ≡ false → get_or (ranged s g) 0 0 ≤ place k (nodes (bucket_in (ranged s g)))
  absent_there n = by_answer r position_there n
    where
      by_answer : (r : code.Option ℕ) → Position k (nodes (bucket_in (ranged s g))) (get_or (ranged s g) 0 0) r → answered r ≡ false
          → get_or (ranged s g) 0 0 ≤ place k (nodes (bucket_in (ranged s g)))
      by_answer None p n = omega (arith, p)
      by_answer (Some p) x n = clash refl n

module _ {s key : List ℕ} {codes : Bool} {now : Option ℕ} {k : Key} {i : ℕ} (y : AtBucket s key codes now k i) {bs : List ℕ} (e : bs ≡ bucket_part s i) (q : Quiet bs) where
  -- by the place that was found among the nodes that the bytes hold
  module _ {h : List ℕ} (o : h ≡ bs) (r : code.Option ℕ) (f : Position (num k) (nodes (bucket_in h)) (get_or h 0 0) r) where
    by_place : (g : EntryKind → Bool) → ((k : ℕ) (o : Option Node) → g (kind_of_node k (bucket_in bs) o) ≡ is_some o) → g (kind_of_key key (table_of s)) ≡ answered r
    unfolding table_of
    by_place g u =
        ap g (kind_at s key i y.index ∙ ap (λ (j : ℕ). kind_of j ((table_of s).buckets i)) (sym y.key_is) ∙ ap (λ (r : List ℕ). kind_of (num k) (bucket_in r)) (sym e))
        ∙ u (num k) (get (num k) (bucket_in bs)) ∙ some_place q (num k) r (rw o at f)

    pub known_here : not (is_absent (kind_of_key key (table_of s))) ≡ answered r
    known_here = by_place (λ (x : EntryKind). not (is_absent x)) (known_node q)

    pub present_here : is_present (kind_of_key key (table_of s)) ≡ answered r
    present_here = by_place is_present (present_node q)

  -- the kind that was read of the bucket, which stays as it is
  pub told_here : {r : EntryKind} → r ≡ kind_of (num k) (bucket_in bs) → Did (kind_of (number key) ((table_of s).buckets i), (table_of s).buckets i) i s r s
  unfolding table_of
  told_here x =
      let p = rw e at q in
      record {
        answers = x ∙ ap (λ (bs : List ℕ). kind_of (num k) (bucket_in bs)) e ∙ ap (λ (n : ℕ). kind_of n ((table_of s).buckets i)) y.key_is;
        leaves = sym (splice_part s (bucket_at i) bucket_size (omega (arith, y.ready.size, y.ready.below))) ∙ ap (splice s (bucket_at i)) p.exact;
      }
