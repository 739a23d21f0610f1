-- What a step on the pending answers and leaves, and question 2 test by test.
use Rattle.std.specs.Prelude as code
use Rattle.std.specs.Option as option
use Rattle.std.proofs.Common.{Some, None}
use Prim.Native.Nat.{ℕ, ◌≤◌}
use mathlib.Core.Path.{◌≡◌, refl, sym, ap, ◌∙◌, subst}
use mathlib.Core.Bool.{Bool, true, false, cond, not, ◌&&◌}
use mathlib.Core.List.{map}
use mathlib.Core.Option.{Option, none, some}
use lib.ListN.{length, take, drop, length-map}
use lib.Dec.{eqb, leb, ltb}
use borrow.Author.Tests.{ltb-true, ltb-false, ne_eqb, eq-eqb}
use native.Mathlib.Omega.{arith}
use Rattle.model.specs.Base.{same, is_some, every}
use Rattle.model.specs.Node as model
use Rattle.model.specs.Bucket.{Bucket, max_nodes_per_bucket, nodes, holds, incoming_nodes, with_pending, pending_with_status, update_pending}
use Rattle.model.specs.Fits.{Opt}
use Rattle.laws.proofs.Tests.{split}
use Rattle.laws.proofs.KeepLists.{get_nodes}
use Rattle.key.specs.Key.{num}
use Rattle.node.specs.declared.Node.{Node}
use Rattle.node.specs.Node.{node_of, node_codes, is_zero, stored_node}
use Rattle.places.specs.Places.{position, in_state, different}
use Rattle.places.proofs.Laws.{before_le}
use Rattle.places.proofs.Model.{held_is}
use Rattle.bucket.specs.declared.PendingNode.{PendingNode}
use Rattle.bucket.specs.declared.ending.EndedPending.{EndedPending}
use Rattle.bucket.specs.declared.KBucket.{KBucket}
use Rattle.bucket.specs.Calls.{records_of}
use Rattle.bucket.specs.Bucket.{pending_of, held_of, bucket_of, settings_of, stored_pending, pending_fits, pending_sound, sound, Sound, Becomes, repending}
use Rattle.bucket.proofs.Sound.{nodes_of, pending_of_lem, formed_of}
use Rattle.bucket.proofs.Steps.{pending_becomes, place_of}

-- A step on the pending.

-- Is there a pending, or a record?

pub waits : (p : code.Option PendingNode) → is_some (pending_of p) ≡ option.is_some p
waits None = refl
waits (Some p) = refl

pub one_record : (e : code.Option EndedPending) → length (records_of e) ≡ cond (option.is_some e) 1 0
one_record None = refl
one_record (Some e) = refl

pending_inner : (p q : PendingNode) → Some p ≡ Some q → p ≡ q
pending_inner p q e = cc

module _ (b : KBucket) (s : Sound b) (p : PendingNode) (e : b.pending ≡ Some p) where
  -- the pending is stored, and its key is not held
  pub pending_stored : p.node ≡ stored_node (node_of p.node)
  pending_stored =
      ap (λ (q : PendingNode). q.node)
      (pending_inner p _ (subst (λ (q : code.Option PendingNode). q ≡ stored_pending (pending_of q)) e (pending_of_lem b s)))

  pub pending_apart : holds (num p.node.key) (bucket_of b) ≡ false
  pending_apart = subst (λ (q : code.Option PendingNode). Opt (λ (r : model.PendingNode). holds r.node.key (bucket_of b) ≡ false) (pending_of q)) e (formed_of b s).pending_apart

  pub pending_changed : (n : Node) (m : model.Node) → m.key ≡ num p.node.key → n ≡ stored_node m
      → Becomes (settings_of b) (with_pending (some (record { node = m; deadline = p.deadline })) (bucket_of b))
      (repending (Some (record { node = n; deadline = p.deadline })) b)
  pending_changed n m k q =
      pending_becomes b s (Some (record { node = n; deadline = p.deadline })) (some (record { node = m; deadline = p.deadline }))
      (ap (λ (x : Node). Some (record { node = x; deadline = p.deadline })) q) (ap (λ (x : ℕ). holds x (bucket_of b)) k ∙ pending_apart)

pub pending_unchanged : (u d : Bool) (b : Bucket) → b.pending ≡ none → update_pending u d b ≡ b
unfolding update_pending
pending_unchanged u d b e =
    ap (λ (p : Option model.PendingNode). with_pending (pending_with_status u d p) b) e ∙ ap (λ (p : Option model.PendingNode). with_pending p b) (sym e)

pub pending_restated : (u d : Bool) (b : Bucket) (q : model.PendingNode) → b.pending ≡ some q
    → update_pending u d b ≡ with_pending (some (record { node = model.with_status u (some d) q.node; deadline = q.deadline })) b
unfolding update_pending
pending_restated u d b q e = ap (λ (p : Option model.PendingNode). with_pending (pending_with_status u d p) b) e

-- Question 2 of the pending, place by place.

pub absent_test : (x y : ℕ) → x ≤ y → eqb x y ≡ not (ltb x y)
absent_test x y h = split (ltb x y) (λ e. by_lt e) (λ e. by_ge e)
  where
    by_lt : ltb x y ≡ true → eqb x y ≡ not (ltb x y)
    by_lt e = ne_eqb x y (λ q. omega (arith, ltb-true x y e)) ∙ ap not (sym e)

    by_ge : ltb x y ≡ false → eqb x y ≡ not (ltb x y)
    by_ge e = eq-eqb x y (omega (arith, ltb-false x y e)) ∙ ap not (sym e)

held_test : (k : ℕ) (b : KBucket) → holds k (bucket_of b) ≡ ltb (position k (held_of b)) (length (held_of b))
held_test k b =
    ap is_some (get_nodes k (bucket_of b)) ∙ held_is k (nodes (bucket_of b)) ∙ ap (λ (x : ℕ). ltb x (length (nodes (bucket_of b)))) (place_of k b)
    ∙ ap (ltb (position k (held_of b))) (ap length (nodes_of b) ∙ length-map (held_of b) node_of)

pub pending_test : (b : KBucket) (p : code.Option PendingNode) → pending_fits (held_of b) p ≡ pending_sound (bucket_of b) p
pending_test b None = refl
pending_test b (Some p) =
    let k = num p.node.key in
    ap (λ (t : Bool). t && node_codes p.node)
    (absent_test (position k (held_of b)) (length (held_of b)) (before_le (λ (m : Node). same (node_of m).key k) (held_of b)) ∙ ap not (sym (held_test k b)))

-- Question 2, test by test.

in_turn : (d u c i w z m : Bool) → (d && ((u && (c && z)) && (i && (w && m)))) ≡ (d && (u && (c && (i && (w && (z && m))))))
in_turn false u c i w z m = refl
in_turn true false c i w z m = refl
in_turn true true false i w z m = refl
in_turn true true true i w true m = refl
in_turn true true true false w false m = refl
in_turn true true true true false false m = refl
in_turn true true true true true false m = refl

module _ (b : KBucket) where
  pub fails_count : leb b.count max_nodes_per_bucket ≡ false → false ≡ sound b
  unfolding sound
  fails_count e = rw e

  module _ (e₁ : leb b.count max_nodes_per_bucket ≡ true) where
    pub fails_first : leb b.first_connected_pos b.count ≡ false → false ≡ sound b
    unfolding sound
    fails_first e = rw (e₁, e)

    pub passes : leb b.first_connected_pos b.count ≡ true → (d p i w : Bool) → d ≡ different (map node_of (held_of b))
        → p ≡ (every (in_state 0) (take b.first_connected_pos b.nodes)
        && (every (in_state 1) (drop b.first_connected_pos (held_of b)) && every is_zero (drop b.count (take max_nodes_per_bucket b.nodes))))
        → i ≡ leb (length (incoming_nodes (map node_of (held_of b)))) b.settings.max_incoming → w ≡ pending_sound (bucket_of b) b.pending
        → (d && (p && (i && (w && (leb b.settings.max_incoming max_nodes_per_bucket && leb b.settings.filter 1))))) ≡ sound b
    unfolding sound
    passes e₂ d p i w ed ep ei ew =
        rw (ed, ep, ei, ew, e₁, e₂)
        (in_turn (different (map node_of (held_of b))) (every (in_state 0) (take b.first_connected_pos b.nodes))
        (every (in_state 1) (drop b.first_connected_pos (held_of b))) (leb (length (incoming_nodes (map node_of (held_of b)))) b.settings.max_incoming)
        (pending_sound (bucket_of b) b.pending) (every is_zero (drop b.count (take max_nodes_per_bucket b.nodes))) (leb b.settings.max_incoming max_nodes_per_bucket && leb b.settings.filter 1))
