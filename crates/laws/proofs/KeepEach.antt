-- What holds of every node of a bucket, held or pending, is kept by the bucket's rules (01, "bucket.rs (722)").
use Prim.Native.Nat.{ℕ, ◌+◌}
use mathlib.Core.Path.{◌≡◌, refl, subst, subst⁻¹}
use mathlib.Core.Bool.{Bool, true, false, cond, ◌&&◌}
use mathlib.Core.List.{List, [], ◌∷◌, ◌++◌}
use mathlib.Core.Option.{Option, none, some}
use lib.Dec.{leb}
use Rattle.model.specs.Base.{same}
use Rattle.model.specs.Value.{Value, same_value}
use Rattle.model.specs.Node.{Node, PendingNode, Ending, EndedPending, evicted_in, ended_if, with_status, with_value}
use Rattle.model.specs.Result.{BucketInsertResult, FailureReason, UpdateResult, is_inserted}
use Rattle.model.specs.Bucket.{Bucket, BucketSettings, nodes, is_full, holds, get, fails_bucket_filter, is_max_incoming, with_pending, cleared, put, placed, take_out, insert_full, insert, insert_ending, apply_full, apply_due, apply_if_due, apply_pending, reinsert, is_first, taken_out, update_if_pending, update_status_of, update_status, update_value_of, update_value, pending_with_status, update_pending, remove}
use Rattle.model.specs.Fits.{All, Opt, Each}
use Rattle.laws.proofs.Tests.{cases}
use Rattle.laws.proofs.KeepLists.{put_between, omit_append, all_omit, revalue_append, all_revalue, all_find, get_nodes}
use Rattle.laws.proofs.All.{all_insert}

-- a record's key is a node's that had the property, and so is the node that it evicted
abbrev pub EachRecord : (Node → Type 0) → (ℕ → Type 0) → List EndedPending → Type 0
EachRecord P K = All (λ (r : EndedPending). K r.key × Opt P (evicted_in r.ending))

-- an insert evicts none
insert_evicts_none : (r : BucketInsertResult) → evicted_in (insert_ending r) ≡ none
insert_evicts_none BucketInsertResult.Inserted = refl
insert_evicts_none BucketInsertResult.FailedFilter = refl
insert_evicts_none BucketInsertResult.TooManyIncoming = refl
insert_evicts_none (BucketInsertResult.Pending k) = refl
insert_evicts_none BucketInsertResult.Full = refl
insert_evicts_none BucketInsertResult.NodeExists = refl

module _ (P : Node → Type 0) (D : ℕ → Type 0) where
  pub with_pending_each : (p : Option PendingNode) (b : Bucket) → Each P D b → Opt (λ (q : PendingNode). P q.node × D q.deadline) p → Each P D (with_pending p b)
  with_pending_each p b e h = record { held = e.held; pending = h }

  pub put_each : (n : Node) (b : Bucket) → P n → Each P D b → Each P D (put n b)
  put_each n b p e =
      record {
        held =
            put_between (All P) n.connected n b.disconnected b.connected
            (λ xs ys q. all_insert P n xs ys p (subst⁻¹ (All P) q e.held));
        pending = e.pending;
      }

  cleared_each : (k : ℕ) (p : Option PendingNode) → Opt (λ (q : PendingNode). P q.node × D q.deadline) p
      → Opt (λ (q : PendingNode). P q.node × D q.deadline) (cleared k p)
  cleared_each k none h = tt
  cleared_each k (some p) h = cases (Opt (λ (q : PendingNode). P q.node × D q.deadline)) (same p.node.key k) (λ _. tt) (λ _. h)

  pub placed_each : (n : Node) (b : Bucket) → P n → Each P D b → Each P D (placed n b)
  placed_each n b p e = put_each n (with_pending (cleared n.key b.pending) b) p (with_pending_each _ b e (cleared_each n.key b.pending e.pending))

  pub take_out_each : (k : ℕ) (b : Bucket) → Each P D b → Each P D (take_out k b)
  take_out_each k b e =
      record { held = subst (All P) (omit_append k b.disconnected b.connected) (all_omit P k (nodes b) e.held); pending = e.pending }

  insert_full_each : (s : BucketSettings) (now : ℕ) (n : Node) (b : Bucket) (u : Bool) (ds : List Node) (p : Option PendingNode)
      → P n → D (now + s.pending_timeout) → Each P D b → Each P D (insert_full s now n b u ds p).1
  insert_full_each s now n b false ds p h d e = e
  insert_full_each s now n b true [] p h d e = e
  insert_full_each s now n b true (x ∷ ds) none h d e = with_pending_each _ b e (h, d)
  insert_full_each s now n b true (x ∷ ds) (some p) h d e = e

  pub insert_each : (s : BucketSettings) (now : ℕ) (n : Node) (b : Bucket) → P n → D (now + s.pending_timeout) → Each P D b → Each P D (insert s now n b).1
  unfolding insert
  insert_each s now n b h d e =
      let Q : BucketInsertResult × Bucket → Type 0 = λ r. Each P D r.1 in
      cases Q (holds n.key b) (λ _. e)
      (λ _. cases Q (fails_bucket_filter s n.value b) (λ _. e)
      (λ _. cases Q (is_max_incoming s n b) (λ _. e)
      (λ _. cases Q (is_full b) (λ _. insert_full_each s now n b n.connected b.disconnected b.pending h d e)
      (λ _. placed_each n b h e))))

  -- with a free place there is no need for the deadline
  insert_free_each : (s : BucketSettings) (now : ℕ) (n : Node) (b : Bucket) → is_full b ≡ false → P n → Each P D b → Each P D (insert s now n b).1
  unfolding insert
  insert_free_each s now n b f h e =
      let Q : BucketInsertResult × Bucket → Type 0 = λ r. Each P D r.1 in
      cases Q (holds n.key b) (λ _. e)
      (λ _. cases Q (fails_bucket_filter s n.value b) (λ _. e)
      (λ _. cases Q (is_max_incoming s n b) (λ _. e)
      (λ _. subst⁻¹ (λ (t : Bool). Q (cond t (insert_full s now n b n.connected b.disconnected b.pending) (BucketInsertResult.Inserted, placed n b))) f
      (placed_each n b h e))))

  -- applying, with the records that it gives
  module _ (K : ℕ → Type 0) (key : (n : Node) → P n → K n.key) where
    abbrev Kept : Bucket × List EndedPending → Type 0
    Kept r = Each P D r.0 × EachRecord P K r.1

    apply_full_kept : (s : BucketSettings) (n : Node) (b : Bucket) (ds : List Node) → ds ≡ b.disconnected → P n → Each P D b → Kept (apply_full s n b ds)
    apply_full_kept s n b [] q h e = (e, ((key n h, tt), tt))
    apply_full_kept s n b (x ∷ ds) q h e =
        let l : All P ((x ∷ ds) ++ b.connected) = subst⁻¹ (λ (l : List Node). All P (l ++ b.connected)) q e.held in
        cases Kept (fails_bucket_filter s n.value b) (λ _. (e, ((key n h, tt), tt)))
        (λ _. cases Kept (is_max_incoming s n b) (λ _. (e, ((key n h, tt), tt)))
        (λ _. (put_each n (record { disconnected = ds; connected = b.connected; pending = none }) h (record { held = l.1; pending = tt }), ((key n h, l.0), tt))))

    apply_due_kept : (s : BucketSettings) (now : ℕ) (n : Node) (b : Bucket) → P n → Each P D b → Kept (apply_due s now n b)
    unfolding apply_due
    apply_due_kept s now n b h e =
        cases Kept (is_full b) (λ _. apply_full_kept s n b b.disconnected refl h e)
        (λ f. (
          cases (Each P D) (is_inserted (insert s now n b).0) (λ _. insert_free_each s now n b f h e) (λ _. e),
          ((key n h, subst⁻¹ (Opt P) (insert_evicts_none (insert s now n b).0) tt), tt),
        ))

    apply_if_due_kept : (s : BucketSettings) (now : ℕ) (b : Bucket) (p : Option PendingNode) → Opt (λ (q : PendingNode). P q.node × D q.deadline) p
        → Each P D b → Kept (apply_if_due s now b p)
    apply_if_due_kept s now b none h e = (e, tt)
    apply_if_due_kept s now b (some p) h e =
        cases Kept (leb p.deadline now)
        (λ _. apply_due_kept s now p.node (with_pending none b) h.0 (with_pending_each none b e tt)) (λ _. (e, tt))

    pub apply_pending_kept : (s : BucketSettings) (now : ℕ) (b : Bucket) → Each P D b → Kept (apply_pending s now b)
    unfolding apply_pending
    apply_pending_kept s now b e = apply_if_due_kept s now b b.pending e.pending e

    -- the record of a pending that evicted none
    pub ended_each : (x : Ending) → evicted_in x ≡ none → (p : Option PendingNode) → Opt (λ (q : PendingNode). P q.node × D q.deadline) p → EachRecord P K (ended_if x p)
    ended_each x e none h = tt
    ended_each x e (some p) h = ((key p.node h.0, subst⁻¹ (Opt P) e tt), tt)

  pub apply_pending_each : (s : BucketSettings) (now : ℕ) (b : Bucket) → Each P D b → Each P D (apply_pending s now b).0
  apply_pending_each s now b e = (apply_pending_kept (λ k. Unit {0}) (λ n h. tt) s now b e).0

  pub reinsert_each : (s : BucketSettings) (n : Node) (b : Bucket) → P n → Each P D b → Each P D (reinsert s n b).1
  unfolding reinsert
  reinsert_each s n b h e =
      let Q : Option FailureReason × Bucket → Type 0 = λ r. Each P D r.1 in
      cases Q (fails_bucket_filter s n.value b) (λ _. e) (λ _. cases Q (is_max_incoming s n b) (λ _. e) (λ _. placed_each n b h e))

  update_if_pending_each : (k : ℕ) (f : Node → Node) (b : Bucket) (p : Option PendingNode) → ((n : Node) → P n → P (f n))
      → Opt (λ (q : PendingNode). P q.node × D q.deadline) p → Each P D b → Each P D (update_if_pending k f b p).1
  update_if_pending_each k f b none g h e = e
  update_if_pending_each k f b (some p) g h e =
      cases (λ (r : UpdateResult × Bucket). Each P D r.1) (same p.node.key k) (λ _. with_pending_each _ b e (g p.node h.0, h.1)) (λ _. e)

  update_status_of_each : (s : BucketSettings) (k : ℕ) (u : Bool) (d : Option Bool) (b : Bucket) (o : Option Node) → ((n : Node) → P n → P (with_status u d n))
      → Opt P o → Each P D b → Each P D (update_status_of s k u d b o).1
  update_status_of_each s k u d b none g h e = update_if_pending_each k (with_status u d) b b.pending g e.pending e
  update_status_of_each s k u d b (some n) g h e =
      reinsert_each s (with_status u d n) (taken_out k u b) (g n h)
      (with_pending_each _ (take_out k b) (take_out_each k b e)
      (cases (Opt (λ (q : PendingNode). P q.node × D q.deadline)) (u && is_first k (nodes b)) (λ _. tt) (λ _. e.pending)))

  -- the node that is found
  get_each : (k : ℕ) (b : Bucket) → Each P D b → Opt P (get k b)
  get_each k b e = subst⁻¹ (Opt P) (get_nodes k b) (all_find P k (nodes b) e.held)

  pub update_status_each : (s : BucketSettings) (k : ℕ) (u : Bool) (d : Option Bool) (b : Bucket) → ((n : Node) → P n → P (with_status u d n))
      → Each P D b → Each P D (update_status s k u d b).1
  unfolding update_status
  update_status_each s k u d b g e = update_status_of_each s k u d b (get k b) g (get_each k b e) e

  update_value_of_each : (s : BucketSettings) (k : ℕ) (v : Value) (b : Bucket) (o : Option Node) → ((n : Node) → P n → P (with_value v n))
      → Each P D b → Each P D (update_value_of s k v b o).1
  update_value_of_each s k v b none g e = update_if_pending_each k (with_value v) b b.pending g e.pending e
  update_value_of_each s k v b (some n) g e =
      let Q : UpdateResult × Bucket → Type 0 = λ r. Each P D r.1 in
      cases Q (same_value n.value v) (λ _. e)
      (λ _. cases Q (fails_bucket_filter s v (take_out k b)) (λ _. take_out_each k b e)
      (λ _. record {
        held = subst (All P) (revalue_append k v b.disconnected b.connected) (all_revalue P k v g (nodes b) e.held);
        pending = e.pending;
      }))

  pub update_value_each : (s : BucketSettings) (k : ℕ) (v : Value) (b : Bucket) → ((n : Node) → P n → P (with_value v n))
      → Each P D b → Each P D (update_value s k v b).1
  unfolding update_value
  update_value_each s k v b g e = update_value_of_each s k v b (get k b) g e

  pub update_pending_each : (u d : Bool) (b : Bucket) → ((n : Node) → P n → P (with_status u (some d) n)) → Each P D b → Each P D (update_pending u d b)
  unfolding update_pending
  update_pending_each u d b g e = with_pending_each _ b e (changed b.pending e.pending)
    where
      changed : (p : Option PendingNode) → Opt (λ (q : PendingNode). P q.node × D q.deadline) p
          → Opt (λ (q : PendingNode). P q.node × D q.deadline) (pending_with_status u d p)
      changed none h = tt
      changed (some p) h = (g p.node h.0, h.1)

  pub remove_each : (s : BucketSettings) (now k : ℕ) (b : Bucket) → Each P D b → Each P D (remove s now k b).1
  unfolding remove
  remove_each s now k b e =
      cases (λ (r : Bool × Bucket). Each P D r.1) (holds k b) (λ _. apply_pending_each s now (take_out k b) (take_out_each k b e)) (λ _. e)
