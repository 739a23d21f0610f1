-- What the bucket's rules of the model answer and leave, by the tests on the way.
use Prim.Native.Nat.{ℕ, ◌+◌, ◌≤◌, ◌<◌}
use native.Mathlib.Omega.{arith}
use mathlib.Core.Path.{◌≡◌, refl, sym, ap, ◌∙◌, subst}
use mathlib.Core.Bool.{Bool, true, false, cond, ◌&&◌}
use mathlib.Core.List.{List, [], ◌∷◌, ◌++◌}
use mathlib.Core.Option.{Option, none, some}
use lib.ListN.{length}
use lib.Dec.{leb}
use borrow.Author.Tests.{le-leb, lt-leb, leb-false}
use Rattle.model.specs.Base.{same, is_some}
use Rattle.model.specs.Value.{Value, same_value}
use Rattle.model.specs.Node.{Node, PendingNode, Ending, EndedPending, ended, connected_incoming, with_status}
use Rattle.model.specs.Result.{FailureReason, BucketInsertResult, UpdateResult, is_inserted}
use Rattle.model.specs.Bucket.{Bucket, BucketSettings, max_nodes_per_bucket, nodes, num_entries, is_full, get, holds, fails_bucket_filter, incoming_nodes, is_max_incoming, with_pending, put, placed, omit, take_out, insert_full, insert, insert_ending, apply_full, apply_due, apply_if_due, apply_pending, reinsert, status_result, taken_out, update_status_of, update_status, revalue, update_value_of, update_value, remove}
use Rattle.model.specs.Fits.{Different}
use Rattle.laws.proofs.Tests.{clash, split, same_self}
use Rattle.laws.proofs.KeepLists.{incoming_omit}
use Rattle.laws.proofs.KeepFormed.{free_is_full, nodes_take_out}
use Rattle.places.proofs.Model.{omit_absent}
use Rattle.laws.proofs.All.{all_left, all_right}

pub none_is : {A : Type 0} (p : Option A) → is_some p ≡ false → p ≡ none
none_is none e = refl
none_is (some x) e = clash refl e

full : (b : Bucket) → max_nodes_per_bucket ≤ num_entries b → is_full b ≡ true
unfolding is_full
full b h = le-leb max_nodes_per_bucket (num_entries b) h

module _ (s : BucketSettings) (now : ℕ) (n : Node) (b : Bucket) where
  pub insert_exists : holds n.key b ≡ true → insert s now n b ≡ (BucketInsertResult.NodeExists, b)
  unfolding insert
  insert_exists e = rw e

  module _ (new : holds n.key b ≡ false) where
    pub insert_filter : fails_bucket_filter s n.value b ≡ true → insert s now n b ≡ (BucketInsertResult.FailedFilter, b)
    unfolding insert
    insert_filter e = rw (new, e)

    module _ (fine : fails_bucket_filter s n.value b ≡ false) where
      pub insert_many : is_max_incoming s n b ≡ true → insert s now n b ≡ (BucketInsertResult.TooManyIncoming, b)
      unfolding insert
      insert_many e = rw (new, fine, e)

      module _ (low : is_max_incoming s n b ≡ false) where
        pub insert_placed : num_entries b < max_nodes_per_bucket → insert s now n b ≡ (BucketInsertResult.Inserted, placed n b)
        unfolding insert
        insert_placed h = rw (new, fine, low, free_is_full b h)

        pub insert_full_lem : max_nodes_per_bucket ≤ num_entries b → insert s now n b ≡ insert_full s now n b n.connected b.disconnected b.pending
        unfolding insert
        insert_full_lem h = rw (new, fine, low, full b h)

  -- 16 held

  full_by : (u : Bool) (ds : List Node) (p : Option PendingNode) → u ≡ false → insert_full s now n b u ds p ≡ (BucketInsertResult.Full, b)
  full_by u ds p e = rw e

  pub full_disconnected : n.connected ≡ false → insert_full s now n b n.connected b.disconnected b.pending ≡ (BucketInsertResult.Full, b)
  full_disconnected e = full_by n.connected b.disconnected b.pending e

  full_all : (u : Bool) (ds : List Node) (p : Option PendingNode) → u ≡ true → ds ≡ [] → insert_full s now n b u ds p ≡ (BucketInsertResult.Full, b)
  full_all u ds p e f = rw (e, f)

  pub full_connected : n.connected ≡ true → b.disconnected ≡ [] → insert_full s now n b n.connected b.disconnected b.pending ≡ (BucketInsertResult.Full, b)
  full_connected e f = full_all n.connected b.disconnected b.pending e f

  full_sets : (u : Bool) (ds : List Node) (p : Option PendingNode) (d : Node) (rest : List Node) → u ≡ true → ds ≡ d ∷ rest → p ≡ none
      → insert_full s now n b u ds p
      ≡ (BucketInsertResult.Pending d.key, with_pending (some (record { node = n; deadline = now + s.pending_timeout })) b)
  full_sets u ds p d rest e f g = rw (e, f, g)

  pub full_becomes_pending : (d : Node) (rest : List Node) → n.connected ≡ true → b.disconnected ≡ d ∷ rest → b.pending ≡ none
      → insert_full s now n b n.connected b.disconnected b.pending
      ≡ (BucketInsertResult.Pending d.key, with_pending (some (record { node = n; deadline = now + s.pending_timeout })) b)
  full_becomes_pending d rest e f g = full_sets n.connected b.disconnected b.pending d rest e f g

-- The node at place 0 taken out.

take_out_first : (b : Bucket) (d : Node) (ds : List Node) → b.disconnected ≡ d ∷ ds → Different (nodes b)
    → take_out d.key b ≡ record { disconnected = ds; connected = b.connected; pending = b.pending }
take_out_first b d ds e w =
    let w' : Different ((d ∷ ds) ++ b.connected) = subst (λ (xs : List Node). Different (xs ++ b.connected)) e w in
    let k = d.key in
    let gone : omit k (d ∷ ds) ≡ ds =
    ap (λ (t : Bool). cond t (omit k ds) (d ∷ omit k ds)) (same_self k)
    ∙ omit_absent k ds (all_left (λ (m : Node). same m.key k ≡ false) ds b.connected w'.0) in
    same_lists (ap (omit k) e ∙ gone) (omit_absent k b.connected (all_right (λ (m : Node). same m.key k ≡ false) ds b.connected w'.0))
  where
    same_lists : {xs xs' ys ys' : List Node} {p : Option PendingNode} → xs ≡ xs' → ys ≡ ys'
        → ◌≡◌ {A = Bucket} (record { disconnected = xs; connected = ys; pending = p }) (record { disconnected = xs'; connected = ys'; pending = p })
    same_lists p q = cc

-- with fewer nodes the maximum is not reached either
less : (t : Bool) (m x y : ℕ) → x ≤ y → (t && leb m y) ≡ false → (t && leb m x) ≡ false
less false m x y h e = refl
less true m x y h e = lt-leb m x (omega (arith, leb-false m y e))

pub take_out_low : (s : BucketSettings) (n : Node) (k : ℕ) (b : Bucket) → is_max_incoming s n b ≡ false → is_max_incoming s n (take_out k b) ≡ false
unfolding is_max_incoming
take_out_low s n k b e =
    less (connected_incoming n) s.max_incoming (length (incoming_nodes (nodes (take_out k b)))) (length (incoming_nodes (nodes b)))
    (subst (λ (xs : List Node). length (incoming_nodes xs) ≤ length (incoming_nodes (nodes b))) (nodes_take_out k b) (incoming_omit k (nodes b))) e

-- Apply pending. b is the bucket with the pending taken out.

abbrev free : Node → Bucket → BucketInsertResult × Bucket → Bucket × List EndedPending
free n b x = (cond (is_inserted x.0) x.1 b, ended n (insert_ending x.0))

free_drops : (x : BucketInsertResult × Bucket) (n : Node) (b : Bucket) (r : BucketInsertResult) (m : Bucket) → x ≡ (r, m) → is_inserted r ≡ false
    → free n b x ≡ (b, ended n (insert_ending r))
free_drops x n b r m e f = rw (e, f)

free_places : (x : BucketInsertResult × Bucket) (n : Node) (b m : Bucket) → x ≡ (BucketInsertResult.Inserted, m) → free n b x ≡ (m, ended n (Ending.Placed none))
free_places x n b m e = rw e

beside : {m m' : Bucket} {r : List EndedPending} → m ≡ m' → ◌≡◌ {A = Bucket × List EndedPending} (m, r) (m', r)
beside e = rw e

-- a place is free, or place 0 is disconnected
abbrev pub Open : Bucket → Type 0
Open b = is_full b ≡ true → (d : Node) × (ds : List Node) × (b.disconnected ≡ d ∷ ds)

module _ (s : BucketSettings) (now : ℕ) (n : Node) (b : Bucket) (new : holds n.key b ≡ false) where
  pub due_connected : max_nodes_per_bucket ≤ num_entries b → b.disconnected ≡ [] → apply_due s now n b ≡ (b, ended n Ending.FirstConnected)
  unfolding apply_due
  due_connected h e = rw (full b h) (ap (apply_full s n b) e)

  due_drops : Open b → (r : BucketInsertResult) → insert s now n b ≡ (r, b) → is_inserted r ≡ false
      → ((d : Node) (ds : List Node) → apply_full s n b (d ∷ ds) ≡ (b, ended n (insert_ending r))) → apply_due s now n b ≡ (b, ended n (insert_ending r))
  unfolding apply_due
  due_drops o r e f g =
      split (is_full b) (λ t. let x = o t in rw t (ap (apply_full s n b) x.2 ∙ g x.0 x.1)) (λ t. rw t (free_drops (insert s now n b) n b r b e f))

  pub due_filter : Open b → fails_bucket_filter s n.value b ≡ true → apply_due s now n b ≡ (b, ended n Ending.BucketFilter)
  due_filter o e = due_drops o BucketInsertResult.FailedFilter (insert_filter s now n b new e) refl (λ d ds. rw e)

  module _ (fine : fails_bucket_filter s n.value b ≡ false) where
    pub due_many : Open b → is_max_incoming s n b ≡ true → apply_due s now n b ≡ (b, ended n Ending.TooManyIncoming)
    due_many o e = due_drops o BucketInsertResult.TooManyIncoming (insert_many s now n b new fine e) refl (λ d ds. rw (fine, e))

    module _ (low : is_max_incoming s n b ≡ false) where
      pub due_placed : num_entries b < max_nodes_per_bucket → apply_due s now n b ≡ (placed n b, ended n (Ending.Placed none))
      unfolding apply_due
      due_placed h = rw (free_is_full b h) (free_places (insert s now n b) n b (placed n b) (insert_placed s now n b new fine low h))

      evicts : (d : Node) (ds : List Node) → apply_full s n b (d ∷ ds)
          ≡ (put n (record { disconnected = ds; connected = b.connected; pending = none }), ended n (Ending.Placed (some d)))
      evicts d ds = rw (fine, low)

      pub due_evicts : max_nodes_per_bucket ≤ num_entries b → (d : Node) (ds : List Node) → b.disconnected ≡ d ∷ ds → b.pending ≡ none → Different (nodes b)
          → apply_due s now n b ≡ (placed n (take_out d.key b), ended n (Ending.Placed (some d)))
      unfolding apply_due
      due_evicts h d ds e p w =
          let out : take_out d.key b ≡ record { disconnected = ds; connected = b.connected; pending = none } =
          take_out_first b d ds e w ∙ ap (λ (q : Option PendingNode). record { disconnected = ds; connected = b.connected; pending = q }) p in
          rw (full b h)
          (ap (apply_full s n b) e ∙ evicts d ds
          ∙ beside (sym (ap (placed n) out)))

module _ (s : BucketSettings) (now : ℕ) (b : Bucket) (p : PendingNode) (e : b.pending ≡ some p) where
  later : now < p.deadline → apply_if_due s now b (some p) ≡ (b, [])
  later h = rw (lt-leb p.deadline now h)

  pub apply_later : now < p.deadline → apply_pending s now b ≡ (b, [])
  unfolding apply_pending
  apply_later h = ap (apply_if_due s now b) e ∙ later h

  due : p.deadline ≤ now → apply_if_due s now b (some p) ≡ apply_due s now p.node (with_pending none b)
  due h = rw (le-leb p.deadline now h)

  pub apply_due_lem : p.deadline ≤ now → apply_pending s now b ≡ apply_due s now p.node (with_pending none b)
  unfolding apply_pending
  apply_due_lem h = ap (apply_if_due s now b) e ∙ due h

-- The status step.

module _ (s : BucketSettings) (n : Node) (b : Bucket) where
  pub reinsert_filter : fails_bucket_filter s n.value b ≡ true → reinsert s n b ≡ (some FailureReason.BucketFilter, b)
  unfolding reinsert
  reinsert_filter e = rw e

  module _ (fine : fails_bucket_filter s n.value b ≡ false) where
    pub reinsert_many : is_max_incoming s n b ≡ true → reinsert s n b ≡ (some FailureReason.TooManyIncoming, b)
    unfolding reinsert
    reinsert_many e = rw (fine, e)

    pub reinsert_placed : is_max_incoming s n b ≡ false → reinsert s n b ≡ (none, placed n b)
    unfolding reinsert
    reinsert_placed e = rw (fine, e)

status_by : (m n : Node) (x : Option FailureReason × Bucket) (o : Option FailureReason) (b : Bucket) → x ≡ (o, b)
    → ◌≡◌ {A = UpdateResult × Bucket} (status_result m n x.0, x.1) (status_result m n o, b)
status_by m n x o b e = rw e

pub status_held : (s : BucketSettings) (k : ℕ) (u : Bool) (d : Option Bool) (b : Bucket) (n : Node) (o : Option FailureReason) (m : Bucket) → get k b ≡ some n
    → reinsert s (with_status u d n) (taken_out k u b) ≡ (o, m)
    → update_status s k u d b ≡ (status_result n (with_status u d n) o, m)
unfolding update_status
status_held s k u d b n o m e r =
    ap (update_status_of s k u d b) e
    ∙ status_by n (with_status u d n) (reinsert s (with_status u d n) (taken_out k u b)) o m r

pub status_absent : (s : BucketSettings) (k : ℕ) (u : Bool) (d : Option Bool) (b : Bucket) → get k b ≡ none
    → update_status s k u d b ≡ update_status_of s k u d b none
unfolding update_status
status_absent s k u d b e = ap (update_status_of s k u d b) e

-- The value step.

module _ (s : BucketSettings) (k : ℕ) (v : Value) (b : Bucket) where
  pub value_absent : get k b ≡ none → update_value s k v b ≡ update_value_of s k v b none
  unfolding update_value
  value_absent e = ap (update_value_of s k v b) e

  module _ (n : Node) (e : get k b ≡ some n) where
    same_by : same_value n.value v ≡ true → update_value_of s k v b (some n) ≡ (UpdateResult.NotModified, b)
    same_by h = rw h

    pub value_same : same_value n.value v ≡ true → update_value s k v b ≡ (UpdateResult.NotModified, b)
    unfolding update_value
    value_same h = ap (update_value_of s k v b) e ∙ same_by h

    module _ (new : same_value n.value v ≡ false) where
      fails_by : fails_bucket_filter s v (take_out k b) ≡ true
          → update_value_of s k v b (some n) ≡ (UpdateResult.Failed FailureReason.BucketFilter, take_out k b)
      fails_by h = rw (new, h)

      pub value_fails : fails_bucket_filter s v (take_out k b) ≡ true
          → update_value s k v b ≡ (UpdateResult.Failed FailureReason.BucketFilter, take_out k b)
      unfolding update_value
      value_fails h = ap (update_value_of s k v b) e ∙ fails_by h

      changes_by : fails_bucket_filter s v (take_out k b) ≡ false
          → update_value_of s k v b (some n)
          ≡ (UpdateResult.Updated, record { disconnected = revalue k v b.disconnected; connected = revalue k v b.connected; pending = b.pending })
      changes_by h = rw (new, h)

      pub value_changes : fails_bucket_filter s v (take_out k b) ≡ false
          → update_value s k v b
          ≡ (UpdateResult.Updated, record { disconnected = revalue k v b.disconnected; connected = revalue k v b.connected; pending = b.pending })
      unfolding update_value
      value_changes h = ap (update_value_of s k v b) e ∙ changes_by h

-- Remove.

module _ (s : BucketSettings) (now k : ℕ) (b : Bucket) where
  pub remove_held : holds k b ≡ true → remove s now k b ≡ (true, (apply_pending s now (take_out k b)).0)
  unfolding remove
  remove_held e = rw e

  pub remove_absent : holds k b ≡ false → remove s now k b ≡ (false, b)
  unfolding remove
  remove_absent e = rw e
