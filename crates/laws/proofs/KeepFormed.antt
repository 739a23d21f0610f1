-- All of question 2 but the index is kept by the bucket's rules (01, "bucket.rs (722)" and "The gatekeeper's questions", 2).
use Prim.Native.Nat.{ℕ, suc, ◌≤◌, ◌<◌}
use native.Mathlib.Omega.{arith}
use mathlib.Core.Path.{◌≡◌, refl, sym, ap, ◌∙◌, subst, subst⁻¹}
use mathlib.Core.Bool.{Bool, true, false, not, ◌&&◌}
use mathlib.Core.List.{List, [], ◌∷◌, ◌++◌}
use mathlib.Core.Option.{Option, none, some}
use lib.ListN.{length, length-append}
use lib.Dec.{leb}
use borrow.Author.Tests.{leb-false, lt-leb}
use Rattle.model.specs.Base.{same, is_some}
use Rattle.model.specs.Value.{Value, same_value}
use Rattle.model.specs.Node.{Node, PendingNode, EndedPending, connected_incoming, with_status, with_value}
use Rattle.model.specs.Result.{BucketInsertResult, FailureReason, UpdateResult, is_inserted}
use Rattle.model.specs.Bucket.{Bucket, BucketSettings, max_nodes_per_bucket, empty_bucket, nodes, num_entries, is_full, holds, get, fails_bucket_filter, incoming_nodes, is_max_incoming, with_pending, cleared, only, put, placed, omit, take_out, insert_full, insert, apply_full, apply_due, apply_if_due, apply_pending, reinsert, is_first, taken_out, update_if_pending, update_status_of, update_status, revalue, update_value_of, update_value, pending_with_status, update_pending, remove}
use Rattle.model.specs.Fits.{All, Opt, Different, Formed}
use Rattle.laws.proofs.Tests.{cases, same_sym}
use Rattle.laws.proofs.KeepLists.{get_key, more_mono, incoming_rest, Without, different_insert, put_between, more, more_within, length_select_insert, length_insert, get_nodes, holds_without, without_holds, omit_append, all_omit, without_omit, different_omit, length_omit, length_omit_held, incoming_omit, revalue_append, all_revalue, different_revalue, length_revalue, incoming_revalue}
use Rattle.laws.proofs.All.{all_append, all_insert, opt_map}

pub count_nodes : (b : Bucket) → num_entries b ≡ length (nodes b)
count_nodes b = sym (length-append b.disconnected b.connected)

pub free_count : (b : Bucket) → is_full b ≡ false → num_entries b < max_nodes_per_bucket
unfolding is_full
free_count b e = leb-false max_nodes_per_bucket (num_entries b) e

pub free_is_full : (b : Bucket) → num_entries b < max_nodes_per_bucket → is_full b ≡ false
unfolding is_full
free_is_full b c = lt-leb max_nodes_per_bucket (num_entries b) c

-- a node that is not at the maximum leaves the connected incoming nodes within it
incoming_room : (s : BucketSettings) (n : Node) (b : Bucket) → is_max_incoming s n b ≡ false → length (incoming_nodes (nodes b)) ≤ s.max_incoming
    → more (connected_incoming n) (length (incoming_nodes (nodes b))) ≤ s.max_incoming
unfolding is_max_incoming
incoming_room s n b e h = more_within (connected_incoming n) s.max_incoming (length (incoming_nodes (nodes b))) (λ t. leb-false _ _ (subst (λ (u : Bool). (u && leb s.max_incoming (length (incoming_nodes (nodes b)))) ≡ false) t e)) h

pub empty_formed : (m : ℕ) → Formed m empty_bucket
empty_formed m =
    record { at_most = omega arith; different = tt; disconnected_first = tt; then_connected = tt; incoming_within = omega arith; pending_apart = tt }

pub with_pending_formed : (m : ℕ) (p : Option PendingNode) (b : Bucket) → Formed m b → Opt (λ (q : PendingNode). holds q.node.key b ≡ false) p
    → Formed m (with_pending p b)
with_pending_formed m p b w h =
    record {
      at_most = w.at_most;
      different = w.different;
      disconnected_first = w.disconnected_first;
      then_connected = w.then_connected;
      incoming_within = w.incoming_within;
      pending_apart = h;
    }

-- a node that a bucket places stands behind some of its nodes and before the others
pub nodes_put : (Q : List Node → Type 0) (n : Node) (b : Bucket) → ((xs ys : List Node) → xs ++ ys ≡ nodes b → Q (xs ++ (n ∷ ys))) → Q (nodes (put n b))
nodes_put Q n b h = put_between Q n.connected n b.disconnected b.connected h

pub count_put : (n : Node) (b : Bucket) → num_entries (put n b) ≡ suc (num_entries b)
count_put n b =
    count_nodes (put n b)
    ∙ nodes_put (λ (l : List Node). length l ≡ suc (length (nodes b))) n b (λ xs ys q. length_insert n xs ys ∙ ap (λ (l : List Node). suc (length l)) q)
    ∙ ap suc (sym (count_nodes b))

pub holds_put : (n : Node) (k : ℕ) (b : Bucket) → same n.key k ≡ false → holds k b ≡ false → holds k (put n b) ≡ false
holds_put n k b e h =
    without_holds k (put n b)
    (nodes_put (Without k) n b (λ xs ys q. all_insert (λ (m : Node). same m.key k ≡ false) n xs ys e (subst⁻¹ (Without k) q (holds_without k b h))))

only_disconnected : (n : Node) (u : Bool) → n.connected ≡ u → All (λ (x : Node). x.connected ≡ false) (only (not u) n)
only_disconnected n true e = tt
only_disconnected n false e = (e, tt)

only_connected : (n : Node) (u : Bool) → n.connected ≡ u → All (λ (x : Node). x.connected ≡ true) (only u n)
only_connected n true e = (e, tt)
only_connected n false e = tt

opt_apart : (n : Node) (b : Bucket) (o : Option PendingNode) → Opt (λ (p : PendingNode). same n.key p.node.key ≡ false) o
    → Opt (λ (p : PendingNode). holds p.node.key b ≡ false) o → Opt (λ (p : PendingNode). holds p.node.key (put n b) ≡ false) o
opt_apart n b none e h = tt
opt_apart n b (some p) e h = holds_put n p.node.key b e h

-- a node of a new key is placed
pub put_formed : (m : ℕ) (n : Node) (b : Bucket) → Formed m b → holds n.key b ≡ false
    → Opt (λ (p : PendingNode). same n.key p.node.key ≡ false) b.pending → num_entries b < max_nodes_per_bucket
    → more (connected_incoming n) (length (incoming_nodes (nodes b))) ≤ m → Formed m (put n b)
put_formed m n b w a p c i =
    record {
      at_most = subst⁻¹ (λ (x : ℕ). x ≤ max_nodes_per_bucket) (count_put n b) c;
      different =
          nodes_put Different n b
          (λ xs ys q. different_insert n xs ys (subst⁻¹ (Without n.key) q (holds_without n.key b a)) (subst⁻¹ Different q w.different));
      disconnected_first =
          all_append (λ (x : Node). x.connected ≡ false) b.disconnected (only (not n.connected) n) w.disconnected_first
          (only_disconnected n n.connected refl);
      then_connected =
          all_append (λ (x : Node). x.connected ≡ true) b.connected (only n.connected n) w.then_connected (only_connected n n.connected refl);
      incoming_within =
          nodes_put (λ (l : List Node). length (incoming_nodes l) ≤ m) n b
          (λ xs ys q. subst⁻¹ (λ (x : ℕ). x ≤ m)
          (length_select_insert connected_incoming n xs ys ∙ ap (λ (l : List Node). more (connected_incoming n) (length (incoming_nodes l))) q) i);
      pending_apart = opt_apart n b b.pending p w.pending_apart;
    }

-- what `cleared` leaves is of another key
cleared_other : (k : ℕ) (o : Option PendingNode) → Opt (λ (p : PendingNode). same k p.node.key ≡ false) (cleared k o)
cleared_other k none = tt
cleared_other k (some p) =
    cases (Opt (λ (q : PendingNode). same k q.node.key ≡ false)) (same p.node.key k) (λ _. tt) (λ e. same_sym k p.node.key ∙ e)

cleared_opt : (P : PendingNode → Type 0) (k : ℕ) (o : Option PendingNode) → Opt P o → Opt P (cleared k o)
cleared_opt P k none h = tt
cleared_opt P k (some p) h = cases (Opt P) (same p.node.key k) (λ _. tt) (λ _. h)

pub placed_formed : (s : BucketSettings) (n : Node) (b : Bucket) → Formed s.max_incoming b → holds n.key b ≡ false → num_entries b < max_nodes_per_bucket
    → is_max_incoming s n b ≡ false → Formed s.max_incoming (placed n b)
placed_formed s n b w a c i =
    put_formed s.max_incoming n (with_pending (cleared n.key b.pending) b)
    (with_pending_formed s.max_incoming (cleared n.key b.pending) b w
    (cleared_opt (λ (p : PendingNode). holds p.node.key b ≡ false) n.key b.pending w.pending_apart))
    a (cleared_other n.key b.pending) c (incoming_room s n b i w.incoming_within)

-- a key taken out
pub nodes_take_out : (k : ℕ) (b : Bucket) → omit k (nodes b) ≡ nodes (take_out k b)
nodes_take_out k b = omit_append k b.disconnected b.connected

pub take_out_without : (k : ℕ) (b : Bucket) → holds k (take_out k b) ≡ false
take_out_without k b = without_holds k (take_out k b) (subst (Without k) (nodes_take_out k b) (without_omit k (nodes b)))

pub take_out_holds : (j k : ℕ) (b : Bucket) → holds j b ≡ false → holds j (take_out k b) ≡ false
take_out_holds j k b h =
    without_holds j (take_out k b)
    (subst (Without j) (nodes_take_out k b) (all_omit (λ (m : Node). same m.key j ≡ false) k (nodes b) (holds_without j b h)))

pub count_take_out_held : (k : ℕ) (b : Bucket) → holds k b ≡ true → num_entries (take_out k b) < num_entries b
count_take_out_held k b h =
    let e = count_nodes (take_out k b) ∙ sym (ap length (nodes_take_out k b)) in
    let f = count_nodes b in
    let l = length_omit_held k (nodes b) (sym (ap is_some (get_nodes k b)) ∙ h) in
    omega arith

pub take_out_formed : (m k : ℕ) (b : Bucket) → Formed m b → Formed m (take_out k b)
take_out_formed m k b w =
    record {
      at_most = let x = length_omit k b.disconnected in let y = length_omit k b.connected in let z = w.at_most in omega arith;
      different = subst Different (nodes_take_out k b) (different_omit k (nodes b) w.different);
      disconnected_first = all_omit (λ (x : Node). x.connected ≡ false) k b.disconnected w.disconnected_first;
      then_connected = all_omit (λ (x : Node). x.connected ≡ true) k b.connected w.then_connected;
      incoming_within =
          subst (λ (l : List Node). length (incoming_nodes l) ≤ m) (nodes_take_out k b)
          (let x = incoming_omit k (nodes b) in let y = w.incoming_within in omega arith);
      pending_apart =
          opt_map (λ (p : PendingNode). holds p.node.key b ≡ false) (λ (p : PendingNode). holds p.node.key (take_out k b) ≡ false)
          (λ p h. take_out_holds p.node.key k b h) b.pending w.pending_apart;
    }

insert_full_formed : (s : BucketSettings) (now : ℕ) (n : Node) (b : Bucket) (u : Bool) (ds : List Node) (p : Option PendingNode)
    → Formed s.max_incoming b → holds n.key b ≡ false → Formed s.max_incoming (insert_full s now n b u ds p).1
insert_full_formed s now n b false ds p w h = w
insert_full_formed s now n b true [] p w h = w
insert_full_formed s now n b true (x ∷ ds) none w h = with_pending_formed s.max_incoming _ b w h
insert_full_formed s now n b true (x ∷ ds) (some p) w h = w

pub insert_formed : (s : BucketSettings) (now : ℕ) (n : Node) (b : Bucket) → Formed s.max_incoming b → Formed s.max_incoming (insert s now n b).1
unfolding insert
insert_formed s now n b w =
    let Q : BucketInsertResult × Bucket → Type 0 = λ r. Formed s.max_incoming r.1 in
    cases Q (holds n.key b) (λ _. w)
    (λ h. cases Q (fails_bucket_filter s n.value b) (λ _. w)
    (λ _. cases Q (is_max_incoming s n b) (λ _. w)
    (λ i. cases Q (is_full b) (λ _. insert_full_formed s now n b n.connected b.disconnected b.pending w h)
    (λ f. placed_formed s n b w h (free_count b f) i))))

-- a full bucket's first node evicted, and the pending placed
evicted_formed : (s : BucketSettings) (n : Node) (b : Bucket) (d : Node) (ds : List Node) → d ∷ ds ≡ b.disconnected → Formed s.max_incoming b
    → holds n.key b ≡ false → is_max_incoming s n b ≡ false
    → Formed s.max_incoming (put n (record { disconnected = ds; connected = b.connected; pending = none }))
evicted_formed s n b d ds q w h i =
    let rest : length (incoming_nodes (ds ++ b.connected)) ≤ length (incoming_nodes (nodes b)) =
    subst (λ (l : List Node). length (incoming_nodes (ds ++ b.connected)) ≤ length (incoming_nodes (l ++ b.connected))) q (incoming_rest d (ds ++ b.connected)) in
    let room = incoming_room s n b i w.incoming_within in
    let most = w.at_most in
    let size = ap length q in
    put_formed s.max_incoming n (record { disconnected = ds; connected = b.connected; pending = none })
    (record {
      at_most = omega arith;
      different = (subst⁻¹ (λ (l : List Node). Different (l ++ b.connected)) q w.different).1;
      disconnected_first = (subst⁻¹ (All (λ (x : Node). x.connected ≡ false)) q w.disconnected_first).1;
      then_connected = w.then_connected;
      incoming_within = let within = w.incoming_within in omega arith;
      pending_apart = tt;
    })
    (without_holds n.key (record { disconnected = ds; connected = b.connected; pending = none })
    (subst⁻¹ (λ (l : List Node). Without n.key (l ++ b.connected)) q (holds_without n.key b h)).1)
    tt (omega arith)
    (let grows = more_mono (connected_incoming n) (length (incoming_nodes (ds ++ b.connected))) (length (incoming_nodes (nodes b))) rest in omega arith)

apply_full_formed : (s : BucketSettings) (n : Node) (b : Bucket) (ds : List Node) → ds ≡ b.disconnected → Formed s.max_incoming b → holds n.key b ≡ false
    → Formed s.max_incoming (apply_full s n b ds).0
apply_full_formed s n b [] q w h = w
apply_full_formed s n b (d ∷ ds) q w h =
    let Q : Bucket × List EndedPending → Type 0 = λ r. Formed s.max_incoming r.0 in
    cases Q (fails_bucket_filter s n.value b) (λ _. w) (λ _. cases Q (is_max_incoming s n b) (λ _. w) (λ e. evicted_formed s n b d ds q w h e))

apply_due_formed : (s : BucketSettings) (now : ℕ) (n : Node) (b : Bucket) → Formed s.max_incoming b → holds n.key b ≡ false
    → Formed s.max_incoming (apply_due s now n b).0
unfolding apply_due
apply_due_formed s now n b w h =
    let Q : Bucket × List EndedPending → Type 0 = λ r. Formed s.max_incoming r.0 in
    cases Q (is_full b) (λ _. apply_full_formed s n b b.disconnected refl w h)
    (λ _. cases (Formed s.max_incoming) (is_inserted (insert s now n b).0) (λ _. insert_formed s now n b w) (λ _. w))

apply_if_due_formed : (s : BucketSettings) (now : ℕ) (b : Bucket) (p : Option PendingNode) → Opt (λ (q : PendingNode). holds q.node.key b ≡ false) p
    → Formed s.max_incoming b → Formed s.max_incoming (apply_if_due s now b p).0
apply_if_due_formed s now b none h w = w
apply_if_due_formed s now b (some p) h w =
    cases (λ (r : Bucket × List EndedPending). Formed s.max_incoming r.0) (leb p.deadline now)
    (λ _. apply_due_formed s now p.node (with_pending none b) (with_pending_formed s.max_incoming none b w tt) h) (λ _. w)

pub apply_pending_formed : (s : BucketSettings) (now : ℕ) (b : Bucket) → Formed s.max_incoming b → Formed s.max_incoming (apply_pending s now b).0
unfolding apply_pending
apply_pending_formed s now b w = apply_if_due_formed s now b b.pending w.pending_apart w

pub reinsert_formed : (s : BucketSettings) (n : Node) (b : Bucket) → Formed s.max_incoming b → holds n.key b ≡ false → num_entries b < max_nodes_per_bucket
    → Formed s.max_incoming (reinsert s n b).1
unfolding reinsert
reinsert_formed s n b w h c =
    let Q : Option FailureReason × Bucket → Type 0 = λ r. Formed s.max_incoming r.1 in
    cases Q (fails_bucket_filter s n.value b) (λ _. w) (λ _. cases Q (is_max_incoming s n b) (λ _. w) (λ i. placed_formed s n b w h c i))

-- f keeps the key
update_if_pending_formed : (m k : ℕ) (f : Node → Node) (b : Bucket) (p : Option PendingNode) → ((n : Node) → (f n).key ≡ n.key)
    → Opt (λ (q : PendingNode). holds q.node.key b ≡ false) p → Formed m b → Formed m (update_if_pending k f b p).1
update_if_pending_formed m k f b none g h w = w
update_if_pending_formed m k f b (some p) g h w =
    cases (λ (r : UpdateResult × Bucket). Formed m r.1) (same p.node.key k)
    (λ _. with_pending_formed m _ b w (ap (λ (x : ℕ). holds x b) (g p.node) ∙ h)) (λ _. w)

update_status_of_formed : (s : BucketSettings) (k : ℕ) (u : Bool) (d : Option Bool) (b : Bucket) (o : Option Node) → get k b ≡ o
    → Formed s.max_incoming b → Formed s.max_incoming (update_status_of s k u d b o).1
update_status_of_formed s k u d b none e w = update_if_pending_formed s.max_incoming k (with_status u d) b b.pending (λ n. refl) w.pending_apart w
update_status_of_formed s k u d b (some n) e w =
    let out : Formed s.max_incoming (take_out k b) = take_out_formed s.max_incoming k b w in
    let less = count_take_out_held k b (ap is_some e) in
    let most = w.at_most in
    reinsert_formed s (with_status u d n) (taken_out k u b)
    (with_pending_formed s.max_incoming _ (take_out k b) out
    (cases (Opt (λ (p : PendingNode). holds p.node.key (take_out k b) ≡ false)) (u && is_first k (nodes b)) (λ _. tt) (λ _. out.pending_apart)))
    (ap (λ (x : ℕ). holds x (take_out k b)) (subst (Opt (λ (m : Node). m.key ≡ k)) e (get_key k b)) ∙ take_out_without k b) (omega arith)

pub update_status_formed : (s : BucketSettings) (k : ℕ) (u : Bool) (d : Option Bool) (b : Bucket) → Formed s.max_incoming b
    → Formed s.max_incoming (update_status s k u d b).1
unfolding update_status
update_status_formed s k u d b w = update_status_of_formed s k u d b (get k b) refl w

-- another value in the key's place
pub nodes_revalue : (k : ℕ) (v : Value) (b : Bucket)
    → revalue k v (nodes b) ≡ nodes (record { disconnected = revalue k v b.disconnected; connected = revalue k v b.connected; pending = b.pending })
nodes_revalue k v b = revalue_append k v b.disconnected b.connected

revalue_formed : (m k : ℕ) (v : Value) (b : Bucket) → Formed m b
    → Formed m (record { disconnected = revalue k v b.disconnected; connected = revalue k v b.connected; pending = b.pending })
revalue_formed m k v b w =
    let b' : Bucket = record { disconnected = revalue k v b.disconnected; connected = revalue k v b.connected; pending = b.pending } in
    record {
      at_most = let x = length_revalue k v b.disconnected in let y = length_revalue k v b.connected in let z = w.at_most in omega arith;
      different = subst Different (nodes_revalue k v b) (different_revalue k v (nodes b) w.different);
      disconnected_first = all_revalue (λ (x : Node). x.connected ≡ false) k v (λ n e. e) b.disconnected w.disconnected_first;
      then_connected = all_revalue (λ (x : Node). x.connected ≡ true) k v (λ n e. e) b.connected w.then_connected;
      incoming_within =
          subst (λ (l : List Node). length (incoming_nodes l) ≤ m) (nodes_revalue k v b)
          (let x = incoming_revalue k v (nodes b) in let y = w.incoming_within in omega arith);
      pending_apart =
          opt_map (λ (p : PendingNode). holds p.node.key b ≡ false) (λ (p : PendingNode). holds p.node.key b' ≡ false)
          (λ p h. without_holds p.node.key b' (subst (Without p.node.key) (nodes_revalue k v b)
          (all_revalue (λ (x : Node). same x.key p.node.key ≡ false) k v (λ n e. e) (nodes b) (holds_without p.node.key b h))))
          b.pending w.pending_apart;
    }

update_value_of_formed : (s : BucketSettings) (k : ℕ) (v : Value) (b : Bucket) (o : Option Node) → Formed s.max_incoming b
    → Formed s.max_incoming (update_value_of s k v b o).1
update_value_of_formed s k v b none w = update_if_pending_formed s.max_incoming k (with_value v) b b.pending (λ n. refl) w.pending_apart w
update_value_of_formed s k v b (some n) w =
    let Q : UpdateResult × Bucket → Type 0 = λ r. Formed s.max_incoming r.1 in
    cases Q (same_value n.value v) (λ _. w)
    (λ _. cases Q (fails_bucket_filter s v (take_out k b)) (λ _. take_out_formed s.max_incoming k b w) (λ _. revalue_formed s.max_incoming k v b w))

pub update_value_formed : (s : BucketSettings) (k : ℕ) (v : Value) (b : Bucket) → Formed s.max_incoming b → Formed s.max_incoming (update_value s k v b).1
unfolding update_value
update_value_formed s k v b w = update_value_of_formed s k v b (get k b) w

pub update_pending_formed : (m : ℕ) (u d : Bool) (b : Bucket) → Formed m b → Formed m (update_pending u d b)
unfolding update_pending
update_pending_formed m u d b w = with_pending_formed m _ b w (changed b.pending w.pending_apart)
  where
    changed : (o : Option PendingNode) → Opt (λ (p : PendingNode). holds p.node.key b ≡ false) o
        → Opt (λ (p : PendingNode). holds p.node.key b ≡ false) (pending_with_status u d o)
    changed none h = tt
    changed (some p) h = h

pub remove_formed : (s : BucketSettings) (now k : ℕ) (b : Bucket) → Formed s.max_incoming b → Formed s.max_incoming (remove s now k b).1
unfolding remove
remove_formed s now k b w =
    cases (λ (r : Bool × Bucket). Formed s.max_incoming r.1) (holds k b)
    (λ _. apply_pending_formed s now (take_out k b) (take_out_formed s.max_incoming k b w)) (λ _. w)
