-- The cases that the Rust marks `unreachable!` or `expect`s away are not met on a bucket that question 2 accepts, index or not (01,
-- "Rust forms that are recast", last point); and the status step is the insert that it stands for.
use Prim.Native.Nat.{ℕ, ◌<◌}
use native.Mathlib.Omega.{arith}
use mathlib.Core.Path.{◌≡◌, refl, ap, ◌∙◌, subst, subst⁻¹}
use mathlib.Core.Bool.{Bool, true, false, cond}
use mathlib.Core.List.{List, [], ◌∷◌}
use mathlib.Core.Option.{Option, none, some}
use Rattle.model.specs.Base.{same, is_some}
use Rattle.model.specs.Value.{Value, same_value}
use Rattle.model.specs.Node.{Node, PendingNode, with_status, with_value}
use Rattle.model.specs.Result.{FailureReason, BucketInsertResult, UpdateResult, InsertResult, is_failed}
use Rattle.model.specs.Bucket.{Bucket, BucketSettings, max_nodes_per_bucket, num_entries, is_full, find, holds, get, fails_bucket_filter, is_max_incoming, with_pending, cleared, placed, take_out, insert_full, insert, reinsert, status_result, taken_out, update_if_pending, update_status_of, update_status, update_value_of, update_value, pending_with_status, update_pending}
use Rattle.model.specs.Table.{Table, EntryKind, Answer, insert_updates, then_value, kind_in, kind_if_pending, kind_of_node, kind_of}
use Rattle.model.specs.Question.{is_present, is_pending, is_absent}
use Rattle.model.specs.Fits.{Opt, Formed}
use Rattle.laws.proofs.Tests.{clash, cases, split, same_true}
use Rattle.laws.proofs.KeepLists.{find_insert, get_nodes, get_key}
use Rattle.laws.proofs.KeepFormed.{free_is_full, nodes_put, count_take_out_held, take_out_without}

-- what an insert answers where a place is free
abbrev Free : BucketInsertResult → Type 0
Free BucketInsertResult.Inserted = Unit {0}
Free (BucketInsertResult.Pending k) = ⊥
Free BucketInsertResult.FailedFilter = Unit {0}
Free BucketInsertResult.TooManyIncoming = Unit {0}
Free BucketInsertResult.Full = ⊥
Free BucketInsertResult.NodeExists = Unit {0}

insert_free : (s : BucketSettings) (now : ℕ) (n : Node) (b : Bucket) → num_entries b < max_nodes_per_bucket → Free (insert s now n b).0
unfolding insert
insert_free s now n b c =
    let Q : BucketInsertResult × Bucket → Type 0 = λ r. Free r.0 in
    cases Q (holds n.key b) (λ _. tt)
    (λ _. cases Q (fails_bucket_filter s n.value b) (λ _. tt)
    (λ _. cases Q (is_max_incoming s n b) (λ _. tt) (λ _. cases Q (is_full b) (λ f. clash f (free_is_full b c)) (λ _. tt))))

-- bucket.rs, apply_pending: "Bucket cannot be full"
pub free_not_full : (s : BucketSettings) (now : ℕ) (n : Node) (b : Bucket) → num_entries b < max_nodes_per_bucket → (insert s now n b).0 ≡ BucketInsertResult.Full → ⊥
free_not_full s now n b c e = subst Free e (insert_free s now n b c)

-- bucket.rs, apply_pending: with free places it is not made pending again
pub free_not_pending : (s : BucketSettings) (now : ℕ) (n : Node) (b : Bucket) (k : ℕ) → num_entries b < max_nodes_per_bucket
    → (insert s now n b).0 ≡ BucketInsertResult.Pending k → ⊥
free_not_pending s now n b k c e = subst Free e (insert_free s now n b c)

-- what an insert answers where the key is not held
abbrev New : BucketInsertResult → Type 0
New BucketInsertResult.Inserted = Unit {0}
New (BucketInsertResult.Pending k) = Unit {0}
New BucketInsertResult.FailedFilter = Unit {0}
New BucketInsertResult.TooManyIncoming = Unit {0}
New BucketInsertResult.Full = Unit {0}
New BucketInsertResult.NodeExists = ⊥

insert_full_new : (s : BucketSettings) (now : ℕ) (n : Node) (b : Bucket) (u : Bool) (ds : List Node) (p : Option PendingNode) → New (insert_full s now n b u ds p).0
insert_full_new s now n b false ds p = tt
insert_full_new s now n b true [] p = tt
insert_full_new s now n b true (d ∷ ds) none = tt
insert_full_new s now n b true (d ∷ ds) (some p) = tt

insert_new : (s : BucketSettings) (now : ℕ) (n : Node) (b : Bucket) → holds n.key b ≡ false → New (insert s now n b).0
unfolding insert
insert_new s now n b h =
    let Q : BucketInsertResult × Bucket → Type 0 = λ r. New r.0 in
    cases Q (holds n.key b) (λ e. clash e h)
    (λ _. cases Q (fails_bucket_filter s n.value b) (λ _. tt)
    (λ _. cases Q (is_max_incoming s n b) (λ _. tt)
    (λ _. cases Q (is_full b) (λ _. insert_full_new s now n b n.connected b.disconnected b.pending) (λ _. tt))))

-- kbucket.rs, insert_or_update: "Node must exist", where the key is not held
pub absent_not_exists : (s : BucketSettings) (now : ℕ) (n : Node) (b : Bucket) → holds n.key b ≡ false
    → (insert s now n b).0 ≡ BucketInsertResult.NodeExists → ⊥
absent_not_exists s now n b h e = subst New e (insert_new s now n b h)

-- bucket.rs, apply_pending: the pending's key is not held
pub pending_not_exists : (m : ℕ) (s : BucketSettings) (now : ℕ) (b : Bucket) (p : PendingNode) → Formed m b → b.pending ≡ some p
    → (insert s now p.node (with_pending none b)).0 ≡ BucketInsertResult.NodeExists → ⊥
pending_not_exists m s now b p w e =
    absent_not_exists s now p.node (with_pending none b) (subst (Opt (λ (q : PendingNode). holds q.node.key b ≡ false)) e w.pending_apart)

-- bucket.rs, update_status: the bucket has a free place once the node of key k is taken out, and does not hold the key
pub status_room : (m k : ℕ) (b : Bucket) (n : Node) → Formed m b → get k b ≡ some n → num_entries (take_out k b) < max_nodes_per_bucket
status_room m k b n w e = let l = count_take_out_held k b (ap is_some e) in let a = w.at_most in omega arith

pub status_absent : (k : ℕ) (b : Bucket) (n : Node) → get k b ≡ some n → holds n.key (take_out k b) ≡ false
status_absent k b n e = ap (λ (x : ℕ). holds x (take_out k b)) (subst (Opt (λ (x : Node). x.key ≡ k)) e (get_key k b)) ∙ take_out_without k b

-- bucket.rs, update_status: the node is changed and inserted, whatever the pending is by then
module _ (m : ℕ) (s : BucketSettings) (now k : ℕ) (u : Bool) (d : Option Bool) (b : Bucket) (n : Node) (p : Option PendingNode) (w : Formed m b) (e : get k b ≡ some n) where
  -- "The node was removed and shouldn't already exist"
  pub status_not_exists : (insert s now (with_status u d n) (with_pending p (take_out k b))).0 ≡ BucketInsertResult.NodeExists → ⊥
  status_not_exists = absent_not_exists s now (with_status u d n) (with_pending p (take_out k b)) (status_absent k b n e)

  -- "The node was removed so the bucket cannot be full"
  pub status_not_full : (insert s now (with_status u d n) (with_pending p (take_out k b))).0 ≡ BucketInsertResult.Full → ⊥
  status_not_full = free_not_full s now (with_status u d n) (with_pending p (take_out k b)) (status_room m k b n w e)

  -- "The node was removed so can't be added as pending"
  pub status_not_pending : (j : ℕ) → (insert s now (with_status u d n) (with_pending p (take_out k b))).0 ≡ BucketInsertResult.Pending j → ⊥
  status_not_pending j = free_not_pending s now (with_status u d n) (with_pending p (take_out k b)) j (status_room m k b n w e)

-- bucket.rs, update_status: what an insert's answer is to it; the last three are the cases above, which are not met
abbrev pub failure : BucketInsertResult → Option FailureReason
failure BucketInsertResult.Inserted = none
failure BucketInsertResult.TooManyIncoming = some FailureReason.TooManyIncoming
failure BucketInsertResult.FailedFilter = some FailureReason.BucketFilter
failure BucketInsertResult.NodeExists = some FailureReason.BucketFull
failure BucketInsertResult.Full = some FailureReason.BucketFull
failure (BucketInsertResult.Pending k) = some FailureReason.BucketFull

-- an insert's answer and bucket as the status step takes them
abbrev pub as_status : BucketInsertResult × Bucket → Option FailureReason × Bucket
as_status r = (failure r.0, r.1)

-- an insert of a new key where a place is free: only two tests stand before the placing
pub insert_placing : (s : BucketSettings) (now : ℕ) (n : Node) (b : Bucket) → holds n.key b ≡ false → num_entries b < max_nodes_per_bucket
    → insert s now n b
    ≡ cond (fails_bucket_filter s n.value b) (BucketInsertResult.FailedFilter, b)
    (cond (is_max_incoming s n b) (BucketInsertResult.TooManyIncoming, b) (BucketInsertResult.Inserted, placed n b))
unfolding insert
insert_placing s now n b h c =
    let R : Bool → BucketInsertResult × Bucket =
    λ t. cond (fails_bucket_filter s n.value b) (BucketInsertResult.FailedFilter, b)
    (cond (is_max_incoming s n b) (BucketInsertResult.TooManyIncoming, b)
    (cond t (insert_full s now n b n.connected b.disconnected b.pending) (BucketInsertResult.Inserted, placed n b))) in
    ap (λ (t : Bool). cond t (BucketInsertResult.NodeExists, b) (R (is_full b))) h ∙ ap R (free_is_full b c)

-- the status step's placing is an insert, at any time
pub reinsert_is_insert : (s : BucketSettings) (now : ℕ) (n : Node) (b : Bucket) → holds n.key b ≡ false → num_entries b < max_nodes_per_bucket
    → reinsert s n b ≡ as_status (insert s now n b)
unfolding reinsert
reinsert_is_insert s now n b h c =
    subst⁻¹ (λ (r : BucketInsertResult × Bucket). reinsert s n b ≡ as_status r) (insert_placing s now n b h c)
    (same_tests (fails_bucket_filter s n.value b) (is_max_incoming s n b))
  where
    same_tests : (f i : Bool)
        → ◌≡◌ {A = Option FailureReason × Bucket}
        (cond f (some FailureReason.BucketFilter, b) (cond i (some FailureReason.TooManyIncoming, b) (none, placed n b)))
        (as_status (cond f (BucketInsertResult.FailedFilter, b) (cond i (BucketInsertResult.TooManyIncoming, b) (BucketInsertResult.Inserted, placed n b))))
    same_tests true i = refl
    same_tests false true = refl
    same_tests false false = refl

-- bucket.rs, update_status on a held key is an insert of the changed node, at any time
pub update_status_is_insert : (m : ℕ) (s : BucketSettings) (now k : ℕ) (u : Bool) (d : Option Bool) (b : Bucket) (n : Node) → Formed m b → get k b ≡ some n
    → update_status s k u d b
    ≡ (status_result n (with_status u d n) (failure (insert s now (with_status u d n) (taken_out k u b)).0), (insert s now (with_status u d n) (taken_out k u b)).1)
unfolding update_status
update_status_is_insert m s now k u d b n w e =
    ap (update_status_of s k u d b) e
    ∙ ap (λ (r : Option FailureReason × Bucket). (status_result n (with_status u d n) r.0, r.1))
    (reinsert_is_insert s now (with_status u d n) (taken_out k u b) (status_absent k b n e) (status_room m k b n w e))

-- kbucket.rs, insert_or_update: a failed status step is answered before the value's step
pub failed_status_answered : (s : BucketSettings) (k : ℕ) (v : Value) (status : UpdateResult) (b : Bucket) → is_failed status ≡ true
    → then_value s k v status b ≡ (Answer.InsertOrUpdate (InsertResult.Failed FailureReason.TooManyIncoming), b)
failed_status_answered s k v status b e =
    ap (λ (t : Bool). cond t (Answer.InsertOrUpdate (InsertResult.Failed FailureReason.TooManyIncoming), b)
    (Answer.InsertOrUpdate (insert_updates (update_value s k v b).0 status), (update_value s k v b).1)) e

-- kbucket.rs, insert_or_update: "Status failure handled earlier."
pub handled_not_failed : (status : UpdateResult) (r : FailureReason) → is_failed status ≡ false → status ≡ UpdateResult.Failed r → ⊥
handled_not_failed status r h e = clash (ap is_failed e) h

-- what a value's step answers
abbrev NoPromotion : UpdateResult → Type 0
NoPromotion UpdateResult.Updated = Unit {0}
NoPromotion UpdateResult.UpdatedAndPromoted = ⊥
NoPromotion UpdateResult.UpdatedPending = Unit {0}
NoPromotion (UpdateResult.Failed r) = Unit {0}
NoPromotion UpdateResult.NotModified = Unit {0}

if_pending_promotes_not : (k : ℕ) (f : Node → Node) (b : Bucket) (p : Option PendingNode) → NoPromotion (update_if_pending k f b p).0
if_pending_promotes_not k f b none = tt
if_pending_promotes_not k f b (some p) = cases (λ (r : UpdateResult × Bucket). NoPromotion r.0) (same p.node.key k) (λ _. tt) (λ _. tt)

value_of_promotes_not : (s : BucketSettings) (k : ℕ) (v : Value) (b : Bucket) (o : Option Node) → NoPromotion (update_value_of s k v b o).0
value_of_promotes_not s k v b none = if_pending_promotes_not k (with_value v) b b.pending
value_of_promotes_not s k v b (some n) =
    let Q : UpdateResult × Bucket → Type 0 = λ r. NoPromotion r.0 in
    cases Q (same_value n.value v) (λ _. tt) (λ _. cases Q (fails_bucket_filter s v (take_out k b)) (λ _. tt) (λ _. tt))

value_promotes_not : (s : BucketSettings) (k : ℕ) (v : Value) (b : Bucket) → NoPromotion (update_value s k v b).0
unfolding update_value
value_promotes_not s k v b = value_of_promotes_not s k v b (get k b)

-- kbucket.rs, insert_or_update: "Value update cannot promote a connection."
pub value_not_promoted : (s : BucketSettings) (k : ℕ) (v : Value) (b : Bucket) → (update_value s k v b).0 ≡ UpdateResult.UpdatedAndPromoted → ⊥
value_not_promoted s k v b e = subst NoPromotion e (value_promotes_not s k v b)

-- entry.rs: "We can only build a ConnectedEntry if the entry is in the bucket"
waiting_not_present : (k : ℕ) (o : Option PendingNode) → is_present (kind_if_pending k o) ≡ false
waiting_not_present k none = refl
waiting_not_present k (some p) = cases (λ (e : EntryKind). is_present e ≡ false) (same p.node.key k) (λ _. refl) (λ _. refl)

pub present_held : (k : ℕ) (b : Bucket) → is_present (kind_of k b) ≡ true → holds k b ≡ true
present_held k b h = found (get k b) h
  where
    found : (o : Option Node) → is_present (kind_of_node k b o) ≡ true → is_some o ≡ true
    found none h = clash h (waiting_not_present k b.pending)
    found (some n) h = refl

-- Absent: the key is not held
pub absent_not_held : (k : ℕ) (b : Bucket) → is_absent (kind_of k b) ≡ true → holds k b ≡ false
absent_not_held k b h = found (get k b) h
  where
    found : (o : Option Node) → is_absent (kind_of_node k b o) ≡ true → is_some o ≡ false
    found none h = refl
    found (some n) h = clash h refl

placed_held : (k : ℕ) (n : Node) (b : Bucket) → n.key ≡ k → holds k (placed n b) ≡ true
placed_held k n b e =
    ap is_some (get_nodes k (placed n b))
    ∙ nodes_put (λ (l : List Node). is_some (find k l) ≡ true) n (with_pending (cleared n.key b.pending) b) (λ xs ys q. find_insert k n xs ys e)

-- entry.rs, PresentEntry::update: an entry whose update does not fail is still in the bucket
reinsert_held : (s : BucketSettings) (k : ℕ) (m n : Node) (b : Bucket) → n.key ≡ k → is_failed (status_result m n (reinsert s n b).0) ≡ false
    → holds k (reinsert s n b).1 ≡ true
unfolding reinsert
reinsert_held s k m n b e =
    let Q : Option FailureReason × Bucket → Type 0 = λ r. is_failed (status_result m n r.0) ≡ false → holds k r.1 ≡ true in
    cases Q (fails_bucket_filter s n.value b) (λ _ h. clash refl h)
    (λ _. cases Q (is_max_incoming s n b) (λ _ h. clash refl h) (λ _ h. placed_held k n b e))

pub present_stays : (s : BucketSettings) (k : ℕ) (u : Bool) (d : Option Bool) (b : Bucket) → holds k b ≡ true → is_failed (update_status s k u d b).0 ≡ false
    → holds k (update_status s k u d b).1 ≡ true
unfolding update_status
present_stays s k u d b h = stays (get k b) (get_key k b) h
  where
    stays : (o : Option Node) → Opt (λ (n : Node). n.key ≡ k) o → is_some o ≡ true → is_failed (update_status_of s k u d b o).0 ≡ false
        → holds k (update_status_of s k u d b o).1 ≡ true
    stays none e h = clash h refl
    stays (some n) e h = reinsert_held s k n (with_status u d n) (taken_out k u b) e

-- entry.rs: "We can only build a ConnectedPendingEntry if the entry is pending"
pub pending_waits : (k : ℕ) (b : Bucket) → is_pending (kind_of k b) ≡ true → (p : PendingNode) × (b.pending ≡ some p) × (p.node.key ≡ k)
pending_waits k b h = found (get k b) h
  where
    waits : (o : Option PendingNode) → is_pending (kind_if_pending k o) ≡ true → (p : PendingNode) × (o ≡ some p) × (p.node.key ≡ k)
    waits none h = clash h refl
    waits (some p) h =
        split (same p.node.key k) (λ e. (p, refl, same_true p.node.key k e))
        (λ e. clash h (subst⁻¹ (λ (t : Bool). is_pending (cond t (EntryKind.Pending p.node.connected p.node.incoming) EntryKind.Absent) ≡ false) e refl))

    found : (o : Option Node) → is_pending (kind_of_node k b o) ≡ true → (p : PendingNode) × (b.pending ≡ some p) × (p.node.key ≡ k)
    found none h = waits b.pending h
    found (some n) h = clash h refl

-- entry.rs, PendingEntry::update: the entry is still pending
pub pending_stays : (k : ℕ) (u d : Bool) (b : Bucket) → is_pending (kind_of k b) ≡ true → kind_of k (update_pending u d b) ≡ EntryKind.Pending u d
unfolding update_pending
pending_stays k u d b h = found (get k b) h
  where
    waits : (o : Option PendingNode) → is_pending (kind_if_pending k o) ≡ true → kind_if_pending k (pending_with_status u d o) ≡ EntryKind.Pending u d
    waits none h = clash h refl
    waits (some p) h =
        split (same p.node.key k)
        (λ e. subst⁻¹ (λ (t : Bool). cond t (EntryKind.Pending u d) EntryKind.Absent ≡ EntryKind.Pending u d) e refl)
        (λ e. clash h (subst⁻¹ (λ (t : Bool). is_pending (cond t (EntryKind.Pending p.node.connected p.node.incoming) EntryKind.Absent) ≡ false) e refl))

    found : (o : Option Node) → is_pending (kind_of_node k b o) ≡ true → kind_of_node k (with_pending (pending_with_status u d b.pending) b) o ≡ EntryKind.Pending u d
    found none h = waits b.pending h
    found (some n) h = clash h refl

-- entry.rs: an entry action's key, once question 7 has passed, is not the local key
pub kind_not_self : (p : EntryKind → Bool) (t : Table) (k : ℕ) (o : Option ℕ) → p EntryKind.SelfEntry ≡ false → p (kind_in t k o) ≡ true → is_some o ≡ true
kind_not_self p t k none e h = clash h e
kind_not_self p t k (some i) e h = refl
