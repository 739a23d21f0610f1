-- The reason is true (02, slip 1): which reason stands with which answer.
use Prim.Native.Nat.{ℕ}
use mathlib.Core.Path.{◌≡◌, refl}
use mathlib.Core.Bool.{Bool, true, false, cond, not, ◌&&◌}
use mathlib.Core.List.{List, [], ◌∷◌}
use mathlib.Core.Option.{Option, none, some}
use Rattle.model.specs.Base.{same, is_some}
use Rattle.model.specs.Bytes.{number}
use Rattle.model.specs.Value.{Value, same_value}
use Rattle.model.specs.Node.{Node, PendingNode, with_status, with_value, same_status, promotes}
use Rattle.model.specs.Result.{FailureReason, BucketInsertResult, UpdateResult, is_failed}
use Rattle.model.specs.Bucket.{Bucket, BucketSettings, get, holds, is_full, fails_bucket_filter, is_max_incoming, take_out, taken_out, insert_full, insert, reinsert, status_result, update_if_pending, update_status_of, update_status, update_value_of, update_value, remove}
use Rattle.model.specs.Table.{Table, kind_in, fails_table_filter, both_updates, then_status, update_node_in, insert_updates, inserts, then_value, insert_or_update_in, index_in}
use Rattle.model.specs.Call.{Call, KeyCall, is_one, optional, value_of}
use Rattle.model.specs.Listing.{applied}
use Rattle.model.specs.Question.{key_arguments, kind_fits}
use Rattle.model.specs.Step.{on_key, node_of, own_answer, effect, act}
use Rattle.model.specs.Explain.{Told, Reason, told_update, told_insert_or_update, told_insert, told, table_filter_reason, full_reason, insert_reason, reinsert_reason, if_pending_reason, status_reason_of, status_reason, value_reason_of, value_reason, then_status_reason, update_node_reason, insert_or_update_reason, remove_reason, bucket_reason, key_reason, reason}
use Rattle.laws.proofs.Tests.{clash, split}
use Rattle.laws.proofs.Unreachable.{absent_not_held}

-- Which reason stands with which answer.

-- a test of reasons, one Bool for each
abbrev pub reasons : (none table_filter bucket_filter incomingLimit newcomerDisconnected all_connected pending noSuchKey local_key : Bool) → Reason → Bool
reasons a b c d e f g h i Reason.None = a
reasons a b c d e f g h i (Reason.TableFilter ks) = b
reasons a b c d e f g h i (Reason.BucketFilter ks) = c
reasons a b c d e f g h i (Reason.IncomingLimit ks) = d
reasons a b c d e f g h i Reason.NewcomerDisconnected = e
reasons a b c d e f g h i Reason.AllConnected = f
reasons a b c d e f g h i (Reason.Pending k) = g
reasons a b c d e f g h i Reason.NoSuchKey = h
reasons a b c d e f g h i Reason.LocalKey = i

abbrev is_none : Reason → Bool
is_none r = reasons true false false false false false false false false r

abbrev is_bucket_filter : Reason → Bool
is_bucket_filter r = reasons false false true false false false false false false r

abbrev is_full_reason : Reason → Bool
is_full_reason r = reasons false false false false true true true false false r

abbrev is_no_such_key : Reason → Bool
is_no_such_key r = reasons false false false false false false false true false r

abbrev failure_fits : FailureReason → Reason → Bool
failure_fits FailureReason.TooManyIncoming r = reasons false false true true false false false false false r
failure_fits FailureReason.BucketFilter r = is_bucket_filter r
failure_fits FailureReason.TableFilter r = reasons false true false false false false false false false r
failure_fits FailureReason.KeyNonExistent r = is_no_such_key r
failure_fits FailureReason.BucketFull r = is_full_reason r
failure_fits FailureReason.InvalidSelfUpdate r = false

-- 02, of a key other than the local one: the answer false has no such key, a call that does not fail none. NodeExists is no answer.
abbrev pub reason_fits : Told → Reason → Bool
reason_fits (Told.Failed f) r = failure_fits f r
reason_fits Told.FailedFilter r = is_bucket_filter r
reason_fits Told.TooManyIncoming r = reasons false false false true false false false false false r
reason_fits Told.Full r = is_full_reason r
reason_fits Told.NodeExists r = false
reason_fits (Told.Removed false) r = is_no_such_key r
reason_fits (Told.Removed true) r = is_none r
reason_fits (Told.Pending k) r = is_none r
reason_fits (Told.StatusUpdated p) r = is_none r
reason_fits (Told.UpdatedBoth p) r = is_none r
reason_fits Told.Inserted r = is_none r
reason_fits Told.ValueUpdated r = is_none r
reason_fits Told.Updated r = is_none r
reason_fits Told.UpdatedAndPromoted r = is_none r
reason_fits Told.UpdatedPending r = is_none r
reason_fits Told.NotModified r = is_none r

-- 02: of the local key the reason is local key, and 01 says what is answered
abbrev pub own_told : Told → Bool
own_told (Told.Failed FailureReason.InvalidSelfUpdate) = true
own_told (Told.Failed FailureReason.TooManyIncoming) = false
own_told (Told.Failed FailureReason.BucketFilter) = false
own_told (Told.Failed FailureReason.TableFilter) = false
own_told (Told.Failed FailureReason.KeyNonExistent) = false
own_told (Told.Failed FailureReason.BucketFull) = false
own_told (Told.Removed r) = not r
own_told Told.NotModified = true
own_told Told.Inserted = false
own_told Told.ValueUpdated = false
own_told Told.Updated = false
own_told Told.UpdatedAndPromoted = false
own_told Told.UpdatedPending = false
own_told Told.FailedFilter = false
own_told Told.TooManyIncoming = false
own_told Told.Full = false
own_told Told.NodeExists = false
own_told (Told.Pending k) = false
own_told (Told.StatusUpdated p) = false
own_told (Told.UpdatedBoth p) = false

abbrev pub key_fits : Option ℕ → Told → Reason → Bool
key_fits none t r = reasons false false false false false false false false true r && own_told t
key_fits (some i) t r = reason_fits t r

-- 02: the answers that fail
abbrev pub fails : Told → Bool
fails (Told.Failed f) = true
fails Told.FailedFilter = true
fails Told.TooManyIncoming = true
fails Told.Full = true
fails Told.NodeExists = true
fails (Told.Removed r) = not r
fails (Told.Pending k) = false
fails (Told.StatusUpdated p) = false
fails (Told.UpdatedBoth p) = false
fails Told.Inserted = false
fails Told.ValueUpdated = false
fails Told.Updated = false
fails Told.UpdatedAndPromoted = false
fails Told.UpdatedPending = false
fails Told.NotModified = false

-- none stands with exactly those that do not fail
pub none_fits : (t : Told) → reason_fits t Reason.None ≡ not (fails t)
none_fits (Told.Failed FailureReason.TooManyIncoming) = refl
none_fits (Told.Failed FailureReason.BucketFilter) = refl
none_fits (Told.Failed FailureReason.TableFilter) = refl
none_fits (Told.Failed FailureReason.KeyNonExistent) = refl
none_fits (Told.Failed FailureReason.BucketFull) = refl
none_fits (Told.Failed FailureReason.InvalidSelfUpdate) = refl
none_fits (Told.Removed true) = refl
none_fits (Told.Removed false) = refl
none_fits (Told.Pending k) = refl
none_fits (Told.StatusUpdated p) = refl
none_fits (Told.UpdatedBoth p) = refl
none_fits Told.Inserted = refl
none_fits Told.ValueUpdated = refl
none_fits Told.Updated = refl
none_fits Told.UpdatedAndPromoted = refl
none_fits Told.UpdatedPending = refl
none_fits Told.NotModified = refl
none_fits Told.FailedFilter = refl
none_fits Told.TooManyIncoming = refl
none_fits Told.Full = refl
none_fits Told.NodeExists = refl

is_none_lem : (r : Reason) → is_none r ≡ true → r ≡ Reason.None
is_none_lem Reason.None h = refl
is_none_lem (Reason.TableFilter ks) h = clash h refl
is_none_lem (Reason.BucketFilter ks) h = clash h refl
is_none_lem (Reason.IncomingLimit ks) h = clash h refl
is_none_lem Reason.NewcomerDisconnected h = clash h refl
is_none_lem Reason.AllConnected h = clash h refl
is_none_lem (Reason.Pending j) h = clash h refl
is_none_lem Reason.NoSuchKey h = clash h refl
is_none_lem Reason.LocalKey h = clash h refl

-- and they have no other
pub fits_none : (t : Told) (r : Reason) → fails t ≡ false → reason_fits t r ≡ true → r ≡ Reason.None
fits_none (Told.Failed f) r e h = clash refl e
fits_none (Told.Removed true) r e h = is_none_lem r h
fits_none (Told.Removed false) r e h = clash refl e
fits_none Told.FailedFilter r e h = clash refl e
fits_none Told.TooManyIncoming r e h = clash refl e
fits_none Told.Full r e h = clash refl e
fits_none Told.NodeExists r e h = clash refl e
fits_none (Told.Pending k) r e h = is_none_lem r h
fits_none (Told.StatusUpdated p) r e h = is_none_lem r h
fits_none (Told.UpdatedBoth p) r e h = is_none_lem r h
fits_none Told.Inserted r e h = is_none_lem r h
fits_none Told.ValueUpdated r e h = is_none_lem r h
fits_none Told.Updated r e h = is_none_lem r h
fits_none Told.UpdatedAndPromoted r e h = is_none_lem r h
fits_none Told.UpdatedPending r e h = is_none_lem r h
fits_none Told.NotModified r e h = is_none_lem r h

-- The steps of a bucket.

abbrev Fit : Told → Reason → Type 0
Fit t r = reason_fits t r ≡ true

module _ (s : BucketSettings) (now : ℕ) (n : Node) (b : Bucket) where
  full_fits : (u : Bool) (ds : List Node) (p : Option PendingNode) → Fit (told_insert (insert_full s now n b u ds p).0) (full_reason u ds p)
  full_fits false ds p = refl
  full_fits true [] p = refl
  full_fits true (d ∷ ds) none = refl
  full_fits true (d ∷ ds) (some p) = refl

  insert_fits : holds n.key b ≡ false → Fit (told_insert (insert s now n b).0) (insert_reason s n b)
  unfolding insert insert_reason
  insert_fits h =
      rw h (split (fails_bucket_filter s n.value b) (λ e. rw e)
      (λ e. rw e (split (is_max_incoming s n b) (λ f. rw f)
      (λ f. rw f (split (is_full b) (λ g. rw g (full_fits n.connected b.disconnected b.pending)) (λ g. rw g))))))

-- insert_or_update tells an insert's answer under other names
incoming_told : (r : Reason) → reasons false false false true false false false false false r ≡ true → failure_fits FailureReason.TooManyIncoming r ≡ true
incoming_told Reason.None h = clash h refl
incoming_told (Reason.TableFilter ks) h = clash h refl
incoming_told (Reason.BucketFilter ks) h = clash h refl
incoming_told (Reason.IncomingLimit ks) h = refl
incoming_told Reason.NewcomerDisconnected h = clash h refl
incoming_told Reason.AllConnected h = clash h refl
incoming_told (Reason.Pending j) h = clash h refl
incoming_told Reason.NoSuchKey h = clash h refl
incoming_told Reason.LocalKey h = clash h refl

inserts_fit : (x : BucketInsertResult) (r : Reason) → Fit (told_insert x) r → Fit (told_insert_or_update (inserts x)) r
inserts_fit BucketInsertResult.Inserted r h = h
inserts_fit (BucketInsertResult.Pending k) r h = h
inserts_fit BucketInsertResult.FailedFilter r h = h
inserts_fit BucketInsertResult.TooManyIncoming r h = incoming_told r h
inserts_fit BucketInsertResult.Full r h = h
inserts_fit BucketInsertResult.NodeExists r h = clash h refl

-- a key that is not held
pending_fits : (k : ℕ) (f : Node → Node) (b : Bucket) (p : Option PendingNode) → Fit (told_update (update_if_pending k f b p).0) (if_pending_reason k p)
pending_fits k f b none = refl
pending_fits k f b (some p) = split (same p.node.key k) (λ e. rw e) (λ e. rw e)

-- a status step that did not fail
placed_fits : (m n : Node) → Fit (told_update (status_result m n none)) Reason.None
placed_fits m n = split (same_status m n) (λ e. rw e) (λ e. rw e (split (promotes m n) (λ f. rw f) (λ f. rw f)))

reinsert_fits : (s : BucketSettings) (m n : Node) (b : Bucket) → Fit (told_update (status_result m n (reinsert s n b).0)) (reinsert_reason s n b)
unfolding reinsert reinsert_reason
reinsert_fits s m n b =
    split (fails_bucket_filter s n.value b) (λ e. rw e) (λ e. rw e (split (is_max_incoming s n b) (λ f. rw f) (λ f. rw f (placed_fits m n))))

module _ (s : BucketSettings) (k : ℕ) (u : Bool) (d : Option Bool) (b : Bucket) where
  status_of_fits : (o : Option Node) → Fit (told_update (update_status_of s k u d b o).0) (status_reason_of s k u d b o)
  status_of_fits none = pending_fits k (with_status u d) b b.pending
  status_of_fits (some n) = reinsert_fits s n (with_status u d n) (taken_out k u b)

  pub status_fits : Fit (told_update (update_status s k u d b).0) (status_reason s k u d b)
  unfolding update_status status_reason
  status_fits = status_of_fits (get k b)

-- a status step that failed, of a node that was held: told as TooManyIncoming
placed_stays : (m n : Node) → is_failed (status_result m n none) ≡ false
placed_stays m n = split (same_status m n) (λ e. rw e) (λ e. rw e (split (promotes m n) (λ f. rw f) (λ f. rw f)))

reinsert_told : (s : BucketSettings) (m n : Node) (b : Bucket) → is_failed (status_result m n (reinsert s n b).0) ≡ true
    → Fit (Told.Failed FailureReason.TooManyIncoming) (reinsert_reason s n b)
unfolding reinsert reinsert_reason
reinsert_told s m n b h =
    split (fails_bucket_filter s n.value b) (λ e. rw e)
    (λ e. rw e (split (is_max_incoming s n b) (λ f. rw f) (λ f. clash h (rw (e, f) (placed_stays m n)))))

module _ (s : BucketSettings) (k : ℕ) (u : Bool) (d : Option Bool) (b : Bucket) where
  status_of_told : (o : Option Node) → is_some o ≡ true → is_failed (update_status_of s k u d b o).0 ≡ true
      → Fit (Told.Failed FailureReason.TooManyIncoming) (status_reason_of s k u d b o)
  status_of_told none e h = clash e refl
  status_of_told (some n) e h = reinsert_told s n (with_status u d n) (taken_out k u b) h

  status_told : holds k b ≡ true → is_failed (update_status s k u d b).0 ≡ true → Fit (Told.Failed FailureReason.TooManyIncoming) (status_reason s k u d b)
  unfolding update_status status_reason
  status_told e h = status_of_told (get k b) e h

module _ (s : BucketSettings) (k : ℕ) (v : Value) (b : Bucket) where
  value_of_fits : (o : Option Node) → Fit (told_update (update_value_of s k v b o).0) (value_reason_of s k v b o)
  value_of_fits none = pending_fits k (with_value v) b b.pending
  value_of_fits (some n) =
      split (same_value n.value v) (λ e. rw e) (λ e. rw e (split (fails_bucket_filter s v (take_out k b)) (λ f. rw f) (λ f. rw f)))

  pub value_fits : Fit (told_update (update_value s k v b).0) (value_reason s k v b)
  unfolding update_value value_reason
  value_fits = value_of_fits (get k b)

-- The calls.

-- two steps of which the first did not fail
stays_none : (x : UpdateResult) → is_failed x ≡ false → Fit (told_update x) Reason.None
stays_none UpdateResult.Updated e = refl
stays_none UpdateResult.UpdatedAndPromoted e = refl
stays_none UpdateResult.UpdatedPending e = refl
stays_none UpdateResult.NotModified e = refl
stays_none (UpdateResult.Failed r) e = clash refl e

both_fit : (v x : UpdateResult) (r : Reason) → is_failed v ≡ false → Fit (told_update x) r → Fit (told_update (both_updates v x)) r
both_fit v (UpdateResult.Failed f) r e h = h
both_fit UpdateResult.Updated UpdateResult.Updated r e h = h
both_fit UpdateResult.Updated UpdateResult.UpdatedAndPromoted r e h = h
both_fit UpdateResult.Updated UpdateResult.UpdatedPending r e h = h
both_fit UpdateResult.Updated UpdateResult.NotModified r e h = h
both_fit UpdateResult.UpdatedAndPromoted UpdateResult.Updated r e h = h
both_fit UpdateResult.UpdatedAndPromoted UpdateResult.UpdatedAndPromoted r e h = h
both_fit UpdateResult.UpdatedAndPromoted UpdateResult.UpdatedPending r e h = h
both_fit UpdateResult.UpdatedAndPromoted UpdateResult.NotModified r e h = h
both_fit UpdateResult.UpdatedPending UpdateResult.Updated r e h = h
both_fit UpdateResult.UpdatedPending UpdateResult.UpdatedAndPromoted r e h = h
both_fit UpdateResult.UpdatedPending UpdateResult.UpdatedPending r e h = h
both_fit UpdateResult.UpdatedPending UpdateResult.NotModified r e h = h
both_fit UpdateResult.NotModified UpdateResult.Updated r e h = h
both_fit UpdateResult.NotModified UpdateResult.UpdatedAndPromoted r e h = h
both_fit UpdateResult.NotModified UpdateResult.UpdatedPending r e h = h
both_fit UpdateResult.NotModified UpdateResult.NotModified r e h = h
both_fit (UpdateResult.Failed f) UpdateResult.Updated r e h = clash refl e
both_fit (UpdateResult.Failed f) UpdateResult.UpdatedAndPromoted r e h = clash refl e
both_fit (UpdateResult.Failed f) UpdateResult.UpdatedPending r e h = clash refl e
both_fit (UpdateResult.Failed f) UpdateResult.NotModified r e h = clash refl e

insert_updates_fit : (v x : UpdateResult) (r : Reason) → is_failed x ≡ false → Fit (told_update v) r → Fit (told_insert_or_update (insert_updates v x)) r
insert_updates_fit (UpdateResult.Failed f) x r e h = h
insert_updates_fit UpdateResult.Updated UpdateResult.Updated r e h = h
insert_updates_fit UpdateResult.Updated UpdateResult.UpdatedAndPromoted r e h = h
insert_updates_fit UpdateResult.Updated UpdateResult.UpdatedPending r e h = h
insert_updates_fit UpdateResult.Updated UpdateResult.NotModified r e h = h
insert_updates_fit UpdateResult.Updated (UpdateResult.Failed f) r e h = clash refl e
insert_updates_fit UpdateResult.UpdatedAndPromoted UpdateResult.Updated r e h = h
insert_updates_fit UpdateResult.UpdatedAndPromoted UpdateResult.UpdatedAndPromoted r e h = h
insert_updates_fit UpdateResult.UpdatedAndPromoted UpdateResult.UpdatedPending r e h = h
insert_updates_fit UpdateResult.UpdatedAndPromoted UpdateResult.NotModified r e h = h
insert_updates_fit UpdateResult.UpdatedAndPromoted (UpdateResult.Failed f) r e h = clash refl e
insert_updates_fit UpdateResult.UpdatedPending UpdateResult.Updated r e h = h
insert_updates_fit UpdateResult.UpdatedPending UpdateResult.UpdatedAndPromoted r e h = h
insert_updates_fit UpdateResult.UpdatedPending UpdateResult.UpdatedPending r e h = h
insert_updates_fit UpdateResult.UpdatedPending UpdateResult.NotModified r e h = h
insert_updates_fit UpdateResult.UpdatedPending (UpdateResult.Failed f) r e h = clash refl e
insert_updates_fit UpdateResult.NotModified UpdateResult.Updated r e h = h
insert_updates_fit UpdateResult.NotModified UpdateResult.UpdatedAndPromoted r e h = h
insert_updates_fit UpdateResult.NotModified UpdateResult.UpdatedPending r e h = h
insert_updates_fit UpdateResult.NotModified UpdateResult.NotModified r e h = h
insert_updates_fit UpdateResult.NotModified (UpdateResult.Failed f) r e h = clash refl e

then_status_fits : (s : BucketSettings) (k : ℕ) (u : Option Bool) (v : UpdateResult) (b : Bucket) → is_failed v ≡ false
    → Fit (told (then_status s k u v b).0) (then_status_reason s k u b)
then_status_fits s k none v b e = stays_none v e
then_status_fits s k (some u) v b e = both_fit v (update_status s k u none b).0 (status_reason s k u none b) e (status_fits s k u none b)

update_node_fits : (s : BucketSettings) (f : Bool) (now k : ℕ) (v : Value) (u : Option Bool) (b : Bucket) (bs : ℕ → Bucket)
    → Fit (told (update_node_in s f now k v u b).0) (cond f (table_filter_reason k v bs) (update_node_reason s k v u b))
unfolding update_node_reason
update_node_fits s true now k v u b bs = refl
update_node_fits s false now k v u b bs =
    split (is_failed (update_value s k v b).0) (λ e. rw e (value_fits s k v b))
    (λ e. rw e (then_status_fits s k u (update_value s k v b).0 (update_value s k v b).1 e))

then_value_fits : (s : BucketSettings) (n : Node) (b : Bucket) → holds n.key b ≡ true
    → (let r = update_status s n.key n.connected (some n.incoming) b in
    Fit (told (then_value s n.key n.value r.0 r.1).0)
    (cond (is_failed r.0) (status_reason s n.key n.connected (some n.incoming) b) (value_reason s n.key n.value r.1)))
then_value_fits s n b h =
    split (is_failed (update_status s n.key n.connected (some n.incoming) b).0)
    (λ e. rw e (status_told s n.key n.connected (some n.incoming) b h e))
    (λ e. rw e (let x = update_status s n.key n.connected (some n.incoming) b in
    insert_updates_fit (update_value s n.key n.value x.1).0 x.0 (value_reason s n.key n.value x.1) e (value_fits s n.key n.value x.1)))

insert_or_update_fits : (s : BucketSettings) (f : Bool) (now : ℕ) (n : Node) (b : Bucket) (bs : ℕ → Bucket)
    → Fit (told (insert_or_update_in s f now n b).0) (cond f (table_filter_reason n.key n.value bs) (insert_or_update_reason s n b))
unfolding insert_or_update_reason
insert_or_update_fits s true now n b bs = refl
insert_or_update_fits s false now n b bs =
    split (holds n.key b) (λ h. rw h (then_value_fits s n b h))
    (λ h. rw h (inserts_fit (insert s now n b).0 (insert_reason s n b) (insert_fits s now n b h)))

remove_fits : (s : BucketSettings) (now k : ℕ) (b : Bucket) → Fit (Told.Removed (remove s now k b).0) (remove_reason k b)
unfolding remove remove_reason
remove_fits s now k b = split (holds k b) (λ e. rw e) (λ e. rw e)

own_fits : (c : KeyCall) → own_told (told (own_answer c)) ≡ true
own_fits (KeyCall.update_node_status st dr now) = refl
own_fits (KeyCall.update_node v st now) = refl
own_fits (KeyCall.insert_or_update v st dr now hs) = refl
own_fits (KeyCall.remove now) = refl
own_fits (KeyCall.entry now) = refl
own_fits (KeyCall.present_update st dr) = refl
own_fits (KeyCall.pending_update st dr) = refl
own_fits (KeyCall.absent_insert v st dr now hs) = refl

on_index : (c : KeyCall) (k : List ℕ) (t : Table) (o : Option ℕ) → (key_arguments c).kind (kind_in t (number k) o) ≡ true
    → key_fits o (told (on_key t (own_answer c) (effect c k t) o).answer) (key_reason (bucket_reason c k t) o) ≡ true
on_index c k t none h = own_fits c
on_index (KeyCall.update_node_status st dr now) k t (some i) h = status_fits t.settings.bucket (number k) (is_one st) (optional dr) (applied now t i)
on_index (KeyCall.update_node v st now) k t (some i) h =
    update_node_fits t.settings.bucket (fails_table_filter t i (number k) (value_of v)) now (number k) (value_of v) (optional st) (applied now t i) t.buckets
on_index (KeyCall.insert_or_update v st dr now hs) k t (some i) h =
    insert_or_update_fits t.settings.bucket (fails_table_filter t i (number k) (value_of v)) now (node_of k v st dr) (applied now t i) t.buckets
on_index (KeyCall.remove now) k t (some i) h = remove_fits t.settings.bucket now (number k) (applied now t i)
on_index (KeyCall.entry now) k t (some i) h = refl
on_index (KeyCall.present_update st dr) k t (some i) h = status_fits t.settings.bucket (number k) (is_one st) (optional dr) (t.buckets i)
on_index (KeyCall.pending_update st dr) k t (some i) h = refl
on_index (KeyCall.absent_insert v st dr now hs) k t (some i) h =
    insert_fits t.settings.bucket now (node_of k v st dr) (t.buckets i) (absent_not_held (number k) (t.buckets i) h)

-- 02: the reason of a call whose key is of the kind that it needs stands with its answer, on every table
pub reason_fits_lem : (c : KeyCall) (k : List ℕ) (t : Table) → kind_fits (Call.on_key k c) t ≡ true
    → key_fits (index_in t (number k)) (told (act (Call.on_key k c) t).answer) (reason c k t) ≡ true
unfolding act kind_fits reason
reason_fits_lem c k t h = on_index c k t (index_in t (number k)) h
