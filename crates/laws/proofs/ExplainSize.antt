-- The keys of an explanation are below 2 ^ 256, and its line fits the output that is asked for (02, slip 1).
use Prim.Native.Nat.{ℕ, suc, ◌+◌, ◌*◌, ◌≤◌}
use native.Mathlib.Omega.{arith}
use mathlib.Core.Path.{◌≡◌, refl, ap, ◌∙◌}
use mathlib.Core.Bool.{Bool, true, false}
use mathlib.Core.List.{List, [], ◌∷◌, ◌++◌}
use mathlib.Core.Option.{Option, none, some}
use lib.ListN.{length, take, length-append}
use Rattle.model.specs.Base.{same}
use Rattle.model.specs.Bytes.{number, bytes}
use Rattle.model.specs.Value.{Value, same_value}
use Rattle.model.specs.Node.{Node, PendingNode, connected_incoming, with_status}
use Rattle.model.specs.Filter.{counts, counted, max_nodes_per_subnet_table, max_nodes_per_subnet_bucket}
use Rattle.model.specs.Result.{FailureReason, BucketInsertResult, UpdateResult, is_failed}
use Rattle.model.specs.Bucket.{Bucket, BucketSettings, max_nodes_per_bucket, nodes, get, holds, is_full, fails_bucket_filter, incoming_nodes, is_max_incoming, take_out, taken_out, insert_full, insert, update_status, update_value}
use Rattle.model.specs.Table.{Table, Answer, num_buckets, held_nodes, other_nodes, fails_table_filter, both_updates, then_status, update_node_in, insert_updates, inserts, then_value, insert_or_update_in, index_in}
use Rattle.model.specs.Sizes.{key_size}
use Rattle.model.specs.Call.{Call, KeyCall, is_one, optional, value_of}
use Rattle.model.specs.Listing.{applied}
use Rattle.model.specs.Question.{kind_fits}
use Rattle.model.specs.Step.{on_key, node_of, own_answer, effect, act}
use Rattle.model.specs.Fits.{All, Opt, Each, Any, FitsNode, FitsPending, FitsBucket, Fits}
use Rattle.model.specs.Explain.{Told, Reason, told_update, told_insert_or_update, told_insert, told, keys_of, filter_keys, table_filter_reason, full_reason, insert_reason, reinsert_reason, if_pending_reason, status_reason_of, status_reason, value_reason_of, value_reason, then_status_reason, update_node_reason, insert_or_update_reason, remove_reason, bucket_reason, key_reason, reason, explanation, space, line_feed, digits, key_text, failure_text, flag_text, told_text, reason_text, reason_keys, keys_text, line, explanation_room}
use Rattle.laws.proofs.Tests.{clash, cases}
use Rattle.laws.proofs.Lists.{length_joined}
use Rattle.laws.proofs.All.{all_any, all_map, all_take, all_select, all_held, opt_map}
use Rattle.laws.proofs.Bytes.{length_bytes}
use Rattle.laws.proofs.KeepLists.{all_omit}
use Rattle.laws.proofs.KeepEach.{take_out_each, apply_pending_each, update_status_each, update_value_each}
use Rattle.laws.proofs.ExplainRead.{FitsKey, told_keys, FitsExplanation}
use Rattle.laws.proofs.ExplainReason.{key_fits, reason_fits, reason_fits_lem}
use Rattle.laws.proofs.ExplainNames.{Names, reason_names}

-- The keys.

abbrev KeyFits : Node → Type 0
KeyFits n = FitsKey n.key

-- every key of a bucket, held or pending, is below 2 ^ 256
abbrev KeysFit : Bucket → Type 0
KeysFit = Each KeyFits Any

keys_fit : (b : Bucket) → FitsBucket b → KeysFit b
keys_fit b e =
    record {
      held = all_map FitsNode KeyFits (λ n h. h.key) (nodes b) e.held;
      pending = opt_map FitsPending (λ (p : PendingNode). KeyFits p.node × Any p.deadline) (λ p h. (h.0.key, tt)) b.pending e.pending;
    }

keys_of_lem : (ns : List Node) → All KeyFits ns → All FitsKey (keys_of ns)
keys_of_lem [] h = tt
keys_of_lem (n ∷ ns) h = (h.0, keys_of_lem ns h.1)

filter_fits : (limit : ℕ) (v : Value) (ns : List Node) → All KeyFits ns → All FitsKey (filter_keys limit v ns)
unfolding filter_keys
filter_fits limit v ns h =
    keys_of_lem (take limit (counted v ns)) (all_take KeyFits limit (counted v ns) (all_select KeyFits (λ (n : Node). counts v n.value) ns h))

abbrev Fit : Reason → Type 0
Fit r = All FitsKey (reason_keys r)

incoming_fits : (ns : List Node) → All KeyFits ns → All FitsKey (keys_of (incoming_nodes ns))
incoming_fits ns h = keys_of_lem (incoming_nodes ns) (all_select KeyFits connected_incoming ns h)

full_fits : (u : Bool) (ds : List Node) (p : Option PendingNode) → Opt (λ (q : PendingNode). KeyFits q.node × Any q.deadline) p → Fit (full_reason u ds p)
full_fits false ds p h = tt
full_fits true [] p h = tt
full_fits true (d ∷ ds) none h = tt
full_fits true (d ∷ ds) (some p) h = (h.0, tt)

absent_fits : (k : ℕ) (p : Option PendingNode) → Fit (if_pending_reason k p)
absent_fits k none = tt
absent_fits k (some p) = cases Fit (same p.node.key k) (λ _. tt) (λ _. tt)

module _ (s : BucketSettings) where
  insert_fits : (n : Node) (b : Bucket) → KeysFit b → Fit (insert_reason s n b)
  unfolding insert_reason
  insert_fits n b e =
      cases Fit (fails_bucket_filter s n.value b) (λ _. filter_fits max_nodes_per_subnet_bucket n.value (nodes b) e.held)
      (λ _. cases Fit (is_max_incoming s n b) (λ _. incoming_fits (nodes b) e.held)
      (λ _. cases Fit (is_full b) (λ _. full_fits n.connected b.disconnected b.pending e.pending) (λ _. tt)))

  reinsert_fits : (n : Node) (b : Bucket) → All KeyFits (nodes b) → Fit (reinsert_reason s n b)
  unfolding reinsert_reason
  reinsert_fits n b e =
      cases Fit (fails_bucket_filter s n.value b) (λ _. filter_fits max_nodes_per_subnet_bucket n.value (nodes b) e)
      (λ _. cases Fit (is_max_incoming s n b) (λ _. incoming_fits (nodes b) e) (λ _. tt))

  status_of_fits : (k : ℕ) (u : Bool) (d : Option Bool) (b : Bucket) (o : Option Node) → KeysFit b → Fit (status_reason_of s k u d b o)
  status_of_fits k u d b none e = absent_fits k b.pending
  status_of_fits k u d b (some n) e = reinsert_fits (with_status u d n) (taken_out k u b) (take_out_each KeyFits Any k b e).held

  status_fits : (k : ℕ) (u : Bool) (d : Option Bool) (b : Bucket) → KeysFit b → Fit (status_reason s k u d b)
  unfolding status_reason
  status_fits k u d b e = status_of_fits k u d b (get k b) e

  value_of_fits : (k : ℕ) (v : Value) (b : Bucket) (o : Option Node) → KeysFit b → Fit (value_reason_of s k v b o)
  value_of_fits k v b none e = absent_fits k b.pending
  value_of_fits k v b (some n) e =
      cases Fit (same_value n.value v) (λ _. tt)
      (λ _. cases Fit (fails_bucket_filter s v (take_out k b)) (λ _. filter_fits max_nodes_per_subnet_bucket v (nodes (take_out k b)) (take_out_each KeyFits Any k b e).held) (λ _. tt))

  value_fits : (k : ℕ) (v : Value) (b : Bucket) → KeysFit b → Fit (value_reason s k v b)
  unfolding value_reason
  value_fits k v b e = value_of_fits k v b (get k b) e

  then_fits : (k : ℕ) (u : Option Bool) (b : Bucket) → KeysFit b → Fit (then_status_reason s k u b)
  then_fits k none b e = tt
  then_fits k (some u) b e = status_fits k u none b e

  update_fits : (k : ℕ) (v : Value) (u : Option Bool) (b : Bucket) → KeysFit b → Fit (update_node_reason s k v u b)
  unfolding update_node_reason
  update_fits k v u b e =
      cases Fit (is_failed (update_value s k v b).0) (λ _. value_fits k v b e)
      (λ _. then_fits k u (update_value s k v b).1 (update_value_each KeyFits Any s k v b (λ n h. h) e))

  insert_or_update_fits : (n : Node) (b : Bucket) → KeysFit b → Fit (insert_or_update_reason s n b)
  unfolding insert_or_update_reason
  insert_or_update_fits n b e =
      cases Fit (holds n.key b)
      (λ _. cases Fit (is_failed (update_status s n.key n.connected (some n.incoming) b).0)
      (λ _. status_fits n.key n.connected (some n.incoming) b e)
      (λ _. value_fits n.key n.value (update_status s n.key n.connected (some n.incoming) b).1
      (update_status_each KeyFits Any s n.key n.connected (some n.incoming) b (λ m h. h) e)))
      (λ _. insert_fits n b e)

  remove_fits : (k : ℕ) (b : Bucket) → Fit (remove_reason k b)
  unfolding remove_reason
  remove_fits k b = cases Fit (holds k b) (λ _. tt) (λ _. tt)

-- The key that an answer names: Pending names place 0.

abbrev ToldFit : Told → Type 0
ToldFit t = All FitsKey (told_keys t)

update_told : (x : UpdateResult) → ToldFit (told_update x)
update_told UpdateResult.Updated = tt
update_told UpdateResult.UpdatedAndPromoted = tt
update_told UpdateResult.UpdatedPending = tt
update_told UpdateResult.NotModified = tt
update_told (UpdateResult.Failed r) = tt

insert_updates_told : (v x : UpdateResult) → ToldFit (told_insert_or_update (insert_updates v x))
insert_updates_told (UpdateResult.Failed f) x = tt
insert_updates_told UpdateResult.Updated UpdateResult.Updated = tt
insert_updates_told UpdateResult.Updated UpdateResult.UpdatedAndPromoted = tt
insert_updates_told UpdateResult.Updated UpdateResult.UpdatedPending = tt
insert_updates_told UpdateResult.Updated UpdateResult.NotModified = tt
insert_updates_told UpdateResult.Updated (UpdateResult.Failed f) = tt
insert_updates_told UpdateResult.UpdatedAndPromoted UpdateResult.Updated = tt
insert_updates_told UpdateResult.UpdatedAndPromoted UpdateResult.UpdatedAndPromoted = tt
insert_updates_told UpdateResult.UpdatedAndPromoted UpdateResult.UpdatedPending = tt
insert_updates_told UpdateResult.UpdatedAndPromoted UpdateResult.NotModified = tt
insert_updates_told UpdateResult.UpdatedAndPromoted (UpdateResult.Failed f) = tt
insert_updates_told UpdateResult.UpdatedPending UpdateResult.Updated = tt
insert_updates_told UpdateResult.UpdatedPending UpdateResult.UpdatedAndPromoted = tt
insert_updates_told UpdateResult.UpdatedPending UpdateResult.UpdatedPending = tt
insert_updates_told UpdateResult.UpdatedPending UpdateResult.NotModified = tt
insert_updates_told UpdateResult.UpdatedPending (UpdateResult.Failed f) = tt
insert_updates_told UpdateResult.NotModified UpdateResult.Updated = tt
insert_updates_told UpdateResult.NotModified UpdateResult.UpdatedAndPromoted = tt
insert_updates_told UpdateResult.NotModified UpdateResult.UpdatedPending = tt
insert_updates_told UpdateResult.NotModified UpdateResult.NotModified = tt
insert_updates_told UpdateResult.NotModified (UpdateResult.Failed f) = tt

inserts_told : (x : BucketInsertResult) → ToldFit (told_insert x) → ToldFit (told_insert_or_update (inserts x))
inserts_told BucketInsertResult.Inserted h = tt
inserts_told (BucketInsertResult.Pending k) h = h
inserts_told BucketInsertResult.FailedFilter h = tt
inserts_told BucketInsertResult.TooManyIncoming h = tt
inserts_told BucketInsertResult.Full h = tt
inserts_told BucketInsertResult.NodeExists h = tt

module _ (s : BucketSettings) (now : ℕ) (n : Node) (b : Bucket) where
  abbrev AnswerFits : BucketInsertResult × Bucket → Type 0
  AnswerFits r = ToldFit (told_insert r.0)

  full_told : (u : Bool) (ds cs : List Node) (p : Option PendingNode) → All KeyFits (ds ++ cs) → AnswerFits (insert_full s now n b u ds p)
  full_told false ds cs p h = tt
  full_told true [] cs p h = tt
  full_told true (d ∷ ds) cs none h = (h.0, tt)
  full_told true (d ∷ ds) cs (some p) h = tt

  insert_told : All KeyFits (nodes b) → ToldFit (told_insert (insert s now n b).0)
  unfolding insert
  insert_told e =
      cases AnswerFits (holds n.key b) (λ _. tt)
      (λ _. cases AnswerFits (fails_bucket_filter s n.value b) (λ _. tt)
      (λ _. cases AnswerFits (is_max_incoming s n b) (λ _. tt)
      (λ _. cases AnswerFits (is_full b) (λ _. full_told n.connected b.disconnected b.connected b.pending e) (λ _. tt))))

then_told : (s : BucketSettings) (k : ℕ) (u : Option Bool) (v : UpdateResult) (b : Bucket) → ToldFit (told (then_status s k u v b).0)
then_told s k none v b = update_told v
then_told s k (some u) v b = update_told (both_updates v (update_status s k u none b).0)

update_node_told : (s : BucketSettings) (f : Bool) (now k : ℕ) (v : Value) (u : Option Bool) (b : Bucket) → ToldFit (told (update_node_in s f now k v u b).0)
update_node_told s true now k v u b = tt
update_node_told s false now k v u b =
    cases (λ (r : Answer × Bucket). ToldFit (told r.0)) (is_failed (update_value s k v b).0) (λ _. update_told (update_value s k v b).0)
    (λ _. then_told s k u (update_value s k v b).0 (update_value s k v b).1)

then_value_told : (s : BucketSettings) (k : ℕ) (v : Value) (x : UpdateResult) (b : Bucket) → ToldFit (told (then_value s k v x b).0)
then_value_told s k v x b =
    cases (λ (r : Answer × Bucket). ToldFit (told r.0)) (is_failed x) (λ _. tt) (λ _. insert_updates_told (update_value s k v b).0 x)

insert_or_update_told : (s : BucketSettings) (f : Bool) (now : ℕ) (n : Node) (b : Bucket) → KeysFit b → ToldFit (told (insert_or_update_in s f now n b).0)
insert_or_update_told s true now n b e = tt
insert_or_update_told s false now n b e =
    let r = update_status s n.key n.connected (some n.incoming) b in
    cases (λ (x : Answer × Bucket). ToldFit (told x.0)) (holds n.key b) (λ _. then_value_told s n.key n.value r.0 r.1)
    (λ _. inserts_told (insert s now n b).0 (insert_told s now n b e.held))

own_told : (c : KeyCall) → ToldFit (told (own_answer c))
own_told (KeyCall.update_node_status st dr now) = tt
own_told (KeyCall.update_node v st now) = tt
own_told (KeyCall.insert_or_update v st dr now hs) = tt
own_told (KeyCall.remove now) = tt
own_told (KeyCall.entry now) = tt
own_told (KeyCall.present_update st dr) = tt
own_told (KeyCall.pending_update st dr) = tt
own_told (KeyCall.absent_insert v st dr now hs) = tt

module _ (t : Table) (fits : Fits t) where
  stored_keys : (i : ℕ) → KeysFit (t.buckets i)
  stored_keys i = keys_fit (t.buckets i) (fits.buckets i)

  applied_keys : (now i : ℕ) → KeysFit (applied now t i)
  applied_keys now i = apply_pending_each KeyFits Any t.settings.bucket now (t.buckets i) (stored_keys i)

  table_fits : (k : ℕ) (v : Value) → Fit (table_filter_reason k v t.buckets)
  table_fits k v =
      filter_fits max_nodes_per_subnet_table v (other_nodes k t.buckets)
      (all_omit KeyFits k (held_nodes num_buckets t.buckets) (all_held KeyFits num_buckets t.buckets (λ i l. (stored_keys i).held)))

  reason_at : (c : KeyCall) (k : List ℕ) (i : ℕ) → Fit (bucket_reason c k t i)
  reason_at (KeyCall.update_node_status st dr now) k i =
      status_fits t.settings.bucket (number k) (is_one st) (optional dr) (applied now t i) (applied_keys now i)
  reason_at (KeyCall.update_node v st now) k i =
      cases Fit (fails_table_filter t i (number k) (value_of v)) (λ _. table_fits (number k) (value_of v))
      (λ _. update_fits t.settings.bucket (number k) (value_of v) (optional st) (applied now t i) (applied_keys now i))
  reason_at (KeyCall.insert_or_update v st dr now hs) k i =
      cases Fit (fails_table_filter t i (number k) (value_of v)) (λ _. table_fits (number k) (value_of v))
      (λ _. insert_or_update_fits t.settings.bucket (node_of k v st dr) (applied now t i) (applied_keys now i))
  reason_at (KeyCall.remove now) k i = remove_fits t.settings.bucket (number k) (applied now t i)
  reason_at (KeyCall.entry now) k i = tt
  reason_at (KeyCall.present_update st dr) k i =
      status_fits t.settings.bucket (number k) (is_one st) (optional dr) (t.buckets i) (stored_keys i)
  reason_at (KeyCall.pending_update st dr) k i = tt
  reason_at (KeyCall.absent_insert v st dr now hs) k i = insert_fits t.settings.bucket (node_of k v st dr) (t.buckets i) (stored_keys i)

  told_at : (c : KeyCall) (k : List ℕ) (i : ℕ) → ToldFit (told (effect c k t i (t.buckets i)).answer)
  told_at (KeyCall.update_node_status st dr now) k i =
      update_told (update_status t.settings.bucket (number k) (is_one st) (optional dr) (applied now t i)).0
  told_at (KeyCall.update_node v st now) k i =
      update_node_told t.settings.bucket (fails_table_filter t i (number k) (value_of v)) now (number k) (value_of v) (optional st) (applied now t i)
  told_at (KeyCall.insert_or_update v st dr now hs) k i =
      insert_or_update_told t.settings.bucket (fails_table_filter t i (number k) (value_of v)) now (node_of k v st dr) (applied now t i) (applied_keys now i)
  told_at (KeyCall.remove now) k i = tt
  told_at (KeyCall.entry now) k i = tt
  told_at (KeyCall.present_update st dr) k i = update_told (update_status t.settings.bucket (number k) (is_one st) (optional dr) (t.buckets i)).0
  told_at (KeyCall.pending_update st dr) k i = tt
  told_at (KeyCall.absent_insert v st dr now hs) k i = insert_told t.settings.bucket now (node_of k v st dr) (t.buckets i) (stored_keys i).held

  fits_of : (c : KeyCall) (k : List ℕ) (o : Option ℕ)
      → FitsExplanation (record { told = told (on_key t (own_answer c) (effect c k t) o).answer; reason = key_reason (bucket_reason c k t) o })
  fits_of c k none = record { told = own_told c; reason = tt }
  fits_of c k (some i) = record { told = told_at c k i; reason = reason_at c k i }

  -- every key of an explanation is below 2 ^ 256
  pub explanation_fits : (c : KeyCall) (k : List ℕ) → FitsExplanation (explanation c k t)
  unfolding explanation act reason
  explanation_fits c k = fits_of c k (index_in t (number k))

-- The line's length.

pub length_key : (k : ℕ) → length (key_text k) ≡ 64
unfolding key_text
length_key k =
    length_joined digits 2 (bytes key_size k) (all_any (λ (b : ℕ). length (digits b) ≡ 2) (bytes key_size k) (λ b. refl)) ∙ ap (λ (n : ℕ). n * 2) (length_bytes key_size k)

-- a key, and the space in front of it
pub length_keys : (ks : List ℕ) → length (keys_text ks) ≡ length ks * 65
unfolding keys_text
length_keys ks =
    length_joined (λ (k : ℕ). space ∷ key_text k) 65 ks (all_any (λ (k : ℕ). length (space ∷ key_text k) ≡ 65) ks (λ k. ap (λ (n : ℕ). suc n) (length_key k)))

length_failure : (r : FailureReason) → length (failure_text r) ≤ 17
length_failure FailureReason.TooManyIncoming = omega arith
length_failure FailureReason.BucketFilter = omega arith
length_failure FailureReason.TableFilter = omega arith
length_failure FailureReason.KeyNonExistent = omega arith
length_failure FailureReason.BucketFull = omega arith
length_failure FailureReason.InvalidSelfUpdate = omega arith

length_flag : (p : Bool) → length (flag_text p) ≤ 5
length_flag true = omega arith
length_flag false = omega arith

-- the longest answer is Pending with its key
pub length_told : (t : Told) → length (told_text t) ≤ 72
length_told (Told.Pending k) = omega (arith, length_key k)
length_told (Told.StatusUpdated p) = omega (arith, length_flag p)
length_told (Told.UpdatedBoth p) = omega (arith, length_flag p)
length_told (Told.Failed r) = omega (arith, length_failure r)
length_told (Told.Removed r) = omega (arith, length_flag r)
length_told Told.Inserted = omega arith
length_told Told.ValueUpdated = omega arith
length_told Told.Updated = omega arith
length_told Told.UpdatedAndPromoted = omega arith
length_told Told.UpdatedPending = omega arith
length_told Told.NotModified = omega arith
length_told Told.FailedFilter = omega arith
length_told Told.TooManyIncoming = omega arith
length_told Told.Full = omega arith
length_told Told.NodeExists = omega arith

-- with the incoming limit stands TooManyIncoming or Failed TooManyIncoming
incoming_told : (t : Told) (ks : List ℕ) → reason_fits t (Reason.IncomingLimit ks) ≡ true → length (told_text t) ≤ 22
incoming_told Told.TooManyIncoming ks h = omega arith
incoming_told (Told.Failed FailureReason.TooManyIncoming) ks h = omega arith
incoming_told (Told.Failed FailureReason.BucketFilter) ks h = clash h refl
incoming_told (Told.Failed FailureReason.TableFilter) ks h = clash h refl
incoming_told (Told.Failed FailureReason.KeyNonExistent) ks h = clash h refl
incoming_told (Told.Failed FailureReason.BucketFull) ks h = clash h refl
incoming_told (Told.Failed FailureReason.InvalidSelfUpdate) ks h = clash h refl
incoming_told (Told.Pending k) ks h = clash h refl
incoming_told (Told.StatusUpdated p) ks h = clash h refl
incoming_told (Told.UpdatedBoth p) ks h = clash h refl
incoming_told (Told.Removed true) ks h = clash h refl
incoming_told (Told.Removed false) ks h = clash h refl
incoming_told Told.Inserted ks h = clash h refl
incoming_told Told.ValueUpdated ks h = clash h refl
incoming_told Told.Updated ks h = clash h refl
incoming_told Told.UpdatedAndPromoted ks h = clash h refl
incoming_told Told.UpdatedPending ks h = clash h refl
incoming_told Told.NotModified ks h = clash h refl
incoming_told Told.FailedFilter ks h = clash h refl
incoming_told Told.Full ks h = clash h refl
incoming_told Told.NodeExists ks h = clash h refl

pub length_line : (t : Told) (r : Reason) → length (line (record { told = t; reason = r })) ≡ length (told_text t) + 1 + length (reason_text r) + length (reason_keys r) * 65 + 1
unfolding line
length_line t r =
    let ks = reason_keys r in
    let a = length-append (told_text t) (space ∷ (reason_text r ++ (keys_text ks ++ (line_feed ∷ [])))) in
    let b = length-append (reason_text r) (keys_text ks ++ (line_feed ∷ [])) in
    let c = length-append (keys_text ks) (line_feed ∷ []) in
    let d = length_keys ks in
    omega arith

-- the longest line: Failed TooManyIncoming incoming limit, and 16 keys
abbrev pub longest_line : ℕ
longest_line = 38 + 16 * 65

line_within : (m : ℕ) (o : Option ℕ) (t : Told) (r : Reason) → m ≤ max_nodes_per_bucket → Names m r → key_fits o t r ≡ true
    → length (line (record { told = t; reason = r })) ≤ longest_line
line_within m o t Reason.None l n h = omega (arith, length_line t Reason.None, length_told t)
line_within m o t (Reason.TableFilter ks) l n h = omega (arith, length_line t (Reason.TableFilter ks), length_told t)
line_within m o t (Reason.BucketFilter ks) l n h = omega (arith, length_line t (Reason.BucketFilter ks), length_told t)
line_within m none t (Reason.IncomingLimit ks) l n h = clash h refl
line_within m (some i) t (Reason.IncomingLimit ks) l n h = omega (arith, length_line t (Reason.IncomingLimit ks), incoming_told t ks h)
line_within m o t Reason.NewcomerDisconnected l n h = omega (arith, length_line t Reason.NewcomerDisconnected, length_told t)
line_within m o t Reason.AllConnected l n h = omega (arith, length_line t Reason.AllConnected, length_told t)
line_within m o t (Reason.Pending j) l n h = omega (arith, length_line t (Reason.Pending j), length_told t)
line_within m o t Reason.NoSuchKey l n h = omega (arith, length_line t Reason.NoSuchKey, length_told t)
line_within m o t Reason.LocalKey l n h = omega (arith, length_line t Reason.LocalKey, length_told t)

-- the line of an explanation whose key is of the kind that the call needs
pub line_length : (t : Table) → Fits t → (c : KeyCall) (k : List ℕ) → kind_fits (Call.on_key k c) t ≡ true → length (line (explanation c k t)) ≤ longest_line
unfolding explanation
line_length t fits c k h =
    line_within t.settings.bucket.max_incoming (index_in t (number k)) (told (act (Call.on_key k c) t).answer) (reason c k t) fits.settings.max_incoming
    (reason_names t fits c k) (reason_fits_lem c k t h)

-- 2,048 bytes are enough
pub line_room : longest_line ≤ explanation_room
line_room = omega arith
