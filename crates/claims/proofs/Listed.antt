-- Each call answers what it can answer (specs/Listed), and nothing else.
use Prim.Native.Nat.{ℕ}
use mathlib.Core.Path.{◌≡◌, refl, ap, ◌∙◌}
use mathlib.Core.Bool.{Bool, true, false}
use mathlib.Core.List.{List, [], ◌∷◌}
use mathlib.Core.Option.{Option, none, some}
use Rattle.model.specs.Base.{same, is_some}
use Rattle.model.specs.Bytes.{number}
use Rattle.model.specs.Node.{Node, PendingNode, EndedPending, with_status, with_value, same_status, promotes}
use Rattle.model.specs.Value.{Value, same_value}
use Rattle.model.specs.Result.{FailureReason, BucketInsertResult, UpdateResult, InsertResult, is_failed}
use Rattle.model.specs.Bucket.{Bucket, BucketSettings, holds, get, fails_bucket_filter, is_max_incoming, take_out, insert, reinsert, taken_out, status_result, update_if_pending, update_status_of, update_status, update_value_of, update_value}
use Rattle.model.specs.Table.{Table, EntryKind, Answer, fails_table_filter, kind_of, kind_in, index_in, both_updates, insert_updates, inserts, then_status, update_node_in, insert_or_update_in}
use Rattle.model.specs.Call.{Call, KeyCall, is_one, optional, value_of}
use Rattle.model.specs.Question.{first_failed, key_arguments, kind_fits}
use Rattle.model.specs.Layout.{table_of}
use Rattle.model.specs.Step.{on_key, node_of, own_answer, effect, take_oldest, act}
use Rattle.model.specs.StepBytes.{all_questions, unless_refused_bytes, step_bytes}
use Rattle.table_log.specs.Log.{is_refused}
use Rattle.laws.proofs.Tests.{clash, cases, or_second}
use Rattle.laws.proofs.Questions.{accepted_bytes}
use Rattle.laws.proofs.Unreachable.{absent_not_held, absent_not_exists, present_held, present_stays}
use Rattle.claims.specs.Listed
use Rattle.claims.specs.Listed.{reasons, updates, status_updates, node_updates, present_updates, value_updates, insert_results, absent_inserts, no, kinds, among, key_kinds, kinds_of, can_answer}
use Rattle.claims.specs.Ran.{Ran}
use Rattle.claims.proofs.Ran.{equation}

-- The status step and the value step, for any test p of their answers.
module _ (p : UpdateResult → Bool) where
  status_result_lem : (m n : Node) → p UpdateResult.NotModified ≡ true → p UpdateResult.Updated ≡ true → p UpdateResult.UpdatedAndPromoted ≡ true
      → p (status_result m n none) ≡ true
  status_result_lem m n a b c =
      cases (λ (r : UpdateResult). p r ≡ true) (same_status m n) (λ _. a) (λ _. cases (λ (r : UpdateResult). p r ≡ true) (promotes m n) (λ _. c) (λ _. b))

  reinserted : (s : BucketSettings) (m n : Node) (b : Bucket) → p (status_result m n none) ≡ true → p (UpdateResult.Failed FailureReason.TooManyIncoming) ≡ true
      → p (UpdateResult.Failed FailureReason.BucketFilter) ≡ true → p (status_result m n (reinsert s n b).0) ≡ true
  unfolding reinsert
  reinserted s m n b x y z =
      let Q : Option FailureReason × Bucket → Type 0 = λ r. p (status_result m n r.0) ≡ true in
      cases Q (fails_bucket_filter s n.value b) (λ _. z) (λ _. cases Q (is_max_incoming s n b) (λ _. y) (λ _. x))

  if_pending : (k : ℕ) (f : Node → Node) (b : Bucket) (o : Option PendingNode) → p UpdateResult.UpdatedPending ≡ true
      → p (UpdateResult.Failed FailureReason.KeyNonExistent) ≡ true → p (update_if_pending k f b o).0 ≡ true
  if_pending k f b none x y = y
  if_pending k f b (some q) x y = cases (λ (r : UpdateResult × Bucket). p r.0 ≡ true) (same q.node.key k) (λ _. x) (λ _. y)

-- what the status step answers on a held key, and on any
held_status : (s : BucketSettings) (k : ℕ) (u : Bool) (d : Option Bool) (b : Bucket) → holds k b ≡ true → present_updates (update_status s k u d b).0 ≡ true
unfolding update_status
held_status s k u d b h = found (get k b) h
  where
    found : (o : Option Node) → is_some o ≡ true → present_updates (update_status_of s k u d b o).0 ≡ true
    found none h = clash h refl
    found (some n) h =
        reinserted present_updates s n (with_status u d n) (taken_out k u b)
        (status_result_lem present_updates n (with_status u d n) refl refl refl) refl refl

any_status : (p : UpdateResult → Bool) (s : BucketSettings) (k : ℕ) (u : Bool) (d : Option Bool) (b : Bucket) → p UpdateResult.NotModified ≡ true
    → p UpdateResult.Updated ≡ true → p UpdateResult.UpdatedAndPromoted ≡ true → p UpdateResult.UpdatedPending ≡ true
    → p (UpdateResult.Failed FailureReason.TooManyIncoming) ≡ true → p (UpdateResult.Failed FailureReason.BucketFilter) ≡ true
    → p (UpdateResult.Failed FailureReason.KeyNonExistent) ≡ true → p (update_status s k u d b).0 ≡ true
unfolding update_status
any_status p s k u d b x y z w f g h = found (get k b)
  where
    found : (o : Option Node) → p (update_status_of s k u d b o).0 ≡ true
    found none = if_pending p k (with_status u d) b b.pending w h
    found (some n) =
        reinserted p s n (with_status u d n) (taken_out k u b)
        (status_result_lem p n (with_status u d n) x y z) f g

-- what the value step answers on a held key
abbrev held_values : UpdateResult → Bool
held_values r = updates true true false false (reasons false true false false false false) r

held_value : (s : BucketSettings) (k : ℕ) (v : Value) (b : Bucket) → holds k b ≡ true → held_values (update_value s k v b).0 ≡ true
unfolding update_value
held_value s k v b h = found (get k b) h
  where
    found : (o : Option Node) → is_some o ≡ true → held_values (update_value_of s k v b o).0 ≡ true
    found none h = clash h refl
    found (some n) h =
        let Q : UpdateResult × Bucket → Type 0 = λ r. held_values r.0 ≡ true in
        cases Q (same_value n.value v) (λ _. refl) (λ _. cases Q (fails_bucket_filter s v (take_out k b)) (λ _. refl) (λ _. refl))

any_value : (p : UpdateResult → Bool) (s : BucketSettings) (k : ℕ) (v : Value) (b : Bucket) → p UpdateResult.NotModified ≡ true
    → p UpdateResult.Updated ≡ true → p UpdateResult.UpdatedPending ≡ true → p (UpdateResult.Failed FailureReason.BucketFilter) ≡ true
    → p (UpdateResult.Failed FailureReason.KeyNonExistent) ≡ true → p (update_value s k v b).0 ≡ true
unfolding update_value
any_value p s k v b x y z f g = found (get k b)
  where
    found : (o : Option Node) → p (update_value_of s k v b o).0 ≡ true
    found none = if_pending p k (with_value v) b b.pending z g
    found (some n) =
        let Q : UpdateResult × Bucket → Type 0 = λ r. p r.0 ≡ true in
        cases Q (same_value n.value v) (λ _. x) (λ _. cases Q (fails_bucket_filter s v (take_out k b)) (λ _. f) (λ _. y))

-- a bucket's update_status and update_value
pub status_listed : (s : BucketSettings) (k : ℕ) (u : Bool) (d : Option Bool) (b : Bucket) → status_updates (update_status s k u d b).0 ≡ true
status_listed s k u d b = any_status status_updates s k u d b refl refl refl refl refl refl refl

pub value_listed : (s : BucketSettings) (k : ℕ) (v : Value) (b : Bucket) → value_updates (update_value s k v b).0 ≡ true
value_listed s k v b = any_value value_updates s k v b refl refl refl refl refl

-- an answer of a call on one key, beside its bucket
abbrev Holds : (Answer → Bool) → Answer × Bucket → Type 0
Holds q r = q r.0 ≡ true

-- a test of answers that what the two steps of update_node answer passes
pub record OfNode (q : Answer → Bool) : Type 0 where
  pub not_modified : q (Answer.Update UpdateResult.NotModified) ≡ true
  pub updated : q (Answer.Update UpdateResult.Updated) ≡ true
  pub promoted : q (Answer.Update UpdateResult.UpdatedAndPromoted) ≡ true
  pub pending : q (Answer.Update UpdateResult.UpdatedPending) ≡ true
  pub too_many : q (Answer.Update (UpdateResult.Failed FailureReason.TooManyIncoming)) ≡ true
  pub filtered : q (Answer.Update (UpdateResult.Failed FailureReason.BucketFilter)) ≡ true
  pub no_key : q (Answer.Update (UpdateResult.Failed FailureReason.KeyNonExistent)) ≡ true

module _ (q : Answer → Bool) (w : OfNode q) where
  abbrev passes : UpdateResult → Bool
  passes r = q (Answer.Update r)

  -- either step's failure, or none
  both : (v r : UpdateResult) → passes v ≡ true → passes r ≡ true → passes (both_updates v r) ≡ true
  both v (UpdateResult.Failed r) h g = g
  both (UpdateResult.Failed r) UpdateResult.UpdatedAndPromoted h g = h
  both (UpdateResult.Failed r) UpdateResult.Updated h g = h
  both (UpdateResult.Failed r) UpdateResult.UpdatedPending h g = h
  both (UpdateResult.Failed r) UpdateResult.NotModified h g = h
  both UpdateResult.Updated UpdateResult.UpdatedAndPromoted h g = g
  both UpdateResult.Updated UpdateResult.Updated h g = g
  both UpdateResult.Updated UpdateResult.UpdatedPending h g = g
  both UpdateResult.Updated UpdateResult.NotModified h g = h
  both UpdateResult.UpdatedAndPromoted UpdateResult.UpdatedAndPromoted h g = g
  both UpdateResult.UpdatedAndPromoted UpdateResult.Updated h g = g
  both UpdateResult.UpdatedAndPromoted UpdateResult.UpdatedPending h g = g
  both UpdateResult.UpdatedAndPromoted UpdateResult.NotModified h g = w.updated
  both UpdateResult.UpdatedPending UpdateResult.UpdatedAndPromoted h g = g
  both UpdateResult.UpdatedPending UpdateResult.Updated h g = h
  both UpdateResult.UpdatedPending UpdateResult.UpdatedPending h g = g
  both UpdateResult.UpdatedPending UpdateResult.NotModified h g = h
  both UpdateResult.NotModified UpdateResult.UpdatedAndPromoted h g = g
  both UpdateResult.NotModified UpdateResult.Updated h g = g
  both UpdateResult.NotModified UpdateResult.UpdatedPending h g = g
  both UpdateResult.NotModified UpdateResult.NotModified h g = g

  then_status_lem : (s : BucketSettings) (k : ℕ) (o : Option Bool) (v : UpdateResult) (b : Bucket) → passes v ≡ true → q (then_status s k o v b).0 ≡ true
  then_status_lem s k none v b h = h
  then_status_lem s k (some u) v b h =
      both v (update_status s k u none b).0 h
      (any_status passes s k u none b w.not_modified w.updated w.promoted w.pending w.too_many w.filtered w.no_key)

  -- update_node: TableFilter only where the table filter fails
  pub update_node : (s : BucketSettings) (fails : Bool) → (fails ≡ true → passes (UpdateResult.Failed FailureReason.TableFilter) ≡ true)
      → (now k : ℕ) (v : Value) (o : Option Bool) (b : Bucket) → q (update_node_in s fails now k v o b).0 ≡ true
  update_node s fails f now k v o b =
      let r = update_value s k v b in
      let h = any_value passes s k v b w.not_modified w.updated w.pending w.filtered w.no_key in
      cases (Holds q) fails f (λ _. cases (Holds q) (is_failed r.0) (λ _. h) (λ _. then_status_lem s k o r.0 r.1 h))

-- a test of answers that what insert_or_update answers passes
pub record OfInsert (q : Answer → Bool) : Type 0 where
  pub inserted : q (Answer.InsertOrUpdate InsertResult.Inserted) ≡ true
  pub pending : (k : ℕ) → q (Answer.InsertOrUpdate (InsertResult.Pending k)) ≡ true
  pub status_updated : (p : Bool) → q (Answer.InsertOrUpdate (InsertResult.StatusUpdated p)) ≡ true
  pub value_updated : q (Answer.InsertOrUpdate InsertResult.ValueUpdated) ≡ true
  pub updated : (p : Bool) → q (Answer.InsertOrUpdate (InsertResult.Updated p)) ≡ true
  pub too_many : q (Answer.InsertOrUpdate (InsertResult.Failed FailureReason.TooManyIncoming)) ≡ true
  pub filtered : q (Answer.InsertOrUpdate (InsertResult.Failed FailureReason.BucketFilter)) ≡ true
  pub full : q (Answer.InsertOrUpdate (InsertResult.Failed FailureReason.BucketFull)) ≡ true

-- an insert of a key that is not held
new_key : (r : BucketInsertResult) → (r ≡ BucketInsertResult.NodeExists → ⊥) → absent_inserts r ≡ true
new_key BucketInsertResult.Inserted f = refl
new_key (BucketInsertResult.Pending k) f = refl
new_key BucketInsertResult.FailedFilter f = refl
new_key BucketInsertResult.TooManyIncoming f = refl
new_key BucketInsertResult.Full f = refl
new_key BucketInsertResult.NodeExists f = absurd (f refl)

new_insert : (s : BucketSettings) (now : ℕ) (n : Node) (b : Bucket) → holds n.key b ≡ false → absent_inserts (insert s now n b).0 ≡ true
new_insert s now n b h = new_key (insert s now n b).0 (absent_not_exists s now n b h)

module _ (q : Answer → Bool) (w : OfInsert q) where
  abbrev accepts : InsertResult → Bool
  accepts r = q (Answer.InsertOrUpdate r)

  -- on a held key
  updated : (v r : UpdateResult) → held_values v ≡ true → present_updates r ≡ true → is_failed r ≡ false → accepts (insert_updates v r) ≡ true
  updated UpdateResult.Updated UpdateResult.Updated h g f = w.updated false
  updated UpdateResult.Updated UpdateResult.UpdatedAndPromoted h g f = w.updated true
  updated UpdateResult.Updated UpdateResult.UpdatedPending h g f = clash g refl
  updated UpdateResult.Updated (UpdateResult.Failed x) h g f = clash refl f
  updated UpdateResult.Updated UpdateResult.NotModified h g f = w.value_updated
  updated UpdateResult.NotModified UpdateResult.Updated h g f = w.status_updated false
  updated UpdateResult.NotModified UpdateResult.UpdatedAndPromoted h g f = w.status_updated true
  updated UpdateResult.NotModified UpdateResult.UpdatedPending h g f = clash g refl
  updated UpdateResult.NotModified (UpdateResult.Failed x) h g f = clash refl f
  updated UpdateResult.NotModified UpdateResult.NotModified h g f = w.updated false
  updated UpdateResult.UpdatedAndPromoted r h g f = clash h refl
  updated UpdateResult.UpdatedPending r h g f = clash h refl
  updated (UpdateResult.Failed FailureReason.TooManyIncoming) r h g f = clash h refl
  updated (UpdateResult.Failed FailureReason.BucketFilter) r h g f = w.filtered
  updated (UpdateResult.Failed FailureReason.TableFilter) r h g f = clash h refl
  updated (UpdateResult.Failed FailureReason.KeyNonExistent) r h g f = clash h refl
  updated (UpdateResult.Failed FailureReason.BucketFull) r h g f = clash h refl
  updated (UpdateResult.Failed FailureReason.InvalidSelfUpdate) r h g f = clash h refl

  -- on a key that is not held
  inserted : (r : BucketInsertResult) → absent_inserts r ≡ true → accepts (inserts r) ≡ true
  inserted BucketInsertResult.Inserted h = w.inserted
  inserted (BucketInsertResult.Pending k) h = w.pending k
  inserted BucketInsertResult.FailedFilter h = w.filtered
  inserted BucketInsertResult.TooManyIncoming h = w.too_many
  inserted BucketInsertResult.Full h = w.full
  inserted BucketInsertResult.NodeExists h = clash h refl

  -- insert_or_update: TableFilter only where the table filter fails
  pub insert_or_update : (s : BucketSettings) (fails : Bool) → (fails ≡ true → accepts (InsertResult.Failed FailureReason.TableFilter) ≡ true)
      → (now : ℕ) (n : Node) (b : Bucket) → q (insert_or_update_in s fails now n b).0 ≡ true
  insert_or_update s fails t now n b =
      let r = update_status s n.key n.connected (some n.incoming) b in
      cases (Holds q) fails t
      (λ _. cases (Holds q) (holds n.key b)
      (λ h. cases (Holds q) (is_failed r.0) (λ _. w.too_many)
      (λ f. updated (update_value s n.key n.value r.1).0 r.0
      (held_value s n.key n.value r.1 (present_stays s n.key n.connected (some n.incoming) b h f))
      (held_status s n.key n.connected (some n.incoming) b h) f))
      (λ h. inserted (insert s now n b).0 (new_insert s now n b h)))

-- the answers that are listed for the two calls
abbrev listed_node : Answer → Bool
listed_node a = among (Listed.on_key (kinds false false node_updates no no)) a

abbrev listed_insert : Answer → Bool
listed_insert a = among (Listed.on_key (kinds false false no insert_results no)) a

of_node : OfNode listed_node
of_node = record { not_modified = refl; updated = refl; promoted = refl; pending = refl; too_many = refl; filtered = refl; no_key = refl }

of_insert : OfInsert listed_insert
of_insert =
    record { inserted = refl; pending = λ k. refl; status_updated = λ p. refl; value_updated = refl; updated = λ p. refl; too_many = refl; filtered = refl; full = refl }

-- what a call on one key answers, of the key's bucket and of the local key
effect_listed : (c : KeyCall) (k : List ℕ) (t : Table) (i : ℕ) (b : Bucket) → (key_arguments c).kind (kind_of (number k) b) ≡ true
    → among (Listed.on_key (key_kinds c)) (effect c k t i b).answer ≡ true
effect_listed (KeyCall.update_node_status st dr now) k t i b h = status_listed t.settings.bucket (number k) (is_one st) (optional dr) _
effect_listed (KeyCall.update_node v st now) k t i b h =
    update_node listed_node of_node t.settings.bucket (fails_table_filter t i (number k) (value_of v)) (λ _. refl) now (number k) (value_of v) (optional st) _
effect_listed (KeyCall.insert_or_update v st dr now hs) k t i b h =
    insert_or_update listed_insert of_insert t.settings.bucket (fails_table_filter t i (number k) (value_of v)) (λ _. refl) now (node_of k v st dr) _
effect_listed (KeyCall.remove now) k t i b h = refl
effect_listed (KeyCall.entry now) k t i b h = refl
effect_listed (KeyCall.present_update st dr) k t i b h = held_status t.settings.bucket (number k) (is_one st) (optional dr) b (present_held (number k) b h)
effect_listed (KeyCall.pending_update st dr) k t i b h = refl
effect_listed (KeyCall.absent_insert v st dr now hs) k t i b h = new_insert t.settings.bucket now (node_of k v st dr) b (absent_not_held (number k) b h)

own_listed : (c : KeyCall) → (key_arguments c).kind EntryKind.SelfEntry ≡ true → among (Listed.on_key (key_kinds c)) (own_answer c) ≡ true
own_listed (KeyCall.update_node_status st dr now) h = refl
own_listed (KeyCall.update_node v st now) h = refl
own_listed (KeyCall.insert_or_update v st dr now hs) h = refl
own_listed (KeyCall.remove now) h = refl
own_listed (KeyCall.entry now) h = refl
own_listed (KeyCall.present_update st dr) h = h
own_listed (KeyCall.pending_update st dr) h = h
own_listed (KeyCall.absent_insert v st dr now hs) h = h

by_key : (c : KeyCall) (k : List ℕ) (t : Table) (o : Option ℕ) → (key_arguments c).kind (kind_in t (number k) o) ≡ true
    → among (Listed.on_key (key_kinds c)) (on_key t (own_answer c) (effect c k t) o).answer ≡ true
by_key c k t none h = own_listed c h
by_key c k t (some i) h = effect_listed c k t i (t.buckets i) h

taken : (t : Table) (q : List EndedPending) → among (kinds_of Call.take_applied_pending) (take_oldest t q).answer ≡ true
taken t [] = refl
taken t (a ∷ q) = refl

-- what an accepted call answers
pub act_listed : (c : Call) (t : Table) → kind_fits c t ≡ true → among (kinds_of c) (act c t).answer ≡ true
unfolding act kind_fits
act_listed (Call.new k timeout m tf bf) t h = refl
act_listed (Call.on_key k c) t h = by_key c k t (index_in t (number k)) h
act_listed (Call.list l n now out) t h = refl
act_listed Call.take_applied_pending t h = taken t t.queue
act_listed (Call.read bs) t h = refl

-- on any storage, whatever the arguments
pub step_listed : (c : Call) (s : List ℕ) → can_answer c (step_bytes c s).answer ≡ true
unfolding step_bytes
step_listed c s = go (first_failed (all_questions c s)) refl
  where
    go : (o : Option ℕ) → first_failed (all_questions c s) ≡ o → can_answer c (unless_refused_bytes o c s).answer ≡ true
    go (some n) e = refl
    go none e = or_second (is_refused (act c (table_of s)).answer) _ (act_listed c (table_of s) (accepted_bytes c s e).answers.kind)

-- what the code answers
pub listed : {c : Call} {s : List ℕ} {a : Answer} {s' out' : List ℕ} → Ran c s a s' out' → can_answer c a ≡ true
listed {c} {s} run = ap (can_answer c) (equation run).answer ∙ step_listed c s
