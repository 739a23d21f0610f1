-- What is told of an answer tells the answer, where the call is known (02, slip 1: the answer in the Rust's variant names).
use Prim.Native.Nat.{ℕ}
use mathlib.Core.Path.{◌≡◌, refl, sym, ap, ◌∙◌}
use mathlib.Core.Bool.{Bool, true, false}
use mathlib.Core.List.{List}
use mathlib.Core.Option.{Option, none, some}
use Rattle.model.specs.Bytes.{number}
use Rattle.model.specs.Value.{Value}
use Rattle.model.specs.Node.{Node}
use Rattle.model.specs.Result.{BucketInsertResult, UpdateResult, InsertResult, is_failed}
use Rattle.model.specs.Bucket.{Bucket, BucketSettings, holds, insert, update_status, update_value}
use Rattle.model.specs.Table.{Table, Answer, kind_in, fails_table_filter, both_updates, then_status, update_node_in, insert_updates, inserts, then_value, insert_or_update_in, index_in}
use Rattle.model.specs.Call.{Call, KeyCall, is_one, optional, value_of}
use Rattle.model.specs.Listing.{applied}
use Rattle.model.specs.Question.{first_failed, key_arguments, kind_fits}
use Rattle.model.specs.Step.{on_key, node_of, own_answer, effect, act}
use Rattle.model.specs.Layout.{table_of}
use Rattle.model.specs.StepBytes.{all_questions, step_bytes}
use Rattle.model.specs.Explain.{Told, told_update, told_insert_or_update, told_insert, told}
use Rattle.laws.proofs.Tests.{clash, cases}
use Rattle.laws.proofs.Questions.{accepted_bytes}

-- the calls that are explained: those that insert, update or remove a peer
abbrev pub is_explained : KeyCall → Bool
is_explained (KeyCall.update_node_status st dr now) = true
is_explained (KeyCall.update_node v st now) = true
is_explained (KeyCall.insert_or_update v st dr now hs) = true
is_explained (KeyCall.remove now) = true
is_explained (KeyCall.entry now) = false
is_explained (KeyCall.present_update st dr) = true
is_explained (KeyCall.pending_update st dr) = true
is_explained (KeyCall.absent_insert v st dr now hs) = true

-- The answer of each kind that is told so; a word that the kind lacks is never read.

abbrev as_update : Told → UpdateResult
as_update Told.Inserted = UpdateResult.NotModified
as_update (Told.Pending k) = UpdateResult.NotModified
as_update (Told.StatusUpdated p) = UpdateResult.NotModified
as_update Told.ValueUpdated = UpdateResult.NotModified
as_update (Told.UpdatedBoth p) = UpdateResult.NotModified
as_update Told.Updated = UpdateResult.Updated
as_update Told.UpdatedAndPromoted = UpdateResult.UpdatedAndPromoted
as_update Told.UpdatedPending = UpdateResult.UpdatedPending
as_update Told.NotModified = UpdateResult.NotModified
as_update (Told.Failed r) = UpdateResult.Failed r
as_update Told.FailedFilter = UpdateResult.NotModified
as_update Told.TooManyIncoming = UpdateResult.NotModified
as_update Told.Full = UpdateResult.NotModified
as_update Told.NodeExists = UpdateResult.NotModified
as_update (Told.Removed r) = UpdateResult.NotModified

abbrev as_insert_or_update : Told → InsertResult
as_insert_or_update Told.Inserted = InsertResult.Inserted
as_insert_or_update (Told.Pending k) = InsertResult.Pending k
as_insert_or_update (Told.StatusUpdated p) = InsertResult.StatusUpdated p
as_insert_or_update Told.ValueUpdated = InsertResult.ValueUpdated
as_insert_or_update (Told.UpdatedBoth p) = InsertResult.Updated p
as_insert_or_update Told.Updated = InsertResult.UpdatedPending
as_insert_or_update Told.UpdatedAndPromoted = InsertResult.UpdatedPending
as_insert_or_update Told.UpdatedPending = InsertResult.UpdatedPending
as_insert_or_update Told.NotModified = InsertResult.UpdatedPending
as_insert_or_update (Told.Failed r) = InsertResult.Failed r
as_insert_or_update Told.FailedFilter = InsertResult.UpdatedPending
as_insert_or_update Told.TooManyIncoming = InsertResult.UpdatedPending
as_insert_or_update Told.Full = InsertResult.UpdatedPending
as_insert_or_update Told.NodeExists = InsertResult.UpdatedPending
as_insert_or_update (Told.Removed r) = InsertResult.UpdatedPending

abbrev as_insert : Told → BucketInsertResult
as_insert Told.Inserted = BucketInsertResult.Inserted
as_insert (Told.Pending k) = BucketInsertResult.Pending k
as_insert (Told.StatusUpdated p) = BucketInsertResult.NodeExists
as_insert Told.ValueUpdated = BucketInsertResult.NodeExists
as_insert (Told.UpdatedBoth p) = BucketInsertResult.NodeExists
as_insert Told.Updated = BucketInsertResult.NodeExists
as_insert Told.UpdatedAndPromoted = BucketInsertResult.NodeExists
as_insert Told.UpdatedPending = BucketInsertResult.NodeExists
as_insert Told.NotModified = BucketInsertResult.NodeExists
as_insert (Told.Failed r) = BucketInsertResult.NodeExists
as_insert Told.FailedFilter = BucketInsertResult.FailedFilter
as_insert Told.TooManyIncoming = BucketInsertResult.TooManyIncoming
as_insert Told.Full = BucketInsertResult.Full
as_insert Told.NodeExists = BucketInsertResult.NodeExists
as_insert (Told.Removed r) = BucketInsertResult.NodeExists

abbrev as_remove : Told → Bool
as_remove Told.Inserted = false
as_remove (Told.Pending k) = false
as_remove (Told.StatusUpdated p) = false
as_remove Told.ValueUpdated = false
as_remove (Told.UpdatedBoth p) = false
as_remove Told.Updated = false
as_remove Told.UpdatedAndPromoted = false
as_remove Told.UpdatedPending = false
as_remove Told.NotModified = false
as_remove (Told.Failed r) = false
as_remove Told.FailedFilter = false
as_remove Told.TooManyIncoming = false
as_remove Told.Full = false
as_remove Told.NodeExists = false
as_remove (Told.Removed r) = r

-- the answer of a call that is told so
abbrev pub answer_told : KeyCall → Told → Answer
answer_told (KeyCall.update_node_status st dr now) w = Answer.Update (as_update w)
answer_told (KeyCall.update_node v st now) w = Answer.Update (as_update w)
answer_told (KeyCall.insert_or_update v st dr now hs) w = Answer.InsertOrUpdate (as_insert_or_update w)
answer_told (KeyCall.remove now) w = Answer.Remove (as_remove w)
answer_told (KeyCall.entry now) w = Answer.New
answer_told (KeyCall.present_update st dr) w = Answer.Update (as_update w)
answer_told (KeyCall.pending_update st dr) w = Answer.Update (as_update w)
answer_told (KeyCall.absent_insert v st dr now hs) w = Answer.Insert (as_insert w)

abbrev Back : KeyCall → Answer → Type 0
Back c a = answer_told c (told a) ≡ a

update_back : (x : UpdateResult) → as_update (told_update x) ≡ x
update_back UpdateResult.Updated = refl
update_back UpdateResult.UpdatedAndPromoted = refl
update_back UpdateResult.UpdatedPending = refl
update_back UpdateResult.NotModified = refl
update_back (UpdateResult.Failed r) = refl

insert_or_update_back : (x : InsertResult) → as_insert_or_update (told_insert_or_update x) ≡ x
insert_or_update_back InsertResult.Inserted = refl
insert_or_update_back (InsertResult.Pending k) = refl
insert_or_update_back (InsertResult.StatusUpdated p) = refl
insert_or_update_back InsertResult.ValueUpdated = refl
insert_or_update_back (InsertResult.Updated p) = refl
insert_or_update_back InsertResult.UpdatedPending = refl
insert_or_update_back (InsertResult.Failed r) = refl

insert_back : (x : BucketInsertResult) → as_insert (told_insert x) ≡ x
insert_back BucketInsertResult.Inserted = refl
insert_back (BucketInsertResult.Pending k) = refl
insert_back BucketInsertResult.FailedFilter = refl
insert_back BucketInsertResult.TooManyIncoming = refl
insert_back BucketInsertResult.Full = refl
insert_back BucketInsertResult.NodeExists = refl

-- update_node and insert_or_update answer of their own kind

abbrev BackUpdate : Answer × Bucket → Type 0
BackUpdate r = Answer.Update (as_update (told r.0)) ≡ r.0

abbrev BackInsertOrUpdate : Answer × Bucket → Type 0
BackInsertOrUpdate r = Answer.InsertOrUpdate (as_insert_or_update (told r.0)) ≡ r.0

then_status_back : (s : BucketSettings) (k : ℕ) (u : Option Bool) (v : UpdateResult) (b : Bucket) → BackUpdate (then_status s k u v b)
then_status_back s k none v b = ap Answer.Update (update_back v)
then_status_back s k (some u) v b = ap Answer.Update (update_back (both_updates v (update_status s k u none b).0))

update_node_back : (s : BucketSettings) (f : Bool) (now k : ℕ) (v : Value) (u : Option Bool) (b : Bucket) → BackUpdate (update_node_in s f now k v u b)
update_node_back s true now k v u b = refl
update_node_back s false now k v u b =
    cases BackUpdate (is_failed (update_value s k v b).0) (λ _. ap Answer.Update (update_back (update_value s k v b).0))
    (λ _. then_status_back s k u (update_value s k v b).0 (update_value s k v b).1)

then_value_back : (s : BucketSettings) (k : ℕ) (v : Value) (x : UpdateResult) (b : Bucket) → BackInsertOrUpdate (then_value s k v x b)
then_value_back s k v x b =
    cases BackInsertOrUpdate (is_failed x) (λ _. refl) (λ _. ap Answer.InsertOrUpdate (insert_or_update_back (insert_updates (update_value s k v b).0 x)))

insert_or_update_in_back : (s : BucketSettings) (f : Bool) (now : ℕ) (n : Node) (b : Bucket) → BackInsertOrUpdate (insert_or_update_in s f now n b)
insert_or_update_in_back s true now n b = refl
insert_or_update_in_back s false now n b =
    let r = update_status s n.key n.connected (some n.incoming) b in
    cases BackInsertOrUpdate (holds n.key b) (λ _. then_value_back s n.key n.value r.0 r.1)
    (λ _. ap Answer.InsertOrUpdate (insert_or_update_back (inserts (insert s now n b).0)))

on_index : (c : KeyCall) (k : List ℕ) (t : Table) (o : Option ℕ) → is_explained c ≡ true → (key_arguments c).kind (kind_in t (number k) o) ≡ true
    → Back c (on_key t (own_answer c) (effect c k t) o).answer
on_index (KeyCall.update_node_status st dr now) k t none x h = refl
on_index (KeyCall.update_node v st now) k t none x h = refl
on_index (KeyCall.insert_or_update v st dr now hs) k t none x h = refl
on_index (KeyCall.remove now) k t none x h = refl
on_index (KeyCall.entry now) k t o x h = clash x refl
on_index (KeyCall.present_update st dr) k t none x h = clash h refl
on_index (KeyCall.pending_update st dr) k t none x h = clash h refl
on_index (KeyCall.absent_insert v st dr now hs) k t none x h = clash h refl
on_index (KeyCall.update_node_status st dr now) k t (some i) x h =
    ap Answer.Update (update_back (update_status t.settings.bucket (number k) (is_one st) (optional dr) (applied now t i)).0)
on_index (KeyCall.update_node v st now) k t (some i) x h =
    update_node_back t.settings.bucket (fails_table_filter t i (number k) (value_of v)) now (number k) (value_of v) (optional st) (applied now t i)
on_index (KeyCall.insert_or_update v st dr now hs) k t (some i) x h =
    insert_or_update_in_back t.settings.bucket (fails_table_filter t i (number k) (value_of v)) now (node_of k v st dr) (applied now t i)
on_index (KeyCall.remove now) k t (some i) x h = refl
on_index (KeyCall.present_update st dr) k t (some i) x h =
    ap Answer.Update (update_back (update_status t.settings.bucket (number k) (is_one st) (optional dr) (t.buckets i)).0)
on_index (KeyCall.pending_update st dr) k t (some i) x h = refl
on_index (KeyCall.absent_insert v st dr now hs) k t (some i) x h =
    ap Answer.Insert (insert_back (insert t.settings.bucket now (node_of k v st dr) (t.buckets i)).0)

-- what a call answers is what its words say
pub told_back : (c : KeyCall) (k : List ℕ) (t : Table) → is_explained c ≡ true → kind_fits (Call.on_key k c) t ≡ true
    → answer_told c (told (act (Call.on_key k c) t).answer) ≡ (act (Call.on_key k c) t).answer
unfolding act kind_fits
told_back c k t x h = on_index c k t (index_in t (number k)) x h

-- on any storage where it is accepted
pub told_answer : (c : KeyCall) (k s : List ℕ) → is_explained c ≡ true → first_failed (all_questions (Call.on_key k c) s) ≡ none
    → answer_told c (told (step_bytes (Call.on_key k c) s).answer) ≡ (step_bytes (Call.on_key k c) s).answer
unfolding step_bytes
told_answer c k s x h = rw h (told_back c k (table_of s) x (accepted_bytes (Call.on_key k c) s h).answers.kind)

-- two answers of one call that are told alike are the same
pub told_tells : (c : KeyCall) (k₁ k₂ s₁ s₂ : List ℕ) → is_explained c ≡ true
    → first_failed (all_questions (Call.on_key k₁ c) s₁) ≡ none → first_failed (all_questions (Call.on_key k₂ c) s₂) ≡ none
    → told (step_bytes (Call.on_key k₁ c) s₁).answer ≡ told (step_bytes (Call.on_key k₂ c) s₂).answer → (step_bytes (Call.on_key k₁ c) s₁).answer ≡ (step_bytes (Call.on_key k₂ c) s₂).answer
told_tells c k₁ k₂ s₁ s₂ x h₁ h₂ e = sym (told_answer c k₁ s₁ x h₁) ∙ ap (answer_told c) e ∙ told_answer c k₂ s₂ x h₂
