-- One call on a table: what it answers, the table that it leaves, the records that it adds, and what a listing gives.
use Rattle.std.specs.Prelude.{ℕ, Bool, true, false, List, [], ◌∷◌, ◌++◌, map, length, leb}
use Rattle.std.proofs.Math.Option.{Option, none, some}
use Rattle.model.specs.Bytes.{number}
use Rattle.model.specs.Node.{Node, EndedPending}
use Rattle.model.specs.Result.{FailureReason, UpdateResult, InsertResult}
use Rattle.model.specs.Bucket.{Bucket, insert, insert_endings, update_status, status_endings, update_pending, remove}
use Rattle.model.specs.Table.{Settings, Table, EntryKind, Answer, Effect, max_records, empty_table, after_applying, as_stored, no_endings, fails_table_filter, update_node_in, update_node_endings, insert_or_update_in, insert_or_update_endings, kind_of, with_queue, write, index_in}
use Rattle.model.specs.Call.{ValueArgument, Call, KeyCall, is_one, optional, value_of}
use Rattle.model.specs.Listing.{Item, item, apply_all, applies, found}
use Rattle.model.specs.Question.{first_failed, keys_fit, codes_in_range, clock_fits, output_fits, kind_fits, hours_in_range, admitted}
use Rattle.model.specs.Saved.{saved_count, loaded_table, load_fits}

pub record Outcome : Type 0 where
  pub answer : Answer
  pub table : Table
  -- the records added to the queue
  pub records : List EndedPending
  -- what a listing gives of each node that it lists
  pub items : List Item

abbrev pub unchanged : Answer → Table → Outcome
unchanged a t = record { answer = a; table = t; records = []; items = [] }

-- A call on one key, with what it answers for the local key (`self`) and what it does to the key's bucket.
abbrev pub on_key : Table → Answer → (ℕ → Bucket → Effect) → Option ℕ → Outcome
on_key t self f none = unchanged self t
on_key t self f (some i) =
    let e = f i (t.buckets i) in
    record { answer = e.answer; table = write t i e.bucket e.records; records = e.records; items = [] }

abbrev pub node_of : List ℕ → ValueArgument → ℕ → ℕ → Node
node_of k v state direction = record { key = number k; value = value_of v; connected = is_one state; incoming = is_one direction }

-- 01, kbucket.rs, the local key: NotModified for updates, InvalidSelfUpdate for an insert, false for remove, SelfEntry for entry; an entry
-- action on it has failed question 7.
abbrev pub own_answer : KeyCall → Answer
own_answer (KeyCall.update_node_status st dr now) = Answer.Update UpdateResult.NotModified
own_answer (KeyCall.update_node v st now) = Answer.Update UpdateResult.NotModified
own_answer (KeyCall.insert_or_update v st dr now hs) = Answer.InsertOrUpdate (InsertResult.Failed FailureReason.InvalidSelfUpdate)
own_answer (KeyCall.remove now) = Answer.Remove false
own_answer (KeyCall.entry now) = Answer.Entry EntryKind.SelfEntry
own_answer (KeyCall.present_update st dr) = Answer.Refused 7
own_answer (KeyCall.pending_update st dr) = Answer.Refused 7
own_answer (KeyCall.absent_insert v st dr now hs) = Answer.Refused 7

-- what a call does to its key's bucket, of index i
abbrev pub effect : KeyCall → (key : List ℕ) → Table → ℕ → Bucket → Effect
effect (KeyCall.update_node_status st dr now) k t i =
    let s = t.settings.bucket in
    after_applying s now (status_endings (number k) (is_one st))
    (λ b. let r = update_status s (number k) (is_one st) (optional dr) b in (Answer.Update r.0, r.1))
effect (KeyCall.update_node v st now) k t i =
    let s = t.settings.bucket in
    after_applying s now (update_node_endings s (fails_table_filter t i (number k) (value_of v)) (number k) (value_of v) (optional st))
    (update_node_in s (fails_table_filter t i (number k) (value_of v)) now (number k) (value_of v) (optional st))
effect (KeyCall.insert_or_update v st dr now hs) k t i =
    let s = t.settings.bucket in
    after_applying s now (insert_or_update_endings s (fails_table_filter t i (number k) (value_of v)) now (node_of k v st dr))
    (insert_or_update_in s (fails_table_filter t i (number k) (value_of v)) now (node_of k v st dr))
effect (KeyCall.remove now) k t i =
    let s = t.settings.bucket in
    after_applying s now no_endings (λ b. let r = remove s now (number k) b in (Answer.Remove r.0, r.1))
effect (KeyCall.entry now) k t i = after_applying t.settings.bucket now no_endings (λ b. (Answer.Entry (kind_of (number k) b), b))
effect (KeyCall.present_update st dr) k t i =
    as_stored (status_endings (number k) (is_one st))
    (λ b. let r = update_status t.settings.bucket (number k) (is_one st) (optional dr) b in (Answer.Update r.0, r.1))
effect (KeyCall.pending_update st dr) k t i = as_stored no_endings (λ b. (Answer.Update UpdateResult.UpdatedPending, update_pending (is_one st) (is_one dr) b))
effect (KeyCall.absent_insert v st dr now hs) k t i =
    let s = t.settings.bucket in
    as_stored (λ b. insert_endings (node_of k v st dr) b (insert s now (node_of k v st dr) b).0)
    (λ b. let r = insert s now (node_of k v st dr) b in (Answer.Insert r.0, r.1))

-- the settings of a new table
abbrev pub settings_of : (local_key pending_timeout max_incoming table_filter bucket_filter : ℕ) → Settings
settings_of k timeout m tf bf =
    record { local_key = k; bucket = record { pending_timeout = timeout; max_incoming = m; filter = is_one bf }; table_filter = is_one tf }

-- 01, Queue: first in, first out
abbrev pub take_oldest : Table → List EndedPending → Outcome
take_oldest t [] = unchanged (Answer.TakeAppliedPending none) t
take_oldest t (a ∷ rest) = unchanged (Answer.TakeAppliedPending (some a)) (with_queue rest t)

-- the call's work, with an endless queue
unfoldable pub act : Call → Table → Outcome
act (Call.new k timeout m tf bf) t = unchanged Answer.New (empty_table (settings_of (number k) timeout m tf bf))
act (Call.on_key k c) t = on_key t (own_answer c) (effect c k t) (index_in t (number k))
act (Call.list l n now out) t =
    let r = apply_all now (applies l n now t) t in
    let ns = found l n now t in
    record { answer = Answer.Found (length ns); table = r.0; records = r.1; items = map (item l) ns }
act Call.take_applied_pending t = take_oldest t t.queue
act (Call.read bs) t = unchanged (Answer.Read (saved_count bs)) (loaded_table bs t)

-- 8: with an endless queue, would the call leave at most 64 records?
unfoldable pub queue_fits : Call → Table → Bool
queue_fits c t = leb (length (act c t).table.queue) max_records

-- 01, questions 3 to 6: of the call and the settings
abbrev pub early : Call → Table → List (ℕ × Bool)
early c t = (3, keys_fit c) ∷ (4, codes_in_range c) ∷ (5, clock_fits c t) ∷ (6, output_fits c) ∷ []

-- 9 (02, slip 6): does the storage hold nothing, and can the bytes be loaded?
abbrev pub bytes_fit : Call → Table → Bool
bytes_fit (Call.new k timeout m tf bf) t = true
bytes_fit (Call.on_key k c) t = true
bytes_fit (Call.list l n now out) t = true
bytes_fit Call.take_applied_pending t = true
bytes_fit (Call.read bs) t = load_fits bs t

-- 01, questions 7 and 8, and 02's 9 to 11: of the buckets, the queue, the bytes given and the session hours
abbrev pub late : Call → Table → List (ℕ × Bool)
late c t =
    (7, kind_fits c t) ∷ (8, queue_fits c t) ∷ (9, bytes_fit c t) ∷ (10, hours_in_range c) ∷ (11, admitted c t) ∷ []

-- questions 3 to 11, in turn
abbrev pub questions : Call → Table → List (ℕ × Bool)
questions c t = early c t ++ late c t

-- a refusal is its number alone
abbrev pub unless_refused : Option ℕ → Call → Table → Outcome
unless_refused none c t = act c t
unless_refused (some n) c t = unchanged (Answer.Refused n) t

unfoldable pub step : Call → Table → Outcome
step c t = unless_refused (first_failed (questions c t)) c t
