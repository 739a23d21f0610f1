-- What a host reads of an export's code and bytes is what the call answered, on a table that its bytes can hold: the keys and the record
-- that an answer carries fit their bytes.
use Prim.Native.Nat.{ℕ, ◌-◌, ◌^◌, ◌≤◌, ◌<◌}
use native.Mathlib.Omega.{arith}
use mathlib.Core.Path.{◌≡◌, refl, sym, ap, ◌∙◌}
use mathlib.Core.Bool.{Bool, true, false, cond}
use mathlib.Core.List.{List, [], ◌∷◌}
use mathlib.Core.Option.{Option, none, some}
use lib.ListN.{length}
use lib.Dec.{leb}
use Rattle.model.specs.Bytes.{number, bytes, part}
use Rattle.model.specs.Node.{Node, PendingNode, EndedPending}
use Rattle.model.specs.Result.{FailureReason, BucketInsertResult, UpdateResult, InsertResult, is_failed}
use Rattle.model.specs.Bucket.{Bucket, BucketSettings, holds, fails_bucket_filter, is_max_incoming, is_full, insert_full, insert, update_status, update_value}
use Rattle.model.specs.Table.{Table, EntryKind, Answer, fails_table_filter, insert_updates, inserts, insert_or_update_in}
use Rattle.model.specs.Sizes.{key_size, record_size}
use Rattle.model.specs.Call.{Call, KeyCall, is_one, optional, value_of}
use Rattle.model.specs.Layout.{record_bytes, record_in}
use Rattle.model.specs.Step.{on_key, node_of, own_answer, effect, take_oldest}
use Rattle.model.specs.Fits.{All, FitsNode, FitsDeadline, FitsRecord, FitsBucket}
use Rattle.laws.proofs.Tests.{cases}
use Rattle.laws.proofs.All.{all_left}
use Rattle.laws.proofs.Bytes.{length_bytes, number_there}
use Rattle.laws.proofs.NodeBytes.{length_record, record_there}
use Rattle.laws.proofs.KeepEach.{apply_pending_each}
use Rattle.theorem.proofs.Call.{update_node_answers, insert_updates_answers}
use Rattle.codes.specs.Codes.{refused_code, update_code, insert_code, bucket_insert_code, entry_code, answer_code, insert_bytes, bucket_insert_bytes, applied_bytes, answer_bytes, answer_size}
use Rattle.claims.specs.Exports
use Rattle.claims.specs.Exports.{update_of, insert_of, bucket_insert_of, key_at, key_carries, answer_of}

-- the lent bytes begin with these
abbrev pub Front : List ℕ → List ℕ → Type 0
Front bs v = part bs 0 (length v) ≡ v

front_at : (bs v : List ℕ) (k : ℕ) → length v ≡ k → Front bs v → part bs 0 k ≡ v
front_at bs v k e f = ap (part bs 0) (sym e) ∙ f

key_read : (bs : List ℕ) (k : ℕ) → k < 256 ^ key_size → Front bs (bytes key_size k) → key_at bs ≡ k
key_read bs k h f = ap number (front_at bs (bytes key_size k) key_size (length_bytes key_size k) f) ∙ number_there key_size k h

-- a code, read: a refusal's or another
abbrev read : ℕ → Answer → Answer
read n a = cond (leb (refused_code 0) n) (Answer.Refused (n - refused_code 0)) a

update_read : (r : UpdateResult) → read (update_code r) (Answer.Update (update_of (update_code r))) ≡ Answer.Update r
update_read UpdateResult.NotModified = refl
update_read UpdateResult.Updated = refl
update_read UpdateResult.UpdatedAndPromoted = refl
update_read UpdateResult.UpdatedPending = refl
update_read (UpdateResult.Failed FailureReason.TooManyIncoming) = refl
update_read (UpdateResult.Failed FailureReason.BucketFilter) = refl
update_read (UpdateResult.Failed FailureReason.TableFilter) = refl
update_read (UpdateResult.Failed FailureReason.KeyNonExistent) = refl
update_read (UpdateResult.Failed FailureReason.BucketFull) = refl
update_read (UpdateResult.Failed FailureReason.InvalidSelfUpdate) = refl

abbrev FitsInsert : InsertResult → Type 0
FitsInsert InsertResult.Inserted = Unit {0}
FitsInsert (InsertResult.Pending k) = k < 256 ^ key_size
FitsInsert (InsertResult.StatusUpdated p) = Unit {0}
FitsInsert InsertResult.ValueUpdated = Unit {0}
FitsInsert (InsertResult.Updated p) = Unit {0}
FitsInsert InsertResult.UpdatedPending = Unit {0}
FitsInsert (InsertResult.Failed r) = Unit {0}

insert_read : (bs : List ℕ) (r : InsertResult) → FitsInsert r → Front bs (insert_bytes r)
    → read (insert_code r) (Answer.InsertOrUpdate (insert_of (insert_code r) (key_at bs))) ≡ Answer.InsertOrUpdate r
insert_read bs InsertResult.Inserted h f = refl
insert_read bs (InsertResult.Pending k) h f = ap (λ (x : ℕ). Answer.InsertOrUpdate (InsertResult.Pending x)) (key_read bs k h f)
insert_read bs (InsertResult.StatusUpdated false) h f = refl
insert_read bs (InsertResult.StatusUpdated true) h f = refl
insert_read bs InsertResult.ValueUpdated h f = refl
insert_read bs (InsertResult.Updated false) h f = refl
insert_read bs (InsertResult.Updated true) h f = refl
insert_read bs InsertResult.UpdatedPending h f = refl
insert_read bs (InsertResult.Failed FailureReason.TooManyIncoming) h f = refl
insert_read bs (InsertResult.Failed FailureReason.BucketFilter) h f = refl
insert_read bs (InsertResult.Failed FailureReason.TableFilter) h f = refl
insert_read bs (InsertResult.Failed FailureReason.KeyNonExistent) h f = refl
insert_read bs (InsertResult.Failed FailureReason.BucketFull) h f = refl
insert_read bs (InsertResult.Failed FailureReason.InvalidSelfUpdate) h f = refl

abbrev FitsBucketInsert : BucketInsertResult → Type 0
FitsBucketInsert BucketInsertResult.Inserted = Unit {0}
FitsBucketInsert (BucketInsertResult.Pending k) = k < 256 ^ key_size
FitsBucketInsert BucketInsertResult.FailedFilter = Unit {0}
FitsBucketInsert BucketInsertResult.TooManyIncoming = Unit {0}
FitsBucketInsert BucketInsertResult.Full = Unit {0}
FitsBucketInsert BucketInsertResult.NodeExists = Unit {0}

bucket_insert_read : (bs : List ℕ) (r : BucketInsertResult) → FitsBucketInsert r → Front bs (bucket_insert_bytes r)
    → read (bucket_insert_code r) (Answer.Insert (bucket_insert_of (bucket_insert_code r) (key_at bs))) ≡ Answer.Insert r
bucket_insert_read bs BucketInsertResult.Inserted h f = refl
bucket_insert_read bs (BucketInsertResult.Pending k) h f = ap (λ (x : ℕ). Answer.Insert (BucketInsertResult.Pending x)) (key_read bs k h f)
bucket_insert_read bs BucketInsertResult.FailedFilter h f = refl
bucket_insert_read bs BucketInsertResult.TooManyIncoming h f = refl
bucket_insert_read bs BucketInsertResult.Full h f = refl
bucket_insert_read bs BucketInsertResult.NodeExists h f = refl

remove_read : (b : Bool) → read (answer_code (Answer.Remove b)) (Answer.Remove (is_one (answer_code (Answer.Remove b)))) ≡ Answer.Remove b
remove_read true = refl
remove_read false = refl

entry_read : (k : EntryKind) → read (entry_code k) (Answer.Entry (Exports.kind_of (entry_code k))) ≡ Answer.Entry k
entry_read EntryKind.Absent = refl
entry_read EntryKind.SelfEntry = refl
entry_read (EntryKind.Present true true) = refl
entry_read (EntryKind.Present true false) = refl
entry_read (EntryKind.Present false true) = refl
entry_read (EntryKind.Present false false) = refl
entry_read (EntryKind.Pending true true) = refl
entry_read (EntryKind.Pending true false) = refl
entry_read (EntryKind.Pending false true) = refl
entry_read (EntryKind.Pending false false) = refl

-- the key that a Pending answer names is of a held node
full_fits : (s : BucketSettings) (now : ℕ) (n : Node) (b : Bucket) (u : Bool) (ds : List Node) (p : Option PendingNode) → All FitsNode ds
    → FitsBucketInsert (insert_full s now n b u ds p).0
full_fits s now n b false ds p h = tt
full_fits s now n b true [] p h = tt
full_fits s now n b true (d ∷ ds) none h = h.0.key
full_fits s now n b true (d ∷ ds) (some q) h = tt

insert_fits : (s : BucketSettings) (now : ℕ) (n : Node) (b : Bucket) → FitsBucket b → FitsBucketInsert (insert s now n b).0
unfolding insert
insert_fits s now n b f =
    let Q : BucketInsertResult × Bucket → Type 0 = λ r. FitsBucketInsert r.0 in
    cases Q (holds n.key b) (λ _. tt)
    (λ _. cases Q (fails_bucket_filter s n.value b) (λ _. tt)
    (λ _. cases Q (is_max_incoming s n b) (λ _. tt)
    (λ _. cases Q (is_full b)
    (λ _. full_fits s now n b n.connected b.disconnected b.pending (all_left FitsNode b.disconnected b.connected f.held)) (λ _. tt))))

inserts_fit : (r : BucketInsertResult) → FitsBucketInsert r → FitsInsert (inserts r)
inserts_fit BucketInsertResult.Inserted h = tt
inserts_fit (BucketInsertResult.Pending k) h = h
inserts_fit BucketInsertResult.FailedFilter h = tt
inserts_fit BucketInsertResult.TooManyIncoming h = tt
inserts_fit BucketInsertResult.Full h = tt
inserts_fit BucketInsertResult.NodeExists h = tt

updates_fit : (v r : UpdateResult) → FitsInsert (insert_updates v r)
updates_fit v r = insert_updates_answers FitsInsert (λ _. tt) tt (λ _. tt) tt (λ _. tt) v r

-- what a host reads of an answer a, where the lent bytes begin with those that it carries
abbrev Reads : List ℕ → KeyCall → List ℕ → Answer → Type 0
Reads k c bs a = Front bs (answer_bytes a) → answer_of (Call.on_key k c) (answer_code a) bs ≡ a

insert_or_update_read : (k : List ℕ) (v : _) (st dr time : ℕ) (hs : _) (bs : List ℕ) (s : BucketSettings) (fails : Bool) (now : ℕ) (n : Node) (b : Bucket) → FitsBucket b
    → Reads k (KeyCall.insert_or_update v st dr time hs) bs (insert_or_update_in s fails now n b).0
insert_or_update_read k v st dr time hs bs s fails now n b f =
    let Q : Answer × Bucket → Type 0 = λ r. Reads k (KeyCall.insert_or_update v st dr time hs) bs r.0 in
    let r = update_status s n.key n.connected (some n.incoming) b in
    cases Q fails (λ _ _. refl)
    (λ _. cases Q (holds n.key b)
    (λ _. cases Q (is_failed r.0) (λ _ _. refl)
    (λ _. let x = insert_updates (update_value s n.key n.value r.1).0 r.0 in
    insert_read bs x (updates_fit (update_value s n.key n.value r.1).0 r.0)))
    (λ _. insert_read bs (inserts (insert s now n b).0) (inserts_fit (insert s now n b).0 (insert_fits s now n b f))))

effect_read : (c : KeyCall) (k : List ℕ) (t : Table) (i : ℕ) (b : Bucket) (bs : List ℕ) → FitsBucket b
    → (key_carries c ≡ true → Front bs (answer_bytes (effect c k t i b).answer))
    → answer_of (Call.on_key k c) (answer_code (effect c k t i b).answer) bs ≡ (effect c k t i b).answer
effect_read (KeyCall.update_node_status st dr now) k t i b bs h f = update_read _
effect_read (KeyCall.update_node v st now) k t i b bs h f =
    update_node_answers (λ (a : Answer). answer_of (Call.on_key k (KeyCall.update_node v st now)) (answer_code a) bs ≡ a) update_read t.settings.bucket
    (fails_table_filter t i (number k) (value_of v)) now (number k) (value_of v) (optional st) _
effect_read (KeyCall.insert_or_update v st dr now hs) k t i b bs h f =
    insert_or_update_read k v st dr now hs bs t.settings.bucket (fails_table_filter t i (number k) (value_of v)) now (node_of k v st dr) _
    (apply_pending_each FitsNode FitsDeadline t.settings.bucket now b h) (f refl)
effect_read (KeyCall.remove now) k t i b bs h f = remove_read _
effect_read (KeyCall.entry now) k t i b bs h f = entry_read _
effect_read (KeyCall.present_update st dr) k t i b bs h f = update_read _
effect_read (KeyCall.pending_update st dr) k t i b bs h f = refl
effect_read (KeyCall.absent_insert v st dr now hs) k t i b bs h f =
    bucket_insert_read bs _ (insert_fits t.settings.bucket now (node_of k v st dr) b h) (f refl)

own_read : (c : KeyCall) (k bs : List ℕ) → answer_of (Call.on_key k c) (answer_code (own_answer c)) bs ≡ own_answer c
own_read (KeyCall.update_node_status st dr now) k bs = refl
own_read (KeyCall.update_node v st now) k bs = refl
own_read (KeyCall.insert_or_update v st dr now hs) k bs = refl
own_read (KeyCall.remove now) k bs = refl
own_read (KeyCall.entry now) k bs = refl
own_read (KeyCall.present_update st dr) k bs = refl
own_read (KeyCall.pending_update st dr) k bs = refl
own_read (KeyCall.absent_insert v st dr now hs) k bs = refl

pub key_call_read : (c : KeyCall) (k : List ℕ) (t : Table) (bs : List ℕ) → ((i : ℕ) → FitsBucket (t.buckets i)) → (o : Option ℕ)
    → (key_carries c ≡ true → Front bs (answer_bytes (on_key t (own_answer c) (effect c k t) o).answer))
    → answer_of (Call.on_key k c) (answer_code (on_key t (own_answer c) (effect c k t) o).answer) bs ≡ (on_key t (own_answer c) (effect c k t) o).answer
key_call_read c k t bs h none f = own_read c k bs
key_call_read c k t bs h (some i) f = effect_read c k t i (t.buckets i) bs (h i) f

pub take_read : (t : Table) (bs : List ℕ) (q : List EndedPending) → All FitsRecord q → Front bs (answer_bytes (take_oldest t q).answer)
    → answer_of Call.take_applied_pending (answer_code (take_oldest t q).answer) bs ≡ (take_oldest t q).answer
take_read t bs [] h f = refl
take_read t bs (a ∷ q) h f =
    ap (λ (x : EndedPending). Answer.TakeAppliedPending (some x))
    (ap record_in (front_at bs (record_bytes a) record_size (length_record a) f) ∙ record_there a h.0)

-- the bytes that an answer carries have room in `answer_size`
insert_short : (r : InsertResult) → length (insert_bytes r) ≤ answer_size
insert_short InsertResult.Inserted = omega arith
insert_short (InsertResult.Pending k) = let e = length_bytes key_size k in omega arith
insert_short (InsertResult.StatusUpdated p) = omega arith
insert_short InsertResult.ValueUpdated = omega arith
insert_short (InsertResult.Updated p) = omega arith
insert_short InsertResult.UpdatedPending = omega arith
insert_short (InsertResult.Failed r) = omega arith

bucket_insert_short : (r : BucketInsertResult) → length (bucket_insert_bytes r) ≤ answer_size
bucket_insert_short BucketInsertResult.Inserted = omega arith
bucket_insert_short (BucketInsertResult.Pending k) = let e = length_bytes key_size k in omega arith
bucket_insert_short BucketInsertResult.FailedFilter = omega arith
bucket_insert_short BucketInsertResult.TooManyIncoming = omega arith
bucket_insert_short BucketInsertResult.Full = omega arith
bucket_insert_short BucketInsertResult.NodeExists = omega arith

applied_short : (o : Option EndedPending) → length (applied_bytes o) ≤ answer_size
applied_short none = omega arith
applied_short (some r) = let e = length_record r in omega arith

pub answer_short : (a : Answer) → length (answer_bytes a) ≤ answer_size
answer_short (Answer.Refused q) = omega arith
answer_short Answer.New = omega arith
answer_short (Answer.Update r) = omega arith
answer_short (Answer.InsertOrUpdate r) = insert_short r
answer_short (Answer.Insert r) = bucket_insert_short r
answer_short (Answer.Remove b) = omega arith
answer_short (Answer.Entry k) = omega arith
answer_short (Answer.Found n) = omega arith
answer_short (Answer.TakeAppliedPending r) = applied_short r
answer_short (Answer.Read n) = omega arith
