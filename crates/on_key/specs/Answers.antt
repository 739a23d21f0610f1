-- What an entry point of the table owes, and the parts in which a call on one key is carried out.
use Rattle.std.specs.Prelude as prelude
use Rattle.std.specs.Prelude.{Result, ℕ, ◌+◌, ◌<◌, ◌≡◌, Bool, true, false, cond, List, [], ◌∷◌, length, eqb, leb}
use Rattle.std.proofs.Math.Option.{Option, none, some}
use Rattle.model.specs.Base.{same}
use Rattle.model.specs.Node.{PendingNode, Ending, EndedPending, ended}
use Rattle.model.specs.Bucket.{Bucket, apply_pending}
use Rattle.model.specs.Table.{Answer, Effect, write, num_buckets, max_records}
use Rattle.model.specs.Result.{Reply}
use Rattle.model.specs.Sizes.{key_size, storage_size}
use Rattle.model.specs.Layout.{table_of}
use Rattle.model.specs.Formed.{header_formed, bucket_formed_at, formed}
use Rattle.model.specs.Question.{first_failed, deadline_fits}
use Rattle.model.specs.StepBytes.{BytesOutcome, Replied, restore}
use Rattle.node.specs.declared.Refusal.{Refusal}
use Rattle.node.specs.Refusal.{failed_of, answer_of}
use Rattle.bucket.specs.declared.KBucket.{KBucket}
use Rattle.bucket.specs.declared.ending.EndedPending as code
use Rattle.bucket.specs.declared.UpdateResult.{UpdateResult}
use Rattle.bucket.specs.declared.PendingNode as pending
use Rattle.bucket.specs.Bucket.{pending_of, Becomes}
use Rattle.bucket.specs.Calls.{records_of, update_result_of}

-- the answer and the storage are those of the outcome
pub record Answers (a : Answer) (s : List ℕ) (o : BytesOutcome) : Type 0 where
  pub answer : a ≡ o.answer
  pub storage : s ≡ o.storage

-- the answer and the output are those of the query
pub record Replies (a : Reply ℕ) (out : List ℕ) (x : Replied) : Type 0 where
  pub answer : a ≡ x.answer
  pub output : out ≡ x.output

-- what an update answers
abbrev pub update_answer : Result UpdateResult Refusal → Answer
update_answer = answer_of (λ r. Answer.Update (update_result_of r))

-- 01, questions 1 and 2 of a call that is handed a table; 02, slip 7: 2 of the settings and the queue
abbrev pub first_two : List ℕ → List (ℕ × Bool)
first_two s = (1, eqb (length s) storage_size) ∷ (2, header_formed s) ∷ []

-- the same of a call that reads every bucket and has no question between the two parts of 2
abbrev pub whole_table : List ℕ → List (ℕ × Bool)
whole_table s = (1, eqb (length s) storage_size) ∷ (2, formed s) ∷ []

-- 01, questions 1, 2 and 5 of a call that names no key
abbrev pub first_three : ℕ → List ℕ → List (ℕ × Bool)
first_three now s =
    (1, eqb (length s) storage_size) ∷ (2, header_formed s) ∷ (5, deadline_fits (table_of s).settings.bucket.pending_timeout (some now)) ∷ []

-- 01, questions 1 to 5 of a call on one key
abbrev pub first_five : List ℕ → Bool → Option ℕ → List ℕ → List (ℕ × Bool)
first_five key codes now s =
    (1, eqb (length s) storage_size)
    ∷ (2, header_formed s)
    ∷ (3, eqb (length key) key_size)
    ∷ (4, codes)
    ∷ (5, deadline_fits (table_of s).settings.bucket.pending_timeout now)
    ∷ []

unfoldable pub failed_of_two : List ℕ → Option ℕ
failed_of_two s = first_failed (first_two s)

unfoldable pub failed_of_table : List ℕ → Option ℕ
failed_of_table s = first_failed (whole_table s)

unfoldable pub failed_of_three : ℕ → List ℕ → Option ℕ
failed_of_three now s = first_failed (first_three now s)

unfoldable pub failed_of_five : List ℕ → Bool → Option ℕ → List ℕ → Option ℕ
failed_of_five key codes now s = first_failed (first_five key codes now s)

-- storage whose header and bucket i pass question 2
pub record Ready (s : List ℕ) (i : ℕ) : Type 0 where
  pub size : length s ≡ storage_size
  pub header : header_formed s ≡ true
  pub below : i < num_buckets
  pub bucket : bucket_formed_at s i ≡ true

-- 01, Apply pending: when deadline ≤ now
abbrev pub is_due : ℕ → Option PendingNode → Bool
is_due now none = false
is_due now (some p) = leb p.deadline now

-- bucket i after a due pending was applied, and the record of it
pub record AppliedAt (s : List ℕ) (i now : ℕ) (b : KBucket) (a : prelude.Option code.EndedPending) : Type 0 where
  pub bucket : Becomes (table_of s).settings.bucket (apply_pending (table_of s).settings.bucket now ((table_of s).buckets i)).0 b
  pub records : records_of a ≡ (apply_pending (table_of s).settings.bucket now ((table_of s).buckets i)).1

-- what there is of the first, or else of the second
abbrev pub either_of : {A : Type 0} → List A → List A → List A
either_of [] ys = ys
either_of (x ∷ xs) ys = x ∷ xs

-- 02, slip 4: a pending that a call on key k cleared: by a direct insert, where it is of that key, or else because place 0 was confirmed
abbrev pub cleared_as : ℕ → PendingNode → Ending
cleared_as k p = cond (same p.node.key k) Ending.Inserted Ending.FirstConfirmed

-- the record of a pending that was there before a call's own step and is there no more
abbrev pub gone : (key : ℕ) (before after : Option PendingNode) → List EndedPending
gone k none q = []
gone k (some p) none = ended p.node (cleared_as k p)
gone k (some p) (some q) = []

-- the record of a call on key k: of the pending that was applied, or else of the one that the call's own step found and did not leave
abbrev pub recorded : prelude.Option code.EndedPending → (before after : prelude.Option pending.PendingNode) → ℕ → List EndedPending
recorded a p q k = either_of (records_of a) (gone k (pending_of p) (pending_of q))

-- 01, question 8: the queue has room for the records
unfoldable pub room_for : List ℕ → List EndedPending → Bool
room_for s rs = leb (length (table_of s).queue + length rs) max_records

-- the storage with another bucket i and further records
unfoldable pub rewritten : List ℕ → ℕ → Bucket → List EndedPending → List ℕ
rewritten s i b rs = restore s (i ∷ []) (write (table_of s) i b rs)

-- question 8 of a call with these records; where it passes, they are in the queue, and bucket i is b
pub record Finished (q : Result (Unit {0}) Refusal) (s' s : List ℕ) (i : ℕ) (b : Bucket) (rs : List EndedPending) : Type 0 where
  pub asked : failed_of q ≡ cond (room_for s rs) none (some 8)
  pub left : s' ≡ cond (room_for s rs) (rewritten s i b rs) s

-- a call on the key's bucket i: question 8, then what the call does to the bucket
unfoldable pub in_bucket : List ℕ → ℕ → Effect → BytesOutcome
in_bucket s i e =
    cond (room_for s e.records)
    (record { answer = e.answer; storage = rewritten s i e.bucket e.records; output = []; records = e.records })
    (record { answer = Answer.Refused 8; storage = s; output = []; records = [] })
