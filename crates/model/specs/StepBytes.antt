-- One call on the storage's bytes: what each entry point answers and leaves, for every storage and every argument.
use Rattle.std.specs.Prelude.{ℕ, Bool, false, cond, not, ◌||◌, List, [], ◌∷◌, ◌++◌, length, eqb, leb}
use Rattle.std.proofs.Math.Option.{Option, none, some}
use Rattle.model.specs.Base.{joined, tabulate}
use Rattle.model.specs.Bytes.{number, splice}
use Rattle.model.specs.Value.{Value}
use Rattle.model.specs.Node.{EndedPending}
use Rattle.model.specs.Result.{Reply}
use Rattle.model.specs.Table.{Table, Answer, num_buckets, filter_runs, index_in}
use Rattle.model.specs.Sizes.{bucket_at, storage_size}
use Rattle.model.specs.Call.{Call, KeyCall, value_of}
use Rattle.model.specs.Listing.{Item, indices, applies}
use Rattle.model.specs.Question.{first_failed, arguments}
use Rattle.model.specs.Step.{act, early, late}
use Rattle.model.specs.Layout.{bucket_bytes, header_bytes, item_bytes, table_of}
use Rattle.model.specs.Formed.{header_formed, buckets_formed, formed}
use Rattle.model.specs.Saved.{all_nodes, saved}

pub record BytesOutcome : Type 0 where
  pub answer : Answer
  pub storage : List ℕ
  pub output : List ℕ
  pub records : List EndedPending

-- What a call reads (02, slip 7).

abbrev pub every_bucket : List ℕ
every_bucket = tabulate num_buckets (λ i. i)

-- the value that a call hands to the table filter
abbrev pub filtered : KeyCall → Option Value
filtered (KeyCall.update_node_status st dr now) = none
filtered (KeyCall.update_node v st now) = some (value_of v)
filtered (KeyCall.insert_or_update v st dr now hs) = some (value_of v)
filtered (KeyCall.remove now) = none
filtered (KeyCall.entry now) = none
filtered (KeyCall.present_update st dr) = none
filtered (KeyCall.pending_update st dr) = none
filtered (KeyCall.absent_insert v st dr now hs) = none

abbrev pub runs_filter : Table → ℕ → ℕ → Option Value → Bool
runs_filter t i k none = false
runs_filter t i k (some v) = filter_runs t i k v

-- the key's own, all of them when the table filter is on and runs, none for the local key
abbrev pub key_reads : KeyCall → ℕ → Table → Option ℕ → List ℕ
key_reads c k t none = []
key_reads c k t (some i) = cond (runs_filter t i k (filtered c)) every_bucket (i ∷ [])

-- a listing reads those that it visits up to the n-th item, nodes_by_distances those of its applying pass; the reader reads all
abbrev pub reads : Call → Table → List ℕ
reads (Call.new k timeout m tf bf) t = []
reads (Call.on_key k c) t = key_reads c (number k) t (index_in t (number k))
reads (Call.list l n now out) t = applies l n now t
reads Call.take_applied_pending t = []
reads (Call.read bs) t = every_bucket

-- 2, of the settings and the queue (not asked by `new`)
abbrev pub holds_header : Call → List ℕ → Bool
holds_header c s = not (arguments c).table || header_formed s

-- questions 1 to 11, in turn; 02, slip 7: 2's part about buckets is asked after 6
abbrev pub all_questions : Call → List ℕ → List (ℕ × Bool)
all_questions c s =
    (1, eqb (length s) storage_size)
    ∷ (2, holds_header c s)
    ∷ (early c (table_of s) ++ ((2, buckets_formed s (reads c (table_of s))) ∷ late c (table_of s)))

-- the lent output; empty where the call has none
abbrev pub output_of : Call → List ℕ
output_of c = (arguments c).output

-- 01, question 6: entries past the count found keep their bytes
abbrev pub written : List Item → List ℕ → List ℕ
written items out = splice out 0 (joined item_bytes items)

abbrev pub bucket_of_key : List ℕ → Table → List ℕ
bucket_of_key k t = indices (index_in t (number k))

-- the buckets that a call writes back, changed or not; what the table filter only reads is not among them
abbrev pub touched : Call → Table → List ℕ
touched (Call.new k timeout m tf bf) t = every_bucket
touched (Call.on_key k c) t = bucket_of_key k t
touched (Call.list l n now out) t = applies l n now t
touched Call.take_applied_pending t = []
touched (Call.read bs) t = every_bucket

-- the storage with the settings, the queue and the buckets named as the table has them; all other bytes stay
unfoldable pub restore : List ℕ → List ℕ → Table → List ℕ
restore s [] t = splice s 0 (header_bytes t)
restore s (i ∷ is) t = splice (restore s is t) (bucket_at i) (bucket_bytes (t.buckets i))

-- a refusal is its number alone; all lent memory keeps its bytes
abbrev pub unless_refused_bytes : Option ℕ → Call → List ℕ → BytesOutcome
unless_refused_bytes (some n) c s = record { answer = Answer.Refused n; storage = s; output = output_of c; records = [] }
unless_refused_bytes none c s =
    let o = act c (table_of s) in
    record {
      answer = o.answer;
      storage = restore s (touched c (table_of s)) o.table;
      output = written o.items (output_of c);
      records = o.records;
    }

unfoldable pub step_bytes : Call → List ℕ → BytesOutcome
step_bytes c s = unless_refused_bytes (first_failed (all_questions c s)) c s

-- Queries: what they answer, and what the lent output holds then. No storage is written.
pub record Replied : Type 0 where
  pub answer : Reply ℕ
  pub output : List ℕ

-- a refusal is its number alone, and the output keeps its bytes; else what is told stands at its front, and the bytes behind stay
abbrev pub tell_unless_refused : Option ℕ → (answer : ℕ) (told output : List ℕ) → Replied
tell_unless_refused (some q) n l out = record { answer = Reply.Refused q; output = out }
tell_unless_refused none n l out = record { answer = Reply.Answered n; output = splice out 0 l }

-- 02, slip 6: an output too short for the writer fails question 6
abbrev pub write_questions : (output storage : List ℕ) → List (ℕ × Bool)
write_questions out s =
    (1, eqb (length s) storage_size) ∷ (2, formed s) ∷ (6, leb (length (saved (table_of s))) (length out)) ∷ []

-- the writer, for every storage and every output; it answers the number of nodes
unfoldable pub write_bytes : (output storage : List ℕ) → Replied
write_bytes out s = tell_unless_refused (first_failed (write_questions out s)) (length (all_nodes (table_of s))) (saved (table_of s)) out
