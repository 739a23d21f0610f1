-- What demands 1 and 3 are stated with, for the code: calls one after the other, what the log is fed of them, a refusal, a closest list; and
-- what became of pendings (02, slip 4).
use Rattle.std.specs.Prelude.{ℕ, ◌≡◌, Bool, true, false, List, [], ◌∷◌, map, length, drop}
use Rattle.model.specs.Base.{select}
use Rattle.model.specs.Bytes.{number}
use Rattle.model.specs.Node.{Node, EndedPending}
use Rattle.model.specs.Table.{Answer}
use Rattle.model.specs.Sort.{sort_by}
use Rattle.model.specs.Call.{Listing, Call}
use Rattle.model.specs.Listing.{item, distance_to}
use Rattle.model.specs.Layout.{table_of}
use Rattle.model.specs.StepBytes.{output_of, written}
use Rattle.table_log.specs.Log.{Entry, is_refused}
use Rattle.table_log.specs.Closest.{Ascending, all_held, closest_nodes}
use Rattle.table_log.specs.Pending.{due_ended, one_record}
use Rattle.claims.specs.Ran.{Ran}

-- what stands in the queue q' behind the length of the queue q
abbrev pub behind : (q q' : List EndedPending) → List EndedPending
behind q q' = drop (length q) q'

-- what the log is fed of a call that answered a and left s' where it found s
abbrev pub fed : (c : Call) (s : List ℕ) (a : Answer) (s' : List ℕ) → Entry
fed c s a s' = record { call = c; answer = a; records = behind (table_of s).queue (table_of s').queue }

-- Calls one after the other, each on the storage that the one before left, and what the log is fed of them, oldest first.
pub data Runs : (cs : List Call) (s : List ℕ) (es : List Entry) (s' : List ℕ) → Type 0 where
  none : {s : List ℕ} → Runs [] s [] s
  next : {c : Call} {cs : List Call} {s : List ℕ} {a : Answer} {r out' : List ℕ} {es : List Entry} {s' : List ℕ}
      → Ran c s a r out' → Runs cs r es s' → Runs (c ∷ cs) s (fed c s a r ∷ es) s'

-- demand 1: the number of the question, and all that was lent as it was
pub record Refusal (n : ℕ) (c : Call) (s : List ℕ) (a : Answer) (s' out' : List ℕ) : Type 0 where
  pub answer : a ≡ Answer.Refused n
  pub storage : s' ≡ s
  pub output : out' ≡ output_of c

-- demand 3, the closest list, on a storage that is well formed throughout (02, slip 7): the first n of all held nodes as if every bucket's due
-- pending had been applied, nearest first, each once, bucket 0's node a second time where 01 says so, with what the call gives of each node;
-- the count found is its length; the bytes of the output behind it stay
pub record ClosestList (l : Listing) (x : List ℕ) (n time : ℕ) (out s : List ℕ) (a : Answer) (out' : List ℕ) : Type 0 where
  pub answer : a ≡ Answer.Found (length (closest_nodes x n time (table_of s)))
  pub output : out' ≡ written (map (item l) (closest_nodes x n time (table_of s))) out
  pub sorted : Ascending (distance_to (number x)) (sort_by (distance_to (number x)) (all_held time (table_of s)))
  pub all_there : (p : Node → Bool) → length (select p (sort_by (distance_to (number x)) (all_held time (table_of s)))) ≡ length (select p (all_held time (table_of s)))

-- 02, slip 4, of a call that answered a and left s' where it found s: accepted, it ended what was due in the buckets that it applies; and
-- unless it is a listing it left no more than one record
pub record PendingClaim (c : Call) (s : List ℕ) (a : Answer) (s' : List ℕ) : Type 0 where
  pub ended_due : is_refused a ≡ false → due_ended c (table_of s) (fed c s a s').records ≡ true
  pub single_record : one_record c (fed c s a s').records ≡ true
