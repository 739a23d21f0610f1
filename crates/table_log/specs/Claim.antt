-- What is claimed of every list of calls that follows an accepted `new` (01, "What the log says"; demand 3).
use Rattle.std.specs.Prelude.{ℕ, ◌≤◌, ◌≡◌, true, List, [], ◌∷◌, ◌⊎◌, length}
use Rattle.model.specs.Value.{Value, shares_net}
use Rattle.model.specs.Node.{Node}
use Rattle.model.specs.Bucket.{nodes, num_entries, incoming_nodes}
use Rattle.model.specs.Table.{Table}
use Rattle.model.specs.Call.{Call}
use Rattle.model.specs.Step.{step}
use Rattle.model.specs.Layout.{table_of}
use Rattle.model.specs.Formed.{formed}
use Rattle.table_log.specs.Log.{Entry, log_of, log_bucket}

-- Each call gets the table as the one before left it.
abbrev pub table_after : List Call → Table → Table
table_after [] t = t
table_after (c ∷ cs) t = table_after cs (step c t).table

abbrev pub entries : List Call → Table → List Entry
entries [] t = []
entries (c ∷ cs) t = record { call = c; answer = (step c t).answer; records = (step c t).records } ∷ entries cs (step c t).table

-- a node with this value is in the list
abbrev pub HasValue : Value → List Node → Type 0
HasValue v [] = ⊥
HasValue v (n ∷ ns) = (n.value ≡ v) ⊎ HasValue v ns

-- at most two different values of a /24: of three values held that share it, two are equal
abbrev pub TwoOfANet : List Node → Type 0
TwoOfANet ns =
    (u v w : Value) → HasValue u ns → HasValue v ns → HasValue w ns
    → shares_net u.address v.address ≡ true → shares_net v.address w.address ≡ true
    → (u ≡ v) ⊎ ((v ≡ w) ⊎ (u ≡ w))

-- h: the entries, newest first
pub record Claim (h : List Entry) (t : Table) : Type 0 where
  -- bucket i, place by place, is what the log says
  pub places : (i : ℕ) → nodes (t.buckets i) ≡ log_bucket (log_of h) i
  pub settings : t.settings ≡ (log_of h).settings
  pub at_most_16 : (i : ℕ) → num_entries (t.buckets i) ≤ 16
  pub incoming_within : (i : ℕ) → length (incoming_nodes (nodes (t.buckets i))) ≤ (log_of h).settings.bucket.max_incoming
  pub two_of_a_net : (i : ℕ) → (log_of h).settings.bucket.filter ≡ true → TwoOfANet (nodes (t.buckets i))
  pub queue_within : length t.queue ≤ 64

-- the same of a storage, which question 2 accepts
pub record StorageClaim (h : List Entry) (s : List ℕ) : Type 0 where
  pub table : Claim h (table_of s)
  pub well_formed : formed s ≡ true
