-- What the table filter answers where it asks question 2 of what it reads: whether the value fails, or a refusal.
use Rattle.std.specs.Prelude.{ℕ, ◌≡◌, Bool, true, false, cond, List, [], ◌∷◌, Result, Ok, Err}
use Rattle.model.specs.Value.{Value}
use Rattle.model.specs.Filter.{ip_filter_fails, max_nodes_per_subnet_table}
use Rattle.model.specs.Table.{Table, filter_runs, other_nodes, fails_table_filter}
use Rattle.model.specs.Layout.{table_of}
use Rattle.model.specs.Formed.{buckets_formed}
use Rattle.model.specs.StepBytes.{every_bucket}
use Rattle.node.specs.declared.Refusal.{Refusal}

-- every bucket was asked, and then the filter
abbrev pub Walked : List ℕ → (key : ℕ) → Value → Result Bool Refusal → Type 0
Walked s k v (Ok fails) = (buckets_formed s every_bucket ≡ true) × (fails ≡ ip_filter_fails max_nodes_per_subnet_table v (other_nodes k (table_of s).buckets))
Walked s k v (Err r) = (buckets_formed s every_bucket ≡ false) × (r ≡ Refusal.Form)

-- 02, slip 7: all buckets where the filter is on and runs for the value of the key, else the key's own
abbrev pub filter_reads : Table → (index key : ℕ) → Value → List ℕ
filter_reads t i k v = cond (filter_runs t i k v) every_bucket (i ∷ [])

-- question 2 of the buckets that are read, and then the filter
abbrev pub AskedFilter : List ℕ → (index key : ℕ) → Value → Result Bool Refusal → Type 0
AskedFilter s i k v (Ok fails) = (buckets_formed s (filter_reads (table_of s) i k v) ≡ true) × (fails ≡ fails_table_filter (table_of s) i k v)
AskedFilter s i k v (Err r) = (buckets_formed s (filter_reads (table_of s) i k v) ≡ false) × (r ≡ Refusal.Form)
