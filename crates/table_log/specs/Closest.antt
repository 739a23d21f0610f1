-- The closest list (01, "What the log says", fourth paragraph).
use Rattle.std.specs.Prelude.{ℕ, ◌<◌, ◌≡◌, Bool, List, [], ◌∷◌, map, length, take}
use Rattle.std.proofs.Math.Option.{Option, none, some}
use Rattle.model.specs.Base.{select}
use Rattle.model.specs.Bytes.{number}
use Rattle.model.specs.Node.{Node}
use Rattle.model.specs.Table.{Table, Answer, num_buckets, held_nodes}
use Rattle.model.specs.Sort.{sort_by}
use Rattle.model.specs.Call.{Listing, Call}
use Rattle.model.specs.Listing.{item, applied, distance_to}
use Rattle.model.specs.Layout.{table_of}
use Rattle.model.specs.Nearest.{nearest}
use Rattle.model.specs.StepBytes.{written, step_bytes}

-- all held nodes as if every bucket's due pending had been applied, bucket 0 to 255 one behind the other
abbrev pub all_held : ℕ → Table → List Node
all_held now t = held_nodes num_buckets (applied now t)

-- the nodes of the list: the first n
abbrev pub closest_nodes : (x : List ℕ) (n now : ℕ) (t : Table) → List Node
closest_nodes x n now t = take n (nearest t.settings.local_key (number x) (all_held now t))

-- the target of a closest call
abbrev pub target : Listing → Option (List ℕ)
target Listing.iter = none
target (Listing.nodes_by_distances ds) = none
target (Listing.closest_keys x) = some x
target (Listing.closest_values x) = some x
target (Listing.closest_values_predicate x p) = some x

-- each element is nearer than the one behind it, so that each stands once
abbrev pub Ascending : (Node → ℕ) → List Node → Type 0
Ascending f [] = Unit {0}
Ascending f (n ∷ []) = Unit {0}
Ascending f (n ∷ m ∷ ns) = (f n < f m) × Ascending f (m ∷ ns)

-- An accepted closest call on a storage that is well formed throughout (02, slip 7): its list is the first n of all held nodes, nearest
-- first, with what the call gives of each node, and the count found is its length. `sorted` and `all_there` say that `sort_by` arranges
-- the same nodes in order, each once.
pub record ClosestClaim (l : Listing) (x : List ℕ) (n now : ℕ) (out s : List ℕ) : Type 0 where
  pub answer : (step_bytes (Call.list l n now out) s).answer ≡ Answer.Found (length (closest_nodes x n now (table_of s)))
  pub output : (step_bytes (Call.list l n now out) s).output ≡ written (map (item l) (closest_nodes x n now (table_of s))) out
  pub sorted : Ascending (distance_to (number x)) (sort_by (distance_to (number x)) (all_held now (table_of s)))
  pub all_there : (p : Node → Bool) → length (select p (sort_by (distance_to (number x)) (all_held now (table_of s)))) ≡ length (select p (all_held now (table_of s)))
