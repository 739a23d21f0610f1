-- Question 2's tests of one place, as the code runs them: what they are together is the model's `bucket_formed`. And the place of a key.
use Rattle.std.specs.Prelude.{ℕ, Bool, ◌&&◌, List, get_or, eqb, ◌≡◌, ◌<◌, Option}
use Rattle.std.specs.Option.{MatchOption}
use Rattle.model.specs.Base.{same, tabulate}
use Rattle.model.specs.Key.{bucket_index}
use Rattle.model.specs.Node.{Node}
use Rattle.model.specs.Sizes.{key_size}
use Rattle.model.specs.Layout.{place_in, node_in, record_part}
use Rattle.model.specs.Formed.{node_codes, key_in, state_at, not_held, is_at, record_formed, bucket_formed_at}
use Rattle.places.specs.Places.{before}

-- a key's index in the table of the local key is i
unfoldable pub of_index : ℕ → ℕ → ℕ → Bool
of_index local i key = is_at (bucket_index local key) i

-- no place before j has the key of place j
unfoldable pub differs : List ℕ → ℕ → Bool
differs bs j = not_held bs j (key_in (place_in bs j))

-- place j: codes in range, a key of the index, and the state that the place has
unfoldable pub place_formed : (ℕ → Bool) → ℕ → List ℕ → ℕ → Bool
place_formed index first bs j = (node_codes (place_in bs j) && index (key_in (place_in bs j))) && eqb (get_or (place_in bs j) key_size 0) (state_at first j)

-- the node of place j
unfoldable pub node_at : List ℕ → ℕ → Node
node_at bs j = node_in (place_in bs j)

-- the nodes of the first count places of a bucket
unfoldable pub nodes_here : List ℕ → ℕ → List Node
nodes_here bs count = tabulate count (node_at bs)

-- the place of a key, or the number of nodes where none has it
abbrev pub place : ℕ → List Node → ℕ
place k ns = before (λ (n : Node). same n.key k) ns

-- what a search for a key among n nodes answers: its place, or nothing where none has it
abbrev pub Position : ℕ → List Node → (n : ℕ) → Option ℕ → Type 0
Position k ns n result = MatchOption result (place k ns ≡ n) (λ p. (place k ns ≡ p) × (p < n))

-- record j of the queue
unfoldable pub record_at_formed : List ℕ → ℕ → Bool
record_at_formed s j = record_formed (record_part s j)

-- bucket i of the storage
unfoldable pub bucket_at_formed : List ℕ → ℕ → Bool
bucket_at_formed s i = bucket_formed_at s i
