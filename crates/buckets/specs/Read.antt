-- The declared nodes and the declared pending that stand in a bucket's bytes, with each code as it stands.
use Rattle.std.specs.Prelude.{ℕ, ◌+◌, Bool, true, cond, Option, Some, None, List, get_or, eqb}
use Rattle.model.specs.Base.{tabulate}
use Rattle.model.specs.Bytes.{number, part}
use Rattle.model.specs.Sizes.{time_size, node_size, pending_at}
use Rattle.model.specs.Layout.{place_in}
use Rattle.model.specs.Formed.{bucket_formed}
use Rattle.node.specs.declared.Node.{Node}
use Rattle.node.specs.Node.{node_codes}
use Rattle.storage.specs.Read.{read_node}
use Rattle.bucket.specs.declared.PendingNode.{PendingNode}

-- the nodes of the places below k of a bucket's bytes
unfoldable pub read_places : List ℕ → ℕ → List Node
read_places bs k = tabulate k (λ j. read_node (place_in bs j))

-- the pending of a bucket's bytes: flag, node, deadline
unfoldable pub read_pending : List ℕ → Option PendingNode
read_pending bs =
    cond (eqb (get_or bs pending_at 0) 1)
    (Some (record { node = read_node (part bs (pending_at + 1) node_size); deadline = number (part bs (pending_at + 1 + node_size) time_size) })) None

-- 01, question 4, of a pending's node
abbrev pub pending_codes : Option PendingNode → Bool
pending_codes None = true
pending_codes (Some p) = node_codes p.node

-- 01, question 2 of a bucket's bytes, all but the index
abbrev pub sound_bytes : ℕ → List ℕ → Bool
sound_bytes max_incoming bs = bucket_formed (λ k. true) max_incoming bs
