-- Nodes place by place: where a key stands, a place opened or closed, and tests on the nodes.
use Rattle.std.specs.Prelude.{ℕ, suc, ◌-◌, Bool, true, cond, not, ◌&&◌, List, [], ◌∷◌, ◌++◌, take, drop, length, replicate, eqb}
use Rattle.model.specs.Base.{same, every}
use Rattle.model.specs.Node as model
use Rattle.model.specs.Bucket.{max_nodes_per_bucket}
use Rattle.node.specs.declared.Node.{Node}
use Rattle.node.specs.Node.{node_of, node_codes, zero_node}

-- how many stand before the first that passes the test: all of them where none passes
abbrev pub before : {A : Type 0} → (A → Bool) → List A → ℕ
before p [] = 0
before p (x ∷ xs) = cond (p x) 0 (suc (before p xs))

-- the place of the node with this key, or the number of nodes where none has it
abbrev pub position : ℕ → List Node → ℕ
position k ns = before (λ (n : Node). same (node_of n).key k) ns

-- x put in at place pos
abbrev pub insert_at : {A : Type 0} → ℕ → A → List A → List A
insert_at pos x xs = take pos xs ++ (x ∷ drop pos xs)

-- the element at place pos taken out
abbrev pub remove_at : {A : Type 0} → ℕ → List A → List A
remove_at pos xs = take pos xs ++ drop (suc pos) xs

-- sixteen places: the nodes, and zero nodes in the places that are free
abbrev pub padded : List Node → List Node
padded ns = ns ++ replicate (max_nodes_per_bucket - length ns) zero_node

-- the state is this code, and all codes are in range
abbrev pub in_state : ℕ → Node → Bool
in_state state n = eqb n.status.state state && node_codes n

-- no two of the nodes have one key
abbrev pub different : List model.Node → Bool
different [] = true
different (n ∷ ns) = every (λ (m : model.Node). not (same m.key n.key)) ns && different ns
