-- What the table filter counts, as the code tests it: over all nodes that are held it is the model's `counted` of `other_nodes`.
use Rattle.std.specs.Prelude.{ℕ, ◌+◌, ◌*◌, Bool, not, ◌&&◌}
use Rattle.model.specs.Base.{same}
use Rattle.model.specs.Value.{Value}
use Rattle.model.specs.Node.{Node}
use Rattle.model.specs.Filter.{counts}
use Rattle.node.specs.declared.Value as declared

-- 02, slip 3: a node counts against the value v of key k, where it is not the key's own
abbrev pub counts_other : (k : ℕ) → Value → Node → Bool
counts_other k v n = counts v n.value && not (same n.key k)

-- the address flag and the first three octets of a value, with which its bytes begin, as one number
abbrev pub net_of : declared.Value → ℕ
net_of v = ((v.flag * 256 + v.a) * 256 + v.b) * 256 + v.c
