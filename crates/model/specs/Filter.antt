-- The IP filter (01, "key.rs (109 lines), filter.rs (97)").
use Rattle.std.specs.Prelude.{ℕ, Bool, not, ◌&&◌, List, length, leb}
use Rattle.model.specs.Base.{select}
use Rattle.model.specs.Value.{Value, same_value, has_address, shares_net}
use Rattle.model.specs.Node.{Node}

-- a value that counts against v: unequal to it, and it shares the first three octets
unfoldable pub counts : Value → Value → Bool
counts v w = shares_net v.address w.address && not (same_value w v)

-- the nodes whose values count against v
abbrev pub counted : Value → List Node → List Node
counted v ns = select (λ n. counts v n.value) ns

-- the nodes of the /24 of v
abbrev pub of_net : Value → List Node → List Node
of_net v ns = select (λ n. shares_net v.address n.value.address) ns

-- 01: fails exactly when the value has an address and at least `limit` of the others count against it
unfoldable pub ip_filter_fails : ℕ → Value → List Node → Bool
ip_filter_fails limit v ns = has_address v && leb limit (length (counted v ns))

-- 01: limit 10 for the table, 2 for a bucket
abbrev pub max_nodes_per_subnet_table : ℕ
max_nodes_per_subnet_table = 10

abbrev pub max_nodes_per_subnet_bucket : ℕ
max_nodes_per_subnet_bucket = 2
