-- The writer and the reader in single situations (02, slip 6): what is put out of two buckets and read of it, and what question 9 refuses.
use Rattle.std.specs.Prelude.{ℕ, Bool, not, List, [], ◌∷◌, ◌++◌, map, length, eqb}
use Rattle.std.proofs.Math.Option.{none, some}
use Rattle.model.specs.Base.{joined, at}
use Rattle.model.specs.Bytes.{part, zeros}
use Rattle.model.specs.Node.{Node, Ending}
use Rattle.model.specs.Bucket.{Bucket}
use Rattle.model.specs.Table.{Table, Answer}
use Rattle.model.specs.Call.{ValueArgument, Call}
use Rattle.model.specs.Step.{node_of, step}
use Rattle.model.specs.Numbers.{same_numbers, node_numbers, answer_numbers}
use Rattle.model.specs.Saved.{saved, loaded_nodes, loaded_bytes, holds_nothing, length_fits, three_of_aNet}
use Rattle.model.specs.Rows.{no_table, key, plain, addressed}

-- a node of a key with a value, state and direction
abbrev node : (k : ℕ) → ValueArgument → (state direction : ℕ) → Node
node k v st dr = node_of (key k) v st dr

abbrev bucket_of : (disconnected connected : List Node) → Bucket
bucket_of d c = record { disconnected = d; connected = c; pending = none }

abbrev with_bucket : ℕ → Bucket → Table
with_bucket i b = record { settings = no_table.settings; buckets = at i b no_table.buckets; queue = [] }

-- Bucket 5 holds 33, 32 and a pending, bucket 6 holds 64.
abbrev two_buckets : Table
two_buckets =
    record {
      settings = no_table.settings;
      buckets =
          at 5
          (record {
            disconnected = node 33 (plain 258) 0 1 ∷ [];
            connected = node 32 (addressed 7 3) 1 0 ∷ [];
            pending = some (record { node = node 34 (plain 4) 1 0; deadline = 9 });
          })
          (at 6 (bucket_of [] (node 64 (plain 1) 1 1 ∷ [])) no_table.buckets);
      queue = [];
    }

-- sizes, keys, entries
abbrev written : List ℕ
written =
    (zeros 5 ++ (2 ∷ 1 ∷ zeros 249))
    ++ ((key 33 ++ (key 32 ++ key 64))
    ++ ((0 ∷ 1 ∷ (zeros 5 ++ (zeros 6 ++ (1 ∷ 2 ∷ []))))
    ++ ((1 ∷ 0 ∷ (1 ∷ 10 ∷ 0 ∷ 0 ∷ 7 ∷ (zeros 7 ++ (3 ∷ [])))) ++ (1 ∷ 1 ∷ (zeros 5 ++ (zeros 7 ++ (1 ∷ [])))))))

-- nodes with these values in one bucket
abbrev net_of : List ValueArgument → Bool
net_of vs = three_of_aNet (map (λ (v : ValueArgument). node 32 v 0 0) vs)

-- one node in bucket 0, and n bytes behind the first size
abbrev one_node : ℕ → List ℕ
one_node n = 1 ∷ zeros n

-- the same with this key, state, direction and address flag, and a last octet
abbrev loaded_node : (k state direction flag d : ℕ) → List ℕ
loaded_node k st dr flag d = 1 ∷ (zeros 255 ++ (key k ++ (st ∷ dr ∷ flag ∷ 0 ∷ 0 ∷ 0 ∷ d ∷ zeros 8)))

-- the reader refuses the bytes with 9 on a new table
abbrev is_refused : List ℕ → Bool
is_refused bs = same_numbers (answer_numbers (step (Call.read bs) no_table).answer) (answer_numbers (Answer.Refused 9))

unfoldable pub saved_cases : List Bool
saved_cases =
    -- the writer
    same_numbers (saved two_buckets) written
    -- the reader: the nodes in the order read, and the bytes of a bucket with no pending
    ∷ same_numbers (joined node_numbers (loaded_nodes written))
    (joined node_numbers (node 33 (plain 258) 0 1 ∷ node 32 (addressed 7 3) 1 0 ∷ node 64 (plain 1) 1 1 ∷ []))
    ∷ same_numbers (part (loaded_bytes written 5) 0 34) (2 ∷ 1 ∷ key 33)
    ∷ same_numbers (part (loaded_bytes written 6) 0 34) (1 ∷ 0 ∷ key 64)
    ∷ eqb (length (loaded_bytes written 5)) 810
    -- 9: a node, a pending, a record
    ∷ holds_nothing no_table
    ∷ not (holds_nothing (with_bucket 255 (bucket_of (node 1 (plain 1) 0 0 ∷ []) [])))
    ∷ not (holds_nothing (with_bucket 0 (record { disconnected = []; connected = []; pending = some (record { node = node 1 (plain 1) 0 0; deadline = 9 }) })))
    ∷ not
    (holds_nothing
    (record { settings = no_table.settings; buckets = no_table.buckets; queue = record { key = 1; ending = Ending.BucketFilter } ∷ [] }))
    -- 9: the length
    ∷ length_fits (zeros 256)
    ∷ not (length_fits (zeros 255))
    ∷ not (length_fits (zeros 257))
    ∷ not (length_fits [])
    ∷ length_fits (one_node 302)
    ∷ not (length_fits (one_node 301))
    ∷ not (length_fits (one_node 303))
    -- 9: what fails question 2: a size, the local key, a key of another index, codes, octets at flag 0
    ∷ is_refused (17 ∷ zeros 1054)
    ∷ is_refused (loaded_node 0 0 0 0 0)
    ∷ is_refused (loaded_node 2 0 0 0 0)
    ∷ is_refused (loaded_node 1 2 0 0 0)
    ∷ is_refused (loaded_node 1 0 2 0 0)
    ∷ is_refused (loaded_node 1 0 0 2 0)
    ∷ is_refused (loaded_node 1 0 0 0 7)
    -- connected and incoming, over a max_incoming of 0
    ∷ is_refused (loaded_node 1 1 1 0 0)
    -- 9: three different values of one /24, the slot included; V, W, V, W is two
    ∷ net_of (addressed 1 0 ∷ addressed 2 0 ∷ addressed 3 0 ∷ [])
    ∷ net_of (addressed 1 0 ∷ plain 9 ∷ addressed 1 1 ∷ addressed 1 0 ∷ addressed 1 2 ∷ [])
    ∷ not (net_of (addressed 1 0 ∷ addressed 2 0 ∷ addressed 1 0 ∷ addressed 2 0 ∷ []))
    ∷ not (net_of (addressed 1 0 ∷ addressed 2 0 ∷ plain 3 ∷ plain 4 ∷ []))
    ∷ not (net_of (addressed 1 0 ∷ addressed 2 0 ∷ record { flag = 1; a = 10; b = 0; c = 1; d = 3; slot = 0 } ∷ []))
    ∷ []
