-- The nodes, buckets and found nodes that the program lends.
use Rattle.std.specs.Prelude.{ℕ, List, ◌∷◌, replicate}
use Rattle.key.specs.Key.{key_from}
use Rattle.order.specs.declared.FoundNode.{FoundNode}
use Rattle.node.specs.declared.Node.{Node}
use Rattle.bucket.specs.declared.KBucket.{KBucket}
use Rattle.bucket.specs.Calls.{insert_call, new_call}

-- a connected outgoing node with no address
abbrev pub node_from : ℕ → Node
node_from k = record {
  key = key_from k;
  value = record { flag = 0; a = 0; b = 0; c = 0; d = 0; slot = 0 };
  status = record { state = 1; direction = 0 };
}

-- an empty bucket with timeout 60,000 and no filter
abbrev pub emptied : KBucket
emptied = (new_call 60000 16 0).1

-- connected 32 and 33
abbrev pub two : KBucket
two = (insert_call (insert_call emptied (node_from 32) 0).1 (node_from 33) 0).1

-- the bucket with 1 as its first connected place: an empty one then fails question 2
abbrev pub malformed : KBucket → KBucket
malformed b = record {
  nodes = b.nodes;
  count = b.count;
  first_connected_pos = 1;
  pending = b.pending;
  settings = b.settings;
}

-- a node found at distance d, in place j
abbrev pub found_at : ℕ → ℕ → FoundNode
found_at d j = record { distance = key_from d; place = j }

-- distances 3, 1, 2 of places 0, 1, 2 in order, and thirteen that stay
abbrev pub nearest_first : List FoundNode
nearest_first = found_at 1 1 ∷ found_at 2 2 ∷ found_at 3 0 ∷ replicate 13 (found_at 0 0)
