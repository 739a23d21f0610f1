-- The table's bytes (01, Table: storage lent by the host; unused storage is zero). All numbers are big-endian.
use Rattle.std.specs.Prelude.{ℕ, ◌+◌, ◌*◌, ◌-◌, Bool, true, false, cond, List, [], ◌∷◌, ◌++◌, length, get_or, take, drop, eqb}
use Rattle.std.proofs.Math.Option.{Option, none, some}
use Rattle.model.specs.Base.{joined, tabulate}
use Rattle.model.specs.Bytes.{number, bytes, part, zeros}
use Rattle.model.specs.Value.{Address, Value}
use Rattle.model.specs.Node.{Node, PendingNode, Ending, EndedPending, evicted_in}
use Rattle.model.specs.Bucket.{Bucket, max_nodes_per_bucket, nodes, num_entries}
use Rattle.model.specs.Table.{Settings, Table, num_buckets, max_records}
use Rattle.model.specs.Sizes.{key_size, time_size, slot_size, value_size, node_size, record_size, place_at, pending_at, pending_size, bucket_size, timeout_at, max_incoming_at, table_filter_at, bucket_filter_at, record_count_at, padding_size, record_at, bucket_at}
use Rattle.model.specs.Listing.{Item}

-- What is written.

abbrev pub flag_byte : Bool → ℕ
flag_byte true = 1
flag_byte false = 0

abbrev pub address_bytes : Option Address → List ℕ
address_bytes none = zeros 5
address_bytes (some x) = 1 ∷ x.a ∷ x.b ∷ x.c ∷ x.d ∷ []

unfoldable pub value_bytes : Value → List ℕ
value_bytes v = address_bytes v.address ++ bytes slot_size v.slot

unfoldable pub node_bytes : Node → List ℕ
node_bytes n = bytes key_size n.key ++ (flag_byte n.connected ∷ flag_byte n.incoming ∷ value_bytes n.value)

-- 02, slip 4: a placed pending's record is written as before; the other endings follow in the paper's order
abbrev pub evicting_kind : ℕ
evicting_kind = 1

abbrev pub ending_kind : Ending → ℕ
ending_kind (Ending.Placed none) = 0
ending_kind (Ending.Placed (some n)) = evicting_kind
ending_kind Ending.FirstConnected = 2
ending_kind Ending.BucketFilter = 3
ending_kind Ending.TooManyIncoming = 4
ending_kind Ending.Inserted = 5
ending_kind Ending.FirstConfirmed = 6

abbrev pub last_kind : ℕ
last_kind = 6

abbrev pub evicted_bytes : Option Node → List ℕ
evicted_bytes none = zeros node_size
evicted_bytes (some n) = node_bytes n

unfoldable pub record_bytes : EndedPending → List ℕ
record_bytes r = bytes key_size r.key ++ (ending_kind r.ending ∷ evicted_bytes (evicted_in r.ending))

abbrev pub pending_bytes : Option PendingNode → List ℕ
pending_bytes none = zeros pending_size
pending_bytes (some p) = 1 ∷ (node_bytes p.node ++ bytes time_size p.deadline)

-- the first connected place is the number of the disconnected nodes: with none connected, the count
unfoldable pub bucket_bytes : Bucket → List ℕ
bucket_bytes b =
    num_entries b ∷ length b.disconnected ∷ (joined node_bytes (nodes b) ++ (zeros ((max_nodes_per_bucket - num_entries b) * node_size) ++ pending_bytes b.pending))

unfoldable pub header_bytes : Table → List ℕ
header_bytes t =
    bytes key_size t.settings.local_key
    ++ (bytes time_size t.settings.bucket.pending_timeout
    ++ (t.settings.bucket.max_incoming ∷ flag_byte t.settings.table_filter ∷ flag_byte t.settings.bucket.filter ∷ length t.queue
    ∷ (zeros padding_size ++ (joined record_bytes t.queue ++ zeros ((max_records - length t.queue) * record_size)))))

unfoldable pub bytes_of : Table → List ℕ
bytes_of t = header_bytes t ++ joined bucket_bytes (tabulate num_buckets t.buckets)

-- what a listing writes of a node
unfoldable pub item_bytes : Item → List ℕ
item_bytes (Item.Entry n) = node_bytes n
item_bytes (Item.Key k) = bytes key_size k
item_bytes (Item.ClosestValue k v) = bytes key_size k ++ value_bytes v
item_bytes (Item.PredicateValue k m v) = bytes key_size k ++ (flag_byte m ∷ value_bytes v)

-- What is read.

abbrev pub address_in : List ℕ → Option Address
address_in bs = cond (eqb (get_or bs 0 0) 1) (some (record { a = get_or bs 1 0; b = get_or bs 2 0; c = get_or bs 3 0; d = get_or bs 4 0 })) none

unfoldable pub value_in : List ℕ → Value
value_in bs = record { address = address_in bs; slot = number (part bs 5 slot_size) }

unfoldable pub node_in : List ℕ → Node
node_in bs =
    record {
      key = number (part bs 0 key_size);
      value = value_in (part bs (key_size + 2) value_size);
      connected = eqb (get_or bs key_size 0) 1;
      incoming = eqb (get_or bs (key_size + 1) 0) 1;
    }

-- the ending of a kind, where no node was evicted
abbrev pub ending_of : ℕ → Ending
ending_of k =
    cond (eqb k 2) Ending.FirstConnected
    (cond (eqb k 3) Ending.BucketFilter
    (cond (eqb k 4) Ending.TooManyIncoming
    (cond (eqb k 5) Ending.Inserted
    (cond (eqb k 6) Ending.FirstConfirmed (Ending.Placed none)))))

abbrev pub ending_in : List ℕ → Ending
ending_in bs =
    cond (eqb (get_or bs key_size 0) evicting_kind) (Ending.Placed (some (node_in (part bs (key_size + 1) node_size)))) (ending_of (get_or bs key_size 0))

unfoldable pub record_in : List ℕ → EndedPending
record_in bs = record { key = number (part bs 0 key_size); ending = ending_in bs }

-- the bytes of place j of a bucket, and the nodes of the places that are held
abbrev pub place_in : List ℕ → ℕ → List ℕ
place_in bs j = part bs (place_at j) node_size

unfoldable pub nodes_in : List ℕ → List Node
nodes_in bs = tabulate (get_or bs 0 0) (λ j. node_in (place_in bs j))

abbrev pub pending_in : List ℕ → Option PendingNode
pending_in bs =
    cond (eqb (get_or bs pending_at 0) 1)
    (some (record { node = node_in (part bs (pending_at + 1) node_size); deadline = number (part bs (pending_at + 1 + node_size) time_size) }))
    none

unfoldable pub bucket_in : List ℕ → Bucket
bucket_in bs = record { disconnected = take (get_or bs 1 0) (nodes_in bs); connected = drop (get_or bs 1 0) (nodes_in bs); pending = pending_in bs }

unfoldable pub settings_in : List ℕ → Settings
settings_in s =
    record {
      local_key = number (part s 0 key_size);
      bucket =
          record {
            pending_timeout = number (part s timeout_at time_size);
            max_incoming = get_or s max_incoming_at 0;
            filter = eqb (get_or s bucket_filter_at 0) 1;
          };
      table_filter = eqb (get_or s table_filter_at 0) 1;
    }

-- the bytes of record j and of bucket i of the storage
abbrev pub record_part : List ℕ → ℕ → List ℕ
record_part s j = part s (record_at j) record_size

abbrev pub bucket_part : List ℕ → ℕ → List ℕ
bucket_part s i = part s (bucket_at i) bucket_size

unfoldable pub table_of : List ℕ → Table
table_of s =
    record {
      settings = settings_in s;
      buckets = λ i. bucket_in (bucket_part s i);
      queue = tabulate (get_or s record_count_at 0) (λ j. record_in (record_part s j));
    }
