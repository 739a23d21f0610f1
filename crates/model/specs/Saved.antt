-- A table's held nodes as the writer puts them out, and as the reader loads them (02, slip 6). A node's key and entry together are its
-- bytes in a bucket, so the reader asks question 2 of the bytes of each bucket that it would leave.
use Rattle.std.specs.Prelude.{ℕ, zero, suc, ◌+◌, ◌*◌, ◌-◌, Bool, cond, not, ◌&&◌, ◌||◌, List, ◌∷◌, ◌++◌, length, get_or, eqb, ltb}
use Rattle.model.specs.Base.{is_some, any_of, joined, tabulate, all_below}
use Rattle.model.specs.Bytes.{bytes, part, zeros}
use Rattle.model.specs.Key.{bucket_index}
use Rattle.model.specs.Filter.{counts}
use Rattle.model.specs.Node.{Node}
use Rattle.model.specs.Bucket.{Bucket, max_nodes_per_bucket, empty_bucket, num_entries}
use Rattle.model.specs.Table.{Table, num_buckets, held_nodes}
use Rattle.model.specs.Sizes.{key_size, value_size, node_size, pending_size}
use Rattle.model.specs.Layout.{flag_byte, value_bytes, node_in, nodes_in, bucket_in}
use Rattle.model.specs.Formed.{bucket_formed, is_at}

-- The writer.

abbrev pub all_nodes : Table → List Node
all_nodes t = held_nodes num_buckets t.buckets

abbrev pub key_bytes : Node → List ℕ
key_bytes n = bytes key_size n.key

-- 15 bytes: state, direction, address flag, four octets, slot
abbrev pub saved_entry : Node → List ℕ
saved_entry n = flag_byte n.connected ∷ flag_byte n.incoming ∷ value_bytes n.value

-- 256 one-byte sizes, then all keys in bucket and place order, then the entries in the same order; no pending and no record
unfoldable pub saved : Table → List ℕ
saved t =
    tabulate num_buckets (λ i. num_entries (t.buckets i)) ++ (joined key_bytes (all_nodes t) ++ joined saved_entry (all_nodes t))

-- The reader.

abbrev pub saved_entry_size : ℕ
saved_entry_size = 2 + value_size

-- how many nodes the buckets below i have, by their sizes
unfoldable pub sizes_below : List ℕ → ℕ → ℕ
sizes_below bs zero = 0
sizes_below bs (suc i) = sizes_below bs i + get_or bs i 0

abbrev pub saved_count : List ℕ → ℕ
saved_count bs = sizes_below bs num_buckets

-- the bytes of the j-th node of all: its key, then its entry
unfoldable pub saved_node : List ℕ → ℕ → List ℕ
saved_node bs j =
    part bs (num_buckets + j * key_size) key_size
    ++ part bs (num_buckets + saved_count bs * key_size + j * saved_entry_size) saved_entry_size

-- the nodes in the order read
unfoldable pub loaded_nodes : List ℕ → List Node
loaded_nodes bs = tabulate (saved_count bs) (λ j. node_in (saved_node bs j))

-- how many of the k nodes from the j-th on stand before the first that does not say disconnected
unfoldable pub disconnected_from : List ℕ → ℕ → ℕ → ℕ
disconnected_from bs j zero = 0
disconnected_from bs j (suc k) = cond (eqb (get_or (saved_node bs j) key_size 0) 0) (suc (disconnected_from bs (suc j) k)) 0

-- the bytes of bucket i as a table stores it, with no pending
unfoldable pub loaded_bytes : List ℕ → ℕ → List ℕ
loaded_bytes bs i =
    let size = get_or bs i 0 in
    let from = sizes_below bs i in
    size ∷ disconnected_from bs from size
    ∷ (joined (saved_node bs) (tabulate size (λ j. from + j)) ++ zeros ((max_nodes_per_bucket - size) * node_size + pending_size))

unfoldable pub loaded_bucket : List ℕ → ℕ → Bucket
loaded_bucket bs i = cond (ltb i num_buckets) (bucket_in (loaded_bytes bs i)) empty_bucket

abbrev pub loaded_table : List ℕ → Table → Table
loaded_table bs t = record { settings = t.settings; buckets = loaded_bucket bs; queue = t.queue }

-- The reader's question, 9.

-- no node, pending or record
unfoldable pub holds_nothing : Table → Bool
holds_nothing t =
    eqb (length t.queue) 0
    && all_below num_buckets (λ i. eqb (num_entries (t.buckets i)) 0 && not (is_some (t.buckets i).pending))

-- the length fits the sizes
abbrev pub length_fits : List ℕ → Bool
length_fits bs = eqb (length bs) (num_buckets + saved_count bs * node_size)

-- question 2 of bucket i as loaded; the settings and the queue stay, and have passed it
abbrev pub loaded_formed : List ℕ → Table → ℕ → Bool
loaded_formed bs t i =
    bucket_formed (λ k. is_at (bucket_index t.settings.local_key k) i) t.settings.bucket.max_incoming (loaded_bytes bs i)

-- three different values of one /24
unfoldable pub three_of_aNet : List Node → Bool
three_of_aNet ns =
    any_of
    (λ (a : Node).
    any_of
    (λ (b : Node).
    counts a.value b.value && any_of (λ (c : Node). counts a.value c.value && counts b.value c.value) ns)
    ns)
    ns

unfoldable pub load_fits : List ℕ → Table → Bool
load_fits bs t =
    holds_nothing t
    && (length_fits bs
    && (all_below num_buckets (loaded_formed bs t)
    && (not t.settings.bucket.filter || all_below num_buckets (λ i. not (three_of_aNet (nodes_in (loaded_bytes bs i)))))))
