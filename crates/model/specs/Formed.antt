-- Question 2, on the storage's bytes (01, "The gatekeeper's questions"): one test of the settings and the queue, one of each bucket, and of
-- several "for every bucket".
use Rattle.std.specs.Prelude.{ℕ, ◌+◌, ◌*◌, ◌-◌, Bool, false, cond, not, ◌&&◌, ◌||◌, List, length, get_or, eqb, leb, ltb}
use Rattle.std.proofs.Math.Option.{Option, none, some}
use Rattle.model.specs.Base.{same, every, all_below}
use Rattle.model.specs.Bytes.{number, part}
use Rattle.model.specs.Key.{bucket_index}
use Rattle.model.specs.Bucket.{max_nodes_per_bucket, incoming_nodes}
use Rattle.model.specs.Table.{num_buckets, max_records}
use Rattle.model.specs.Sizes.{key_size, time_size, node_size, record_size, place_at, pending_at, max_incoming_at, table_filter_at, bucket_filter_at, record_count_at, padding_at, padding_size, record_at}
use Rattle.model.specs.Layout.{evicting_kind, last_kind, place_in, nodes_in, record_part, bucket_part}

-- the k bytes from index at on are zero
unfoldable pub are_zero : List ℕ → ℕ → ℕ → Bool
are_zero bs at k = all_below k (λ j. eqb (get_or bs (at + j) 0) 0)

-- codes as in 4, of a node's bytes: state, direction, address flag; octets zero at flag 0
unfoldable pub node_codes : List ℕ → Bool
node_codes bs =
    leb (get_or bs key_size 0) 1
    && (leb (get_or bs (key_size + 1) 0) 1 && (leb (get_or bs (key_size + 2) 0) 1 && (eqb (get_or bs (key_size + 2) 0) 1 || are_zero bs (key_size + 3) 4)))

abbrev pub key_in : List ℕ → ℕ
key_in bs = number (part bs 0 key_size)

-- the state that place j has where f is the first connected place
abbrev pub state_at : ℕ → ℕ → ℕ
state_at f j = cond (ltb j f) 0 1

-- no place below k has the key
unfoldable pub not_held : List ℕ → ℕ → ℕ → Bool
not_held bs k key = all_below k (λ j. not (same (key_in (place_in bs j)) key))

-- a pending of that index and not held; unused bytes zero
unfoldable pub pending_formed : (ℕ → Bool) → List ℕ → Bool
pending_formed of_index bs =
    cond (eqb (get_or bs pending_at 0) 0) (are_zero bs (pending_at + 1) (node_size + time_size))
    (eqb (get_or bs pending_at 0) 1
    && (of_index (key_in (part bs (pending_at + 1) node_size))
    && (not_held bs (get_or bs 0 0) (key_in (part bs (pending_at + 1) node_size)) && node_codes (part bs (pending_at + 1) node_size))))

-- a bucket's bytes: at most 16 different keys, each of its index, disconnected first, first connected place exact, connected
-- incoming within max_incoming, the pending, codes as in 4, unused bytes zero
unfoldable pub bucket_formed : (ℕ → Bool) → ℕ → List ℕ → Bool
bucket_formed of_index max_incoming bs =
    leb (get_or bs 0 0) max_nodes_per_bucket
    && (all_below (get_or bs 0 0) (λ j. not_held bs j (key_in (place_in bs j)))
    && (all_below (get_or bs 0 0) (λ j. of_index (key_in (place_in bs j)))
    && (all_below (get_or bs 0 0) (λ j. eqb (get_or (place_in bs j) key_size 0) (state_at (get_or bs 1 0) j))
    && (leb (get_or bs 1 0) (get_or bs 0 0)
    && (leb (length (incoming_nodes (nodes_in bs))) max_incoming
    && (pending_formed of_index bs
    && (all_below (get_or bs 0 0) (λ j. node_codes (place_in bs j))
    && are_zero bs (place_at (get_or bs 0 0)) ((max_nodes_per_bucket - get_or bs 0 0) * node_size))))))))

-- a record's bytes: its ending is one of the kinds, codes as in 4, unused bytes zero
unfoldable pub record_formed : List ℕ → Bool
record_formed bs =
    cond (eqb (get_or bs key_size 0) evicting_kind) (node_codes (part bs (key_size + 1) node_size))
    (leb (get_or bs key_size 0) last_kind && are_zero bs (key_size + 1) node_size)

-- the settings and the queue: codes as in 4, at most 64 records, unused bytes zero
unfoldable pub header_formed : List ℕ → Bool
header_formed s =
    leb (get_or s max_incoming_at 0) max_nodes_per_bucket
    && (leb (get_or s table_filter_at 0) 1
    && (leb (get_or s bucket_filter_at 0) 1
    && (are_zero s padding_at padding_size
    && (leb (get_or s record_count_at 0) max_records
    && (all_below (get_or s record_count_at 0) (λ j. record_formed (record_part s j))
    && are_zero s (record_at (get_or s record_count_at 0)) ((max_records - get_or s record_count_at 0) * record_size))))))

-- the index of a key is i
abbrev pub is_at : Option ℕ → ℕ → Bool
is_at none i = false
is_at (some j) i = same j i

-- bucket i of the storage
abbrev pub bucket_formed_at : List ℕ → ℕ → Bool
bucket_formed_at s i = bucket_formed (λ k. is_at (bucket_index (key_in s) k) i) (get_or s max_incoming_at 0) (bucket_part s i)

-- 02, slip 7: the buckets that a call reads
abbrev pub buckets_formed : List ℕ → List ℕ → Bool
buckets_formed s is = every (bucket_formed_at s) is

-- settings, queue and every bucket
unfoldable pub formed : List ℕ → Bool
formed s = header_formed s && all_below num_buckets (λ i. bucket_formed_at s i)
