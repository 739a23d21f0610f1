-- How many bytes each thing takes, each derived from the others. Offsets count from the start of the thing itself.
use Rattle.std.specs.Prelude.{ℕ, ◌+◌, ◌*◌}
use Rattle.model.specs.Bucket.{max_nodes_per_bucket}
use Rattle.model.specs.Table.{num_buckets, max_records}

abbrev pub key_size : ℕ
key_size = 32

abbrev pub time_size : ℕ
time_size = 8

-- a slot of the host's record store has 64 bits (02, slip 2); what follows is derived from it
abbrev pub slot_size : ℕ
slot_size = 8

-- a value: address flag, four octets, slot
abbrev pub value_size : ℕ
value_size = 5 + slot_size

-- a node: key, state, direction, value
abbrev pub node_size : ℕ
node_size = key_size + 2 + value_size

-- a record: key, kind of its ending, evicted node
abbrev pub record_size : ℕ
record_size = key_size + 1 + node_size

-- a bucket: count, first connected place, the places; then pending flag, pending node, deadline. Place j stands at place_at j.
abbrev pub place_at : ℕ → ℕ
place_at j = 2 + j * node_size

abbrev pub pending_at : ℕ
pending_at = place_at max_nodes_per_bucket

abbrev pub pending_size : ℕ
pending_size = 1 + node_size + time_size

abbrev pub bucket_size : ℕ
bucket_size = pending_at + pending_size

-- the table: local key, pending timeout, max_incoming, table filter, bucket filter, record count, padding, records, buckets
abbrev pub timeout_at : ℕ
timeout_at = key_size

abbrev pub max_incoming_at : ℕ
max_incoming_at = timeout_at + time_size

abbrev pub table_filter_at : ℕ
table_filter_at = max_incoming_at + 1

abbrev pub bucket_filter_at : ℕ
bucket_filter_at = table_filter_at + 1

abbrev pub record_count_at : ℕ
record_count_at = bucket_filter_at + 1

-- unused, so that the records start at a multiple of 16
abbrev pub padding_at : ℕ
padding_at = record_count_at + 1

abbrev pub padding_size : ℕ
padding_size = 4

abbrev pub records_at : ℕ
records_at = padding_at + padding_size

abbrev pub record_at : ℕ → ℕ
record_at j = records_at + j * record_size

abbrev pub header_size : ℕ
header_size = records_at + max_records * record_size

abbrev pub bucket_at : ℕ → ℕ
bucket_at i = header_size + i * bucket_size

abbrev pub storage_size : ℕ
storage_size = header_size + num_buckets * bucket_size
