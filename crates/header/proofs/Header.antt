-- The header's bytes, part by part.
use mathlib.Core.Path.{◌≡◌}
use mathlib.Core.Bool.{true}
use mathlib.Core.List.{List, [], ◌∷◌, ◌++◌, append_assoc}
use Prim.Native.Nat.{ℕ, ◌*◌, ◌-◌, ◌≤◌}
use lib.ListN.{length, get_or, length-append}
use borrow.Author.Tests.{leb-true}
use Rattle.model.specs.Bucket.{max_nodes_per_bucket}
use Rattle.model.specs.Base.{joined}
use Rattle.model.specs.Bytes.{bytes}
use Rattle.model.specs.Node.{EndedPending}
use Rattle.model.specs.Table.{Settings, Table, max_records}
use Rattle.model.specs.Sizes.{key_size, time_size, record_size, max_incoming_at, bucket_filter_at, record_count_at, padding_size}
use Rattle.model.specs.Layout.{flag_byte, record_bytes, header_bytes}
use Rattle.model.specs.Formed.{header_formed}
use Rattle.laws.proofs.Bytes.{length_bytes}
use Rattle.laws.proofs.HeaderBack.{checked_header}
use Rattle.header.proofs.Runs.{blank}

-- the settings
abbrev pub front_bytes : Settings → List ℕ
front_bytes s =
    bytes key_size s.local_key
    ++ (bytes time_size s.bucket.pending_timeout ++ (s.bucket.max_incoming ∷ flag_byte s.table_filter ∷ flag_byte s.bucket.filter ∷ []))

pub length_front : (s : Settings) → length (front_bytes s) ≡ record_count_at
length_front s = simp (length-append, length_bytes)

-- the settings, the number of records, the padding, the records
abbrev pub parts_of : Settings → List EndedPending → List ℕ
parts_of s q = front_bytes s ++ ((length q ∷ []) ++ (blank padding_size ++ (joined record_bytes q ++ blank ((max_records - length q) * record_size))))

pub header_parts : (t : Table) → header_bytes t ≡ parts_of t.settings t.queue
unfolding header_bytes blank
header_parts t = simp append_assoc

-- what question 2 tells of the settings
pub settings_in_range : (s : List ℕ) → header_formed s ≡ true → (get_or s max_incoming_at 0 ≤ max_nodes_per_bucket) × (get_or s bucket_filter_at 0 ≤ 1)
settings_in_range s h = let c = checked_header s h in (c.max_incoming, leb-true (get_or s bucket_filter_at 0) 1 c.bucket_filter)
