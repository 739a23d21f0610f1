-- Which buckets a call reads in single situations, and where question 2 asks about them (02, slip 7). Bucket 5 has the keys 32 to 63; the
-- local key is zero.
use Rattle.std.specs.Prelude.{ℕ, Bool, not, List, [], ◌∷◌, ◌++◌, map}
use Rattle.model.specs.Bytes.{zeros}
use Rattle.model.specs.Sizes.{bucket_size, bucket_at}
use Rattle.model.specs.Call.{Listing, Call, KeyCall, no_hours}
use Rattle.model.specs.Formed.{buckets_formed}
use Rattle.model.specs.StepBytes.{every_bucket, reads, all_questions, write_questions}
use Rattle.model.specs.Numbers.{same_numbers}
use Rattle.model.specs.Rows.{no_table, after, key, plain, start, disconnected, connected, pending_at100}

-- 33 and 32 are held, 32 with slot 32
abbrev held : (table_filter : ℕ) → List Call
held f = start 16 f 0 ∷ disconnected 33 ∷ connected 32 ∷ []

abbrev are_read : (before : List Call) (call : Call) (buckets : List ℕ) → Bool
are_read before c is = same_numbers (reads c (after before no_table)) is

abbrev update_node : (key slot : ℕ) → Call
update_node k slot = Call.on_key (key k) (KeyCall.update_node (plain slot) 2 0)

abbrev insert_or_update : (key slot : ℕ) → Call
insert_or_update k slot = Call.on_key (key k) (KeyCall.insert_or_update (plain slot) 1 0 0 no_hours)

abbrev list : Listing → (n now : ℕ) → Call
list l n now = Call.list l n now []

abbrev numbers_of : List (ℕ × Bool) → List ℕ
numbers_of qs = map (λ (q : ℕ × Bool). q.0) qs

-- bucket 0 is empty, bucket 1 says that it holds 17
abbrev malformed_one : List ℕ
malformed_one = zeros (bucket_at 1) ++ (17 ∷ zeros bucket_size)

unfoldable pub reads_cases : List Bool
reads_cases =
    -- the key's own, where the table filter is off
    are_read (held 0) (update_node 32 7) (5 ∷ [])
    ∷ are_read (held 0) (insert_or_update 34 7) (5 ∷ [])
    -- all of them where it is on and runs, for a held key and for a new one
    ∷ are_read (held 1) (update_node 32 7) every_bucket
    ∷ are_read (held 1) (insert_or_update 32 7) every_bucket
    ∷ are_read (held 1) (insert_or_update 34 7) every_bucket
    -- it is skipped where the key is held with an equal value
    ∷ are_read (held 1) (update_node 32 32) (5 ∷ [])
    ∷ are_read (held 1) (insert_or_update 32 32) (5 ∷ [])
    -- another key's equal value skips nothing
    ∷ are_read (held 1) (insert_or_update 34 32) every_bucket
    -- none for the local key
    ∷ are_read (held 1) (update_node 0 7) []
    ∷ are_read (held 1) (insert_or_update 0 7) []
    ∷ are_read (held 0) (Call.on_key (key 0) (KeyCall.entry 0)) []
    -- calls that give no value to the table filter
    ∷ are_read (held 1) (connected 34) (5 ∷ [])
    ∷ are_read (held 1) (Call.on_key (key 32) (KeyCall.update_node_status 1 2 0)) (5 ∷ [])
    ∷ are_read (held 1) (Call.on_key (key 32) (KeyCall.present_update 1 2)) (5 ∷ [])
    ∷ are_read (held 1) (Call.on_key (key 32) (KeyCall.pending_update 1 0)) (5 ∷ [])
    ∷ are_read (held 1) (Call.on_key (key 32) (KeyCall.remove 0)) (5 ∷ [])
    ∷ are_read (held 1) (Call.on_key (key 64) (KeyCall.entry 0)) (6 ∷ [])
    -- a listing: up to the n-th item
    ∷ are_read (held 0) (list Listing.iter 0 0) []
    ∷ are_read (held 0) (list Listing.iter 2 0) (0 ∷ 1 ∷ 2 ∷ 3 ∷ 4 ∷ 5 ∷ [])
    ∷ are_read (held 0) (list Listing.iter 3 0) every_bucket
    ∷ are_read (held 0) (list (Listing.closest_keys (key 35)) 1 0) (5 ∷ [])
    ∷ are_read (held 0) (list (Listing.nodes_by_distances (6 ∷ 7 ∷ 257 ∷ [])) 3 0) (5 ∷ 6 ∷ [])
    -- nodes_by_distances: those of its applying pass, which ends where placed pendings have given n nodes
    ∷ are_read pending_at100 (list (Listing.nodes_by_distances (6 ∷ 7 ∷ [])) 16 60100) (5 ∷ [])
    ∷ are_read pending_at100 (list (Listing.nodes_by_distances (6 ∷ 7 ∷ [])) 16 60099) (5 ∷ 6 ∷ [])
    -- the reader, and calls that read none
    ∷ are_read (held 0) (Call.read []) every_bucket
    ∷ are_read (held 0) Call.take_applied_pending []
    ∷ are_read (held 0) (start 16 0 0) []
    -- 2 of the buckets is asked after 6; of the writer before it
    ∷ same_numbers (numbers_of (all_questions (update_node 32 7) [])) (1 ∷ 2 ∷ 3 ∷ 4 ∷ 5 ∷ 6 ∷ 2 ∷ 7 ∷ 8 ∷ 9 ∷ 10 ∷ 11 ∷ [])
    ∷ same_numbers (numbers_of (write_questions [] [])) (1 ∷ 2 ∷ 6 ∷ [])
    -- and is about those that are read, each of them
    ∷ buckets_formed malformed_one (0 ∷ [])
    ∷ not (buckets_formed malformed_one (1 ∷ []))
    ∷ not (buckets_formed malformed_one (0 ∷ 1 ∷ []))
    ∷ buckets_formed malformed_one []
    ∷ []
