-- What the calls of each row answer, by computing.
use Prim.Native.Nat.{ℕ}
use mathlib.Core.Path.{◌≡◌, refl}
use mathlib.Core.List.{List, [], ◌∷◌}
use mathlib.Core.Option.{none, some}
use lib.Count.{count_leading_zeros}
use lib.ListN.{drop}
use Rattle.model.specs.Base.{same, first}
use Rattle.model.specs.Key.{log2_distance, bucket_index, test_bit}
use Rattle.model.specs.Visit.{sets_down, clears_up, visits}
use Rattle.model.specs.Filter.{counts, ip_filter_fails}
use Rattle.model.specs.Value.{same_net, same_value}
use Rattle.model.specs.Bucket.{first_connected_pos, is_full, fails_bucket_filter, is_max_incoming, insert, apply_due, apply_pending, reinsert, update_status, remove}
use Rattle.model.specs.Result.{BucketInsertResult, UpdateResult, Reply}
use Rattle.key.specs.Key.{num, key_of, key_from}
use Rattle.model.specs.Node.{Ending}
use Rattle.node.specs.Node.{node_of}
use Rattle.bucket.specs.declared.KBucket.{KBucket}
use Rattle.bucket.specs.Bucket.{bucket_of, key_at, sound}
use Rattle.bucket.specs.Calls.{insert_call, new_call, update_status_call, apply_pending_call, remove_call}
use Rattle.positions.specs.Positions.{index_of, plain, addressed, node_from, emptied, filled}

-- rows 1 and 2

pub indices : (index_of 0 0 ≡ none) × (index_of 0 1 ≡ some 0) × (index_of 0 2 ≡ some 1) × (index_of 0 3 ≡ some 1) × (index_of 9223372036854775808 0 ≡ some 255)
unfolding count_leading_zeros log2_distance bucket_index num
indices = (refl, refl, refl, refl, refl)

-- row 5

abbrev pub visited : List ℕ
visited = visits (num (key_from 0))

pub first_visits : (first visited ≡ some 0) × (first (drop 1 visited) ≡ some 0) × (first (drop 1 (drop 1 visited)) ≡ some 1)
    × (first (drop 1 (drop 1 (drop 1 visited))) ≡ some 2)
unfolding test_bit sets_down clears_up visits num
first_visits = (refl, refl, refl, refl)

-- row 6

abbrev pub pending : KBucket
pending = (insert_call (filled 16 32 0 (emptied 16 0)) (node_from 48 plain 1 0) 100).1

pub not_due : (apply_pending_call pending 60099).0 ≡ Reply.Answered []
unfolding same counts ip_filter_fails same_net same_value is_full fails_bucket_filter is_max_incoming insert apply_due apply_pending num key_of sound new_call insert_call apply_pending_call filled
not_due = refl

pub due : (apply_pending_call pending 60100).0 ≡ Reply.Answered (record { key = 48; ending = Ending.Placed (some (node_of (node_from 32 plain 0 0))) } ∷ [])
unfolding same counts ip_filter_fails same_net same_value is_full fails_bucket_filter is_max_incoming insert apply_due apply_pending num key_of sound new_call insert_call apply_pending_call filled
due = refl

-- row 7

abbrev pub removed : KBucket
removed = (remove_call (filled 1 34 1 (filled 2 32 0 (emptied 16 0))) (key_from 34) 0).1

pub no_first : (first_connected_pos (bucket_of removed) ≡ none) × (removed.count ≡ 2) × (removed.first_connected_pos ≡ 2)
unfolding same counts ip_filter_fails same_net same_value first_connected_pos is_full fails_bucket_filter is_max_incoming insert apply_due apply_pending remove num key_of sound new_call insert_call remove_call filled
no_first = (refl, refl, refl)

-- row 8

pub too_many : (insert_call (emptied 0 0) (node_from 32 plain 1 1) 0).0 ≡ Reply.Answered BucketInsertResult.TooManyIncoming
unfolding same counts ip_filter_fails same_net same_value is_full fails_bucket_filter is_max_incoming insert num key_of sound new_call insert_call
too_many = refl

pub not_too_many : (insert_call (emptied 0 0) (node_from 32 plain 0 1) 0).0 ≡ Reply.Answered BucketInsertResult.Inserted
unfolding same counts ip_filter_fails same_net same_value is_full fails_bucket_filter is_max_incoming insert num key_of sound new_call insert_call
not_too_many = refl

-- row 9

abbrev pub full : KBucket
full = filled 15 33 1 (filled 1 32 0 (emptied 16 0))

pub names_place_0 : (insert_call full (node_from 48 plain 1 0) 0).0 ≡ Reply.Answered (BucketInsertResult.Pending 32)
unfolding same counts ip_filter_fails same_net same_value is_full fails_bucket_filter is_max_incoming insert num key_of sound new_call insert_call filled
names_place_0 = refl

pub full_beside : (insert_call (insert_call full (node_from 48 plain 1 0) 0).1 (node_from 49 plain 1 0) 0).0 ≡ Reply.Answered BucketInsertResult.Full
unfolding same counts ip_filter_fails same_net same_value is_full fails_bucket_filter is_max_incoming insert num key_of sound new_call insert_call filled
full_beside = refl

-- row 10

abbrev pub restated : Reply UpdateResult × KBucket
restated = update_status_call (filled 2 32 1 (emptied 16 0)) (key_from 32) 1 2

pub moved : (key_at restated.1 0 ≡ 33) × (key_at restated.1 1 ≡ 32) × (restated.0 ≡ Reply.Answered UpdateResult.NotModified)
unfolding same counts ip_filter_fails same_net same_value is_full fails_bucket_filter is_max_incoming insert reinsert update_status num key_of sound new_call insert_call update_status_call filled
moved = (refl, refl, refl)

-- row 12

abbrev pub two_of_aNet : KBucket
two_of_aNet = (insert_call (insert_call (emptied 16 1) (node_from 32 (addressed 1) 0 0) 0).1 (node_from 33 (addressed 2) 0 0) 0).1

pub third_value : (insert_call two_of_aNet (node_from 34 (addressed 3) 0 0) 0).0 ≡ Reply.Answered BucketInsertResult.FailedFilter
unfolding same counts ip_filter_fails same_net same_value is_full fails_bucket_filter is_max_incoming insert num key_of sound new_call insert_call
third_value = refl

pub value_again : (insert_call two_of_aNet (node_from 34 (addressed 2) 0 0) 0).0 ≡ Reply.Answered BucketInsertResult.Inserted
unfolding same counts ip_filter_fails same_net same_value is_full fails_bucket_filter is_max_incoming insert num key_of sound new_call insert_call
value_again = refl
