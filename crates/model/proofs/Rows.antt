-- The twelve positions of 01 hold, by computing them all.
use mathlib.Core.Path.{◌≡◌, refl}
use mathlib.Core.Bool.{true}
use lib.Count.{count_leading_zeros}
use Rattle.model.specs.Base.{same, every, joined, tabulate}
use Rattle.model.specs.Bytes.{number, bytes}
use Rattle.model.specs.Key.{log2_distance, bucket_index, test_bit}
use Rattle.model.specs.Value.{same_net, same_value}
use Rattle.model.specs.Filter.{counts, ip_filter_fails}
use Rattle.model.specs.Bucket.{first_connected_pos, is_full, fails_bucket_filter, is_max_incoming, insert, apply_due, apply_pending, reinsert, update_status, update_value, update_pending, remove}
use Rattle.model.specs.Table.{held_nodes, fails_table_filter}
use Rattle.model.specs.Sort.{insert_by, sort_by}
use Rattle.model.specs.Visit.{sets_down, clears_up, visits}
use Rattle.model.specs.Listing.{visited, index_at, found}
use Rattle.model.specs.Question.{keys_fit, codes_in_range, clock_fits, output_fits, kind_fits}
use Rattle.model.specs.Step.{act, queue_fits, step}
use Rattle.model.specs.Rows.{holds, rows}
use Rattle.model.proofs.SessionCases.{session_cases_hold}

pub rows_hold : every holds rows ≡ true
unfolding count_leading_zeros same joined tabulate number bytes log2_distance bucket_index test_bit same_net same_value counts ip_filter_fails first_connected_pos is_full fails_bucket_filter is_max_incoming insert apply_due apply_pending reinsert update_status update_value update_pending remove held_nodes fails_table_filter insert_by sort_by sets_down clears_up visits visited index_at found keys_fit codes_in_range clock_fits output_fits kind_fits act queue_fits step rows
rows_hold = let earlier = session_cases_hold in refl
