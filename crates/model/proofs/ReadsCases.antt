-- Which buckets a call reads in single situations holds, by computing them all.
use mathlib.Core.Path.{◌≡◌, refl}
use mathlib.Core.Bool.{Bool, true}
use lib.Count.{count_leading_zeros}
use Rattle.model.specs.Base.{same, every, joined, tabulate, all_below}
use Rattle.model.specs.Bytes.{number, bytes, part}
use Rattle.model.specs.Key.{log2_distance, bucket_index, test_bit}
use Rattle.model.specs.Value.{same_net, same_value}
use Rattle.model.specs.Filter.{counts, ip_filter_fails}
use Rattle.model.specs.Bucket.{first_connected_pos, is_full, fails_bucket_filter, is_max_incoming, insert, apply_due, apply_pending, reinsert, update_status, update_value}
use Rattle.model.specs.Table.{held_nodes, fails_table_filter}
use Rattle.model.specs.Visit.{sets_down, clears_up, visits}
use Rattle.model.specs.Listing.{visited, index_at}
use Rattle.model.specs.Question.{keys_fit, codes_in_range, clock_fits, output_fits, kind_fits}
use Rattle.model.specs.Step.{act, queue_fits, step}
use Rattle.model.specs.Layout.{value_in, node_in, nodes_in, settings_in}
use Rattle.model.specs.Formed.{are_zero, node_codes, not_held, pending_formed, bucket_formed}
use Rattle.model.specs.ReadsCases.{reads_cases}
use Rattle.model.proofs.Cases.{cases_hold}

pub reads_cases_hold : every (λ (b : Bool). b) reads_cases ≡ true
unfolding count_leading_zeros same joined tabulate all_below number bytes part log2_distance bucket_index test_bit same_net same_value counts ip_filter_fails first_connected_pos is_full fails_bucket_filter is_max_incoming insert apply_due apply_pending reinsert update_status update_value held_nodes fails_table_filter sets_down clears_up visits visited index_at keys_fit codes_in_range clock_fits output_fits kind_fits act queue_fits step value_in node_in nodes_in settings_in are_zero node_codes not_held pending_formed bucket_formed reads_cases
reads_cases_hold = let earlier = cases_hold in refl
