-- The answers of the samples, that log and table agree after each call, and what is claimed of pendings, by computing.
use mathlib.Core.Path.{◌≡◌, refl}
use mathlib.Core.Bool.{true}
use mathlib.Core.List.{[], ◌∷◌, ◌++◌}
use lib.Count.{count_leading_zeros}
use Rattle.model.specs.Base.{same, joined, tabulate}
use Rattle.model.specs.Bytes.{number, bytes, part}
use Rattle.model.specs.Key.{log2_distance, bucket_index}
use Rattle.model.specs.Value.{same_net, same_value}
use Rattle.model.specs.Filter.{counts, ip_filter_fails}
use Rattle.model.specs.Bucket.{is_full, fails_bucket_filter, is_max_incoming, insert, apply_due, apply_pending, reinsert, update_status, update_value, update_pending, remove}
use Rattle.model.specs.Table.{held_nodes, fails_table_filter}
use Rattle.model.specs.Listing.{visited, found}
use Rattle.model.specs.Question.{keys_fit, codes_in_range, clock_fits, output_fits, kind_fits}
use Rattle.model.specs.Layout.{value_bytes, value_in, node_in, nodes_in, bucket_in}
use Rattle.model.specs.Saved.{saved, sizes_below, saved_node, loaded_nodes, disconnected_from, loaded_bytes, loaded_bucket}
use Rattle.model.specs.Step.{act, queue_fits, step}
use Rattle.table_log.specs.Log.{group}
use Rattle.table_log.specs.Pending.{waiting}
use Rattle.table_log.specs.Sample.{sample, endings, new_again, new_box, answers_hold, end_agrees, log_agrees, swap_agrees, pendings_hold}

pub sample_answers : answers_hold sample ≡ true
unfolding count_leading_zeros same joined tabulate number bytes log2_distance bucket_index same_net same_value counts ip_filter_fails is_full fails_bucket_filter is_max_incoming insert apply_due apply_pending reinsert update_status update_value update_pending remove held_nodes fails_table_filter visited found keys_fit codes_in_range clock_fits output_fits kind_fits act queue_fits step sample answers_hold
sample_answers = refl

pub sample_agrees : log_agrees (5 ∷ 6 ∷ []) sample ≡ true
unfolding count_leading_zeros same joined tabulate number bytes log2_distance bucket_index same_net same_value counts ip_filter_fails is_full fails_bucket_filter is_max_incoming insert apply_due apply_pending reinsert update_status update_value update_pending remove held_nodes fails_table_filter visited found keys_fit codes_in_range clock_fits output_fits kind_fits act queue_fits step sample group log_agrees
sample_agrees = refl

-- each of the six endings
pub endings_answers : answers_hold endings ≡ true
unfolding count_leading_zeros same joined tabulate number bytes log2_distance bucket_index same_net same_value counts ip_filter_fails is_full fails_bucket_filter is_max_incoming insert apply_due apply_pending reinsert update_status update_value update_pending remove held_nodes fails_table_filter visited found keys_fit codes_in_range clock_fits output_fits kind_fits act queue_fits step endings answers_hold
endings_answers = refl

pub endings_agree : end_agrees (255 ∷ []) endings ≡ true
unfolding count_leading_zeros same joined tabulate number bytes log2_distance bucket_index same_net same_value counts ip_filter_fails is_full fails_bucket_filter is_max_incoming insert apply_due apply_pending reinsert update_status update_value update_pending remove held_nodes fails_table_filter visited found keys_fit codes_in_range clock_fits output_fits kind_fits act queue_fits step endings group end_agrees
endings_agree = refl

-- nodes that are loaded, and what calls do to them
pub swap_agrees_lem : swap_agrees (5 ∷ 6 ∷ []) [] ≡ true
unfolding count_leading_zeros same joined tabulate number bytes part log2_distance bucket_index same_net same_value counts ip_filter_fails is_full fails_bucket_filter is_max_incoming insert apply_due apply_pending reinsert update_status update_value update_pending remove held_nodes fails_table_filter visited found keys_fit codes_in_range clock_fits output_fits kind_fits value_bytes value_in node_in nodes_in bucket_in saved sizes_below saved_node loaded_nodes disconnected_from loaded_bytes loaded_bucket act queue_fits step group swap_agrees
swap_agrees_lem = refl

pub swapped_agrees : swap_agrees (5 ∷ 6 ∷ []) new_box ≡ true
unfolding count_leading_zeros same joined tabulate number bytes part log2_distance bucket_index same_net same_value counts ip_filter_fails is_full fails_bucket_filter is_max_incoming insert apply_due apply_pending reinsert update_status update_value update_pending remove held_nodes fails_table_filter visited found keys_fit codes_in_range clock_fits output_fits kind_fits value_bytes value_in node_in nodes_in bucket_in saved sizes_below saved_node loaded_nodes disconnected_from loaded_bytes loaded_bucket act queue_fits step group swap_agrees
swapped_agrees = refl

pub sample_pendings : pendings_hold sample ≡ true
unfolding count_leading_zeros same joined tabulate number bytes log2_distance bucket_index same_net same_value counts ip_filter_fails is_full fails_bucket_filter is_max_incoming insert apply_due apply_pending reinsert update_status update_value update_pending remove held_nodes fails_table_filter visited found keys_fit codes_in_range clock_fits output_fits kind_fits act queue_fits step sample waiting pendings_hold
sample_pendings = refl

pub endings_pendings : pendings_hold (endings ++ new_again) ≡ true
unfolding count_leading_zeros same joined tabulate number bytes log2_distance bucket_index same_net same_value counts ip_filter_fails is_full fails_bucket_filter is_max_incoming insert apply_due apply_pending reinsert update_status update_value update_pending remove held_nodes fails_table_filter visited found keys_fit codes_in_range clock_fits output_fits kind_fits act queue_fits step endings waiting pendings_hold
endings_pendings = refl
