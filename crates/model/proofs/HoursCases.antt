-- Calls with session hours in single situations hold, by computing them all, behind the other facts.
use mathlib.Core.Path.{◌≡◌, refl}
use mathlib.Core.Bool.{true}
use lib.Count.{count_leading_zeros}
use Rattle.model.specs.Base.{same, every, joined, tabulate, all_below}
use Rattle.model.specs.Bytes.{number, bytes, part, splice}
use Rattle.model.specs.Key.{log2_distance, bucket_index, test_bit}
use Rattle.model.specs.Value.{same_net, same_value}
use Rattle.model.specs.Filter.{counts, ip_filter_fails}
use Rattle.model.specs.Bucket.{first_connected_pos, is_full, fails_bucket_filter, is_max_incoming, insert, apply_due, apply_pending, reinsert, update_status, update_value, update_pending, remove}
use Rattle.model.specs.Table.{held_nodes, fails_table_filter}
use Rattle.model.specs.Sort.{insert_by, sort_by}
use Rattle.model.specs.Visit.{sets_down, clears_up, visits}
use Rattle.model.specs.Session.{year_start, month_start, day_number, session_fits, is_open}
use Rattle.model.specs.Listing.{visited, index_at, found}
use Rattle.model.specs.Question.{keys_fit, codes_in_range, clock_fits, output_fits, kind_fits}
use Rattle.model.specs.Step.{act, queue_fits, step}
use Rattle.model.specs.Layout.{value_bytes, node_bytes, record_bytes, bucket_bytes, header_bytes, item_bytes, value_in, node_in, record_in, nodes_in, bucket_in, settings_in, table_of}
use Rattle.model.specs.Formed.{are_zero, node_codes, not_held, pending_formed, bucket_formed, record_formed, header_formed, formed}
use Rattle.model.specs.Nearest.{nearest}
use Rattle.model.specs.StepBytes.{restore, step_bytes}
use Rattle.model.specs.Explain.{filter_keys, insert_reason, reinsert_reason, status_reason, value_reason, update_node_reason, insert_or_update_reason, remove_reason, reason, explanation, key_text, keys_text, line, explain_bytes}
use Rattle.model.specs.Rows
use Rattle.model.specs.ExplainCases
use Rattle.model.specs.HoursCases.{hours_cases, hours_explained}
use Rattle.model.proofs.QuestionCases.{storages_hold}

pub hours_hold : every Rows.holds hours_cases ≡ true
unfolding count_leading_zeros same joined tabulate all_below number bytes part splice log2_distance bucket_index test_bit same_net same_value counts ip_filter_fails first_connected_pos is_full fails_bucket_filter is_max_incoming insert apply_due apply_pending reinsert update_status update_value update_pending remove held_nodes fails_table_filter insert_by sort_by sets_down clears_up visits visited index_at found keys_fit codes_in_range clock_fits output_fits kind_fits act queue_fits step value_bytes node_bytes record_bytes bucket_bytes header_bytes item_bytes value_in node_in record_in nodes_in bucket_in settings_in table_of are_zero node_codes not_held pending_formed bucket_formed record_formed header_formed formed nearest restore step_bytes day_number year_start month_start session_fits is_open hours_cases
hours_hold = let earlier = storages_hold in refl

pub hours_explained_hold : every ExplainCases.holds hours_explained ≡ true
unfolding count_leading_zeros same joined number bytes splice log2_distance bucket_index same_net same_value counts ip_filter_fails is_full fails_bucket_filter is_max_incoming insert apply_due apply_pending reinsert update_status update_value update_pending remove held_nodes fails_table_filter keys_fit codes_in_range clock_fits output_fits kind_fits act queue_fits step header_formed formed filter_keys insert_reason reinsert_reason status_reason value_reason update_node_reason insert_or_update_reason remove_reason reason explanation key_text keys_text line explain_bytes day_number year_start month_start session_fits is_open hours_explained
hours_explained_hold = let earlier = hours_hold in refl
