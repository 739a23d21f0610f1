-- What the calls are asked in single situations holds, by computing them all.
use mathlib.Core.Path.{◌≡◌, refl}
use mathlib.Core.Bool.{true}
use lib.Count.{count_leading_zeros}
use Rattle.model.specs.Base.{same, every, joined, tabulate, all_below}
use Rattle.model.specs.Bytes.{number, bytes, part, splice}
use Rattle.model.specs.Key.{log2_distance, bucket_index, test_bit}
use Rattle.model.specs.Value.{same_net, same_value}
use Rattle.model.specs.Filter.{counts, ip_filter_fails}
use Rattle.model.specs.Bucket.{first_connected_pos, is_full, fails_bucket_filter, is_max_incoming, insert, apply_due, apply_pending, reinsert, update_status, update_value, update_pending, remove}
use Rattle.model.specs.Table.{held_nodes, fails_table_filter}
use Rattle.model.specs.Sort.{insert_by, sort_by}
use Rattle.model.specs.Visit.{sets_down, clears_up, visits}
use Rattle.model.specs.Listing.{visited, index_at, found}
use Rattle.model.specs.Question.{keys_fit, codes_in_range, clock_fits, output_fits, kind_fits}
use Rattle.model.specs.Step.{act, queue_fits, step}
use Rattle.model.specs.Layout.{value_bytes, node_bytes, record_bytes, bucket_bytes, header_bytes, item_bytes, value_in, node_in, record_in, nodes_in, bucket_in, settings_in, table_of}
use Rattle.model.specs.Formed.{are_zero, node_codes, not_held, pending_formed, bucket_formed, record_formed, header_formed, formed}
use Rattle.model.specs.Nearest.{nearest}
use Rattle.model.specs.StepBytes.{restore, step_bytes}
use Rattle.model.specs.Rows.{holds}
use Rattle.model.specs.Cases.{formed_cases, question_cases, storage_cases}
use Rattle.model.proofs.ExplainCases.{explain_cases_hold}

pub formed_hold : every holds formed_cases ≡ true
unfolding count_leading_zeros same joined tabulate all_below number bytes part splice log2_distance bucket_index test_bit same_net same_value counts ip_filter_fails first_connected_pos is_full fails_bucket_filter is_max_incoming insert apply_due apply_pending reinsert update_status update_value update_pending remove held_nodes fails_table_filter insert_by sort_by sets_down clears_up visits visited index_at found keys_fit codes_in_range clock_fits output_fits kind_fits act queue_fits step value_bytes node_bytes record_bytes bucket_bytes header_bytes item_bytes value_in node_in record_in nodes_in bucket_in settings_in table_of are_zero node_codes not_held pending_formed bucket_formed record_formed header_formed formed nearest restore step_bytes formed_cases
formed_hold = let earlier = explain_cases_hold in refl

pub questions_hold : every holds question_cases ≡ true
unfolding count_leading_zeros same joined tabulate all_below number bytes part splice log2_distance bucket_index test_bit same_net same_value counts ip_filter_fails first_connected_pos is_full fails_bucket_filter is_max_incoming insert apply_due apply_pending reinsert update_status update_value update_pending remove held_nodes fails_table_filter insert_by sort_by sets_down clears_up visits visited index_at found keys_fit codes_in_range clock_fits output_fits kind_fits act queue_fits step value_bytes node_bytes record_bytes bucket_bytes header_bytes item_bytes value_in node_in record_in nodes_in bucket_in settings_in table_of are_zero node_codes not_held pending_formed bucket_formed record_formed header_formed formed nearest restore step_bytes question_cases
questions_hold = let earlier = formed_hold in refl

pub storages_hold : every holds storage_cases ≡ true
unfolding count_leading_zeros same joined tabulate all_below number bytes part splice log2_distance bucket_index test_bit same_net same_value counts ip_filter_fails first_connected_pos is_full fails_bucket_filter is_max_incoming insert apply_due apply_pending reinsert update_status update_value update_pending remove held_nodes fails_table_filter insert_by sort_by sets_down clears_up visits visited index_at found keys_fit codes_in_range clock_fits output_fits kind_fits act queue_fits step value_bytes node_bytes record_bytes bucket_bytes header_bytes item_bytes value_in node_in record_in nodes_in bucket_in settings_in table_of are_zero node_codes not_held pending_formed bucket_formed record_formed header_formed formed nearest restore step_bytes storage_cases
storages_hold = let earlier = questions_hold in refl
