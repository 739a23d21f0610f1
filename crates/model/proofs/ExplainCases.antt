-- The explanations in single situations hold, by computing them all.
use mathlib.Core.Path.{◌≡◌, refl}
use mathlib.Core.Bool.{true}
use lib.Count.{count_leading_zeros}
use Rattle.model.specs.Base.{same, every, joined}
use Rattle.model.specs.Bytes.{number, bytes, splice}
use Rattle.model.specs.Key.{log2_distance, bucket_index}
use Rattle.model.specs.Value.{same_net, same_value}
use Rattle.model.specs.Filter.{counts, ip_filter_fails}
use Rattle.model.specs.Bucket.{is_full, fails_bucket_filter, is_max_incoming, insert, apply_due, apply_pending, reinsert, update_status, update_value, update_pending, remove}
use Rattle.model.specs.Table.{held_nodes, fails_table_filter}
use Rattle.model.specs.Question.{keys_fit, codes_in_range, clock_fits, output_fits, kind_fits}
use Rattle.model.specs.Step.{act, queue_fits, step}
use Rattle.model.specs.Formed.{header_formed, formed}
use Rattle.model.specs.Explain.{filter_keys, insert_reason, reinsert_reason, status_reason, value_reason, update_node_reason, insert_or_update_reason, remove_reason, reason, explanation, key_text, keys_text, line, explain_bytes}
use Rattle.model.specs.ExplainCases.{holds, explain_cases}
use Rattle.model.proofs.SavedCases.{saved_cases_hold}

pub explain_cases_hold : every holds explain_cases ≡ true
unfolding count_leading_zeros same joined number bytes splice log2_distance bucket_index same_net same_value counts ip_filter_fails is_full fails_bucket_filter is_max_incoming insert apply_due apply_pending reinsert update_status update_value update_pending remove held_nodes fails_table_filter keys_fit codes_in_range clock_fits output_fits kind_fits act queue_fits step header_formed formed filter_keys insert_reason reinsert_reason status_reason value_reason update_node_reason insert_or_update_reason remove_reason reason explanation key_text keys_text line explain_bytes explain_cases
explain_cases_hold = let earlier = saved_cases_hold in refl
