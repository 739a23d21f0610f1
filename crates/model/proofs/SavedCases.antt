-- The writer and the reader in single situations hold, by computing them all.
use mathlib.Core.Path.{◌≡◌, refl}
use mathlib.Core.Bool.{Bool, true}
use lib.Count.{count_leading_zeros}
use Rattle.model.specs.Base.{same, every, joined, tabulate, all_below}
use Rattle.model.specs.Bytes.{number, bytes, part}
use Rattle.model.specs.Key.{log2_distance, bucket_index}
use Rattle.model.specs.Value.{same_net, same_value}
use Rattle.model.specs.Filter.{counts}
use Rattle.model.specs.Table.{held_nodes}
use Rattle.model.specs.Question.{keys_fit, codes_in_range, clock_fits, output_fits, kind_fits}
use Rattle.model.specs.Layout.{value_bytes, node_bytes, value_in, node_in, nodes_in}
use Rattle.model.specs.Formed.{are_zero, node_codes, not_held, pending_formed, bucket_formed}
use Rattle.model.specs.Saved.{saved, sizes_below, saved_node, loaded_nodes, disconnected_from, loaded_bytes, holds_nothing, three_of_aNet, load_fits}
use Rattle.model.specs.Step.{act, queue_fits, step}
use Rattle.model.specs.SavedCases.{saved_cases}
use Rattle.model.proofs.ReadsCases.{reads_cases_hold}

pub saved_cases_hold : every (λ (b : Bool). b) saved_cases ≡ true
unfolding count_leading_zeros same joined tabulate all_below number bytes part log2_distance bucket_index same_net same_value counts held_nodes keys_fit codes_in_range clock_fits output_fits kind_fits value_bytes node_bytes value_in node_in nodes_in are_zero node_codes not_held pending_formed bucket_formed saved sizes_below saved_node loaded_nodes disconnected_from loaded_bytes holds_nothing three_of_aNet load_fits act queue_fits step saved_cases
saved_cases_hold = let earlier = reads_cases_hold in refl
