use Rattle.std.proofs.Common.{sym, ◌∙◌}
use Rattle.model.specs.Layout.{table_of}
use Rattle.laws.proofs.Lists.{length_tabulate}
use Rattle.header.proofs.record_count.Goals as goal

pub returns : goal.returns
unfolding table_of
returns c = c.from.ensures ∙ sym (length_tabulate _ _)
