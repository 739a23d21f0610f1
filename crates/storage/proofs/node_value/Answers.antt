use Rattle.std.proofs.Common.{ap, ◌∙◌, rules}
use Rattle.model.specs.Bytes.{part}
use Rattle.storage.specs.Read.{read_value}
use Rattle.storage.proofs.node_value.Goals as goal

pub returns : goal.returns
unfolding part
returns c = c.load_value.ensures ∙ ap read_value (search rules)
