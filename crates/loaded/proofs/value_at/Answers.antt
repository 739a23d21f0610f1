use Rattle.std.proofs.Common.{ℕ, ◌+◌, List, ap, ◌∙◌}
use Rattle.model.specs.Bytes.{part}
use Rattle.model.specs.Sizes.{key_size, value_size}
use Rattle.model.specs.Layout.{value_in, node_in}
use Rattle.node.specs.Node.{value_of}
use Rattle.storage.proofs.Bytes.{value_of_read}
use Rattle.well_formed.specs.Tests.{node_at}
use Rattle.loaded.proofs.value_at.Goals as goal

pub returns : goal.returns
unfolding node_at node_in
returns c =
    ap value_of c.node_value.ensures ∙ value_of_read _ ∙ ap (λ (s : List ℕ). value_in (part s (key_size + 2) value_size)) c.place.ensures
