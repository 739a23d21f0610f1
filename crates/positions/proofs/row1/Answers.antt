use Rattle.std.proofs.Common.{true≢false, None, sym, ap, ◌∙◌}
use Rattle.std.specs.Option.{is_some}
use Rattle.std.specs.Prelude.{not}
use Rattle.positions.proofs.Computed.{indices}
use Rattle.positions.proofs.Checks.{same_index}
use Rattle.positions.proofs.row1.Goals as goal

pub prove-unreachable-requires : goal.prove-unreachable-requires
prove-unreachable-requires g c =
    let e = same_index c.index_of-i.result None (c.index_of-i.ensures ∙ indices.0) in
    true≢false (ap not (sym c.if-prove.true) ∙ sym c.is_none.ensures ∙ ap is_some e)
