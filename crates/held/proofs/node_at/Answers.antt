use Rattle.node.proofs.Stored.{stored_codes}
use Rattle.held.proofs.Steps.{own_stored}
use Rattle.held.proofs.node_at.Goals as goal

pub invariant_of-result : goal.invariant_of-result
invariant_of-result c =
    let e = rw (c.place.ensures, c.nodes.ensures) at c.load_node.ensures in
    record { codes = stored_codes _ (own_stored c.requires.quiet c.args.pos c.requires.held e) }
