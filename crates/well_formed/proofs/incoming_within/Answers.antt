use Rattle.std.proofs.Common.{sym, ◌∙◌, arith}
use borrow.Author.Tests.{le-leb}
use Rattle.well_formed.proofs.Places.{incoming_at_most}
use Rattle.well_formed.proofs.incoming_within.Goals as goal

pub returns-then-nodes-max_incoming : goal.returns-then-nodes-max_incoming
returns-then-nodes-max_incoming c =
    let n = c.args.nodes in
    le-leb _ _ c.if-nodes-max_incoming.true ∙ sym (le-leb _ _ (omega (arith, n.counts, incoming_at_most n.bucket.now)))
