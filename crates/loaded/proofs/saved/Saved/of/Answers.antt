use borrow.Author.Tests.{ne_eqb}
use Rattle.loaded.proofs.Built.{counted}
use Rattle.loaded.proofs.saved.Saved.of.Goals as goal

pub returns-then-bytes-nodes : goal.returns-then-bytes-nodes
returns-then-bytes-nodes c =
    let n = counted c.args.bytes.now c.saved_nodes-nodes.ensures.value c.in_ok-first_chunk.ensures.cases in
    rw (← n) (ne_eqb _ _ c.if-bytes-nodes.true)

pub invariant_of-result : goal.invariant_of-result
invariant_of-result c =
    record { counted = counted c.args.bytes.now c.saved_nodes-nodes.ensures.value c.in_ok-first_chunk.ensures.cases; sized = c.if-bytes-nodes.false }
