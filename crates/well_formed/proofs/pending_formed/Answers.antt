use Rattle.std.proofs.Common.{ap, ◌∙◌, arith}
use Rattle.model.specs.Bytes.{part}
use Rattle.storage.specs.Read.{read_node}
use Rattle.words.proofs.Zero.{zero_bytes}
use Rattle.well_formed.specs.Index.{has_index}
use Rattle.well_formed.proofs.Places.{pending_none, pending_some}
use Rattle.well_formed.proofs.pending_formed.Goals as goal

pub returns-then-flag-eq0 : goal.returns-then-flag-eq0
unfolding part
returns-then-flag-eq0 c =
    let a = c.args in
    rw (pending_none (has_index a.index) a.nodes.bucket.now c.if-flag-eq0.true) (cc (zero_bytes a.nodes.bucket.now 755 55 (omega arith)))

pub returns : goal.returns
unfolding part
returns c =
    let a = c.args in
    rw (pending_some (has_index a.index) a.nodes.bucket.now c.if-flag-eq0.false c.load_node-n.result (c.load_node-n.ensures ∙ ap read_node c.pending.ensures)) (cc)
