use Rattle.std.proofs.Common.{ap, ◌∙◌, arith}
use Rattle.model.specs.Bytes.{part}
use Rattle.storage.specs.Read.{read_node}
use Rattle.words.proofs.Zero.{zero_bytes}
use Rattle.well_formed.proofs.Buckets.{record_plain, record_evicting}
use Rattle.well_formed.proofs.record_formed.Goals as goal

pub returns-then-kind-eq-EVICTING_KIND : goal.returns-then-kind-eq-EVICTING_KIND
unfolding part
returns-then-kind-eq-EVICTING_KIND c = rw (record_evicting c.args.s.now c.if-kind-eq-EVICTING_KIND.true c.load_node.result (c.load_node.ensures ∙ ap read_node c.evicted-evicted.ensures)) (cc)

pub returns : goal.returns
unfolding part
returns c = rw (record_plain c.args.s.now c.if-kind-eq-EVICTING_KIND.false) (cc (zero_bytes c.args.s.now 33 47 (omega arith)))
