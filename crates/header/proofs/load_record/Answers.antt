use Rattle.std.proofs.Common.{ap, ◌∙◌}
use Rattle.std.specs.Prelude.{get_or}
use Rattle.model.specs.Sizes.{key_size}
use Rattle.model.specs.Bytes.{part}
use Rattle.storage.specs.Read.{read_node}
use Rattle.header.proofs.Queue.{plain_codes, loaded, loaded_plain, loaded_evicted, evicted_codes}
use Rattle.header.proofs.load_record.Goals as goal
use Rattle.header.proofs.load_record.Goals.{then-kind-eq-EVICTING_KIND, else-kind-eq-EVICTING_KIND}

pub invariant_of-result : goal.invariant_of-result
invariant_of-result c =
    let s = c.args.bytes.now in
    elim c.if-kind-eq-EVICTING_KIND.branch [
      | then-kind-eq-EVICTING_KIND w ↦
          rw w.ending-is
          (record { codes = evicted_codes s w.load_node.result (w.load_node.ensures ∙ ap read_node w.evicted.ensures) w.if-kind-eq-EVICTING_KIND.true c.requires })
      | else-kind-eq-EVICTING_KIND w ↦ rw w.ending-is (record { codes = plain_codes w.ending_of-ending.result (get_or s key_size 0) w.ending_of-ending.ensures })
    ]

pub returns : goal.returns
unfolding part
returns c =
    let s = c.args.bytes.now in
    let e = c.load.ensures in
    elim c.if-kind-eq-EVICTING_KIND.branch [
      | then-kind-eq-EVICTING_KIND w ↦
          rw w.ending-is (loaded s c.load.result e _ (loaded_evicted s w.load_node.result (w.load_node.ensures ∙ ap read_node w.evicted.ensures) w.if-kind-eq-EVICTING_KIND.true))
      | else-kind-eq-EVICTING_KIND w ↦ rw w.ending-is (loaded s c.load.result e _ (w.ending_of-ending.ensures ∙ loaded_plain s w.if-kind-eq-EVICTING_KIND.false))
    ]
