use Rattle.std.proofs.Common.{arith, ap, sym, List, ℕ, ◌+◌, ◌/◌, not, ◌∙◌}
use Rattle.model.specs.Base.{same}
use Rattle.model.specs.Bytes.{part, number}
use Rattle.model.specs.Filter.{counts}
use Rattle.model.specs.Sizes.{key_size, value_size}
use Rattle.laws.proofs.Parts.{length_part, part_part}
use Rattle.laws.proofs.Bytes.{Bytes_part}
use Rattle.key.specs.Key.{num}
use Rattle.node.specs.Node.{value_of}
use Rattle.table_filter.proofs.Held.{place_passed, place_by_key}
use Rattle.table_filter.proofs.Octets.{net_differs}
use Rattle.table_filter.proofs.counts.Goals as goal

pub returns-then-get_u64-net : goal.returns-then-get_u64-net
unfolding part
returns-then-get_u64-net c =
    let s : List ℕ = c.args.node.now in
    let v = part s (key_size + 2) value_size in
    place_passed (num c.args.key) (value_of c.args.value) s
    (net_differs v c.args.value (length_part s (key_size + 2) value_size (omega arith)) (Bytes_part s (key_size + 2) value_size c.fits-node)
    (λ e. c.if-get_u64-net.true (ap (λ (x : ℕ). x / 4294967296) (c.get_u64.ensures ∙ ap number (sym (part_part s (key_size + 2) value_size 0 8 (omega arith)))) ∙ e ∙ sym c.net.ensures)))

pub returns-then-counts : goal.returns-then-counts
unfolding part
returns-then-counts c =
    ap not (c.eq.ensures ∙ ap (λ (m : ℕ). same m (num c.args.key)) c.load_key.ensures)
    ∙ place_by_key (num c.args.key) (value_of c.args.value) c.args.node.now
    (ap (λ w. counts (value_of c.args.value) (value_of w)) (sym c.node_value.ensures) ∙ sym c.counts.ensures ∙ c.if-counts.true)

pub returns-else-counts : goal.returns-else-counts
returns-else-counts c =
    c.if-counts.false
    ∙ place_passed (num c.args.key) (value_of c.args.value) c.args.node.now
    (ap (λ w. counts (value_of c.args.value) (value_of w)) (sym c.node_value.ensures) ∙ sym c.counts.ensures ∙ c.if-counts.false)
