use Rattle.std.proofs.Common.{◌≡◌, [], length, get_or, ap, ◌∙◌, arith}
use Rattle.model.specs.Base.{tabulate}
use Rattle.laws.proofs.Lists.{get_d_tabulate, length_tabulate}
use Rattle.node.specs.Node.{node_of}
use Rattle.model.specs.Layout.{place_in}
use Rattle.storage.proofs.Bytes.{node_of_read}
use Rattle.well_formed.specs.Tests.{node_at}
use Rattle.table_filter.proofs.Held.{nodes_at}
use Rattle.explanation.specs.Put.{passes}
use Rattle.explanation.proofs.Keys.{keys_full, keys_none, stored_next}
use Rattle.explanation.proofs.put_stored.Goals as goal

pub returns-then-out-lt-SPACED_KEY : goal.returns-then-out-lt-SPACED_KEY
returns-then-out-lt-SPACED_KEY c = keys_full _ _ c.if-out-lt-SPACED_KEY.true

pub loop-place-init : goal.loop-place-init
unfolding tabulate
loop-place-init c = keys_none _

pub loop-place-preserved : goal.loop-place-preserved
unfolding node_at
loop-place-preserved c =
    let bs = c.args.held.bucket.now in
    let j = c.loop-place.place-index in
    let items = c.places-place-items.ensures in
    let l : length c.places-place-items.result.now ≡ c.args.held.count = ap length items ∙ length_tabulate c.args.held.count (place_in bs) in
    let at = ap (λ (xs : _). get_or xs j []) items ∙ get_d_tabulate c.args.held.count (place_in bs) j [] (omega (arith, l, c.loop-place-test.true)) in
    let e : node_of c.load_node.result ≡ node_at bs j = rw (c.load_node.ensures, ← at) (node_of_read _) in
    stored_next (passes c.args.test) bs j e c.loop-place.invariant c.put_node-n.ensures

pub returns : goal.returns
returns c =
    let l : length c.places-place-items.result.now ≡ c.args.held.count = ap length c.places-place-items.ensures ∙ length_tabulate c.args.held.count (place_in c.args.held.bucket.now) in
    let e : c.loop-place.place-index ≡ get_or c.args.held.bucket.now 0 0 = omega (arith, l) in
    rw (nodes_at, ← e) c.loop-place.invariant
