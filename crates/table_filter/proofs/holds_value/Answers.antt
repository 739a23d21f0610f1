use Rattle.model.specs.Layout.{place_in}
use Rattle.key.specs.Key.{num}
use Rattle.node.specs.Node.{value_of}
use Rattle.well_formed.specs.Tests.{node_at}
use Rattle.table_filter.proofs.Held.{get_found, get_absent, value_there}
use Rattle.table_filter.proofs.holds_value.Goals as goal

pub returns-in_default : goal.returns-in_default
returns-in_default c = let h = c.args.held in rw (get_absent (num c.args.key) h.bucket.now h.counts c.in_default.ensures)

pub returns : goal.returns
unfolding node_at
returns c =
    let h = c.args.held in
    let f = c.in-Some in
    let v = value_of c.args.value in
    rw (get_found (num c.args.key) h.bucket.now h.counts f.j f.ensures.0 f.ensures.1, value_there (num c.args.key) v (place_in h.bucket.now f.j), ← c.place.ensures, ← c.node_value.ensures) c.eq.ensures
