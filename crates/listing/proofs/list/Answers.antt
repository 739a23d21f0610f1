use Rattle.model.specs.Layout.{table_of}
use Rattle.items.proofs.Asked.{lists_refused}
use Rattle.listing.proofs.Shapes.{size_most, visitable_by}
use Rattle.listing.proofs.Steps.{room_passes, list_refused, list_visited, room_fits}
use Rattle.listing.proofs.list.Goals as goal

pub asked_output-requires : goal.asked_output-requires
asked_output-requires c = rw c.item_size.ensures (size_most c.args.shape)

pub returns-in_err-asked_output : goal.returns-in_err-asked_output
returns-in_err-asked_output c =
    let a = c.args in
    lists_refused _ _ c.from_residual.ensures.1 (list_refused a.shape a.n a.time a.out.now a.s.now c.item_size.ensures _ c.in_err-asked_output.ensures)

pub invariant_of-visit : goal.invariant_of-visit
invariant_of-visit c = record { visitable = rw c.order_of-order.ensures (visitable_by c.args.shape (table_of c.args.s.now)) }

pub list_visited-requires : goal.list_visited-requires
list_visited-requires c =
    let a = c.args in
    record {
      header = c.requires;
      shape_in_bounds = room_fits a.shape a.n a.time a.out.now a.s.now (room_passes a.shape a.n a.time a.out.now a.s.now c.item_size.ensures c.in_ok-asked_output.ensures);
    }

pub returns : goal.returns
returns c =
    let a = c.args in
    list_visited a.shape a.n a.time a.out.now a.s.now (room_passes a.shape a.n a.time a.out.now a.s.now c.item_size.ensures c.in_ok-asked_output.ensures)
    _ c.order_of-order.ensures c.list_visited.ensures
