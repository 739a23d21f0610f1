use Rattle.std.proofs.Common.{rules}
use Rattle.visit.specs.Passes.{buckets_of}
use Rattle.visit.proofs.Passes.{visit_appliable}
use Rattle.items.proofs.Asked.{lists_refused}
use Rattle.listing.proofs.Steps.{room_left, listed_malformed, listed_full, left_formed, left_fits, listed_found}
use Rattle.listing.proofs.list_visited.Goals as goal

pub returns-in_err-tally : goal.returns-in_err-tally
returns-in_err-tally c =
    let a = c.args in
    let e = c.in_err-tally.ensures in
    lists_refused _ _ c.from_residual.ensures.1 (rw e.1 (listed_malformed a.shape a.visit.n a.visit.time (buckets_of a.visit.order) a.out.now a.s.now e.0))

pub returns-in_err-asked_queue : goal.returns-in_err-asked_queue
returns-in_err-asked_queue c =
    let a = c.args in
    let y = c.in_ok-tally.ensures in
    lists_refused _ _ c.from_residual-in_err-asked_queue.ensures.1 (listed_full a.shape a.visit.n a.visit.time (buckets_of a.visit.order) a.out.now a.s.now y.records y.formed _ c.in_err-asked_queue.ensures)

pub apply_all-requires : goal.apply_all-requires
apply_all-requires c =
    let a = c.args in
    let r = c.requires in
    let y = c.in_ok-tally.ensures in
    record {
      header = r.header;
      s_value = y.formed;
      s_len_bound = room_left a.shape a.visit.n a.visit.time (buckets_of a.visit.order) a.out.now a.s.now y.records c.in_ok-asked_queue.ensures;
      records_value = y.records;
    }

pub put_all-requires : goal.put_all-requires
put_all-requires c =
    let a = c.args in
    let r = c.requires in
    let y = c.in_ok-tally.ensures in
    let is = buckets_of a.visit.order in
    let q = room_left a.shape a.visit.n a.visit.time is a.out.now a.s.now y.records c.in_ok-asked_queue.ensures in
    let p = visit_appliable a.visit.time a.visit.n is a.s.now (λ j. search rules) c.told-s r.header a.visit.visitable y.formed q in
    record {
      visit_value = left_formed a.shape a.visit.n a.visit.time is a.out.now a.s.now y.formed p c.apply_all.ensures y.count;
      shape_in_bounds = left_fits a.shape a.visit.n a.visit.time is a.out.now a.s.now y.formed p c.apply_all.ensures y.count r.shape_in_bounds;
    }

pub returns : goal.returns
returns c =
    let a = c.args in
    let r = c.requires in
    let y = c.in_ok-tally.ensures in
    let is = buckets_of a.visit.order in
    let q = room_left a.shape a.visit.n a.visit.time is a.out.now a.s.now y.records c.in_ok-asked_queue.ensures in
    let p = visit_appliable a.visit.time a.visit.n is a.s.now (λ j. search rules) c.told-s r.header a.visit.visitable y.formed q in
    listed_found a.shape a.visit.n a.visit.time is a.out.now a.s.now y.formed p c.apply_all.ensures y.count q _ _ c.put_all.ensures
