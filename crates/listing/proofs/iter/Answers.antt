use Rattle.std.proofs.Common.{sym}
use Rattle.model.specs.Layout.{table_of}
use Rattle.model.specs.Call.{Listing}
use Rattle.items.specs.declared.Shape.{Shape}
use Rattle.items.proofs.Asked.{lists_refused}
use Rattle.on_key.specs.Answers.{first_three}
use Rattle.on_key.proofs.Questions.{passed_three}
use Rattle.on_key.proofs.Ended.{size_told}
use Rattle.listing.proofs.Shapes.{iter_gives}
use Rattle.listing.proofs.Steps.{three_unsized, refused_first, listed_is, first_three_lem, iter_asked}
use Rattle.listing.proofs.iter.Goals as goal

pub returns-in_err-s : goal.returns-in_err-s
returns-in_err-s c =
    let a = c.args in
    let s = a.s.now in
    let v = c.in_err-s.ensures in
    let n = rw v.ok_part at c.as_mut_array.ensures.cases in
    lists_refused _ _ c.from_residual.ensures.1
    (rw (size_told v.value v.ok_part)
    (refused_first Listing.iter a.n a.time a.out.now s (first_three a.time s) (iter_asked a.n a.time a.out.now s) 1 (three_unsized s n a.time)))

pub returns-in_err-asked_time : goal.returns-in_err-asked_time
returns-in_err-asked_time c =
    let a = c.args in
    let s = c.in_ok-s.s.now in
    let w = rw c.in_ok-s.ensures.ok_part at c.as_mut_array.ensures.cases in
    rw (← w.same)
    (lists_refused _ _ c.from_residual-in_err-asked_time.ensures.1
    (refused_first Listing.iter a.n a.time a.out.now s (first_three a.time s) (iter_asked a.n a.time a.out.now s) _
    (first_three_lem a.time s (sym c.in_err-asked_time.ensures))))

pub list-requires : goal.list-requires
list-requires c = (passed_three c.in_ok-s.s.now c.args.time (sym c.in_ok-asked_time.ensures)).header

pub returns : goal.returns
returns c =
    let a = c.args in
    let s = c.in_ok-s.s.now in
    let w = rw c.in_ok-s.ensures.ok_part at c.as_mut_array.ensures.cases in
    rw (← w.same)
    (listed_is Listing.iter a.n a.time a.out.now s (first_three a.time s) (iter_asked a.n a.time a.out.now s)
    (first_three_lem a.time s (sym c.in_ok-asked_time.ensures))
    Shape.Nodes (iter_gives (table_of s) a.n a.time) c.list.ensures)
