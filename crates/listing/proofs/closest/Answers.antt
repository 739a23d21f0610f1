use mathlib.Core.Path.{◌≡◌, sym, ◌∙◌}
use mathlib.Core.Option.{some}
use Rattle.model.specs.Layout.{table_of}
use Rattle.items.specs.declared.Shape.{Shape}
use Rattle.items.specs.Shape.{form_codes}
use Rattle.items.proofs.Asked.{lists_refused}
use Rattle.on_key.specs.Answers.{first_five}
use Rattle.on_key.proofs.Questions.{passed_five}
use Rattle.on_key.proofs.Ended.{size_told}
use Rattle.listing.specs.Listed.{closest_listing}
use Rattle.listing.proofs.Given.{passes, given}
use Rattle.listing.proofs.Shapes.{closest_gives}
use Rattle.listing.proofs.Steps.{five_unsized, refused_first, listed_is, first_five_lem, closest_asked}
use Rattle.listing.proofs.closest.Goals as goal

pub returns-in_err-s : goal.returns-in_err-s
returns-in_err-s c =
    let a = c.args in
    let s = a.s.now in
    let target = a.target.now in
    let v = c.in_err-s.ensures in
    let n = rw v.ok_part at c.as_mut_array.ensures.cases in
    lists_refused _ _ c.from_residual.ensures.1
    (rw (size_told v.value v.ok_part)
    (refused_first (closest_listing a.form target) a.n a.time a.out.now s (first_five target (form_codes a.form) (some a.time) s)
    (closest_asked a.form target a.n a.time a.out.now s) 1 (five_unsized s n target (form_codes a.form) a.time)))

pub returns-in_err-key : goal.returns-in_err-key
returns-in_err-key c =
    let a = c.args in
    let s = c.in_ok-s.s.now in
    let target = a.target.now in
    let w = rw c.in_ok-s.ensures.ok_part at c.as_mut_array.ensures.cases in
    rw (← w.same)
    (lists_refused _ _ c.from_residual-in_err-key.ensures.1
    (refused_first (closest_listing a.form target) a.n a.time a.out.now s (first_five target (form_codes a.form) (some a.time) s)
    (closest_asked a.form target a.n a.time a.out.now s) _
    (first_five_lem target a.time s (passes c.in_range.result a.form c.then_some.ensures ∙ c.in_range.ensures) (sym c.in_err-key.ensures.failed))))

pub list-requires : goal.list-requires
list-requires c =
    let a = c.args in
    (passed_five c.in_ok-s.s.now a.target.now _ (some a.time) (sym c.in_ok-key.ensures.failed)).header

pub returns : goal.returns
returns c =
    let a = c.args in
    let s = c.in_ok-s.s.now in
    let target = a.target.now in
    let q = sym c.in_ok-key.ensures.failed in
    let f : a.form ≡ c.in_ok-key.form = given c.in_range.result a.form c.then_some.ensures c.in_ok-key.ensures.given.1 in
    let w = rw c.in_ok-s.ensures.ok_part at c.as_mut_array.ensures.cases in
    rw (← w.same)
    (listed_is (closest_listing a.form target) a.n a.time a.out.now s (first_five target (form_codes a.form) (some a.time) s)
    (closest_asked a.form target a.n a.time a.out.now s) (first_five_lem target a.time s (passes c.in_range.result a.form c.then_some.ensures ∙ c.in_range.ensures) q)
    (Shape.Closest c.in_ok-key.key c.in_ok-key.form) (rw f (closest_gives c.in_ok-key.form target c.in_ok-key.key c.in_ok-key.ensures.given.0 (table_of s) a.n a.time))
    c.list.ensures)
