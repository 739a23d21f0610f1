use Rattle.std.proofs.Common.{◌≡◌, ℕ, List, true, rules, tests, sym, ◌∙◌}
use Rattle.std.proofs.lemmas.Iterator.{YieldsList-from_slice}
use Rattle.std.proofs.lemmas.Iterator.Search.{all_from_yields_List}
use Rattle.model.specs.Session.{is_date, max_closed, are_threes}
use Rattle.session.specs.Hours.{date_of, entries, date_in}
use Rattle.session.proofs.Threes.{every_date}
use Rattle.session.proofs.Hours.closed_fit.Goals as goal

pub returns-then-are_threes : goal.returns-then-are_threes
returns-then-are_threes c =
    let xs = c.args.self.closed.now in
    let whole : are_threes max_closed xs ≡ true = sym c.are_threes.ensures ∙ c.if-are_threes.true in
    rw whole
    (all_from_yields_List (λ (e : List ℕ). is_date (date_of (date_in e))) _ _ c.all.result c.all.ensures.ran (YieldsList-from_slice (entries xs) cc) (λ x b q k. search (rules, tests))
    ∙ every_date is_date xs)
