use Rattle.std.proofs.Common.{ℕ, List, rules, tests, ◌∙◌}
use Rattle.std.proofs.lemmas.Iterator.{YieldsList-from_slice}
use Rattle.std.proofs.lemmas.Iterator.Search.{any_from_yields_List}
use Rattle.model.specs.Base.{same}
use Rattle.model.specs.Session.{same_date}
use Rattle.session.specs.Hours.{date_of, entries, date_in}
use Rattle.session.proofs.Threes.{any_date}
use Rattle.session.proofs.Hours.is_closed.Goals as goal

pub returns : goal.returns
unfolding same
returns c =
    let d = date_of c.args.date in
    let xs = c.args.self.closed.now in
    any_from_yields_List (λ (e : List ℕ). same_date d (date_of (date_in e))) _ _ c.any.result c.any.ensures.ran (YieldsList-from_slice (entries xs) cc) (λ x b q k. search (rules, tests))
    ∙ any_date (same_date d) xs
