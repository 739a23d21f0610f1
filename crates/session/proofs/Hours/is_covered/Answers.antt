use Rattle.std.proofs.Common.{ℕ, List, rules, tests, ◌∙◌}
use Rattle.std.proofs.lemmas.Iterator.{YieldsList-from_slice}
use Rattle.std.proofs.lemmas.Iterator.Search.{any_from_yields_List}
use Rattle.model.specs.Session.{covers}
use Rattle.session.specs.Hours.{window_of, entries, window_in}
use Rattle.session.proofs.Threes.{any_window}
use Rattle.session.proofs.Hours.is_covered.Goals as goal

pub returns : goal.returns
returns c =
    let test = covers c.args.weekday c.args.minute in
    let xs = c.args.self.windows.now in
    any_from_yields_List (λ (e : List ℕ). test (window_of (window_in e))) _ _ c.any.result c.any.ensures.ran (YieldsList-from_slice (entries xs) cc) (λ x b q k. search (rules, tests))
    ∙ any_window test xs
