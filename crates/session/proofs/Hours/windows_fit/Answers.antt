use Rattle.std.proofs.Common.{◌≡◌, ℕ, List, true, rules, tests, sym, ◌∙◌}
use Rattle.std.proofs.lemmas.Iterator.{YieldsList-from_slice}
use Rattle.std.proofs.lemmas.Iterator.Search.{all_from_yields_List}
use Rattle.model.specs.Session.{max_windows, is_window, are_threes}
use Rattle.session.specs.Hours.{window_of, entries, window_in}
use Rattle.session.proofs.Threes.{every_window}
use Rattle.session.proofs.Hours.windows_fit.Goals as goal

pub returns-then-are_threes : goal.returns-then-are_threes
returns-then-are_threes c =
    let xs = c.args.self.windows.now in
    let whole : are_threes max_windows xs ≡ true = sym c.are_threes.ensures ∙ c.if-are_threes.true in
    rw whole
    (all_from_yields_List (λ (e : List ℕ). is_window (window_of (window_in e))) _ _ c.all.result c.all.ensures.ran (YieldsList-from_slice (entries xs) cc) (λ x b q k. search (rules, tests))
    ∙ every_window is_window xs)
