-- Session hours in single situations hold, by computing them all.
use mathlib.Core.Path.{◌≡◌, refl}
use mathlib.Core.Bool.{Bool, true}
use Rattle.model.specs.Base.{same, every, joined, tabulate}
use Rattle.model.specs.Session.{year_start, month_start, day_number, session_fits, is_open}
use Rattle.model.specs.SessionCases.{session_cases}

pub session_cases_hold : every (λ (b : Bool). b) session_cases ≡ true
unfolding same joined tabulate year_start month_start day_number session_fits is_open session_cases
session_cases_hold = refl
