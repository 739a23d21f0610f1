-- The hours of a call as the code is given them (02, slip 8).
use Rattle.std.specs.Prelude.{ℕ, List, [], ◌∷◌, get_or}
use Rattle.model.specs.Session as model
use Rattle.session.specs.declared.Moment.{Moment}
use Rattle.session.specs.declared.Hours.{Hours}
use Rattle.session.specs.declared.Date.{Date}
use Rattle.session.specs.declared.Window.{Window}

abbrev pub window_of : Window → model.Window
window_of w = record { weekday = w.weekday; opening = w.opening; closing = w.closing }

abbrev pub date_of : Date → model.Date
date_of d = record { year = d.year; month = d.month; day = d.day }

-- the numbers three at a time; a rest of one or two is passed over
abbrev pub entries : List ℕ → List (List ℕ)
entries ns = model.threes (λ a b c. a ∷ b ∷ c ∷ []) ns

-- the three numbers of an entry, as a window or a date
abbrev pub window_in : List ℕ → Window
window_in e = record { weekday = get_or e 0 0; opening = get_or e 1 0; closing = get_or e 2 0 }

abbrev pub date_in : List ℕ → Date
date_in e = record { year = get_or e 0 0; month = get_or e 1 0; day = get_or e 2 0 }

abbrev pub session_of : (windows closed : List ℕ) → Moment → model.Session
session_of ws cs m = record { windows = ws; closed = cs; today = date_of m.date; minute = m.minute }

-- the session of a call's hours
abbrev pub hours_of : Hours → model.Session
hours_of h = session_of h.windows.now h.closed.now h.moment
