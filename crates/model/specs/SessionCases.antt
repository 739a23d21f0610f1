-- Session hours in single situations (02, slip 8): dates and weekdays, and what questions 10 and 11 refuse.
use Rattle.std.specs.Prelude.{ℕ, Bool, true, false, not, ◌&&◌, List, [], ◌∷◌, eqb}
use Rattle.model.specs.Base.{given, joined, tabulate}
use Rattle.model.specs.Question.{first_failed}
use Rattle.model.specs.Session.{Date, month_days, month_start, is_date, day_number, weekday_of, next_day, same_date, hours_questions}

abbrev date : (year month day : ℕ) → Date
date y m d = record { year = y; month = m; day = d }

-- the weekday of a date
abbrev falls : Date → ℕ → Bool
falls d w = is_date d && eqb (weekday_of (day_number d)) w

-- the question that refuses a call of a key that is known or not, with these windows and closed dates; 0 is none
abbrev asked : (windows closed : List ℕ) → Date → (minute : ℕ) → (known : Bool) → ℕ
asked ws cs d m known = given (first_failed (hours_questions (record { windows = ws; closed = cs; today = d; minute = m }) known)) 0

-- 16 November 2026, a Monday
abbrev monday : Date
monday = date 2026 11 16

-- Mondays from nine to five, no closed date, that Monday
abbrev at_minute : ℕ → ℕ
at_minute m = asked (1 ∷ 540 ∷ 1020 ∷ []) [] monday m false

-- the windows given, that Monday at noon
abbrev with_windows : List ℕ → ℕ
with_windows ws = asked ws [] monday 720 false

-- all that Monday, with closed dates, at noon
abbrev with_closed : List ℕ → ℕ
with_closed cs = asked (1 ∷ 0 ∷ 1440 ∷ []) cs monday 720 false

-- every minute of the weekdays given, on a date, at its first minute
abbrev on_date : List ℕ → Date → ℕ
on_date ds d = asked (joined (λ w. w ∷ 0 ∷ 1440 ∷ []) ds) [] d 0 false

-- so many times these numbers
abbrev times : ℕ → List ℕ → List ℕ
times k ns = joined (λ _. ns) (tabulate k (λ i. i))

unfoldable pub session_cases : List Bool
session_cases =
    -- the calendar
    falls (date 2000 1 1) 6
    ∷ falls monday 1
    ∷ falls (date 2399 12 31) 5
    ∷ eqb (day_number (date 2399 12 31)) 146096
    ∷ is_date (date 2000 2 29)
    ∷ not (is_date (date 2100 2 29))
    ∷ is_date (date 2024 2 29)
    ∷ not (is_date (date 2023 2 29))
    ∷ not (is_date (date 1999 12 31))
    ∷ not (is_date (date 2400 1 1))
    ∷ not (is_date (date 2026 0 1))
    ∷ not (is_date (date 2026 13 1))
    ∷ not (is_date (date 2026 1 0))
    ∷ not (is_date (date 2026 1 32))
    ∷ not (is_date (date 2026 4 31))
    ∷ eqb (month_start (month_days true) 12) 366
    ∷ eqb (month_start (month_days false) 12) 365
    ∷ same_date (next_day (date 2026 11 16)) (date 2026 11 17)
    ∷ same_date (next_day (date 2026 11 30)) (date 2026 12 1)
    ∷ same_date (next_day (date 2100 2 28)) (date 2100 3 1)
    ∷ same_date (next_day (date 2000 2 28)) (date 2000 2 29)
    ∷ same_date (next_day (date 2026 12 31)) (date 2027 1 1)
    -- the opening minute is included, the closing minute excluded
    ∷ eqb (at_minute 539) 11
    ∷ eqb (at_minute 540) 0
    ∷ eqb (at_minute 1019) 0
    ∷ eqb (at_minute 1020) 11
    -- 10: a minute; 1,440 closes a window
    ∷ eqb (at_minute 1440) 10
    ∷ eqb (asked (1 ∷ 0 ∷ 1440 ∷ []) [] monday 1439 false) 0
    ∷ eqb (asked (1 ∷ 0 ∷ 1440 ∷ []) [] monday 1440 false) 10
    -- 10: a window
    ∷ eqb (with_windows (1 ∷ 700 ∷ 1440 ∷ [])) 0
    ∷ eqb (with_windows (1 ∷ 700 ∷ 1441 ∷ [])) 10
    ∷ eqb (with_windows (1 ∷ 700 ∷ 700 ∷ [])) 10
    ∷ eqb (with_windows (1 ∷ 1020 ∷ 540 ∷ [])) 10
    ∷ eqb (with_windows (0 ∷ 540 ∷ 1020 ∷ [])) 10
    ∷ eqb (with_windows (8 ∷ 540 ∷ 1020 ∷ [])) 10
    ∷ eqb (with_windows (2 ∷ 540 ∷ 1020 ∷ [])) 11
    ∷ eqb (with_windows (2 ∷ 540 ∷ 1020 ∷ 1 ∷ 540 ∷ 1020 ∷ [])) 0
    ∷ eqb (with_windows (1 ∷ 540 ∷ 1020 ∷ 8 ∷ 540 ∷ 1020 ∷ [])) 10
    -- 10: a list of windows
    ∷ eqb (with_windows (times 32 (1 ∷ 540 ∷ 1020 ∷ []))) 0
    ∷ eqb (with_windows (times 33 (1 ∷ 540 ∷ 1020 ∷ []))) 10
    ∷ eqb (with_windows (1 ∷ 540 ∷ 1020 ∷ 1 ∷ [])) 10
    ∷ eqb (with_windows (1 ∷ 540 ∷ 1020 ∷ 1 ∷ 540 ∷ [])) 10
    -- 10: a list of closed dates; repeats are taken
    ∷ eqb (with_closed (times 64 (2026 ∷ 12 ∷ 25 ∷ []))) 0
    ∷ eqb (with_closed (times 65 (2026 ∷ 12 ∷ 25 ∷ []))) 10
    ∷ eqb (with_closed (2026 ∷ [])) 10
    ∷ eqb (with_closed (2026 ∷ 12 ∷ [])) 10
    ∷ eqb (with_closed (2100 ∷ 2 ∷ 29 ∷ [])) 10
    ∷ eqb (with_closed (2399 ∷ 12 ∷ 31 ∷ [])) 0
    -- 11: a closed date, and none of another day, month or year
    ∷ eqb (with_closed (2026 ∷ 11 ∷ 16 ∷ [])) 11
    ∷ eqb (with_closed (2026 ∷ 12 ∷ 25 ∷ 2026 ∷ 11 ∷ 16 ∷ [])) 11
    ∷ eqb (with_closed (2026 ∷ 11 ∷ 17 ∷ [])) 0
    ∷ eqb (with_closed (2026 ∷ 10 ∷ 16 ∷ [])) 0
    ∷ eqb (with_closed (2025 ∷ 11 ∷ 16 ∷ [])) 0
    -- 10: a date
    ∷ eqb (on_date (1 ∷ 2 ∷ 3 ∷ 4 ∷ 5 ∷ 6 ∷ 7 ∷ []) (date 1999 12 31)) 10
    ∷ eqb (on_date (1 ∷ 2 ∷ 3 ∷ 4 ∷ 5 ∷ 6 ∷ 7 ∷ []) (date 2400 1 1)) 10
    ∷ eqb (on_date (1 ∷ 2 ∷ 3 ∷ 4 ∷ 5 ∷ 6 ∷ 7 ∷ []) (date 2100 2 29)) 10
    ∷ eqb (on_date (6 ∷ []) (date 2000 1 1)) 0
    ∷ eqb (on_date (1 ∷ 2 ∷ 3 ∷ 4 ∷ 5 ∷ 7 ∷ []) (date 2000 1 1)) 11
    -- a known key is asked 10 and not 11
    ∷ eqb (asked (2 ∷ 540 ∷ 1020 ∷ []) [] monday 720 true) 0
    ∷ eqb (asked (1 ∷ 540 ∷ 1020 ∷ []) (2026 ∷ 11 ∷ 16 ∷ []) monday 720 true) 0
    ∷ eqb (asked (8 ∷ 540 ∷ 1020 ∷ []) [] monday 720 true) 10
    -- with an empty list of windows neither is asked
    ∷ eqb (asked [] (2026 ∷ 11 ∷ 16 ∷ []) monday 720 false) 0
    ∷ eqb (asked [] (1 ∷ 2 ∷ []) (date 0 0 0) 1440 false) 0
    ∷ []
