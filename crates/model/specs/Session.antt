-- Admission in session hours (02, slip 8): weekly windows, closed dates and the moment of a call, as a host gives them, and questions 10
-- and 11 of them. Dates are those of the Gregorian calendar from 2000 to 2399.
use Rattle.std.specs.Prelude.{ℕ, zero, suc, ◌+◌, ◌-◌, ◌*◌, ◌%◌, Bool, cond, not, ◌&&◌, ◌||◌, List, [], ◌∷◌, length, get_or, eqb, leb, ltb}
use Rattle.model.specs.Base.{same, every, any_of}

-- weekday 1, Monday, to 7, Sunday; the opening minute is included, the closing minute excluded
pub record Window : Type 0 where
  pub weekday : ℕ
  pub opening : ℕ
  pub closing : ℕ

pub record Date : Type 0 where
  pub year : ℕ
  pub month : ℕ
  pub day : ℕ

-- what a host gives with a call: three numbers a window (weekday, opening, closing) and three a closed date (year, month, day), then the
-- UTC date and minute
pub record Session : Type 0 where
  pub windows : List ℕ
  pub closed : List ℕ
  pub today : Date
  pub minute : ℕ

-- three numbers at a time; a rest of one or two is passed over, and question 10 refuses it
abbrev pub threes : {A : Type 0} → (ℕ → ℕ → ℕ → A) → List ℕ → List A
threes f [] = []
threes f (a ∷ []) = []
threes f (a ∷ b ∷ []) = []
threes f (a ∷ b ∷ c ∷ xs) = f a b c ∷ threes f xs

abbrev pub windows_of : List ℕ → List Window
windows_of ns = threes (λ a b c. record { weekday = a; opening = b; closing = c }) ns

abbrev pub dates_of : List ℕ → List Date
dates_of ns = threes (λ a b c. record { year = a; month = b; day = c }) ns

-- The calendar.

-- the leap year rule
abbrev pub leap : ℕ → Bool
leap y = eqb (y % 4) 0 && (not (eqb (y % 100) 0) || eqb (y % 400) 0)

abbrev pub year_days : ℕ → ℕ
year_days y = cond (leap y) 366 365

-- the day number of 1 January of the year 2000 + n, counted from 0 (02, slip 9)
unfoldable pub year_start : ℕ → ℕ
year_start zero = 0
year_start (suc n) = year_start n + year_days (2000 + n)

abbrev pub month_days : Bool → List ℕ
month_days l = 31 ∷ cond l 29 28 ∷ 31 ∷ 30 ∷ 31 ∷ 30 ∷ 31 ∷ 31 ∷ 30 ∷ 31 ∷ 30 ∷ 31 ∷ []

-- the days of the first m months
unfoldable pub month_start : List ℕ → ℕ → ℕ
month_start ds zero = 0
month_start ds (suc m) = month_start ds m + get_or ds m 0

abbrev pub days_in : (year month : ℕ) → ℕ
days_in y m = get_or (month_days (leap y)) (m - 1) 0

abbrev pub is_date : Date → Bool
is_date d =
    (leb 2000 d.year && leb d.year 2399)
    && ((leb 1 d.month && leb d.month 12) && (leb 1 d.day && leb d.day (days_in d.year d.month)))

-- counted from 0 for 1 January 2000
unfoldable pub day_number : Date → ℕ
day_number d = year_start (d.year - 2000) + (month_start (month_days (leap d.year)) (d.month - 1) + (d.day - 1))

-- the day after: the next of the month, or the first of the next month, or 1 January of the next year
abbrev pub next_day : Date → Date
next_day d =
    cond (ltb d.day (days_in d.year d.month))
    (record { year = d.year; month = d.month; day = d.day + 1 })
    (cond (ltb d.month 12)
    (record { year = d.year; month = d.month + 1; day = 1 })
    (record { year = d.year + 1; month = 1; day = 1 }))

-- 1, Monday, to 7, Sunday: 1 January 2000 was a Saturday
abbrev pub weekday_of : (day_number : ℕ) → ℕ
weekday_of n = (n + 5) % 7 + 1

abbrev pub same_date : Date → Date → Bool
same_date a b = same a.year b.year && (same a.month b.month && same a.day b.day)

-- Question 10.

abbrev pub max_windows : ℕ
max_windows = 32

abbrev pub max_closed : ℕ
max_closed = 64

-- opening is before closing, and closing may be 1,440
abbrev pub is_window : Window → Bool
is_window w = (leb 1 w.weekday && leb w.weekday 7) && (ltb w.opening w.closing && leb w.closing 1440)

-- whole entries, at most so many
abbrev pub are_threes : (most : ℕ) → List ℕ → Bool
are_threes most ns = eqb (length ns % 3) 0 && leb (length ns) (most * 3)

abbrev pub has_windows : Session → Bool
has_windows x = ltb 0 (length x.windows)

-- each window, closed date, and the moment are what 02 says
unfoldable pub session_fits : Session → Bool
session_fits x =
    (are_threes max_windows x.windows && every is_window (windows_of x.windows))
    && ((are_threes max_closed x.closed && every is_date (dates_of x.closed)) && (is_date x.today && ltb x.minute 1440))

-- Question 11.

abbrev pub covers : (weekday minute : ℕ) → Window → Bool
covers d m w = same w.weekday d && (leb w.opening m && ltb m w.closing)

-- a closed date has no windows
unfoldable pub is_open : Session → Bool
is_open x =
    not (any_of (same_date x.today) (dates_of x.closed))
    && any_of (covers (weekday_of (day_number x.today)) x.minute) (windows_of x.windows)

-- The two questions of a call with these hours: with an empty window list neither is asked. `known`: the local key, or one that was held or
-- pending before the call.

abbrev pub hours_fit : Session → Bool
hours_fit x = not (has_windows x) || session_fits x

abbrev pub admits : Session → (known : Bool) → Bool
admits x known = not (has_windows x) || (known || is_open x)

abbrev pub hours_questions : Session → (known : Bool) → List (ℕ × Bool)
hours_questions x known = (10, hours_fit x) ∷ (11, admits x known) ∷ []
