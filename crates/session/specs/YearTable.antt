-- The year table (02, slip 9): its rule as one test over the whole table, and single entries.
use Rattle.std.specs.Prelude.{ℕ, suc, ◌+◌, Bool, true, ◌&&◌, List, [], ◌∷◌, eqb}
use Rattle.model.specs.Session.{year_days, year_start, weekday_of}

-- the first entry is the start given, and each next the one before it and the days of its year
abbrev pub starts_from : (year start : ℕ) → List ℕ → Bool
starts_from y s [] = true
starts_from y s (x ∷ xs) = eqb x s && starts_from (suc y) (x + year_days y) xs

-- from 2000 on, counted from 0
abbrev pub are_year_starts : List ℕ → Bool
are_year_starts xs = starts_from 2000 0 xs

-- 2000, 2001, 2004, 2100 and 2101, and that 1 January 2000 was a Saturday
unfoldable pub year_cases : List Bool
year_cases =
    eqb (year_start 0) 0
    ∷ eqb (year_start 1) 366
    ∷ eqb (year_start 4) 1461
    ∷ eqb (year_start 100) 36525
    ∷ eqb (year_start 101) 36890
    ∷ eqb (weekday_of (year_start 0)) 6
    ∷ []
