-- The calendar's tables of months, and how large its numbers are.
use Prim.Native.Nat.{ℕ, ◌+◌, ◌-◌, ◌≤◌, ◌<◌}
use native.Mathlib.Omega.{arith}
use mathlib.Core.Path.{◌≡◌, refl}
use mathlib.Core.Bool.{Bool, true, false, cond, ◌&&◌}
use mathlib.Core.List.{List, [], ◌∷◌}
use lib.ListN.{get_or}
use lib.Dec.{eqb, leb, ltb}
use borrow.Author.Tests.{eqb-true, leb-true, lt-ltb, le-ltb}
use Rattle.model.specs.Base.{all_below}
use Rattle.model.specs.Session.{Date, leap, month_days, month_start, is_date, day_number}
use Rattle.laws.proofs.Tests.{and_none}
use Rattle.laws.proofs.Lists.{all_gives}
use Rattle.laws.proofs.Calendar.{date_parts, year_at_most}

-- the days before each month of a year that is no leap year
abbrev pub month_starts : List ℕ
month_starts = 0 ∷ 31 ∷ 59 ∷ 90 ∷ 120 ∷ 151 ∷ 181 ∷ 212 ∷ 243 ∷ 273 ∷ 304 ∷ 334 ∷ []

-- the months behind February start one later in a leap year
starts_at : Bool → ℕ → Bool
starts_at l i = eqb (get_or month_starts i 0 + cond (l && ltb 1 i) 1 0) (month_start (month_days l) i)

pub month_starts_lem : (l : Bool) (m : ℕ) → m < 12 → get_or month_starts m 0 + cond (l && ltb 1 m) 1 0 ≡ month_start (month_days l) m
unfolding all_below starts_at month_start
month_starts_lem false m h = eqb-true _ _ (all_gives 12 (starts_at false) m h refl)
month_starts_lem true m h = eqb-true _ _ (all_gives 12 (starts_at true) m h refl)

module _ (l : Bool) (m : ℕ) (h : m < 12) where
  pub start_early : m ≤ 1 → get_or month_starts m 0 ≡ month_start (month_days l) m
  start_early e = let n : ◌≡◌ {A = ℕ} (cond (l && ltb 1 m) 1 0) 0 = rw (and_none l (ltb 1 m) (le-ltb 1 m e)) in omega (arith, n, month_starts_lem l m h)

  pub start_plain : l ≡ false → get_or month_starts m 0 ≡ month_start (month_days l) m
  start_plain e = let n : ◌≡◌ {A = ℕ} (cond (l && ltb 1 m) 1 0) 0 = rw e in omega (arith, n, month_starts_lem l m h)

  pub start_leap : 1 < m → l ≡ true → get_or month_starts m 0 + 1 ≡ month_start (month_days l) m
  start_leap e f = let n : ◌≡◌ {A = ℕ} (cond (l && ltb 1 m) 1 0) 1 = rw (f, lt-ltb 1 m e) in omega (arith, n, month_starts_lem l m h)

-- how large: a month, its start, a day number

pub month_at_most : (l : Bool) (m : ℕ) → m < 12 → get_or (month_days l) m 0 ≤ 31
unfolding all_below
month_at_most false m h = leb-true _ _ (all_gives 12 (λ i. leb (get_or (month_days false) i 0) 31) m h refl)
month_at_most true m h = leb-true _ _ (all_gives 12 (λ i. leb (get_or (month_days true) i 0) 31) m h refl)

pub start_at_most : (l : Bool) (m : ℕ) → m < 12 → month_start (month_days l) m ≤ 335
unfolding all_below month_start
start_at_most false m h = leb-true _ _ (all_gives 12 (λ i. leb (month_start (month_days false) i) 335) m h refl)
start_at_most true m h = leb-true _ _ (all_gives 12 (λ i. leb (month_start (month_days true) i) 335) m h refl)

pub day_at_most : (d : Date) → is_date d ≡ true → day_number d < 200000
unfolding day_number
day_at_most d h =
    let p = date_parts d h in
    let m : d.month - 1 < 12 = omega arith in
    omega (arith, year_at_most (d.year - 2000), start_at_most (leap d.year) (d.month - 1) m, month_at_most (leap d.year) (d.month - 1) m)
