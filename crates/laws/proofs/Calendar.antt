-- Laws of the calendar (02, slips 8 and 9): the day after a date is one further, and its weekday is the next, also over the ends of
-- months, leap years and centuries.
use Prim.Native.Nat.{ℕ, zero, suc, ◌+◌, ◌-◌, ◌*◌, ◌%◌, ◌≤◌, ◌<◌}
use native.Mathlib.Numerals.{add-one}
use native.Mathlib.Omega.{arith}
use mathlib.Core.Path.{◌≡◌, refl, sym, ap, ◌∙◌}
use mathlib.Core.Bool.{Bool, true, false, cond, ◌&&◌}
use mathlib.Core.List.{List}
use mathlib.Core.Logic.{◌⊎◌, ⊎_elim, inl, inr}
use lib.ListN.{get_or}
use lib.Dec.{leb, ltb}
use borrow.Author.Tests.{ltb-true, ltb-false, leb-true, le-leb}
use Rattle.model.specs.Base.{all_below}
use Rattle.model.specs.Session.{Date, leap, year_days, year_start, month_days, month_start, days_in, is_date, day_number, next_day, weekday_of}
use Rattle.laws.proofs.Tests.{and_left, and_right, cases, split}
use Rattle.laws.proofs.Lists.{all_gives, lt_or_le}

-- what a date is made of
pub record IsDate (d : Date) : Type 0 where
  pub from : 2000 ≤ d.year
  pub to : d.year ≤ 2399
  pub month_from : 1 ≤ d.month
  pub month_to : d.month ≤ 12
  pub day_from : 1 ≤ d.day
  pub day_to : d.day ≤ days_in d.year d.month

within : (a b c : ℕ) → (leb a b && leb b c) ≡ true → (a ≤ b) × (b ≤ c)
within a b c h = (leb-true a b (and_left (leb a b) (leb b c) h), leb-true b c (and_right (leb a b) (leb b c) h))

pub date_parts : (d : Date) → is_date d ≡ true → IsDate d
date_parts d h =
    let years = leb 2000 d.year && leb d.year 2399 in
    let months = leb 1 d.month && leb d.month 12 in
    let days = leb 1 d.day && leb d.day (days_in d.year d.month) in
    let r = and_right years (months && days) h in
    let y = within 2000 d.year 2399 (and_left years (months && days) h) in
    let m = within 1 d.month 12 (and_left months days r) in
    let e = within 1 d.day (days_in d.year d.month) (and_right months days r) in
    record { from = y.0; to = y.1; month_from = m.0; month_to = m.1; day_from = e.0; day_to = e.1 }

pub date-whole :
    (y m d : ℕ)
    → (2000 ≤ y) × (y ≤ 2399)
    → (1 ≤ m) × (m ≤ 12)
    → (1 ≤ d) × (d ≤ days_in y m)
    → is_date (record { year = y; month = m; day = d }) ≡ true
date-whole y m d p q r =
    rw (le-leb 2000 y p.0, le-leb y 2399 p.1, le-leb 1 m q.0, le-leb m 12 q.1, le-leb 1 d r.0, le-leb d (days_in y m) r.1)

-- years and months follow one another

pub year_next : (n : ℕ) → year_start (n + 1) ≡ year_start n + year_days (2000 + n)
unfolding year_start
year_next n = rw add-one

pub month_next : (ds : List ℕ) (m : ℕ) → month_start ds (m + 1) ≡ month_start ds m + get_or ds m 0
unfolding month_start
month_next ds m = rw add-one

pub months_whole : (l : Bool) → month_start (month_days l) 12 ≡ cond l 366 365
unfolding month_start
months_whole true = refl
months_whole false = refl

pub month_not_empty : (l : Bool) (m : ℕ) → m < 12 → 1 ≤ get_or (month_days l) m 0
unfolding all_below
month_not_empty true m h = leb-true _ _ (all_gives 12 (λ i. leb 1 (get_or (month_days true) i 0)) m h refl)
month_not_empty false m h = leb-true _ _ (all_gives 12 (λ i. leb 1 (get_or (month_days false) i 0)) m h refl)

-- no year has more than 366 days
pub year_at_most : (n : ℕ) → year_start n ≤ 366 * n
unfolding year_start
year_at_most zero = omega arith
year_at_most (suc n) =
    split (leap (2000 + n))
    (λ e. let d : year_days (2000 + n) ≡ 366 = rw e in omega (arith, year_at_most n, d))
    (λ e. let d : year_days (2000 + n) ≡ 365 = rw e in omega (arith, year_at_most n, d))

-- the first of the month behind month m
month_turns : (ds : List ℕ) (m : ℕ) → 1 ≤ m → month_start ds (m + 1 - 1) ≡ month_start ds (m - 1) + get_or ds (m - 1) 0
month_turns ds m h = let e : m + 1 - 1 ≡ m - 1 + 1 = omega arith in ap (month_start ds) e ∙ month_next ds (m - 1)

-- 1 January of the year behind year y
year_turns : (y : ℕ) → 2000 ≤ y → year_start (y + 1 - 2000) ≡ year_start (y - 2000) + month_start (month_days (leap y)) 12
year_turns y h =
    let e : y + 1 - 2000 ≡ y - 2000 + 1 = omega arith in
    let f : 2000 + (y - 2000) ≡ y = omega arith in
    ap year_start e ∙ year_next (y - 2000) ∙ ap (λ (n : ℕ). year_start (y - 2000) + year_days n) f
    ∙ ap (λ (n : ℕ). year_start (y - 2000) + n) (sym (months_whole (leap y)))

-- over the end of a year
year-end :
    (d : Date)
    → IsDate d
    → d.day ≡ get_or (month_days (leap d.year)) (d.month - 1) 0
    → month_start (month_days (leap d.year)) 12 ≡ month_start (month_days (leap d.year)) (d.month - 1) + get_or (month_days (leap d.year)) (d.month - 1) 0
    → day_number (record { year = d.year + 1; month = 1; day = 1 }) ≡ day_number d + 1
unfolding day_number month_start
year-end d p ends whole = omega (arith, ends, whole, p.day_from, year_turns d.year p.from)

-- the day after has the next number
pub next_number : (d : Date) → is_date d ≡ true → day_number (next_day d) ≡ day_number d + 1
unfolding day_number
next_number d h =
    let p = date_parts d h in
    let y = d.year in
    let m = d.month in
    let ds = month_days (leap y) in
    cases (λ (e : Date). day_number e ≡ day_number d + 1) (ltb d.day (days_in y m))
    (λ _. omega (arith, p.day_from))
    (λ last.
    let ends : d.day ≡ get_or ds (m - 1) 0 = omega (arith, p.day_to, ltb-false d.day (days_in d.year d.month) last) in
    cases (λ (e : Date). day_number e ≡ day_number d + 1) (ltb m 12)
    (λ _. omega (arith, ends, p.day_from, month_turns ds m p.month_from))
    (λ twelve.
    let e : m - 1 + 1 ≡ 12 = omega (arith, p.month_to, ltb-false m 12 twelve) in
    let whole = sym (ap (month_start ds) e) ∙ month_next ds (m - 1) in
    year-end d p ends whole))

-- and the next weekday: Monday behind Sunday
pub next_weekday : (d : Date) → is_date d ≡ true → weekday_of (day_number (next_day d)) ≡ weekday_of (day_number d) % 7 + 1
next_weekday d h = rw (next_number d h) (omega arith)

-- December has 31 days
december : (d : Date) → IsDate d → ltb d.day (days_in d.year d.month) ≡ false → d.month ≡ 12 → d.day ≡ 31
december d p last e =
    let days : days_in d.year d.month ≡ 31 = ap (days_in d.year) e in
    omega (arith, days, p.day_to, ltb-false d.day (days_in d.year d.month) last)

-- the day after is a date, but behind 31 December 2399
pub next_date : (d : Date) → is_date d ≡ true → (is_date (next_day d) ≡ true) ⊎ ((d.year ≡ 2399) × ((d.month ≡ 12) × (d.day ≡ 31)))
next_date d h =
    let p = date_parts d h in
    let y = d.year in
    let m = d.month in
    cases (λ (e : Date). (is_date e ≡ true) ⊎ ((y ≡ 2399) × ((m ≡ 12) × (d.day ≡ 31)))) (ltb d.day (days_in y m))
    (λ more.
    inl (date-whole y m (d.day + 1) (p.from, p.to) (p.month_from, p.month_to) (omega arith, omega (arith, ltb-true d.day (days_in y m) more))))
    (λ last.
    cases (λ (e : Date). (is_date e ≡ true) ⊎ ((y ≡ 2399) × ((m ≡ 12) × (d.day ≡ 31)))) (ltb m 12)
    (λ more.
    let l : m + 1 ≤ 12 = omega (arith, ltb-true m 12 more) in
    inl (date-whole y (m + 1) 1 (p.from, p.to) (omega arith, l) (omega arith, month_not_empty (leap y) (m + 1 - 1) (omega arith))))
    (λ twelve.
    let e : m ≡ 12 = omega (arith, p.month_to, ltb-false m 12 twelve) in
    ⊎_elim
    (λ before. inl (date-whole (y + 1) 1 1 (omega (arith, p.from), omega arith) (omega arith, omega arith) (omega arith, omega arith)))
    (λ after. inr (omega (arith, p.to), (e, december d p last e)))
    (lt_or_le y 2399)))
