-- The year table's rule, at each entry, from the test over the whole table.
use Prim.Native.Nat.{ℕ, zero, suc, ◌+◌, ◌<◌}
use native.Mathlib.Nat.{add-zero, add-suc, zero-add, suc-add, le_of_suc-le-suc, not-suc-le-zero}
use mathlib.Core.Path.{◌≡◌, refl, sym, ap, ◌∙◌}
use mathlib.Core.Bool.{Bool, true, cond}
use mathlib.Core.List.{List, [], ◌∷◌}
use lib.ListN.{length, get_or}
use lib.Dec.{eqb, ltb}
use borrow.Author.Tests.{eqb-true, ltb-true}
use Rattle.model.specs.Base.{every}
use Rattle.model.specs.Session.{year_days, year_start}
use Rattle.laws.proofs.Tests.{and_left, and_right, cases}
use Rattle.session.specs.YearTable.{starts_from, are_year_starts, year_cases}

from : (xs : List ℕ) (n : ℕ) → starts_from (2000 + n) (year_start n) xs ≡ true → (k : ℕ) → k < length xs → get_or xs k 0 ≡ year_start (n + k)
unfolding year_start
from [] n t k h = absurd (not-suc-le-zero h)
from (x ∷ xs) n t zero h = eqb-true x (year_start n) (and_left (eqb x (year_start n)) _ t) ∙ ap year_start (sym (add-zero n))
from (x ∷ xs) n t (suc k) h =
    let e = eqb-true x (year_start n) (and_left (eqb x (year_start n)) _ t) in
    let r : starts_from (suc (2000 + n)) (x + year_days (2000 + n)) xs ≡ true = and_right (eqb x (year_start n)) _ t in
    let s : starts_from (2000 + suc n) (year_start (suc n)) xs ≡ true = rw (add-suc, ← e) r in
    from xs (suc n) s k (le_of_suc-le-suc h) ∙ ap year_start (suc-add n k ∙ sym (add-suc n k))

starts_at : (xs : List ℕ) → are_year_starts xs ≡ true → (k : ℕ) → k < length xs → get_or xs k 0 ≡ year_start k
unfolding year_start
starts_at xs t k h = from xs 0 t k h ∙ ap year_start (zero-add k)

-- an entry of any table: where the table passes the test, and has the entry, this is the year's start
pub entry_at : (xs : List ℕ) (k : ℕ) → get_or xs k 0 ≡ cond (ltb k (length xs)) (cond (are_year_starts xs) (year_start k) (get_or xs k 0)) (get_or xs k 0)
entry_at xs k =
    cases (λ (n : ℕ). get_or xs k 0 ≡ n) (ltb k (length xs))
    (λ h. cases (λ (n : ℕ). get_or xs k 0 ≡ n) (are_year_starts xs) (λ t. starts_at xs t k (ltb-true k (length xs) h)) (λ _. refl))
    (λ _. refl)

pub year_cases_hold : every (λ (b : Bool). b) year_cases ≡ true
unfolding year_start year_cases
year_cases_hold = refl
