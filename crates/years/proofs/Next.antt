-- A year further, by the leap year rule.
use Prim.Native.Nat.{ℕ, ◌+◌}
use mathlib.Core.Path.{◌≡◌, sym, ap, ◌∙◌}
use mathlib.Core.Bool.{true, false}
use Rattle.model.specs.Session.{leap, year_start}
use Rattle.laws.proofs.Calendar.{year_next}

module _ (n : ℕ) {start : ℕ} (e : start ≡ year_start n) where
  pub next_leap : leap (2000 + n) ≡ true → start + 366 ≡ year_start (n + 1)
  next_leap l = ap (λ (s : ℕ). s + 366) e ∙ sym (year_next n ∙ rw l)

  pub next_plain : leap (2000 + n) ≡ false → start + 365 ≡ year_start (n + 1)
  next_plain l = ap (λ (s : ℕ). s + 365) e ∙ sym (year_next n ∙ rw l)
