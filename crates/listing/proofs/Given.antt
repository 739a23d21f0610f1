-- What is handed on where it passed question 4.
use mathlib.Core.Path.{◌≡◌, refl, sym, ap, ◌∙◌}
use mathlib.Core.Bool.{Bool, true, false}
use Rattle.std.specs.Prelude.{Option, Some}
use Rattle.std.specs.Bool.{then_some}
use Rattle.std.specs.Option.{is_some, unwrap_or}

module _ {A : Type 0} (b : Bool) (x : A) {o : Option A} (e : o ≡ then_some b x) where
  pub passes : is_some o ≡ b
  passes = ap is_some e ∙ by b
    where
      by : (b : Bool) → is_some (then_some b x) ≡ b
      by true = refl
      by false = refl

  pub given : {y : A} → o ≡ Some y → x ≡ y
  given {y} f = by b (sym e ∙ f)
    where
      by : (b : Bool) → then_some b x ≡ Some y → x ≡ y
      by true g = ap (λ p. unwrap_or p x) g
      by false g = ap (λ p. unwrap_or p x) g
