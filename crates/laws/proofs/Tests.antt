-- Laws of the tests: `same`, and going by cases on a test.
use Prim.Native.Nat.{ℕ, ◌≤◌}
use native.Mathlib.Omega.{arith}
use mir.Val.{bool_byte}
use mathlib.Core.Path.{◌≡◌, refl, sym, ◌∙◌}
use mathlib.Core.Bool.{Bool, true, false, cond, ◌&&◌, ◌||◌, true≢false}
use borrow.Author.Tests.{eqb-true, eq-eqb, ne_eqb, eqb-false}
use Rattle.model.specs.Base.{same}

pub same_self : (a : ℕ) → same a a ≡ true
unfolding same
same_self a = eq-eqb a a refl

pub same_true : (a b : ℕ) → same a b ≡ true → a ≡ b
unfolding same
same_true a b e = eqb-true a b e

pub same_of : (a b : ℕ) → a ≡ b → same a b ≡ true
unfolding same
same_of a b e = eq-eqb a b e

pub same_false : (a b : ℕ) → same a b ≡ false → a ≡ b → ⊥
unfolding same
same_false a b e = eqb-false a b e

pub same_not : (a b : ℕ) → (a ≡ b → ⊥) → same a b ≡ false
unfolding same
same_not a b f = ne_eqb a b f

pub clash : {A : Type 0} {t : Bool} → t ≡ true → t ≡ false → A
clash p q = absurd (true≢false (sym p ∙ q))

-- by cases on a test, with the test's outcome in hand
pub cases : {A : Type 0} (P : A → Type 0) (t : Bool) {x y : A} → (t ≡ true → P x) → (t ≡ false → P y) → P (cond t x y)
cases P true f g = f refl
cases P false f g = g refl

-- by cases on a test, for any goal
pub split : {P : Type 0} (t : Bool) → (t ≡ true → P) → (t ≡ false → P) → P
split true f g = f refl
split false f g = g refl

-- the two parts of a test
pub or_left : (a b : Bool) → (a || b) ≡ false → a ≡ false
or_left true b h = clash refl h
or_left false b h = refl

pub or_right : (a b : Bool) → (a || b) ≡ false → b ≡ false
or_right true b h = clash refl h
or_right false b h = h

pub and_left : (a b : Bool) → (a && b) ≡ true → a ≡ true
and_left true b h = refl
and_left false b h = clash h refl

pub and_right : (a b : Bool) → (a && b) ≡ true → b ≡ true
and_right true b h = h
and_right false b h = clash h refl

pub and_none : (a b : Bool) → b ≡ false → (a && b) ≡ false
and_none true b h = h
and_none false b h = refl

pub or_rest : (a b : Bool) → (a || b) ≡ true → a ≡ false → b ≡ true
or_rest true b h e = clash refl e
or_rest false b h e = h

pub or_first : (a b : Bool) → a ≡ true → (a || b) ≡ true
or_first true b e = refl
or_first false b e = clash e refl

pub or_second : (a b : Bool) → b ≡ true → (a || b) ≡ true
or_second true b e = refl
or_second false b e = e

-- same is symmetric
pub same_sym : (a b : ℕ) → same a b ≡ same b a
same_sym a b = split (same b a) (λ e. same_of a b (sym (same_true b a e)) ∙ sym e) (λ e. same_not a b (λ p. same_false b a e (sym p)) ∙ sym e)

-- the second of two tests is looked at only where the first holds
pub second : (a x y : Bool) → (a ≡ true → x ≡ y) → (a && x) ≡ (a && y)
second true x y h = h refl
second false x y h = refl

-- a test's flag as a number, as the code's `flag as usize` has it
pub flag≤1 : (b : Bool) → bool_byte b ≤ 1
flag≤1 true = omega arith
flag≤1 false = omega arith
