-- Numbers taken three at a time: tests over the entries are those over the windows or dates.
use Prim.Native.Nat.{ℕ, suc, ◌/◌}
use native.Mathlib.Omega.{arith}
use mathlib.Core.Path.{◌≡◌, refl, ap}
use mathlib.Core.Bool.{Bool, ◌&&◌, ◌||◌}
use mathlib.Core.List.{List, [], ◌∷◌}
use lib.ListN.{length, get_or}
use Rattle.std.specs.List.{list_all, list_any}
use Rattle.std.specs.Simd.{first_chunks}
use Rattle.model.specs.Base.{every, any_of}
use Rattle.model.specs.Session.{Window, Date, threes, windows_of, dates_of}
use Rattle.session.specs.Hours.{window_of, date_of, entries, window_in, date_in}

pub chunks_are_entries : (xs : List ℕ) → first_chunks 3 (length xs / 3) xs ≡ entries xs
chunks_are_entries [] = refl
chunks_are_entries (a ∷ []) = refl
chunks_are_entries (a ∷ b ∷ []) = refl
chunks_are_entries (a ∷ b ∷ c ∷ xs) =
    let e : suc (suc (suc (length xs))) / 3 ≡ suc (length xs / 3) = omega arith in
    rw e (ap (λ (t : List (List ℕ)). (a ∷ b ∷ c ∷ []) ∷ t) (chunks_are_entries xs))

module _ {A : Type 0} (f : ℕ → ℕ → ℕ → A) (p : A → Bool) where
  abbrev pub at_entry : List ℕ → Bool
  at_entry e = p (f (get_or e 0 0) (get_or e 1 0) (get_or e 2 0))

  pub every_entry : (xs : List ℕ) → list_all at_entry (entries xs) ≡ every p (threes f xs)
  every_entry [] = refl
  every_entry (a ∷ []) = refl
  every_entry (a ∷ b ∷ []) = refl
  every_entry (a ∷ b ∷ c ∷ xs) = ap (λ (t : Bool). p (f a b c) && t) (every_entry xs)

  pub any_entry : (xs : List ℕ) → list_any at_entry (entries xs) ≡ any_of p (threes f xs)
  any_entry [] = refl
  any_entry (a ∷ []) = refl
  any_entry (a ∷ b ∷ []) = refl
  any_entry (a ∷ b ∷ c ∷ xs) = ap (λ (t : Bool). p (f a b c) || t) (any_entry xs)

-- of windows and of dates
pub every_window : (p : Window → Bool) (xs : List ℕ) → list_all (λ (e : List ℕ). p (window_of (window_in e))) (entries xs) ≡ every p (windows_of xs)
every_window p xs = every_entry (λ (a b c : ℕ). window_of (record { weekday = a; opening = b; closing = c })) p xs

pub any_window : (p : Window → Bool) (xs : List ℕ) → list_any (λ (e : List ℕ). p (window_of (window_in e))) (entries xs) ≡ any_of p (windows_of xs)
any_window p xs = any_entry (λ (a b c : ℕ). window_of (record { weekday = a; opening = b; closing = c })) p xs

pub every_date : (p : Date → Bool) (xs : List ℕ) → list_all (λ (e : List ℕ). p (date_of (date_in e))) (entries xs) ≡ every p (dates_of xs)
every_date p xs = every_entry (λ (a b c : ℕ). date_of (record { year = a; month = b; day = c })) p xs

pub any_date : (p : Date → Bool) (xs : List ℕ) → list_any (λ (e : List ℕ). p (date_of (date_in e))) (entries xs) ≡ any_of p (dates_of xs)
any_date p xs = any_entry (λ (a b c : ℕ). date_of (record { year = a; month = b; day = c })) p xs
