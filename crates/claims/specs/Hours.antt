-- Admission in session hours (02, slip 8): what is promised of a call that is given hours, for every storage.
use Rattle.std.specs.Prelude.{ℕ, ◌≡◌, Bool, true, false, not, ◌||◌, List}
use Rattle.std.proofs.Math.Option.{none}
use Rattle.model.specs.Base.{is_some}
use Rattle.model.specs.Table.{Answer}
use Rattle.model.specs.Session.{Session, has_windows, hours_fit, is_open}
use Rattle.model.specs.Call.{Call, KeyCall, with_hours}
use Rattle.model.specs.Question.{first_failed, is_absent, kind_of_key, key_arguments}
use Rattle.model.specs.Layout.{table_of}
use Rattle.model.specs.StepBytes.{all_questions}

-- a call on a key with these hours
abbrev pub during : Session → (key : List ℕ) → KeyCall → Call
during x k c = Call.on_key k (with_hours x c)

-- the local key, or one that is held or pending as stored
abbrev pub known : (key s : List ℕ) → Bool
known k s = not (is_absent (kind_of_key k (table_of s)))

-- two outcomes are one
pub record SameOutcome (a b : Answer) (s s' : List ℕ) : Type 0 where
  pub answer : a ≡ b
  pub storage : s ≡ s'

-- hours that keep the rules, of a key that may be updated or answered at every hour, or while it is open
pub record Admitted (x : Session) (key s : List ℕ) : Type 0 where
  pub fit : hours_fit x ≡ true
  pub known_or_open : (known key s || is_open x) ≡ true

-- a call that is given hours, and would be accepted without windows; y: no windows
pub record Otherwise (y : Session) (key : List ℕ) (c : KeyCall) (s : List ℕ) : Type 0 where
  pub given : is_some (key_arguments c).hours ≡ true
  pub no_windows : has_windows y ≡ false
  pub accepted : first_failed (all_questions (during y key c) s) ≡ none

-- hours that keep the rules, and any other key outside all windows
pub record Outside (x : Session) (key s : List ℕ) : Type 0 where
  pub windows : has_windows x ≡ true
  pub fit : hours_fit x ≡ true
  pub unknown : known key s ≡ false
  pub not_open : is_open x ≡ false
