-- Admission in session hours (02, slip 8), of the model's step and of runs of the code, whatever bytes they were lent: with no windows the
-- outcome does not depend on the rest of the hours; where 10 passes, and the key is local, held or pending as stored or it is open, it is that
-- without windows; otherwise a call that would be accepted is refused with 11, or with 10 where the hours break the rules, and nothing changes.
use Prim.Native.Nat.{ℕ}
use mathlib.Core.Path.{◌≡◌, sym, ap, ◌∙◌}
use mathlib.Core.Bool.{false, cond}
use mathlib.Core.List.{List, []}
use mathlib.Core.Option.{none, some}
use Rattle.model.specs.Base.{is_some}
use Rattle.model.specs.Table.{Answer}
use Rattle.model.specs.Session.{Session, has_windows, hours_fit, hours_questions}
use Rattle.model.specs.Call.{KeyCall, no_hours}
use Rattle.model.specs.Question.{first_failed, key_arguments}
use Rattle.model.specs.StepBytes.{BytesOutcome, all_questions, unless_refused_bytes, step_bytes}
use Rattle.laws.proofs.Hours.{hours_asked, hours_empty, hours_known, hours_refused, hours_outside}
use Rattle.laws.proofs.Questions.{front_none}
use Rattle.claims.specs.Ran.{Ran}
use Rattle.claims.specs.Hours.{during, known, SameOutcome, Admitted, Otherwise, Outside}
use Rattle.claims.proofs.Ran.{equation}

module _ (key : List ℕ) (c : KeyCall) (s : List ℕ) where
  -- of the model's step

  pub empty_alike : (x y : Session) → has_windows x ≡ false → has_windows y ≡ false → step_bytes (during x key c) s ≡ step_bytes (during y key c) s
  empty_alike x y e f = hours_empty key x s c e ∙ sym (hours_empty key y s c f)

  pub admitted_alike : (x y : Session) → Admitted x key s → has_windows y ≡ false → step_bytes (during x key c) s ≡ step_bytes (during y key c) s
  admitted_alike x y a f = hours_known key x s c a.fit a.known_or_open ∙ sym (hours_empty key y s c f)

  -- all questions but 10 and 11 pass
  others_pass : (y : Session) → Otherwise y key c s → first_failed (all_questions (during no_hours key c) s) ≡ none
  others_pass y o = front_none (all_questions (during no_hours key c) s) (cond (is_some (key_arguments c).hours) (hours_questions y (known key s)) []) (sym (hours_asked key y s c) ∙ o.accepted)

  pub outside_refused : (x y : Session) → Otherwise y key c s → Outside x key s → step_bytes (during x key c) s ≡ unless_refused_bytes (some 11) (during no_hours key c) s
  outside_refused x y o p = hours_outside key x s c o.given (others_pass y o) p.windows p.fit p.unknown p.not_open

  pub broken_refused : (x y : Session) → Otherwise y key c s → hours_fit x ≡ false → step_bytes (during x key c) s ≡ unless_refused_bytes (some 10) (during no_hours key c) s
  broken_refused x y o f = hours_refused key x s c o.given (others_pass y o) f

  -- of runs of the code

  module _ (x y : Session) {a b : Answer} {s' s'' out out' : List ℕ} (r : Ran (during x key c) s a s' out) (q : Ran (during y key c) s b s'' out') where
    same_runs : step_bytes (during x key c) s ≡ step_bytes (during y key c) s → SameOutcome a b s' s''
    same_runs e =
        record {
          answer = (equation r).answer ∙ ap (λ (o : BytesOutcome). o.answer) e ∙ sym (equation q).answer;
          storage = (equation r).storage ∙ ap (λ (o : BytesOutcome). o.storage) e ∙ sym (equation q).storage;
        }

    pub no_windows_alike : has_windows x ≡ false → has_windows y ≡ false → SameOutcome a b s' s''
    no_windows_alike e f = same_runs (empty_alike x y e f)

    pub at_every_hour : Admitted x key s → has_windows y ≡ false → SameOutcome a b s' s''
    at_every_hour p f = same_runs (admitted_alike x y p f)

  module _ (x y : Session) {a : Answer} {s' out : List ℕ} (r : Ran (during x key c) s a s' out) (o : Otherwise y key c s) where
    pub refused_outside : Outside x key s → SameOutcome a (Answer.Refused 11) s' s
    refused_outside p =
        let e = outside_refused x y o p in
        record {
          answer = (equation r).answer ∙ ap (λ (o : BytesOutcome). o.answer) e;
          storage = (equation r).storage ∙ ap (λ (o : BytesOutcome). o.storage) e;
        }

    pub refused_broken : hours_fit x ≡ false → SameOutcome a (Answer.Refused 10) s' s
    refused_broken f =
        let e = broken_refused x y o f in
        record {
          answer = (equation r).answer ∙ ap (λ (o : BytesOutcome). o.answer) e;
          storage = (equation r).storage ∙ ap (λ (o : BytesOutcome). o.storage) e;
        }
