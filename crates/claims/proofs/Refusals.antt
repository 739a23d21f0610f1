-- DEMAND 1 FOR THE CODE. A failed check answers its number and changes nothing; and where no check fails, the call is not refused.
use Prim.Native.Nat.{ℕ}
use mathlib.Core.Path.{◌≡◌, refl, ap, ◌∙◌}
use mathlib.Core.Bool.{true, false}
use mathlib.Core.List.{List}
use mathlib.Core.Option.{Option, none, some}
use Rattle.model.specs.Table.{Answer}
use Rattle.model.specs.Call.{Call}
use Rattle.model.specs.Question.{first_failed}
use Rattle.model.specs.Layout.{table_of}
use Rattle.model.specs.Step.{act}
use Rattle.model.specs.StepBytes.{all_questions, unless_refused_bytes, step_bytes}
use Rattle.table_log.specs.Log.{is_refused}
use Rattle.laws.proofs.Tests.{clash}
use Rattle.laws.proofs.Questions.{accepted_bytes}
use Rattle.claims.specs.Listed.{Kinds, among, kinds_of}
use Rattle.claims.specs.Ran.{Ran}
use Rattle.claims.specs.Runs.{Refusal}
use Rattle.claims.proofs.Ran.{equation}
use Rattle.claims.proofs.Listed.{act_listed}

pub demand_1 : {c : Call} {s : List ℕ} {a : Answer} {s' out' : List ℕ} → Ran c s a s' out' → (n : ℕ) → first_failed (all_questions c s) ≡ some n
    → Refusal n c s a s' out'
unfolding step_bytes
demand_1 {c} {s} run n e =
    record {
      answer = (equation run).answer ∙ ap (λ (o : Option ℕ). (unless_refused_bytes o c s).answer) e;
      storage = (equation run).storage ∙ ap (λ (o : Option ℕ). (unless_refused_bytes o c s).storage) e;
      output = (equation run).output ∙ ap (λ (o : Option ℕ). (unless_refused_bytes o c s).output) e;
    }

among_accepted : (k : Kinds) (a : Answer) → among k a ≡ true → is_refused a ≡ false
among_accepted k (Answer.Refused n) h = clash h refl
among_accepted k Answer.New h = refl
among_accepted k (Answer.Remove r) h = refl
among_accepted k (Answer.Entry e) h = refl
among_accepted k (Answer.Found n) h = refl
among_accepted k (Answer.TakeAppliedPending r) h = refl
among_accepted k (Answer.Update r) h = refl
among_accepted k (Answer.InsertOrUpdate r) h = refl
among_accepted k (Answer.Insert r) h = refl
among_accepted k (Answer.Read n) h = refl

-- where no question fails, the call is not refused
pub accepted_answer : (c : Call) (s : List ℕ) → first_failed (all_questions c s) ≡ none → is_refused (step_bytes c s).answer ≡ false
unfolding step_bytes
accepted_answer c s e =
    ap (λ (o : Option ℕ). is_refused (unless_refused_bytes o c s).answer) e
    ∙ among_accepted (kinds_of c) (act c (table_of s)).answer (act_listed c (table_of s) (accepted_bytes c s e).answers.kind)

pub not_refused : {c : Call} {s : List ℕ} {a : Answer} {s' out' : List ℕ} → Ran c s a s' out' → first_failed (all_questions c s) ≡ none → is_refused a ≡ false
not_refused {c} {s} run e = ap is_refused (equation run).answer ∙ accepted_answer c s e
