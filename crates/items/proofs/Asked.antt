-- What the test of one question tells, and the exit of a `?`.
use mathlib.Core.Path.{◌≡◌, refl}
use mathlib.Core.Bool.{Bool, true, false, cond}
use mathlib.Core.List.{List}
use mathlib.Core.Option as math
use mathlib.Core.Option.{none, some}
use Prim.Native.Nat.{ℕ}
use Rattle.std.specs.Prelude.{Result}
use Rattle.std.specs.Result.{IsErrAnd}
use Rattle.std.proofs.lemmas.Result.{err_from_is_err_and}
use Rattle.model.specs.Table.{Answer}
use Rattle.model.specs.StepBytes.{BytesOutcome}
use Rattle.node.specs.declared.Refusal.{Refusal}
use Rattle.node.specs.Refusal.{number_of}
use Rattle.items.specs.Lists.{Lists, list_answer}

pub asked_fails : (q m : ℕ) (b : Bool) → some m ≡ cond b none (some q) → (b ≡ false) × (m ≡ q)
asked_fails q m true e = absurd (cc)
asked_fails q m false e = (refl, cc)

pub asked_passes : (q : ℕ) (b : Bool) → ◌≡◌ {A = math.Option ℕ} none (cond b none (some q)) → b ≡ true
asked_passes q true e = refl
asked_passes q false e = absurd (cc)

-- the exit of a `?`: the listing answers the refusal that was met
pub lists_refused : (r : Result ℕ Refusal) (e : Refusal) → IsErrAnd r (λ x. x ≡ e) → {s out : List ℕ} {o : BytesOutcome} → Lists (Answer.Refused (number_of e)) s out o
    → Lists (list_answer r) s out o
lists_refused r e h w = let p = err_from_is_err_and r h in rw (p.1, p.2) w
