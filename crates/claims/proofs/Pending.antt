-- WHAT BECAME OF A PENDING, FOR THE CODE (02, slip 4). On storage that `new` has just made and that nobody else writes, inserts that answered
-- Pending equal endings recorded plus pendings still waiting, after every list of calls. On any storage an accepted call ends what is due in
-- the buckets that it applies, and no call but a listing leaves more than one record.
use Prim.Native.Nat.{ℕ}
use mathlib.Core.Path.{◌≡◌, refl, sym, ap, ◌∙◌, subst⁻¹, subst₂}
use mathlib.Core.Bool.{true}
use mathlib.Core.List.{List, ◌∷◌, reverse}
use mathlib.Core.Option.{Option, none, some}
use lib.Seq.{drop-length}
use Rattle.model.specs.Bytes.{Bytes}
use Rattle.model.specs.Node.{EndedPending}
use Rattle.model.specs.Table.{Table, Answer}
use Rattle.model.specs.Call.{Call}
use Rattle.model.specs.Question.{first_failed}
use Rattle.model.specs.Step.{Outcome, act, step}
use Rattle.model.specs.Layout.{table_of}
use Rattle.model.specs.StepBytes.{all_questions, unless_refused_bytes, step_bytes}
use Rattle.model.specs.Fits.{All, FitsCall}
use Rattle.laws.proofs.Tests.{clash, or_second}
use Rattle.laws.proofs.Questions.{accepted_bytes}
use Rattle.laws.proofs.KeepStep.{step_accepted}
use Rattle.laws.proofs.TableBytes.{table_there}
use Rattle.table_log.specs.Log.{Entry, is_refused}
use Rattle.table_log.specs.Claim.{table_after, entries}
use Rattle.table_log.specs.Pending.{Conserved, due_ended, lists, one_record}
use Rattle.theorem.proofs.Theorem.{theorem_conserved, theorem_due, theorem_one}
use Rattle.claims.specs.Ran.{Ran}
use Rattle.claims.specs.Runs.{behind, fed, Runs, PendingClaim}
use Rattle.claims.proofs.Left.{accepted_records}
use Rattle.claims.proofs.Ran.{equation}
use Rattle.claims.proofs.Demand.{made}

-- storage that is left as it was
pub kept_claim : (c : Call) (s : List ℕ) (a : Answer) (s' : List ℕ) → s' ≡ s → is_refused a ≡ true → PendingClaim c s a s'
kept_claim c s a s' e r =
    record {
      ended_due = λ h. clash r h;
      single_record =
          subst⁻¹ (λ (rs : List EndedPending). one_record c rs ≡ true)
          (ap (λ (x : List ℕ). behind (table_of s).queue (table_of x).queue) e ∙ drop-length (table_of s).queue) (or_second (lists c) true refl);
    }

pub refused_step : (c : Call) (s : List ℕ) (n : ℕ) → first_failed (all_questions c s) ≡ some n → ((step_bytes c s).answer ≡ Answer.Refused n) × ((step_bytes c s).storage ≡ s)
unfolding step_bytes
refused_step c s n e = (ap (λ (o : Option ℕ). (unless_refused_bytes o c s).answer) e, ap (λ (o : Option ℕ). (unless_refused_bytes o c s).storage) e)

accepted_is : (c : Call) (s : List ℕ) → first_failed (all_questions c s) ≡ none → (step_bytes c s).answer ≡ (act c (table_of s)).answer
unfolding step_bytes
accepted_is c s e = ap (λ (o : Option ℕ). (unless_refused_bytes o c s).answer) e

pub pending_step : (c : Call) (s : List ℕ) → FitsCall c → Bytes s → PendingClaim c s (step_bytes c s).answer (step_bytes c s).storage
pending_step c s h b = by (first_failed (all_questions c s)) refl
  where
    by : (o : Option ℕ) → first_failed (all_questions c s) ≡ o → PendingClaim c s (step_bytes c s).answer (step_bytes c s).storage
    by (some n) e = let z = refused_step c s n e in kept_claim c s (step_bytes c s).answer (step_bytes c s).storage z.1 (ap is_refused z.0)
    by none e =
        let t : Table = table_of s in
        let o : step c t ≡ act c t = step_accepted c t (accepted_bytes c s e).passes in
        let r : behind t.queue (table_of (step_bytes c s).storage).queue ≡ (step c t).records = accepted_records c s h b e ∙ ap (λ (x : Outcome). x.records) (sym o) in
        record {
          ended_due = λ q.
              subst⁻¹ (λ (rs : List EndedPending). due_ended c t rs ≡ true) r
              (theorem_due c t (ap (λ (x : Outcome). is_refused x.answer) o ∙ ap is_refused (sym (accepted_is c s e)) ∙ q));
          single_record = subst⁻¹ (λ (rs : List EndedPending). one_record c rs ≡ true) r (theorem_one c t);
        }

pub pending_claim : {c : Call} {s : List ℕ} {a : Answer} {s' out' : List ℕ} → Ran c s a s' out' → FitsCall c → Bytes s → PendingClaim c s a s'
pending_claim {c} {s} run h b =
    let q = equation run in subst₂ (λ (x : Answer) (y : List ℕ). PendingClaim c s x y) (sym q.answer) (sym q.storage) (pending_step c s h b)

-- The code's `new` answered New on whatever bytes s, then the calls cs followed.
pub conserved : (k : List ℕ) (timeout m tf bf : ℕ) (cs : List Call) (s r out' : List ℕ) (es : List Entry) (s' : List ℕ)
    → All FitsCall (Call.new k timeout m tf bf ∷ cs)
    → Ran (Call.new k timeout m tf bf) s Answer.New r out' → Runs cs r es s'
    → Conserved (reverse (fed (Call.new k timeout m tf bf) s Answer.New r ∷ es)) (table_of s')
conserved k timeout m tf bf cs s r out' es s' h run runs =
    let c : Call = Call.new k timeout m tf bf in
    let t : Table = table_of s in
    let z = made k timeout m tf bf cs s r out' es s' h run runs in
    let f = z.0 in
    subst⁻¹ (λ (x : List Entry). Conserved (reverse x) (table_of s')) f.log
    (subst⁻¹ (λ (x : Table). Conserved (reverse (entries (c ∷ cs) t)) x) (ap table_of f.storage ∙ table_there (table_after (c ∷ cs) t) f.fits)
    (theorem_conserved k timeout m tf bf cs t z.1))
