-- WHAT BECAME OF A PENDING, FOR A HOST (02, slip 4): the claims of Pending, with the answers as a host reads them.
use Prim.Native.Nat.{ℕ, ◌+◌}
use mathlib.Core.Path.{◌≡◌, refl, sym, ap, ap₂, ◌∙◌, subst⁻¹}
use mathlib.Core.Bool.{true, false}
use mathlib.Core.List.{List, ◌∷◌, reverse}
use mathlib.Core.Logic.{◌⊎◌, inl, inr}
use mathlib.Core.Option.{Option, none, some}
use lib.ListN.{length}
use Rattle.model.specs.Bytes.{Bytes}
use Rattle.model.specs.Table.{Table, Answer}
use Rattle.model.specs.Call.{Call}
use Rattle.model.specs.Question.{first_failed}
use Rattle.model.specs.Layout.{table_of}
use Rattle.model.specs.StepBytes.{all_questions, step_bytes}
use Rattle.model.specs.Fits.{All, FitsCall}
use Rattle.laws.proofs.Tests.{clash}
use Rattle.laws.proofs.TableBytes.{table_there}
use Rattle.table_log.specs.Log.{Entry, is_refused}
use Rattle.table_log.specs.Claim.{table_after, entries}
use Rattle.table_log.specs.Pending.{pending_answer, still_waiting, Conserved, due_ended, one_record}
use Rattle.theorem.proofs.Theorem.{theorem_conserved}
use Rattle.codes.specs.Codes.{answer_code}
use Rattle.claims.specs.Runs.{fed, PendingClaim}
use Rattle.claims.specs.Exports.{Called, answer_of, HostRuns}
use Rattle.claims.proofs.Refusals.{accepted_answer}
use Rattle.claims.proofs.Exports.{refusal_read}
use Rattle.claims.proofs.Heard.{count_heard}
use Rattle.claims.proofs.Pending.{kept_claim, refused_step, pending_step}
use Rattle.claims.proofs.HostDemand.{Answered, Short, told, HostMade, host_made}

-- a call whose code is read as no refusal was accepted
read_accepted : (c : Call) (s : List ℕ) (code : ℕ) (s' out' : List ℕ) → Answered c s code s' out' → is_refused (answer_of c code out') ≡ false
    → is_refused (step_bytes c s).answer ≡ false
read_accepted c s code s' out' x h = by (first_failed (all_questions c s)) refl
  where
    by : (o : Option ℕ) → first_failed (all_questions c s) ≡ o → is_refused (step_bytes c s).answer ≡ false
    by none e = accepted_answer c s e
    by (some n) e =
        clash (ap is_refused (ap (λ (m : ℕ). answer_of c m out') (x.code_is ∙ ap answer_code (refused_step c s n e).0) ∙ refusal_read c n out')) h

pub export_pending_claim : {c : Call} {answer s : List ℕ} {code : ℕ} {s' out' : List ℕ} → Called c answer s code s' out' → FitsCall c → Bytes s
    → PendingClaim c s (answer_of c code out') s'
export_pending_claim {c} {answer} {s} {code} {s'} {out'} run h b = by (told run)
  where
    by : Answered c s code s' out' ⊎ Short s code s' → PendingClaim c s (answer_of c code out') s'
    by (inl x) =
        let p = pending_step c s h b in
        record {
          ended_due = λ q.
              subst⁻¹ (λ (y : List ℕ). due_ended c (table_of s) (fed c s (answer_of c code out') y).records ≡ true) x.storage
              (p.ended_due (read_accepted c s code s' out' x q));
          single_record = subst⁻¹ (λ (y : List ℕ). one_record c (fed c s (answer_of c code out') y).records ≡ true) x.storage p.single_record;
        }
    by (inr x) =
        kept_claim c s (answer_of c code out') s' x.storage
        (ap is_refused (ap (λ (m : ℕ). answer_of c m out') x.code_is ∙ refusal_read c x.question out'))

-- `kbuckets_new` returned 0 on whatever bytes s, then the calls cs followed.
pub export_conserved : (k : List ℕ) (timeout m tf bf : ℕ) (cs : List Call) (answer s r out' : List ℕ) (es : List Entry) (s' : List ℕ)
    → All FitsCall (Call.new k timeout m tf bf ∷ cs)
    → Called (Call.new k timeout m tf bf) answer s 0 r out' → HostRuns cs r es s'
    → Conserved (reverse (fed (Call.new k timeout m tf bf) s Answer.New r ∷ es)) (table_of s')
export_conserved k timeout m tf bf cs answer s r out' es s' h run runs =
    let c : Call = Call.new k timeout m tf bf in
    let t : Table = table_of s in
    let fs : List Entry = fed c s Answer.New r ∷ es in
    let f : HostMade c s fs s' = host_made k timeout m tf bf cs answer s r out' es s' h run runs in
    count_heard (λ (e : Entry). pending_answer e.answer) fs (entries (c ∷ f.calls) t) f.log
    ∙ theorem_conserved k timeout m tf bf f.calls t f.accepted
    ∙ ap₂ (λ (x y : ℕ). x + y) (sym (count_heard (λ (e : Entry). length e.records) fs (entries (c ∷ f.calls) t) f.log))
    (ap still_waiting (sym (ap table_of f.storage ∙ table_there (table_after (c ∷ f.calls) t) f.fits)))
