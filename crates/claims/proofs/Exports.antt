-- DEMAND 1 FOR A HOST, and the closest list: what an export returns and leaves (specs/Exports).
use Prim.Native.Nat.{ℕ, ◌-◌, ◌≤◌, ◌<◌}
use native.Mathlib.Omega.{arith}
use mathlib.Core.Path.{◌≡◌, refl, sym, ap, ◌∙◌, subst⁻¹}
use mathlib.Core.Bool.{Bool, true, false, cond}
use mathlib.Core.List.{List, []}
use mathlib.Core.Option.{Option, none, some}
use lib.ListN.{length}
use lib.Dec.{leb}
use borrow.Author.Tests.{le-leb, lt-leb}
use Rattle.model.specs.Bytes.{Bytes}
use Rattle.model.specs.Table.{Answer}
use Rattle.model.specs.Call.{Listing, Call}
use Rattle.model.specs.Listing.{found}
use Rattle.model.specs.Saved.{saved_count}
use Rattle.model.specs.Question.{first_failed, max_count, with_room}
use Rattle.model.specs.Layout.{table_of}
use Rattle.model.specs.Formed.{formed}
use Rattle.model.specs.Step.{act}
use Rattle.model.specs.StepBytes
use Rattle.model.specs.StepBytes.{all_questions, output_of, step_bytes}
use Rattle.table_log.specs.Log.{is_refused}
use Rattle.table_log.specs.Closest.{target, ClosestClaim}
use Rattle.laws.proofs.Tests.{clash}
use Rattle.laws.proofs.Questions.{without_room}
use Rattle.laws.proofs.SavedSteps.{read_few}
use Rattle.theorem.proofs.Theorem.{theorem_closest}
use Rattle.codes.specs.Codes.{refused_code, answer_code, answer_size}
use Rattle.codes.specs.Exported
use Rattle.codes.specs.Exported.{Leaves, Writes, exported, exported_with}
use Rattle.codes.proofs.Few.{few}
use Rattle.claims.specs.Listed.{can_answer}
use Rattle.claims.specs.Runs.{ClosestList}
use Rattle.claims.specs.Exports.{Called, carries, seen, host_questions, HostRefusal, accepted_answer_of, answer_of}
use Rattle.table_log.specs.Pending.{lists}
use Rattle.claims.proofs.Ran.{no_output}
use Rattle.claims.proofs.Listed.{step_listed}
use Rattle.claims.proofs.Refusals.{accepted_answer}
use Rattle.claims.proofs.Codes.{Below, Few, answer_below}

quiet : (c : Call) (s : List ℕ) {code : ℕ} {s' : List ℕ} → lists c ≡ false → Leaves code s' (exported c s) → Writes code s' [] (exported c s)
unfolding exported
quiet c s h p = record { code = p.code; storage = p.storage; output = no_output c s h }

-- each contract is the equation with `exported` or `exported_with`
pub sees : {c : Call} {answer s : List ℕ} {code : ℕ} {s' out' : List ℕ} → Called c answer s code s' out' → Writes code s' out' (seen c answer s)
sees (Called.new _ _ _ _ _ _ _ _ _ _ p) = quiet _ _ refl p
sees (Called.update_node_status _ _ _ _ _ _ _ _ _ p) = quiet _ _ refl p
sees (Called.update_node _ _ _ _ _ _ _ _ _ _ _ _ _ _ p) = quiet _ _ refl p
sees (Called.insert_or_update _ _ _ _ _ _ _ _ _ _ _ _ _ _ _ _ _ _ _ _ _ _ _ _ _ _ _ _ _ _ _ _ _ _ _ _ _ _ p) = p
sees (Called.remove _ _ _ _ _ _ _ p) = quiet _ _ refl p
sees (Called.entry _ _ _ _ _ _ _ p) = quiet _ _ refl p
sees (Called.present_update _ _ _ _ _ _ _ _ p) = quiet _ _ refl p
sees (Called.pending_update _ _ _ _ _ _ _ _ p) = quiet _ _ refl p
sees (Called.absent_insert _ _ _ _ _ _ _ _ _ _ _ _ _ _ _ _ _ _ _ _ _ _ _ _ _ _ _ _ _ _ _ _ _ _ _ _ _ _ p) = p
sees (Called.iter _ _ _ _ _ _ _ _ _ _ p) = p
sees (Called.nodes_by_distances _ _ _ _ _ _ _ _ _ _ _ _ p) = p
sees (Called.closest_keys _ _ _ _ _ _ _ _ _ _ _ _ p) = p
sees (Called.closest_values _ _ _ _ _ _ _ _ _ _ _ _ p) = p
sees (Called.closest_values_predicate _ _ _ _ _ _ _ _ _ _ _ _ _ _ _ _ _ _ _ _ _ _ p) = p
sees (Called.take_applied_pending _ _ _ _ _ _ p) = p
sees (Called.read _ _ _ _ _ _ p) = quiet _ _ refl p

-- demand 1: the first question that fails, with room for the answer asked in 6's turn
pub export_demand_1 : {c : Call} {answer s : List ℕ} {code : ℕ} {s' out' : List ℕ} → Called c answer s code s' out' → (q : ℕ)
    → first_failed (host_questions c answer s) ≡ some q → HostRefusal q c answer s code s' out'
unfolding exported_with exported step_bytes
export_demand_1 {c} {answer} {s} {code} {s'} {out'} run q e = let r = by (carries c) (sees run) e in record { code_is = r.0; storage = r.1; output = r.2 }
  where
    by : (b : Bool) → Writes code s' out' (cond b (exported_with c answer s) (exported c s))
        → first_failed (cond b (with_room (leb answer_size (length answer)) (all_questions c s)) (all_questions c s)) ≡ some q
        → (code ≡ refused_code q) × (s' ≡ s) × (out' ≡ cond b answer (output_of c))
    by true w e = (
      w.code ∙ ap (λ (o : Option ℕ). (Exported.unless_refused_export o c answer s).code) e,
      w.storage ∙ ap (λ (o : Option ℕ). (Exported.unless_refused_export o c answer s).storage) e,
      w.output ∙ ap (λ (o : Option ℕ). (Exported.unless_refused_export o c answer s).output) e,
    )
    by false w e = (
      w.code ∙ ap (λ (o : Option ℕ). answer_code (StepBytes.unless_refused_bytes o c s).answer) e,
      w.storage ∙ ap (λ (o : Option ℕ). (StepBytes.unless_refused_bytes o c s).storage) e,
      w.output ∙ ap (λ (o : Option ℕ). (StepBytes.unless_refused_bytes o c s).output) e,
    )

-- the code of a refusal is read as the refusal
pub refusal_read : (c : Call) (q : ℕ) (bs : List ℕ) → answer_of c (refused_code q) bs ≡ Answer.Refused q
refusal_read c q bs =
    let e : refused_code q - refused_code 0 ≡ q = omega arith in
    ap (λ (b : Bool). cond b (Answer.Refused (refused_code q - refused_code 0)) (accepted_answer_of c (refused_code q) bs)) (le-leb (refused_code 0) (refused_code q) (omega arith)) ∙ ap Answer.Refused e

-- a listing's code is read as its answer, on any storage
pub list_read : (l : Listing) (n time : ℕ) (out s bs : List ℕ)
    → answer_of (Call.list l n time out) (answer_code (step_bytes (Call.list l n time out) s).answer) bs ≡ (step_bytes (Call.list l n time out) s).answer
unfolding step_bytes act
list_read l n time out s bs = go (first_failed (all_questions c s)) refl
  where
    c : Call
    c = Call.list l n time out

    go : (o : Option ℕ) → first_failed (all_questions c s) ≡ o → answer_of c (answer_code (StepBytes.unless_refused_bytes o c s).answer) bs ≡ (StepBytes.unless_refused_bytes o c s).answer
    go (some q) e = refusal_read c q bs
    go none e =
        let k = length (found l n time (table_of s)) in
        let m : k ≤ max_count = few l n time out s k (ap (λ (o : Option ℕ). (StepBytes.unless_refused_bytes o c s).answer) (sym e)) in
        ap (λ (b : Bool). cond b (Answer.Refused (k - refused_code 0)) (Answer.Found k)) (lt-leb (refused_code 0) k (omega arith))

-- the reader's code is read as its answer, on any storage
pub load_read : (r s bs : List ℕ) → answer_of (Call.read r) (answer_code (step_bytes (Call.read r) s).answer) bs ≡ (step_bytes (Call.read r) s).answer
unfolding step_bytes act
load_read r s bs = go (first_failed (all_questions (Call.read r) s)) refl
  where
    go : (o : Option ℕ) → first_failed (all_questions (Call.read r) s) ≡ o
        → answer_of (Call.read r) (answer_code (StepBytes.unless_refused_bytes o (Call.read r) s).answer) bs ≡ (StepBytes.unless_refused_bytes o (Call.read r) s).answer
    go (some q) e = refusal_read (Call.read r) q bs
    go none e =
        let k = saved_count r in
        let m : k ≤ max_count = read_few r s k (ap (λ (o : Option ℕ). (StepBytes.unless_refused_bytes o (Call.read r) s).answer) e) in
        ap (λ (b : Bool). cond b (Answer.Refused (k - refused_code 0)) (Answer.Read k)) (lt-leb (refused_code 0) k (omega arith))

-- the closest list on storage that is well formed throughout, with the answer as the host reads it; x is the target of the call
pub export_closest_list : {l : Listing} {n time : ℕ} {out answer s : List ℕ} {code : ℕ} {s' out' : List ℕ} → Called (Call.list l n time out) answer s code s' out' → (x : List ℕ)
    → target l ≡ some x → Bytes s → formed s ≡ true → is_refused (answer_of (Call.list l n time out) code out') ≡ false
    → ClosestList l x n time out s (answer_of (Call.list l n time out) code out') out'
unfolding exported
export_closest_list {l} {n} {time} {out} {s = s} {code} {out' = out'} run x e b f h =
    let w = sees run in
    let r : answer_of (Call.list l n time out) code out' ≡ (step_bytes (Call.list l n time out) s).answer =
    ap (λ (y : ℕ). answer_of (Call.list l n time out) y out') w.code ∙ list_read l n time out s out' in
    let c : ClosestClaim l x n time out s = theorem_closest l x n time out s e b f (sym (ap is_refused r) ∙ h) in
    record { answer = r ∙ c.answer; output = w.output ∙ c.output; sorted = c.sorted; all_there = c.all_there }

-- a call that finds nodes is a listing, and finds at most 4,096
few_found : (c : Call) (s : List ℕ) (n : ℕ) → can_answer c (Answer.Found n) ≡ true → Answer.Found n ≡ (step_bytes c s).answer → n ≤ max_count
few_found (Call.new k timeout m tf bf) s n h e = clash h refl
few_found (Call.on_key k c) s n h e = clash h refl
few_found (Call.list l m time out) s n h e = few l m time out s n e
few_found Call.take_applied_pending s n h e = clash h refl
few_found (Call.read r) s n h e = clash h refl

-- a call that loads nodes is the reader, and loads at most 4,096
few_loaded : (c : Call) (s : List ℕ) (n : ℕ) → can_answer c (Answer.Read n) ≡ true → Answer.Read n ≡ (step_bytes c s).answer → n ≤ max_count
few_loaded (Call.new k timeout m tf bf) s n h e = clash h refl
few_loaded (Call.on_key k c) s n h e = clash h refl
few_loaded (Call.list l m time out) s n h e = clash h refl
few_loaded Call.take_applied_pending s n h e = clash h refl
few_loaded (Call.read r) s n h e = read_few r s n (sym e)

few_answered : (c : Call) (s : List ℕ) (a : Answer) → can_answer c a ≡ true → a ≡ (step_bytes c s).answer → Few a
few_answered c s (Answer.Refused q) h e = tt
few_answered c s Answer.New h e = tt
few_answered c s (Answer.Update r) h e = tt
few_answered c s (Answer.InsertOrUpdate r) h e = tt
few_answered c s (Answer.Insert r) h e = tt
few_answered c s (Answer.Remove b) h e = tt
few_answered c s (Answer.Entry k) h e = tt
few_answered c s (Answer.Found n) h e = few_found c s n h e
few_answered c s (Answer.TakeAppliedPending r) h e = tt
few_answered c s (Answer.Read n) h e = few_loaded c s n h e

-- where no question fails, the code is no refusal's
pub export_not_refused : {c : Call} {answer s : List ℕ} {code : ℕ} {s' out' : List ℕ} → Called c answer s code s' out'
    → first_failed (host_questions c answer s) ≡ none → code < refused_code 0
unfolding exported_with exported
export_not_refused {c} {answer} {s} {code} {s'} {out'} run e =
    let r = by (carries c) (sees run) e in
    subst⁻¹ Below r.0
    (answer_below (step_bytes c s).answer r.1 (few_answered c s (step_bytes c s).answer (step_listed c s) refl))
  where
    by : (b : Bool) → Writes code s' out' (cond b (exported_with c answer s) (exported c s))
        → first_failed (cond b (with_room (leb answer_size (length answer)) (all_questions c s)) (all_questions c s)) ≡ none
        → (code ≡ answer_code (step_bytes c s).answer) × (is_refused (step_bytes c s).answer ≡ false)
    by true w e = (
      w.code ∙ ap (λ (o : Option ℕ). (Exported.unless_refused_export o c answer s).code) e,
      accepted_answer c s (without_room (leb answer_size (length answer)) (all_questions c s) e),
    )
    by false w e = (w.code, accepted_answer c s e)
