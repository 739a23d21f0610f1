-- What an export returns as a count is at most 4,096: entries found, nodes written or read (02, slip 6), bytes of a line (02, slip 1).
use Rattle.std.specs.Prelude.{Result, Ok}
use Prim.Native.Nat.{ℕ, ◌≤◌}
use native.Mathlib.Nat.{min-le_left}
use native.Mathlib.Omega.{arith}
use mathlib.Core.Path.{◌≡◌, sym, ap, ◌∙◌}
use mathlib.Core.List.{List}
use mathlib.Core.Option.{none}
use lib.ListN.{length, length-take}
use lib.Dec.{leb}
use borrow.Author.Tests.{leb-true}
use Rattle.model.specs.Base.{joined}
use Rattle.model.specs.Bytes.{Bytes}
use Rattle.model.specs.Result.{Reply}
use Rattle.model.specs.Table.{Answer}
use Rattle.model.specs.Call.{Listing, Call, KeyCall}
use Rattle.model.specs.Question.{first_failed, max_count, output_fits}
use Rattle.model.specs.Listing.{most, visit_order, shown, found}
use Rattle.model.specs.Explain.{explain_bytes}
use Rattle.model.specs.Step.{act}
use Rattle.model.specs.Layout.{table_of}
use Rattle.model.specs.StepBytes.{all_questions, step_bytes, write_bytes}
use Rattle.laws.proofs.Tests.{and_left}
use Rattle.laws.proofs.Listing.{most_few}
use Rattle.laws.proofs.Explain.{answered_line, answered_length}
use Rattle.laws.proofs.SavedSteps.{read_few, write_few}
use Rattle.laws.proofs.Questions.{accepted_bytes}
use Rattle.node.specs.declared.Refusal.{Refusal}
use Rattle.node.specs.Refusal.{answer_of, reply_of}
use Rattle.on_key.proofs.OneKey.{refused_bytes}
use Rattle.codes.proofs.Thin.{cases}

module _ (l : Listing) (n now : ℕ) (out s : List ℕ) where
  abbrev c : Call
  c = Call.list l n now out

  found_few : n ≤ max_count → length (found l n now (table_of s)) ≤ max_count
  unfolding found
  found_few h = let m = most_few l n h in rw length-take (omega (arith, min-le_left (most l n) (length (joined (shown l n now (table_of s)) (visit_order l (table_of s)))), m))

  accepted_few : first_failed (all_questions c s) ≡ none → n ≤ max_count
  unfolding output_fits
  accepted_few e = leb-true n max_count (and_left (leb n max_count) _ (accepted_bytes c s e).answers.output)

  found_answer : first_failed (all_questions c s) ≡ none → (step_bytes c s).answer ≡ Answer.Found (length (found l n now (table_of s)))
  unfolding step_bytes act
  found_answer e = rw e

  -- an accepted listing finds at most 4,096
  pub few : (k : ℕ) → Answer.Found k ≡ (step_bytes c s).answer → k ≤ max_count
  few k e =
      cases (first_failed (all_questions c s))
      (λ q h. let y = (refused_bytes c s q h).answer in cc (y, e))
      (λ h. let f : k ≡ length (found l n now (table_of s)) = cc (e, found_answer h) in omega (arith, f, found_few (accepted_few h)))

  pub few_found : (r : Result ℕ Refusal) → answer_of Answer.Found r ≡ (step_bytes c s).answer → (k : ℕ) → r ≡ Ok k → k ≤ max_count
  few_found r e k h = few k (ap (answer_of Answer.Found) (sym h) ∙ e)

-- at most 4,096 nodes are read
pub few_read : (bs s : List ℕ) (r : Result ℕ Refusal) → answer_of Answer.Read r ≡ (step_bytes (Call.read bs) s).answer → (k : ℕ) → r ≡ Ok k → k ≤ max_count
few_read bs s r e k h = read_few bs s k (sym e ∙ ap (answer_of Answer.Read) h)

-- a line has at most 2,048 bytes
pub short : (k : List ℕ) (c : KeyCall) (out s : List ℕ) → Bytes s → (r : Result ℕ Refusal) → reply_of (λ k. k) r ≡ (explain_bytes k c out s).answer
    → (n : ℕ) → r ≡ Ok n → n ≤ max_count
short k c out s h r e n f =
    let g : (explain_bytes k c out s).answer ≡ Reply.Answered n = sym e ∙ ap (reply_of (λ (k : ℕ). k)) f in
    omega (arith, answered_line k c out s n g, answered_length k c out s n g h)

-- at most 4,096 nodes are written
pub few_written : (out s : List ℕ) (r : Result ℕ Refusal) → reply_of (λ k. k) r ≡ (write_bytes out s).answer → (n : ℕ) → r ≡ Ok n → n ≤ max_count
few_written out s r e n f = write_few out s n (sym e ∙ ap (reply_of (λ (k : ℕ). k)) f)
