-- The explanation of a call on a storage (02, slip 1): where it is answered, what stands in the output and what holds of it.
use Prim.Native.Nat.{ℕ, ◌+◌, ◌≤◌}
use mathlib.Core.Path.{◌≡◌, refl, sym, ap, ◌∙◌, subst}
use mathlib.Core.Bool.{Bool, true, false}
use mathlib.Core.List.{List, ◌++◌}
use mathlib.Core.Option.{Option, none, some}
use lib.ListN.{length, drop}
use lib.Dec.{leb}
use borrow.Author.Tests.{leb-true, le-leb}
use Rattle.model.specs.Base.{given, is_some}
use Rattle.model.specs.Bytes.{number, Bytes, splice}
use Rattle.model.specs.Result.{Reply}
use Rattle.model.specs.Table.{index_in}
use Rattle.model.specs.Call.{Call, KeyCall}
use Rattle.model.specs.Question.{first_failed, with_room}
use Rattle.model.specs.Layout.{table_of}
use Rattle.model.specs.StepBytes.{reads, all_questions, step_bytes}
use Rattle.model.specs.Fits.{Fits}
use Rattle.model.specs.Explain.{Explanation, told, reason, explanation, line, explanation_room, line_unless_refused, explain_bytes}
use Rattle.laws.proofs.Tests.{clash, split}
use Rattle.laws.proofs.Questions.{AcceptedBytes, accepted_bytes, with_room_lem, up_to_five, short_of_room}
use Rattle.laws.proofs.Touched.{reads_below}
use Rattle.laws.proofs.Only.{only, only_kind, only_reason, only_explanation, only_fits}
use Rattle.laws.proofs.ExplainRead.{FitsExplanation, read_line, line_back, line_tells}
use Rattle.laws.proofs.ExplainAnswer.{saying, line_after, tells_answer}
use Rattle.laws.proofs.ExplainReason.{key_fits, reason_fits_lem}
use Rattle.laws.proofs.ExplainNames.{Names, reason_names}
use Rattle.laws.proofs.ExplainSize.{explanation_fits, longest_line, line_length}

abbrev is_answered : Reply ℕ → Bool
is_answered (Reply.Refused q) = false
is_answered (Reply.Answered n) = true

answered_none : (o : Option ℕ) (l out : List ℕ) (n : ℕ) → (line_unless_refused o l out).answer ≡ Reply.Answered n → o ≡ none
answered_none none l out n e = refl
answered_none (some q) l out n e = clash refl (ap is_answered (sym e))

module _ (k : List ℕ) (c : KeyCall) (out s : List ℕ) (n : ℕ) (e : (explain_bytes k c out s).answer ≡ Reply.Answered n) where
  passes : first_failed (with_room (leb explanation_room (length out)) (all_questions (Call.on_key k c) s)) ≡ none
  unfolding explain_bytes
  passes = answered_none (first_failed (with_room (leb explanation_room (length out)) (all_questions (Call.on_key k c) s))) (line (explanation c k (table_of s))) out n e

  -- the output has room
  pub answered_room : explanation_room ≤ length out
  answered_room =
      split (leb explanation_room (length out)) (λ h. leb-true explanation_room (length out) h)
      (λ h. let p : none ≡ some (given (first_failed (up_to_five (Call.on_key k c) s)) 6) =
      sym passes ∙ ap (λ (b : Bool). first_failed (with_room b (all_questions (Call.on_key k c) s))) h ∙ short_of_room (Call.on_key k c) s (first_failed (up_to_five (Call.on_key k c) s)) refl in
      clash refl (ap is_some (sym p)))

  -- and the call is accepted
  pub answered_accepted : first_failed (all_questions (Call.on_key k c) s) ≡ none
  answered_accepted =
      sym (ap first_failed (with_room_lem (all_questions (Call.on_key k c) s)))
      ∙ ap (λ (b : Bool). first_failed (with_room b (all_questions (Call.on_key k c) s))) (sym (le-leb explanation_room (length out) answered_room))
      ∙ passes

  -- what is told is what the call then answers
  pub answered_tells : explain_bytes k c out s ≡ saying (line_after k c out s) out
  answered_tells = tells_answer k c out s answered_room answered_accepted

  -- the answer is the length of the line
  pub answered_line : n ≡ length (line (explanation c k (table_of s)))
  unfolding explain_bytes
  answered_line =
      let q : (explain_bytes k c out s).answer ≡ Reply.Answered (length (line (explanation c k (table_of s)))) = rw passes in
      cc (e, q)

  -- the line, and behind it the bytes that were there
  pub answered_output : (explain_bytes k c out s).output ≡ line (explanation c k (table_of s)) ++ drop (0 + length (line (explanation c k (table_of s)))) out
  unfolding explain_bytes splice
  answered_output = rw passes

  asked : AcceptedBytes (Call.on_key k c) s
  asked = accepted_bytes (Call.on_key k c) s answered_accepted

  -- the reason stands with the answer
  pub answered_reason : key_fits (index_in (table_of s) (number k)) (told (step_bytes (Call.on_key k c) s).answer) (reason c k (table_of s)) ≡ true
  unfolding step_bytes
  answered_reason = rw answered_accepted (reason_fits_lem c k (table_of s) asked.answers.kind)

  -- what is read of the table
  abbrev read : List ℕ
  read = reads (Call.on_key k c) (table_of s)

  module _ (h : Bytes s) where
    read_fits : Fits (only read (table_of s))
    read_fits = only_fits s h asked.size asked.header read (reads_below (Call.on_key k c) (table_of s)) asked.buckets

    -- the keys in it are below 2 ^ 256
    pub answered_fits : FitsExplanation (explanation c k (table_of s))
    answered_fits = subst FitsExplanation (only_explanation c k (table_of s)) (explanation_fits (only read (table_of s)) read_fits c k)

    -- a filter names as many as its limit; the incoming limit as many as max_incoming
    pub answered_names : Names (table_of s).settings.bucket.max_incoming (reason c k (table_of s))
    answered_names = subst (Names (table_of s).settings.bucket.max_incoming) (only_reason c k (table_of s)) (reason_names (only read (table_of s)) read_fits c k)

    -- the line is no longer than the longest
    pub answered_length : length (line (explanation c k (table_of s))) ≤ longest_line
    answered_length =
        subst (λ (x : Explanation). length (line x) ≤ longest_line) (only_explanation c k (table_of s))
        (line_length (only read (table_of s)) read_fits c k (only_kind c k (table_of s) ∙ asked.answers.kind))

    -- the output, whatever stands behind the line, is read back as the explanation
    pub answered_back : read_line (explain_bytes k c out s).output ≡ explanation c k (table_of s)
    answered_back =
        ap read_line answered_output ∙ line_back (explanation c k (table_of s)) (drop (0 + length (line (explanation c k (table_of s)))) out) answered_fits

-- 02: two different explanations never share a line, whatever the calls and the storages
pub never_share : (k₁ k₂ : List ℕ) (c₁ c₂ : KeyCall) (out₁ out₂ s₁ s₂ : List ℕ) (n₁ n₂ : ℕ) → Bytes s₁ → Bytes s₂
    → (explain_bytes k₁ c₁ out₁ s₁).answer ≡ Reply.Answered n₁ → (explain_bytes k₂ c₂ out₂ s₂).answer ≡ Reply.Answered n₂
    → line (explanation c₁ k₁ (table_of s₁)) ≡ line (explanation c₂ k₂ (table_of s₂)) → explanation c₁ k₁ (table_of s₁) ≡ explanation c₂ k₂ (table_of s₂)
never_share k₁ k₂ c₁ c₂ out₁ out₂ s₁ s₂ n₁ n₂ h₁ h₂ e₁ e₂ p =
    line_tells (explanation c₁ k₁ (table_of s₁)) (explanation c₂ k₂ (table_of s₂)) (answered_fits k₁ c₁ out₁ s₁ n₁ e₁ h₁) (answered_fits k₂ c₂ out₂ s₂ n₂ e₂ h₂) p
