-- What an explanation tells is what the call then answers, and one that would be refused is refused alike (02, slip 1), on every storage.
use Prim.Native.Nat.{ℕ, ◌≤◌, ◌<◌}
use mathlib.Core.Path.{◌≡◌, refl, ap, ◌∙◌}
use mathlib.Core.Bool.{Bool}
use mathlib.Core.List.{List}
use mathlib.Core.Option.{none, some}
use lib.ListN.{length}
use lib.Dec.{leb}
use borrow.Author.Tests.{le-leb, lt-leb}
use Rattle.model.specs.Base.{given}
use Rattle.model.specs.Bytes.{splice}
use Rattle.model.specs.Result.{Reply}
use Rattle.model.specs.Table.{Answer}
use Rattle.model.specs.Call.{Call, KeyCall}
use Rattle.model.specs.Question.{first_failed, with_room}
use Rattle.model.specs.Layout.{table_of}
use Rattle.model.specs.StepBytes.{Replied, all_questions, step_bytes}
use Rattle.model.specs.Explain.{told, reason, explanation, line, explanation_room, explain_bytes}
use Rattle.laws.proofs.Questions.{with_room_lem, up_to_five, short_of_room}

-- the output with a line at its front, and the line's length
abbrev pub saying : (line output : List ℕ) → Replied
saying l out = record { answer = Reply.Answered (length l); output = splice out 0 l }

-- a refusal: the number alone, and the output as it was
abbrev pub refusing : ℕ → (output : List ℕ) → Replied
refusing q out = record { answer = Reply.Refused q; output = out }

module _ (k : List ℕ) (c : KeyCall) (out s : List ℕ) where
  abbrev call : Call
  call = Call.on_key k c

  -- the line of what the call answers and of its reason
  abbrev pub line_after : List ℕ
  line_after = line (record { told = told (step_bytes (Call.on_key k c) s).answer; reason = reason c k (table_of s) })

  module _ (room : explanation_room ≤ length out) where
    asked : first_failed (with_room (leb explanation_room (length out)) (all_questions call s)) ≡ first_failed (all_questions call s)
    asked =
        ap (λ (b : Bool). first_failed (with_room b (all_questions call s))) (le-leb explanation_room (length out) room) ∙ ap first_failed (with_room_lem (all_questions call s))

    -- a call that is accepted: what is told is what it answers
    pub tells_answer : first_failed (all_questions (Call.on_key k c) s) ≡ none → explain_bytes k c out s ≡ saying line_after out
    unfolding explain_bytes explanation step_bytes
    tells_answer h = let e = asked ∙ h in rw (e, h)

    -- a call that is refused: refused alike
    pub refuses_alike : (q : ℕ) → first_failed (all_questions (Call.on_key k c) s) ≡ some q → (explain_bytes k c out s ≡ refusing q out) × ((step_bytes (Call.on_key k c) s).answer ≡ Answer.Refused q)
    unfolding explain_bytes step_bytes
    refuses_alike q h = let e = asked ∙ h in (rw e, rw h)

  -- an output under 2,048 bytes: refused with the first of the questions 1 to 5 that fails, else with 6
  pub refuses_short : length out < explanation_room → explain_bytes k c out s ≡ refusing (given (first_failed (up_to_five (Call.on_key k c) s)) 6) out
  unfolding explain_bytes
  refuses_short l =
      let e : first_failed (with_room (leb explanation_room (length out)) (all_questions call s)) ≡ some (given (first_failed (up_to_five call s)) 6) =
      ap (λ (b : Bool). first_failed (with_room b (all_questions call s))) (lt-leb explanation_room (length out) l) ∙ short_of_room call s (first_failed (up_to_five call s)) refl in
      rw e
