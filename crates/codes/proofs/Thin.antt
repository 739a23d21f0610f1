-- An export whose answer can carry a key or a record: it returns the answer's number, and what the answer carries stands in the lent bytes.
use Prim.Native.Nat.{ℕ, ◌≤◌, ◌<◌}
use mathlib.Core.Path.{◌≡◌, refl, sym, ap, ◌∙◌}
use mathlib.Core.Bool.{Bool, true, false, ◌&&◌, and-true}
use mathlib.Core.List.{List}
use mathlib.Core.Option.{Option, none, some}
use lib.ListN.{length}
use lib.Dec.{leb}
use borrow.Author.Tests.{le-leb, lt-leb}
use Rattle.model.specs.Base.{given}
use Rattle.model.specs.Bytes.{splice}
use Rattle.model.specs.Table.{Answer}
use Rattle.model.specs.Session.{Session}
use Rattle.model.specs.Call.{ValueArgument, Call, KeyCall}
use Rattle.model.specs.Question.{first_failed, with_room, value_in_range, keys_fit, codes_in_range, clock_fits}
use Rattle.model.specs.StepBytes.{all_questions, step_bytes}
use Rattle.laws.proofs.Parts.{splice_nil}
use Rattle.on_key.specs.Answers.{Answers, failed_of_two, failed_of_five}
use Rattle.laws.proofs.Questions.{with_room_lem, up_to_five, short_of_room}
use Rattle.on_key.proofs.OneKey.{refused_bytes}
use Rattle.codes.specs.Codes.{refused_code, answer_code, answer_bytes, answer_size}
use Rattle.codes.specs.declared.Reply.{Reply}
use Rattle.codes.specs.Carried.{carried_bytes}
use Rattle.codes.specs.Exported.{Writes, exported_with}

pub cases : {P : Type 0} (o : Option ℕ) → ((n : ℕ) → o ≡ some n → P) → (o ≡ none → P) → P
cases none f g = g refl
cases (some n) f g = f n refl

module _ (c : Call) (s answer : List ℕ) where
  -- a code and bytes, with room for them
  pub carries : answer_size ≤ length answer → {a : Answer} {r : ℕ} {s' out : List ℕ} → Answers a s' (step_bytes c s) → r ≡ answer_code a → out ≡ splice answer 0 (answer_bytes a)
      → Writes r s' out (exported_with c answer s)
  unfolding exported_with
  carries l x e w =
      let m : leb answer_size (length answer) ≡ true = le-leb _ _ l in
      let f : with_room (leb answer_size (length answer)) (all_questions c s) ≡ all_questions c s = ap (λ (b : Bool). with_room b (all_questions c s)) m ∙ with_room_lem (all_questions c s) in
      cases (first_failed (all_questions c s))
      (λ n h.
      let y = refused_bytes c s n h in
      let g : first_failed (with_room (leb answer_size (length answer)) (all_questions c s)) ≡ some n = ap first_failed f ∙ h in
      let z = x.answer ∙ sym y.answer in
      record {
        code = e ∙ ap answer_code z ∙ (rw g);
        storage = x.storage ∙ sym y.storage ∙ (rw g);
        output = w ∙ ap (λ (b : Answer). splice answer 0 (answer_bytes b)) z ∙ splice_nil answer 0 ∙ (rw g);
      })
      (λ h.
      let g : first_failed (with_room (leb answer_size (length answer)) (all_questions c s)) ≡ none = ap first_failed f ∙ h in
      record {
        code = e ∙ ap answer_code x.answer ∙ (rw g);
        storage = x.storage ∙ (rw g);
        output = w ∙ ap (λ (b : Answer). splice answer 0 (answer_bytes b)) x.answer ∙ (rw g);
      })

  -- the reply of the call, put in the answer
  pub replied : answer_size ≤ length answer → (x : Reply) {a : Answer} {r : ℕ} {s' out : List ℕ} → Answers a s' (step_bytes c s) → x.code ≡ answer_code a
      → carried_bytes x.carried ≡ answer_bytes a → r ≡ x.code → out ≡ splice answer 0 (carried_bytes x.carried) → Writes r s' out (exported_with c answer s)
  replied l x y e f g h = carries l y (g ∙ e) (h ∙ ap (splice answer 0) f)

  -- a refusal carries nothing
  pub refuses : answer_size ≤ length answer → {q r : ℕ} {s' : List ℕ} → Answers (Answer.Refused q) s' (step_bytes c s) → r ≡ refused_code q → Writes r s' answer (exported_with c answer s)
  refuses l x e = carries l x e (sym (splice_nil answer 0))

  -- no room for them
  pub too_short : length answer < answer_size → {o : Option ℕ} → first_failed (up_to_five c s) ≡ o → {r : ℕ} → r ≡ refused_code (given o 6) → Writes r s answer (exported_with c answer s)
  unfolding exported_with
  too_short l {o} e p =
      let m : leb answer_size (length answer) ≡ false = lt-leb _ _ l in
      let g : first_failed (with_room false (all_questions c s)) ≡ some (given o 6) = short_of_room c s o e in
      record { code = p ∙ (rw (m, g)); storage = rw (m, g); output = rw (m, g) }

-- take_applied_pending has no key, codes or time
pub take_asked : (s : List ℕ) → first_failed (up_to_five Call.take_applied_pending s) ≡ failed_of_two s
unfolding failed_of_two keys_fit codes_in_range clock_fits
take_asked s = refl

-- the questions 1 to 5 of a call with a node
abbrev pub node_five : List ℕ → ValueArgument → ℕ → ℕ → ℕ → List ℕ → Option ℕ
node_five k v st dr now s = failed_of_five k (value_in_range v && (leb st 1 && leb dr 1)) (some now) s

pub insert_or_update_asked : (k : List ℕ) (v : ValueArgument) (st dr now : ℕ) (hs : Session) (s : List ℕ) → first_failed (up_to_five (Call.on_key k (KeyCall.insert_or_update v st dr now hs)) s) ≡ node_five k v st dr now s
unfolding failed_of_five keys_fit codes_in_range clock_fits
insert_or_update_asked k v st dr now hs s = rw and-true

pub absent_insert_asked : (k : List ℕ) (v : ValueArgument) (st dr now : ℕ) (hs : Session) (s : List ℕ) → first_failed (up_to_five (Call.on_key k (KeyCall.absent_insert v st dr now hs)) s) ≡ node_five k v st dr now s
unfolding failed_of_five keys_fit codes_in_range clock_fits
absent_insert_asked k v st dr now hs s = rw and-true
