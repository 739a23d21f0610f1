-- The calls that are not on one key.
use Prim.Native.Nat.{ℕ, ◌≤◌}
use native.Mathlib.Omega.{arith}
use mathlib.Core.Path.{◌≡◌, refl, sym, ap, ◌∙◌}
use mathlib.Core.Bool.{Bool, true, false, cond, ◌&&◌, and-true}
use mathlib.Core.List.{List, [], ◌∷◌}
use mathlib.Core.Option.{none, some}
use lib.ListN.{length, take, drop}
use lib.Dec.{eqb, leb}
use borrow.Author.Tests.{le-leb}
use Rattle.model.specs.Base.{first}
use Rattle.model.specs.Bytes.{Bytes, splice, number}
use Rattle.model.specs.Node.{EndedPending}
use Rattle.model.specs.Bucket.{max_nodes_per_bucket}
use Rattle.model.specs.Table.{Table, Answer, empty_table, max_records, with_queue}
use Rattle.model.specs.Sizes.{key_size, storage_size}
use Rattle.model.specs.Call.{Call}
use Rattle.model.specs.Question.{first_failed, keys_fit, codes_in_range, clock_fits, output_fits, kind_fits}
use Rattle.model.specs.Step.{settings_of, take_oldest, act, queue_fits}
use Rattle.model.specs.Layout.{header_bytes, bytes_of, table_of}
use Rattle.model.specs.StepBytes.{all_questions, restore, step_bytes}
use Rattle.model.specs.Fits.{FitsCall}
use Rattle.laws.proofs.HeaderBack.{queue_fits_lem}
use Rattle.laws.proofs.KeepStep.{new_settings_fit, new_endless, with_queue_lem}
use Rattle.laws.proofs.Restore.{restore_all}
use Rattle.on_key.specs.Answers.{Answers, first_two, failed_of_two}
use Rattle.laws.proofs.Questions.{front_fails, front_passes}
use Rattle.on_key.proofs.Questions.{passed_two}
use Rattle.on_key.proofs.OneKey.{refused_bytes, acted_bytes}

-- take_applied_pending

oldest_answer : (t : Table) (q : List EndedPending) → Answer.TakeAppliedPending (first (take 1 q)) ≡ (take_oldest t q).answer
oldest_answer t [] = refl
oldest_answer t (a ∷ q) = refl

rest_header : (t : Table) (q : List EndedPending) → t.queue ≡ q → header_bytes (with_queue (drop 1 q) t) ≡ header_bytes (take_oldest t q).table
unfolding header_bytes
rest_header t [] e = rw e
rest_header t (a ∷ q) e = refl

rest_fits : (t : Table) (q : List EndedPending) → t.queue ≡ q → length q ≤ max_records → length (take_oldest t q).table.queue ≤ max_records
rest_fits t [] e h = rw e h
rest_fits t (a ∷ q) e h = omega arith

module _ (s : List ℕ) where
  abbrev t : Table
  t = table_of s

  pub take_refused : (n : ℕ) → failed_of_two s ≡ some n → Answers (Answer.Refused n) s (step_bytes Call.take_applied_pending s)
  unfolding failed_of_two keys_fit codes_in_range clock_fits output_fits kind_fits
  take_refused n e = refused_bytes Call.take_applied_pending s n (front_fails (first_two s) ((8, queue_fits Call.take_applied_pending t) ∷ []) n e)

  pub take_accepted : Bytes s → failed_of_two s ≡ none → (rs : List EndedPending) → rs ≡ take 1 t.queue → (s' : List ℕ)
      → s' ≡ splice s 0 (header_bytes (with_queue (drop 1 t.queue) t)) → Answers (Answer.TakeAppliedPending (first rs)) s' (step_bytes Call.take_applied_pending s)
  unfolding failed_of_two keys_fit codes_in_range clock_fits output_fits kind_fits queue_fits act restore
  take_accepted b e rs r s' w =
      let p = passed_two s e in
      let q : leb (length (take_oldest t t.queue).table.queue) max_records ≡ true = le-leb _ _ (rest_fits t t.queue refl (queue_fits_lem s (omega (arith, p.size)) b p.header)) in
      acted_bytes Call.take_applied_pending s _ s' (front_passes (first_two s) ((8, queue_fits Call.take_applied_pending t) ∷ []) e ∙ (rw q))
      (ap (λ (l : List EndedPending). Answer.TakeAppliedPending (first l)) r ∙ oldest_answer t t.queue) (w ∙ ap (splice s 0) (rest_header t t.queue refl))

-- new

module _ (s k : List ℕ) (timeout m tf bf : ℕ) where
  abbrev made : Call
  made = Call.new k timeout m tf bf

  abbrev codes : Bool
  codes = leb m max_nodes_per_bucket && (leb tf 1 && leb bf 1)

  asked_new : first_failed (all_questions made s) ≡ cond (eqb (length s) storage_size) (cond (eqb (length k) key_size) (cond codes none (some 4)) (some 3)) (some 1)
  unfolding keys_fit codes_in_range clock_fits output_fits kind_fits queue_fits act
  asked_new = rw and-true

  module _ (e : eqb (length s) storage_size ≡ true) where
    pub new_key : eqb (length k) key_size ≡ false → Answers (Answer.Refused 3) s (step_bytes made s)
    new_key f = refused_bytes made s 3 (asked_new ∙ (rw (e, f)))

    module _ (f : eqb (length k) key_size ≡ true) where
      pub new_codes : codes ≡ false → Answers (Answer.Refused 4) s (step_bytes made s)
      new_codes g = refused_bytes made s 4 (asked_new ∙ (rw (e, f, g)))

      pub new_made : codes ≡ true → length s ≡ storage_size → FitsCall made → (s' : List ℕ) → s' ≡ bytes_of (empty_table (settings_of (number k) timeout m tf bf)) → Answers Answer.New s' (step_bytes made s)
      unfolding act keys_fit codes_in_range
      new_made g l h s' w =
          let fit = new_settings_fit k timeout m tf bf h (rw f) g in
          let all = with_queue_lem (empty_table (settings_of (number k) timeout m tf bf)) (new_endless (settings_of (number k) timeout m tf bf) fit) (omega arith) in
          acted_bytes made s Answer.New s' (asked_new ∙ (rw (e, f, g))) refl (w ∙ sym (restore_all s l (empty_table (settings_of (number k) timeout m tf bf)) all))
