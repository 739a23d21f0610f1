-- Session hours (02, slip 8): what questions 10 and 11 add to a call, and that they add nothing else.
use Prim.Native.Nat.{ℕ}
use mathlib.Core.Path.{◌≡◌, refl, sym, ap, ap₂, ◌∙◌}
use mathlib.Core.Bool.{Bool, true, false, cond, not, ◌||◌}
use mathlib.Core.List.{List, [], ◌∷◌, ◌++◌}
use mathlib.Core.Option.{Option, none, some}
use lib.ListN.{length}
use lib.Dec.{eqb, leb}
use Rattle.model.specs.Base.{is_some}
use Rattle.model.specs.Bytes.{number}
use Rattle.model.specs.Value.{Value}
use Rattle.model.specs.Table.{max_records, index_in}
use Rattle.model.specs.Sizes.{storage_size}
use Rattle.model.specs.Session.{Session, has_windows, is_open, hours_fit, admits, hours_questions}
use Rattle.model.specs.Call.{Call, KeyCall, no_hours, with_hours}
use Rattle.model.specs.Question.{first_failed, is_absent, kind_of_key, key_arguments, keys_fit, codes_in_range, clock_fits, output_fits, kind_fits}
use Rattle.model.specs.Layout.{table_of}
use Rattle.model.specs.Formed.{buckets_formed}
use Rattle.model.specs.Step.{Outcome, on_key, own_answer, effect, act, queue_fits, early}
use Rattle.model.specs.StepBytes.{every_bucket, filtered, runs_filter, key_reads, reads, holds_header, all_questions, written, bucket_of_key, restore, unless_refused_bytes, step_bytes}
use Rattle.laws.proofs.Tests.{or_second}
use Rattle.laws.proofs.Questions.{front_fails, front_passes, back_passes}

module _ (k : List ℕ) (x : Session) (s : List ℕ) where
  -- the local key, or one that is held or pending as stored
  abbrev known : Bool
  known = not (is_absent (kind_of_key k (table_of s)))

  abbrev given : KeyCall → Call
  given c = Call.on_key k (with_hours x c)

  abbrev without : KeyCall → Call
  without c = Call.on_key k (with_hours no_hours c)

  abbrev added : KeyCall → List (ℕ × Bool)
  added c = cond (is_some (key_arguments c).hours) (hours_questions x known) []

  -- nothing else of a call depends on the hours

  effect_alike : (c : KeyCall) → effect (with_hours x c) k (table_of s) ≡ effect (with_hours no_hours c) k (table_of s)
  effect_alike (KeyCall.update_node_status st dr now) = refl
  effect_alike (KeyCall.update_node v st now) = refl
  effect_alike (KeyCall.insert_or_update v st dr now hs) = λ j i. effect (KeyCall.insert_or_update v st dr now x) k (table_of s) i
  effect_alike (KeyCall.remove now) = refl
  effect_alike (KeyCall.entry now) = refl
  effect_alike (KeyCall.present_update st dr) = refl
  effect_alike (KeyCall.pending_update st dr) = refl
  effect_alike (KeyCall.absent_insert v st dr now hs) = λ j i. effect (KeyCall.absent_insert v st dr now x) k (table_of s) i

  own_alike : (c : KeyCall) → own_answer (with_hours x c) ≡ own_answer (with_hours no_hours c)
  own_alike (KeyCall.update_node_status st dr now) = refl
  own_alike (KeyCall.update_node v st now) = refl
  own_alike (KeyCall.insert_or_update v st dr now hs) = refl
  own_alike (KeyCall.remove now) = refl
  own_alike (KeyCall.entry now) = refl
  own_alike (KeyCall.present_update st dr) = refl
  own_alike (KeyCall.pending_update st dr) = refl
  own_alike (KeyCall.absent_insert v st dr now hs) = refl

  work_alike : (c : KeyCall) → act (given c) (table_of s) ≡ act (without c) (table_of s)
  unfolding act
  work_alike c = λ j. on_key (table_of s) (own_alike c j) (effect_alike c j) (index_in (table_of s) (number k))

  alike : (c : KeyCall) (o : Option ℕ) → unless_refused_bytes o (given c) s ≡ unless_refused_bytes o (without c) s
  alike c (some q) = refl
  alike c none =
      ap (λ (o : Outcome). record { answer = o.answer; storage = restore s (bucket_of_key k (table_of s)) o.table; output = written o.items []; records = o.records })
      (work_alike c)

  -- and 10 and 11 are asked behind all others

  room_alike : (c : KeyCall) → queue_fits (given c) (table_of s) ≡ queue_fits (without c) (table_of s)
  unfolding queue_fits
  room_alike c = ap (λ (o : Outcome). leb (length o.table.queue) max_records) (work_alike c)

  filtered_alike : (c : KeyCall) → filtered (with_hours x c) ≡ filtered (with_hours no_hours c)
  filtered_alike (KeyCall.update_node_status st dr now) = refl
  filtered_alike (KeyCall.update_node v st now) = refl
  filtered_alike (KeyCall.insert_or_update v st dr now hs) = refl
  filtered_alike (KeyCall.remove now) = refl
  filtered_alike (KeyCall.entry now) = refl
  filtered_alike (KeyCall.present_update st dr) = refl
  filtered_alike (KeyCall.pending_update st dr) = refl
  filtered_alike (KeyCall.absent_insert v st dr now hs) = refl

  reads_alike : (c : KeyCall) (o : Option ℕ) → key_reads (with_hours x c) (number k) (table_of s) o ≡ key_reads (with_hours no_hours c) (number k) (table_of s) o
  reads_alike c none = refl
  reads_alike c (some i) = ap (λ (v : Option Value). cond (runs_filter (table_of s) i (number k) v) every_bucket (i ∷ [])) (filtered_alike c)

  abbrev asked_with : KeyCall → List ℕ → Bool → Option ℕ
  asked_with c read room =
      let t = table_of s in
      first_failed ((1, eqb (length s) storage_size) ∷ (2, holds_header (without c) s)
      ∷ (early (without c) t ++ ((2, buckets_formed s read) ∷ (7, kind_fits (without c) t) ∷ (8, room) ∷ added c)))

  asked_alike : (c : KeyCall) → asked_with c (reads (given c) (table_of s)) (queue_fits (given c) (table_of s)) ≡ asked_with c (reads (without c) (table_of s)) (queue_fits (without c) (table_of s))
  asked_alike c = ap₂ (asked_with c) (reads_alike c (index_in (table_of s) (number k))) (room_alike c)

  pub hours_asked : (c : KeyCall) → first_failed (all_questions (given c) s) ≡ first_failed (all_questions (without c) s ++ added c)
  unfolding keys_fit codes_in_range clock_fits output_fits kind_fits
  hours_asked (KeyCall.update_node_status st dr now) = refl
  hours_asked (KeyCall.update_node v st now) = refl
  hours_asked (KeyCall.insert_or_update v st dr now hs) = asked_alike (KeyCall.insert_or_update v st dr now hs)
  hours_asked (KeyCall.remove now) = refl
  hours_asked (KeyCall.entry now) = refl
  hours_asked (KeyCall.present_update st dr) = refl
  hours_asked (KeyCall.pending_update st dr) = refl
  hours_asked (KeyCall.absent_insert v st dr now hs) = asked_alike (KeyCall.absent_insert v st dr now hs)

  module _ (c : KeyCall) where
    outcome : (o : Option ℕ) → first_failed (all_questions (given c) s) ≡ o → step_bytes (given c) s ≡ unless_refused_bytes o (without c) s
    unfolding step_bytes
    outcome o e = ap (λ (p : Option ℕ). unless_refused_bytes p (given c) s) e ∙ alike c o

    added_passes : hours_fit x ≡ true → admits x known ≡ true → (b : Bool) → first_failed (cond b (hours_questions x known) []) ≡ none
    added_passes f a true = rw (f, a)
    added_passes f a false = refl

    -- where both pass the outcome is that without windows
    pub hours_pass : hours_fit x ≡ true → admits x known ≡ true → step_bytes (given c) s ≡ step_bytes (without c) s
    unfolding step_bytes
    hours_pass f a =
        outcome _ (hours_asked c ∙ back_passes (all_questions (without c) s) (added c) (added_passes f a (is_some (key_arguments c).hours)))

    -- with no windows it does not depend on the rest of the hours
    pub hours_empty : has_windows x ≡ false → step_bytes (given c) s ≡ step_bytes (without c) s
    hours_empty e = hours_pass (rw e) (rw e)

    -- the local key, one that is held or pending as stored, and every key while it is open
    pub hours_known : hours_fit x ≡ true → (known || is_open x) ≡ true → step_bytes (given c) s ≡ step_bytes (without c) s
    hours_known f a = hours_pass f (or_second (not (has_windows x)) (known || is_open x) a)

    -- a question in front of both
    pub hours_behind : (q : ℕ) → first_failed (all_questions (without c) s) ≡ some q → step_bytes (given c) s ≡ step_bytes (without c) s
    unfolding step_bytes
    hours_behind q e =
        outcome _ (hours_asked c ∙ front_fails (all_questions (without c) s) (added c) q e) ∙ ap (λ (p : Option ℕ). unless_refused_bytes p (without c) s) (sym e)

    module _ (h : is_some (key_arguments c).hours ≡ true) (e : first_failed (all_questions (without c) s) ≡ none) where
      asked_last : first_failed (all_questions (given c) s) ≡ first_failed (hours_questions x known)
      asked_last =
          hours_asked c ∙ front_passes (all_questions (without c) s) (added c) e ∙ ap (λ (b : Bool). first_failed (cond b (hours_questions x known) [])) h

      -- 10: hours that break the rules, whatever the key
      pub hours_refused : hours_fit x ≡ false → step_bytes (given c) s ≡ unless_refused_bytes (some 10) (without c) s
      hours_refused f = outcome (some 10) (asked_last ∙ (rw f))

      -- 11: any other key outside all windows
      pub hours_outside : has_windows x ≡ true → hours_fit x ≡ true → known ≡ false → is_open x ≡ false
          → step_bytes (given c) s ≡ unless_refused_bytes (some 11) (without c) s
      hours_outside w f n o = outcome (some 11) (asked_last ∙ (rw (f, w, n, o)))
