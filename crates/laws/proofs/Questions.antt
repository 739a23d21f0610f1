-- The questions, one behind the other, and what they say of an accepted call.
use Prim.Native.Nat.{ℕ}
use mathlib.Core.Path.{◌≡◌, refl, sym, ap, ◌∙◌}
use mathlib.Core.Bool.{Bool, true, false, cond, ◌&&◌, and-true, and-false}
use mathlib.Core.List.{List, [], ◌∷◌, ◌++◌}
use mathlib.Core.Option.{Option, none, some}
use lib.ListN.{length}
use lib.Dec.{eqb}
use borrow.Author.Tests.{eqb-true}
use Rattle.model.specs.Base.{is_some, given}
use Rattle.model.specs.Table.{Table}
use Rattle.model.specs.Sizes.{storage_size}
use Rattle.model.specs.Call.{Call}
use Rattle.model.specs.Question.{first_failed, with_room, keys_fit, codes_in_range, clock_fits, output_fits, kind_fits, hours_in_range, admitted}
use Rattle.model.specs.Step.{queue_fits, bytes_fit, early, late, questions}
use Rattle.model.specs.Layout.{table_of}
use Rattle.model.specs.Formed.{buckets_formed}
use Rattle.model.specs.StepBytes.{reads, holds_header, all_questions}
use Rattle.laws.proofs.Tests.{split, clash, and_left}

-- a question passed, and those after it
pub passed : (n : ℕ) (q : Bool) (qs : List (ℕ × Bool)) → first_failed ((n, q) ∷ qs) ≡ none → (q ≡ true) × (first_failed qs ≡ none)
passed n true qs e = (refl, e)
passed n false qs e = clash refl (ap is_some e)

-- a question that failed among the first, and none that did

pub front_fails : (xs ys : List (ℕ × Bool)) (n : ℕ) → first_failed xs ≡ some n → first_failed (xs ++ ys) ≡ some n
front_fails [] ys n e = clash refl (ap is_some (sym e))
front_fails (x ∷ xs) ys n e =
    split x.1 (λ t. ap (λ (b : Bool). cond b (first_failed (xs ++ ys)) (some x.0)) t ∙ front_fails xs ys n (ap (λ (b : Bool). cond b (first_failed xs) (some x.0)) (sym t) ∙ e))
    (λ f. ap (λ (b : Bool). cond b (first_failed (xs ++ ys)) (some x.0)) f ∙ ap (λ (b : Bool). cond b (first_failed xs) (some x.0)) (sym f) ∙ e)

pub front_passes : (xs ys : List (ℕ × Bool)) → first_failed xs ≡ none → first_failed (xs ++ ys) ≡ first_failed ys
front_passes [] ys e = refl
front_passes (x ∷ xs) ys e =
    let p = passed x.0 x.1 xs e in
    ap (λ (b : Bool). cond b (first_failed (xs ++ ys)) (some x.0)) p.0 ∙ front_passes xs ys p.1

pub back_passes : (xs ys : List (ℕ × Bool)) → first_failed ys ≡ none → first_failed (xs ++ ys) ≡ first_failed xs
back_passes [] ys e = e
back_passes (x ∷ xs) ys e = ap (λ (o : Option ℕ). cond x.1 o (some x.0)) (back_passes xs ys e)

pub front_none : (xs ys : List (ℕ × Bool)) → first_failed (xs ++ ys) ≡ none → first_failed xs ≡ none
front_none [] ys e = refl
front_none (q ∷ xs) ys e =
    let p = passed q.0 q.1 (xs ++ ys) e in
    ap (λ (b : Bool). cond b (first_failed xs) (some q.0)) p.0 ∙ front_none xs ys p.1

-- a question that passes can be left out
pub skip_passed : (xs : List (ℕ × Bool)) (n : ℕ) (q : Bool) (ys : List (ℕ × Bool)) → q ≡ true → first_failed (xs ++ ((n, q) ∷ ys)) ≡ first_failed (xs ++ ys)
skip_passed [] n q ys e = ap (λ (b : Bool). cond b (first_failed ys) (some n)) e
skip_passed (x ∷ xs) n q ys e = ap (λ (o : Option ℕ). cond x.1 o (some x.0)) (skip_passed xs n q ys e)

pub first_two : (a b : Bool) (qs : List (ℕ × Bool)) → a ≡ true → b ≡ true → first_failed ((1, a) ∷ (2, b) ∷ qs) ≡ first_failed qs
first_two a b qs p q = rw (p, q)

-- the questions pass where they pass with room asked too
pub without_room : (room : Bool) (qs : List (ℕ × Bool)) → first_failed (with_room room qs) ≡ none → first_failed qs ≡ none
without_room room [] e = refl
without_room room (q ∷ qs) e =
    let p = passed q.0 (cond (eqb q.0 6) (q.1 && room) q.1) (with_room room qs) e in
    let t : q.1 ≡ true = split (eqb q.0 6) (λ s. and_left q.1 room (ap (λ (b : Bool). cond b (q.1 && room) q.1) (sym s) ∙ p.0))
    (λ s. ap (λ (b : Bool). cond b (q.1 && room) q.1) (sym s) ∙ p.0) in
    ap (λ (b : Bool). cond b (first_failed qs) (some q.0)) t ∙ without_room room qs p.1

-- what the questions say of an accepted call
pub record Accepted (c : Call) (t : Table) : Type 0 where
  pub keys : keys_fit c ≡ true
  pub codes : codes_in_range c ≡ true
  pub clock : clock_fits c t ≡ true
  pub output : output_fits c ≡ true
  pub kind : kind_fits c t ≡ true
  pub queue : queue_fits c t ≡ true
  pub bytes : bytes_fit c t ≡ true
  pub hours : hours_in_range c ≡ true
  pub admits : admitted c t ≡ true

pub accepted : (c : Call) (t : Table) → first_failed (questions c t) ≡ none → Accepted c t
accepted c t e =
    let q3 = passed 3 (keys_fit c) ((4, codes_in_range c) ∷ (5, clock_fits c t) ∷ (6, output_fits c) ∷ late c t) e in
    let q4 = passed 4 (codes_in_range c) ((5, clock_fits c t) ∷ (6, output_fits c) ∷ late c t) q3.1 in
    let q5 = passed 5 (clock_fits c t) ((6, output_fits c) ∷ late c t) q4.1 in
    let q6 = passed 6 (output_fits c) (late c t) q5.1 in
    let q7 = passed 7 (kind_fits c t) ((8, queue_fits c t) ∷ (9, bytes_fit c t) ∷ hours) q6.1 in
    let q8 = passed 8 (queue_fits c t) ((9, bytes_fit c t) ∷ hours) q7.1 in
    let q9 = passed 9 (bytes_fit c t) hours q8.1 in
    let q10 = passed 10 (hours_in_range c) ((11, admitted c t) ∷ []) q9.1 in
    let q11 = passed 11 (admitted c t) [] q10.1 in
    record {
      keys = q3.0;
      codes = q4.0;
      clock = q5.0;
      output = q6.0;
      kind = q7.0;
      queue = q8.0;
      bytes = q9.0;
      hours = q10.0;
      admits = q11.0;
    }
  where
    hours : List (ℕ × Bool)
    hours = (10, hours_in_range c) ∷ (11, admitted c t) ∷ []

-- the same, on bytes
pub record AcceptedBytes (c : Call) (s : List ℕ) : Type 0 where
  pub size : length s ≡ storage_size
  -- that settings and queue are formed; nothing of `new`
  pub header : holds_header c s ≡ true
  pub buckets : buckets_formed s (reads c (table_of s)) ≡ true
  pub passes : first_failed (questions c (table_of s)) ≡ none
  pub answers : Accepted c (table_of s)

pub accepted_bytes : (c : Call) (s : List ℕ) → first_failed (all_questions c s) ≡ none → AcceptedBytes c s
accepted_bytes c s e =
    let t : Table = table_of s in
    let read : Bool = buckets_formed s (reads c t) in
    let q1 = passed 1 (eqb (length s) storage_size) ((2, holds_header c s) ∷ (early c t ++ ((2, read) ∷ late c t))) e in
    let q2 = passed 2 (holds_header c s) (early c t ++ ((2, read) ∷ late c t)) q1.1 in
    let front : first_failed (early c t) ≡ none = front_none (early c t) ((2, read) ∷ late c t) q2.1 in
    let q6 = passed 2 read (late c t) (sym (front_passes (early c t) ((2, read) ∷ late c t) front) ∙ q2.1) in
    let passes : first_failed (questions c t) ≡ none = front_passes (early c t) (late c t) front ∙ q6.1 in
    record {
      size = eqb-true (length s) storage_size q1.0;
      header = q2.0;
      buckets = q6.0;
      passes = passes;
      answers = accepted c t passes;
    }

-- Room in a lent output, asked in 6's turn.

-- with room the questions are the call's own
pub with_room_lem : (qs : List (ℕ × Bool)) → with_room true qs ≡ qs
with_room_lem [] = refl
with_room_lem (q ∷ qs) =
    ap (λ (b : Bool). (q.0, b) ∷ with_room true qs) (split (eqb q.0 6) (λ e. rw (e, and-true)) (λ e. rw e)) ∙ ap (λ (l : List (ℕ × Bool)). q ∷ l) (with_room_lem qs)

-- the questions 1 to 5
abbrev pub up_to_five : Call → List ℕ → List (ℕ × Bool)
up_to_five c s =
    (1, eqb (length s) storage_size) ∷ (2, holds_header c s) ∷ (3, keys_fit c) ∷ (4, codes_in_range c) ∷ (5, clock_fits c (table_of s)) ∷ []

-- without it the first of those that fails, else 6
pub short_of_room : (c : Call) (s : List ℕ) (o : Option ℕ) → first_failed (up_to_five c s) ≡ o → first_failed (with_room false (all_questions c s)) ≡ some (given o 6)
short_of_room c s (some n) e =
    front_fails (up_to_five c s) ((6, output_fits c && false) ∷ (2, buckets_formed s (reads c (table_of s))) ∷ late c (table_of s)) n e
short_of_room c s none e =
    front_passes (up_to_five c s) ((6, output_fits c && false) ∷ (2, buckets_formed s (reads c (table_of s))) ∷ late c (table_of s)) e ∙ (rw and-false)
