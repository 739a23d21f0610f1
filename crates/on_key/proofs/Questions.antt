-- The questions, one behind the other.
use Prim.Native.Nat.{ℕ}
use mathlib.Core.Path.{◌≡◌, refl, sym, ap, ◌∙◌}
use mathlib.Core.Bool.{Bool, true, false, cond}
use mathlib.Core.List.{List, [], ◌∷◌, ◌++◌}
use mathlib.Core.Option.{Option, none, some}
use lib.ListN.{length}
use lib.Dec.{eqb}
use borrow.Author.Tests.{eqb-true}
use Rattle.model.specs.Base.{is_some}
use Rattle.model.specs.Sizes.{key_size, storage_size}
use Rattle.model.specs.Layout.{table_of}
use Rattle.model.specs.Formed.{header_formed, formed}
use Rattle.model.specs.Question.{first_failed, deadline_fits}
use Rattle.laws.proofs.Tests.{clash, split}
use Rattle.laws.proofs.Questions.{passed}
use Rattle.on_key.specs.Answers.{failed_of_two, failed_of_table, failed_of_three, failed_of_five}

-- what the questions that passed say

module _ (s : List ℕ) where
  pub record PassedTable : Type 0 where
    pub size : length s ≡ storage_size
    pub formed : formed s ≡ true

  pub passed_table : failed_of_table s ≡ none → PassedTable
  unfolding failed_of_table
  passed_table e =
      let p = passed 1 (eqb (length s) storage_size) ((2, formed s) ∷ []) e in
      record { size = eqb-true _ _ p.0; formed = (passed 2 (formed s) [] p.1).0 }

  pub record PassedTwo : Type 0 where
    pub size : length s ≡ storage_size
    pub header : header_formed s ≡ true

  pub passed_two : failed_of_two s ≡ none → PassedTwo
  unfolding failed_of_two
  passed_two e =
      let p = passed 1 (eqb (length s) storage_size) ((2, header_formed s) ∷ []) e in
      record { size = eqb-true _ _ p.0; header = (passed 2 (header_formed s) [] p.1).0 }

  -- the same with question 5 behind them
  module _ (now : ℕ) where
    abbrev in_time : Bool
    in_time = deadline_fits (table_of s).settings.bucket.pending_timeout (some now)

    pub record PassedThree : Type 0 where
      pub size : length s ≡ storage_size
      pub header : header_formed s ≡ true

    pub passed_three : failed_of_three now s ≡ none → PassedThree
    unfolding failed_of_three
    passed_three e =
        let p = passed 1 (eqb (length s) storage_size) ((2, header_formed s) ∷ (5, in_time) ∷ []) e in
        record { size = eqb-true _ _ p.0; header = (passed 2 (header_formed s) ((5, in_time) ∷ []) p.1).0 }

  module _ (key : List ℕ) (codes : Bool) (now : Option ℕ) where
    abbrev clock : Bool
    clock = deadline_fits (table_of s).settings.bucket.pending_timeout now

    abbrev later : List (ℕ × Bool)
    later = (3, eqb (length key) key_size) ∷ (4, codes) ∷ (5, clock) ∷ []

    pub record PassedFive : Type 0 where
      pub two : failed_of_two s ≡ none
      pub size : length s ≡ storage_size
      pub header : header_formed s ≡ true
      pub key_size_lem : eqb (length key) key_size ≡ true
      pub in_range : codes ≡ true
      pub in_time_lem : clock ≡ true

    pub passed_five : failed_of_five key codes now s ≡ none → PassedFive
    unfolding failed_of_two failed_of_five
    passed_five e =
        let p = passed 1 (eqb (length s) storage_size) ((2, header_formed s) ∷ later) e in
        let q = passed 2 (header_formed s) later p.1 in
        let r = passed 3 (eqb (length key) key_size) ((4, codes) ∷ (5, clock) ∷ []) q.1 in
        let u = passed 4 codes ((5, clock) ∷ []) r.1 in
        record {
          two = rw (p.0, q.0);
          size = eqb-true _ _ p.0;
          header = q.0;
          key_size_lem = r.0;
          in_range = u.0;
          in_time_lem = (passed 5 clock [] u.1).0;
        }

-- a question that fails behind others, in place of a stricter one with more behind it
pub stricter_fails : (xs : List (ℕ × Bool)) (m : ℕ) (a b : Bool) (ys : List (ℕ × Bool)) → (b ≡ true → a ≡ true) → (n : ℕ) → first_failed (xs ++ ((m, a) ∷ [])) ≡ some n
    → first_failed (xs ++ ((m, b) ∷ ys)) ≡ some n
stricter_fails [] m true b ys h n e = clash refl (ap is_some (sym e))
stricter_fails [] m false true ys h n e = clash (h refl) refl
stricter_fails [] m false false ys h n e = e
stricter_fails (x ∷ xs) m a b ys h n e =
    split x.1
    (λ t.
    ap (λ (q : Bool). cond q (first_failed (xs ++ ((m, b) ∷ ys))) (some x.0)) t
    ∙ stricter_fails xs m a b ys h n (ap (λ (q : Bool). cond q (first_failed (xs ++ ((m, a) ∷ []))) (some x.0)) (sym t) ∙ e))
    (λ f.
    ap (λ (q : Bool). cond q (first_failed (xs ++ ((m, b) ∷ ys))) (some x.0)) f
    ∙ ap (λ (q : Bool). cond q (first_failed (xs ++ ((m, a) ∷ []))) (some x.0)) (sym f)
    ∙ e)
