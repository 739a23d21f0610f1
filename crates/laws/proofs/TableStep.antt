-- On the bytes of a table, step_bytes answers what step answers and leaves the bytes of the table that step leaves.
use Prim.Native.Nat.{ℕ}
use native.Mathlib.Omega.{arith}
use mathlib.Core.Path.{◌≡◌, refl, sym, ap, ◌∙◌, subst, subst⁻¹}
use mathlib.Core.Bool.{true, not, ◌||◌}
use mathlib.Core.List.{List, ◌∷◌, ◌++◌}
use mathlib.Core.Option.{Option, none, some}
use lib.ListN.{length}
use lib.Dec.{eqb}
use borrow.Author.Tests.{eq-eqb}
use Rattle.model.specs.Table.{Table, Answer}
use Rattle.model.specs.Sizes.{storage_size}
use Rattle.model.specs.Call.{Call}
use Rattle.model.specs.Question.{first_failed, arguments}
use Rattle.model.specs.Step.{Outcome, act, early, late, questions, step}
use Rattle.model.specs.Layout.{bytes_of, table_of}
use Rattle.model.specs.Formed.{header_formed, buckets_formed}
use Rattle.model.specs.StepBytes.{BytesOutcome, reads, all_questions, touched, restore, unless_refused_bytes, step_bytes}
use Rattle.model.specs.Fits.{Fits, FitsCall}
use Rattle.laws.proofs.Tests.{clash, split, or_second}
use Rattle.laws.proofs.Questions.{first_two, skip_passed, accepted_bytes}
use Rattle.laws.proofs.KeepStep.{step_accepted, step_refused, step_fits, new_fits}
use Rattle.laws.proofs.Frame.{touches_all, act_frame}
use Rattle.laws.proofs.Touched.{touched_below, reads_below}
use Rattle.laws.proofs.TableBytes.{length_bytes_of, table_there, formed_there, header_passes, buckets_pass}
use Rattle.laws.proofs.Restore.{restore_is, restore_all}

-- what a call on bytes comes to, where it comes to an outcome on a table
pub record Same (o : BytesOutcome) (p : Outcome) : Type 0 where
  pub answer : o.answer ≡ p.answer
  pub storage : o.storage ≡ bytes_of p.table
  pub records : o.records ≡ p.records

-- the storage that an accepted call leaves
all_storage : (c : Call) (t t' : Table) (s : List ℕ) → length s ≡ storage_size → Fits t' → touches_all c ≡ true → restore s (touched c t) t' ≡ bytes_of t'
all_storage (Call.new k timeout m tf bf) t t' s l g n = restore_all s l t' g
all_storage (Call.on_key k c) t t' s l g n = clash n refl
all_storage (Call.list l n now out) t t' s e g m = clash m refl
all_storage Call.take_applied_pending t t' s l g n = clash n refl
all_storage (Call.read bs) t t' s l g n = restore_all s l t' g

act_storage : (c : Call) (t : Table) → Fits t → Fits (act c t).table → restore (bytes_of t) (touched c t) (act c t).table ≡ bytes_of (act c t).table
act_storage c t f g =
    split (touches_all c) (λ n. all_storage c t (act c t).table (bytes_of t) (length_bytes_of t f) g n)
    (λ n. restore_is t (act c t).table f g (touched c t) (touched_below c t) (λ i m h. sym (act_frame c t i n h)))

-- every call
pub step_bytes_lem : (c : Call) (t : Table) → FitsCall c → Fits t → Same (step_bytes c (bytes_of t)) (step c t)
unfolding step_bytes step
step_bytes_lem c t h f =
    subst⁻¹ (λ (o : Option ℕ). Same (unless_refused_bytes o c (bytes_of t)) (step c t)) e (answered (first_failed (questions c t)) refl)
  where
    e : first_failed (all_questions c (bytes_of t)) ≡ first_failed (questions c t)
    e =
        first_two (eqb (length (bytes_of t)) storage_size) (not (arguments c).table || header_formed (bytes_of t))
        (early c (table_of (bytes_of t)) ++ ((2, buckets_formed (bytes_of t) (reads c (table_of (bytes_of t)))) ∷ late c (table_of (bytes_of t))))
        (eq-eqb (length (bytes_of t)) storage_size (length_bytes_of t f))
        (or_second (not (arguments c).table) (header_formed (bytes_of t)) (header_passes (bytes_of t) (formed_there t f)))
        ∙ skip_passed (early c (table_of (bytes_of t))) 2 (buckets_formed (bytes_of t) (reads c (table_of (bytes_of t)))) (late c (table_of (bytes_of t)))
        (buckets_pass (bytes_of t) (formed_there t f) (reads c (table_of (bytes_of t))) (reads_below c (table_of (bytes_of t))))
        ∙ ap (λ (x : Table). first_failed (questions c x)) (table_there t f)

    answered : (o : Option ℕ) → first_failed (questions c t) ≡ o → Same (unless_refused_bytes o c (bytes_of t)) (step c t)
    answered (some n) q =
        subst⁻¹ (λ (p : Outcome). Same (unless_refused_bytes (some n) c (bytes_of t)) p) (step_refused c t n q)
        (record { answer = refl; storage = refl; records = refl })
    answered none q =
        let g : Fits (act c t).table = subst (λ (p : Outcome). Fits p.table) (step_accepted c t q) (step_fits c t h f) in
        subst⁻¹ (λ (p : Outcome). Same (unless_refused_bytes none c (bytes_of t)) p) (step_accepted c t q)
        (record {
          answer = ap (λ (x : Table). (act c x).answer) (table_there t f);
          storage = ap (λ (x : Table). restore (bytes_of t) (touched c x) (act c x).table) (table_there t f) ∙ act_storage c t f g;
          records = ap (λ (x : Table). (act c x).records) (table_there t f);
        })

-- an accepted `new`, on any bytes
module _ (k : List ℕ) (timeout m tf bf : ℕ) (s : List ℕ) (h : FitsCall (Call.new k timeout m tf bf)) where
  abbrev pub made : Call
  made = Call.new k timeout m tf bf

  -- question 1, and the others of a table that does not matter
  accepted_new : (o : Option ℕ) → first_failed (all_questions made s) ≡ o → (unless_refused_bytes o made s).answer ≡ Answer.New → first_failed (all_questions made s) ≡ none
  accepted_new none e a = e
  accepted_new (some n) e a = absurd (refused_new n a)
    where
      refused_new : (n : ℕ) → Answer.Refused n ≡ Answer.New → ⊥
      refused_new n a = let z : ◌≡◌ {A = ℕ} 0 1 = cc in omega arith

  pub new_bytes : (step_bytes made s).answer ≡ Answer.New → Same (step_bytes made s) (step made (table_of s)) × (first_failed (questions made (table_of s)) ≡ none)
  unfolding step_bytes
  new_bytes a =
      let e : first_failed (all_questions made s) ≡ none = accepted_new (first_failed (all_questions made s)) refl a in
      let p = accepted_bytes made s e in
      let q : first_failed (questions made (table_of s)) ≡ none = p.passes in
      let g : Fits (act made (table_of s)).table = subst (λ (p : Outcome). Fits p.table) (step_accepted made (table_of s) q) (new_fits k timeout m tf bf (table_of s) h q) in (
        subst⁻¹ (λ (o : Option ℕ). Same (unless_refused_bytes o made s) (step made (table_of s))) e
            (subst⁻¹ (λ (p : Outcome). Same (unless_refused_bytes none made s) p) (step_accepted made (table_of s) q)
            (record { answer = refl; storage = restore_all s p.size (act made (table_of s)).table g; records = refl })),
        q,
      )
