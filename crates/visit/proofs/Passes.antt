-- The applying pass, bucket by bucket, on the storage.
use mathlib.Core.Path.{◌≡◌, refl, sym, ap, ◌∙◌, subst}
use mathlib.Core.Bool.{Bool, true, false}
use mathlib.Core.List.{List, [], ◌∷◌, ◌++◌}
use Prim.Native.Nat.{ℕ, ◌+◌, ◌-◌, ◌≤◌, ◌<◌}
use native.Mathlib.Omega.{arith}
use lib.ListN.{length, length-append}
use borrow.Author.Tests.{le-leb}
use Rattle.model.specs.Bytes.{Bytes}
use Rattle.model.specs.Node.{EndedPending}
use Rattle.model.specs.Bucket.{Bucket, num_entries, apply_pending}
use Rattle.model.specs.Table.{Table, num_buckets, max_records}
use Rattle.model.specs.Sizes.{storage_size}
use Rattle.model.specs.Listing.{visited}
use Rattle.model.specs.Layout.{bucket_in, bucket_part, table_of}
use Rattle.model.specs.Formed.{header_formed, buckets_formed}
use Rattle.laws.proofs.Touched.{all_visited}
use Rattle.on_key.specs.Answers.{Ready, is_due, room_for, rewritten}
use Rattle.on_key.proofs.Due.{not_due}
use Rattle.visit.specs.Passes.{held, visit_one, visited_by, visit_all, applied_in, Visitable}
use Rattle.visit.proofs.Visitable.{visited_none, visited_end, visited_next}
use Rattle.visit.proofs.Applying.{Appliable, Applying, applying_starts, applying_ready, applying_room, applying_next, applying_held, applying_ends, applying_nothing}

-- one bucket

-- whether its pending is due, as its bytes tell
pub due_here : (s : List ℕ) (now i : ℕ) {u : List ℕ} {d b : Bool} → u ≡ bucket_part s i → d ≡ is_due now (bucket_in u).pending → d ≡ b
    → is_due now ((table_of s).buckets i).pending ≡ b
unfolding table_of
due_here s now i e f g = ap (λ (u : List ℕ). is_due now (bucket_in u).pending) (sym e) ∙ sym f ∙ g

-- question 8 of it
pub visit_room : (s : List ℕ) (now i : ℕ) (rs : List EndedPending) → rs ≡ (apply_pending (table_of s).settings.bucket now ((table_of s).buckets i)).1
    → length (visit_one now i (table_of s)).queue ≤ max_records → room_for s rs ≡ true
unfolding room_for
visit_room s now i rs e q =
    le-leb (length (table_of s).queue + length rs) max_records
    (omega (arith, length-append (table_of s).queue (apply_pending (table_of s).settings.bucket now ((table_of s).buckets i)).1, ap length e))

-- bucket and record written back
pub visit_written : (s : List ℕ) (now i : ℕ)
    → rewritten s i (apply_pending (table_of s).settings.bucket now ((table_of s).buckets i)).0 (apply_pending (table_of s).settings.bucket now ((table_of s).buckets i)).1
    ≡ applied_in s now (i ∷ [])
unfolding rewritten applied_in
visit_written s now i = refl

-- a bucket whose pending is not due: nothing written
pub visit_unwritten : (s : List ℕ) (now i : ℕ) → Bytes s → Ready s i → length (visit_one now i (table_of s)).queue ≤ max_records
    → is_due now ((table_of s).buckets i).pending ≡ false → s ≡ applied_in s now (i ∷ [])
visit_unwritten s now i h r q e =
    applying_nothing s now (i ∷ [])
    (record { bytes = h; size = r.size; header = r.header; below = (r.below, tt); formed = rw r.bucket; room = q })
    (ap (λ (a : Bucket × List EndedPending). length (a.1 ++ [])) (not_due (table_of s).settings.bucket now ((table_of s).buckets i) e))

-- the visit

module _ (now n : ℕ) (is : List ℕ) (s₀ : List ℕ) where
  abbrev t₀ : Table
  t₀ = table_of s₀

  pub visit_appliable : Bytes s₀ → length s₀ ≡ storage_size → header_formed s₀ ≡ true → Visitable is → buckets_formed s₀ (visited_by now n is t₀) ≡ true
      → length (visit_all now n is t₀).0.queue ≤ max_records → Appliable s₀ now (visited_by now n is t₀)
  unfolding visit_all
  visit_appliable h l f v b q =
      record { bytes = h; size = l; header = f; below = all_visited (λ (i : ℕ). i < num_buckets) (held now t₀) n is v.below; formed = b; room = q }

  -- the storage while the buckets are visited
  abbrev pub Visiting : (s : List ℕ) (left : ℕ) (rest : List ℕ) → Type 0
  Visiting s left rest = Applying s₀ now (visited_by now n is t₀) s (visited_by now left rest t₀)

  module _ (p : Appliable s₀ now (visited_by now n is t₀)) where
    pub visiting_starts : Visiting s₀ n is
    visiting_starts = applying_starts s₀ now (visited_by now n is t₀) p

    -- no record was counted
    pub visiting_nothing : {records : ℕ} → records ≡ length (visit_all now n is t₀).1 → records ≡ 0 → s₀ ≡ applied_in s₀ now (visited_by now n is t₀)
    unfolding visit_all
    visiting_nothing e f = applying_nothing s₀ now (visited_by now n is t₀) p (sym e ∙ f)

    module _ (s : List ℕ) (left i : ℕ) (rest : List ℕ) (k : 0 < left) (w : Visiting s left (i ∷ rest)) where
      here : Applying s₀ now (visited_by now n is t₀) s (i ∷ visited_by now (left - held now t₀ i) rest t₀)
      here = subst (Applying s₀ now (visited_by now n is t₀) s) (visited_next (held now t₀) left i rest k) w

      pub visiting_ready : Ready s i
      visiting_ready = applying_ready s₀ now (visited_by now n is t₀) p s i (visited_by now (left - held now t₀ i) rest t₀) here

      pub visiting_room : length (visit_one now i (table_of s)).queue ≤ max_records
      visiting_room = applying_room s₀ now (visited_by now n is t₀) p s i (visited_by now (left - held now t₀ i) rest t₀) here

      module _ (s' : List ℕ) (e : s' ≡ applied_in s now (i ∷ [])) where
        next : Applying s₀ now (visited_by now n is t₀) s' (visited_by now (left - held now t₀ i) rest t₀)
        next = applying_next s₀ now (visited_by now n is t₀) p s i (visited_by now (left - held now t₀ i) rest t₀) here s' e

        pub visiting_next : (left' : ℕ) → left' ≡ left - num_entries ((table_of s').buckets i) → Visiting s' left' rest
        visiting_next left' g =
            let h = applying_held s₀ now (visited_by now n is t₀) p s i (visited_by now (left - held now t₀ i) rest t₀) here s' e in
            subst (λ (m : ℕ). Visiting s' m rest) (sym (g ∙ ap (λ (b : Bucket). left - num_entries b) h)) next

    module _ (s : List ℕ) (left : ℕ) (rest : List ℕ) (w : Visiting s left rest) where
      pub visiting_ends : rest ≡ [] → s ≡ applied_in s₀ now (visited_by now n is t₀)
      visiting_ends e =
          applying_ends s₀ now (visited_by now n is t₀) p s (visited_by now left rest t₀) w (ap (visited (held now t₀) left) e ∙ visited_end (held now t₀) left)

      pub visiting_full : left ≤ 0 → s ≡ applied_in s₀ now (visited_by now n is t₀)
      visiting_full m =
          let e : left ≡ 0 = omega arith in
          applying_ends s₀ now (visited_by now n is t₀) p s (visited_by now left rest t₀) w (ap (λ (k : ℕ). visited (held now t₀) k rest) e ∙ visited_none (held now t₀) rest)
