-- Applying due pendings: a second time does nothing, and after buckets were visited each bucket is as if it had been visited alone.
use mathlib.Core.Path.{◌≡◌, refl, sym, ap, ◌∙◌, subst⁻¹}
use mathlib.Core.Bool.{Bool, true, false, cond, not, ◌&&◌}
use mathlib.Core.List.{List, [], ◌∷◌, ◌++◌, append-nil, append_assoc}
use mathlib.Core.Option.{Option, none, some}
use Prim.Native.Nat.{ℕ}
use lib.Dec.{leb}
use lib.ListN.{length}
use Rattle.model.specs.Base.{same, every}
use Rattle.model.specs.Node.{Node, PendingNode, EndedPending}
use Rattle.model.specs.Result.{BucketInsertResult, is_inserted}
use Rattle.model.specs.Bucket.{Bucket, BucketSettings, holds, is_full, fails_bucket_filter, is_max_incoming, with_pending, cleared, insert_full, insert, apply_full, apply_due, apply_if_due, apply_pending}
use Rattle.model.specs.Table.{Table, write}
use Rattle.model.specs.Listing.{apply_all, applied}
use Rattle.laws.proofs.Tests.{same_true, clash, cases}

-- ---- one bucket

module _ (s : BucketSettings) (now : ℕ) where
  -- an insert that succeeds leaves no pending where there was none
  abbrev Left : BucketInsertResult × Bucket → Type 0
  Left r = is_inserted r.0 ≡ true → r.1.pending ≡ none

  insert_left : (n : Node) (b : Bucket) → b.pending ≡ none → Left (insert s now n b)
  unfolding insert
  insert_left n b e =
      cases Left (holds n.key b) (λ h i. e)
      (λ h. cases Left (fails_bucket_filter s n.value b) (λ h i. e)
      (λ h. cases Left (is_max_incoming s n b) (λ h i. e)
      (λ h. cases Left (is_full b) (λ h. full n.connected b.disconnected b.pending) (λ h i. ap (cleared n.key) e))))
    where
      full : (u : Bool) (ds : List Node) (p : Option PendingNode) → Left (insert_full s now n b u ds p)
      full false ds p i = e
      full true [] p i = e
      full true (d ∷ ds) none i = clash i refl
      full true (d ∷ ds) (some p) i = e

  due_left : (n : Node) (b : Bucket) → b.pending ≡ none → (apply_due s now n b).0.pending ≡ none
  unfolding apply_due
  due_left n b e =
      cases (λ (r : Bucket × List EndedPending). r.0.pending ≡ none) (is_full b) (λ h. full b.disconnected)
      (λ h. cases (λ (r : Bucket). r.pending ≡ none) (is_inserted (insert s now n b).0) (λ i. insert_left n b e i) (λ i. e))
    where
      full : (ds : List Node) → (apply_full s n b ds).0.pending ≡ none
      full [] = e
      full (d ∷ ds) =
          cases (λ (r : Bucket × List EndedPending). r.0.pending ≡ none) (fails_bucket_filter s n.value b) (λ h. e)
          (λ h. cases (λ (r : Bucket × List EndedPending). r.0.pending ≡ none) (is_max_incoming s n b) (λ i. e) (λ i. refl))

  -- applying what is due gives one record
  pub due_one : (n : Node) (b : Bucket) → length (apply_due s now n b).1 ≡ 1
  unfolding apply_due
  due_one n b = cases (λ (r : Bucket × List EndedPending). length r.1 ≡ 1) (is_full b) (λ _. full b.disconnected) (λ _. refl)
    where
      full : (ds : List Node) → length (apply_full s n b ds).1 ≡ 1
      full [] = refl
      full (d ∷ ds) =
          cases (λ (r : Bucket × List EndedPending). length r.1 ≡ 1) (fails_bucket_filter s n.value b) (λ _. refl)
          (λ _. cases (λ (r : Bucket × List EndedPending). length r.1 ≡ 1) (is_max_incoming s n b) (λ _. refl) (λ _. refl))

  pub apply_none : (b : Bucket) → b.pending ≡ none → apply_pending s now b ≡ (b, [])
  unfolding apply_pending
  apply_none b e = ap (apply_if_due s now b) e

  -- a second time does nothing
  pub apply_again : (b : Bucket) → apply_pending s now (apply_pending s now b).0 ≡ ((apply_pending s now b).0, [])
  unfolding apply_pending
  apply_again b = go b.pending refl
    where
      go : (o : Option PendingNode) → b.pending ≡ o → apply_pending s now (apply_if_due s now b o).0 ≡ ((apply_if_due s now b o).0, [])
      go none e = apply_none b e
      go (some p) e =
          cases (λ (r : Bucket × List EndedPending). apply_pending s now r.0 ≡ (r.0, [])) (leb p.deadline now)
          (λ h. apply_none _ (due_left p.node _ refl))
          (λ h. ap (apply_if_due s now b) e
          ∙ ap (λ (t : Bool). cond t (apply_due s now p.node (with_pending none b)) (b, [])) h)

  -- applying gives one record and leaves no pending, or gives none
  pub apply_ends : (P : List EndedPending → Option PendingNode → Type 0) → ((p : Option PendingNode) → P [] p) → ((rs : List EndedPending) → P rs none)
      → (b : Bucket) → P (apply_pending s now b).1 (apply_pending s now b).0.pending
  unfolding apply_pending
  apply_ends P f g b = go b.pending
    where
      go : (o : Option PendingNode) → P (apply_if_due s now b o).1 (apply_if_due s now b o).0.pending
      go none = f b.pending
      go (some p) =
          cases (λ (r : Bucket × List EndedPending). P r.1 r.0.pending) (leb p.deadline now)
          (λ _. subst⁻¹ (P (apply_due s now p.node (with_pending none b)).1) (due_left p.node (with_pending none b) refl) (g _))
          (λ _. f b.pending)

-- ---- buckets of a table, one after the other

abbrev visit : ℕ → ℕ → Table → Table
visit now j t = let a = apply_pending t.settings.bucket now (t.buckets j) in write t j a.0 a.1

visit_keeps : (now j : ℕ) (t : Table) (i : ℕ) → applied now (visit now j t) i ≡ applied now t i
visit_keeps now j t i = go (same i j) refl
  where
    go : (c : Bool) → same i j ≡ c → (apply_pending t.settings.bucket now (cond c (applied now t j) (t.buckets i))).0 ≡ applied now t i
    go true e =
        ap (λ (r : Bucket × List EndedPending). r.0) (apply_again t.settings.bucket now (t.buckets j))
        ∙ ap (λ (k : ℕ). applied now t k) (sym (same_true i j e))
    go false e = refl

-- a bucket that is visited afterwards is as if it had been visited first
pub apply_all_keeps : (now : ℕ) (is : List ℕ) (t : Table) (i : ℕ) → applied now (apply_all now is t).0 i ≡ applied now t i
apply_all_keeps now [] t i = refl
apply_all_keeps now (j ∷ is) t i = apply_all_keeps now is (visit now j t) i ∙ visit_keeps now j t i

-- the buckets named are applied, the others stay
pub apply_all_buckets : (now : ℕ) (is : List ℕ) (t : Table) (i : ℕ)
    → (apply_all now is t).0.buckets i ≡ cond (every (λ (j : ℕ). not (same i j)) is) (t.buckets i) (applied now t i)
apply_all_buckets now [] t i = refl
apply_all_buckets now (j ∷ is) t i = apply_all_buckets now is (visit now j t) i ∙ go (same i j) refl (every (λ (k : ℕ). not (same i k)) is)
  where
    go : (c : Bool) → same i j ≡ c → (r : Bool) → cond r (cond (same i j) (applied now t j) (t.buckets i)) (applied now (visit now j t) i)
        ≡ cond (not (same i j) && r) (t.buckets i) (applied now t i)
    go true e true =
        ap (λ (c : Bool). cond c (applied now t j) (t.buckets i)) e ∙ ap (λ (k : ℕ). applied now t k) (sym (same_true i j e))
        ∙ ap (λ (c : Bool). cond (not c && true) (t.buckets i) (applied now t i)) (sym e)
    go true e false = visit_keeps now j t i ∙ ap (λ (c : Bool). cond (not c && false) (t.buckets i) (applied now t i)) (sym e)
    go false e true =
        ap (λ (c : Bool). cond c (applied now t j) (t.buckets i)) e ∙ ap (λ (c : Bool). cond (not c && true) (t.buckets i) (applied now t i)) (sym e)
    go false e false = visit_keeps now j t i ∙ ap (λ (c : Bool). cond (not c && false) (t.buckets i) (applied now t i)) (sym e)

-- the records stand behind those of the queue
pub apply_all_queue : (now : ℕ) (is : List ℕ) (t : Table) → (apply_all now is t).0.queue ≡ t.queue ++ (apply_all now is t).1
apply_all_queue now [] t = sym (append-nil t.queue)
apply_all_queue now (j ∷ is) t =
    let a = apply_pending t.settings.bucket now (t.buckets j) in
    apply_all_queue now is (visit now j t) ∙ append_assoc t.queue a.1 (apply_all now is (visit now j t)).1

-- first some buckets, then the others
pub apply_all_append : (now : ℕ) (xs ys : List ℕ) (t : Table) → (apply_all now (xs ++ ys) t).0 ≡ (apply_all now ys (apply_all now xs t).0).0
apply_all_append now [] ys t = refl
apply_all_append now (i ∷ xs) ys t = apply_all_append now xs ys _
