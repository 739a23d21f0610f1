-- What nodes_by_distances lists lies in the buckets of its applying pass: where the pass stops early, its buckets hold n already. With
-- this every listing reads no bucket but those in which it applies the pending.
use Prim.Native.Nat.{ℕ, zero, suc, ◌+◌, ◌≤◌}
use native.Mathlib.Omega.{arith}
use mathlib.Core.Path.{◌≡◌, refl, sym, ap, ap₂, ◌∙◌}
use mathlib.Core.Bool.{Bool, true, false, cond, not, ◌&&◌}
use mathlib.Core.List.{List, [], ◌∷◌, ◌++◌, append-nil}
use mathlib.Core.Logic.{◌⊎◌, inl, inr, ⊎_elim}
use mathlib.Core.Option.{Option, none, some}
use lib.ListN.{length, take, length-append}
use lib.Seq.{take-append-le}
use lib.Dec.{eqb, leb}
use borrow.Author.Tests.{leb-true}
use Rattle.model.specs.Base.{same, every, joined}
use Rattle.model.specs.Node.{Node, PendingNode, EndedPending, placed_of, ended}
use Rattle.model.specs.Result.{BucketInsertResult, is_inserted}
use Rattle.model.specs.Bucket.{Bucket, BucketSettings, nodes, num_entries, is_full, holds, fails_bucket_filter, is_max_incoming, with_pending, cleared, insert_full, insert, insert_ending, apply_full, apply_due, apply_if_due, apply_pending}
use Rattle.model.specs.Table.{Table, write}
use Rattle.model.specs.Call.{Listing}
use Rattle.model.specs.Listing.{apply_all, applied, buckets_at, applied_pass, applies, shown, at_least_one, most, found}
use Rattle.model.specs.Fits.{All}
use Rattle.laws.proofs.Tests.{same_self, cases, clash, and_left, and_right, and_none}
use Rattle.laws.proofs.Lists.{joined_append}
use Rattle.laws.proofs.All.{all_map}
use Rattle.laws.proofs.BucketBytes.{length_nodes}
use Rattle.laws.proofs.KeepFormed.{count_put}
use Rattle.laws.proofs.Applied.{apply_all_keeps, apply_all_buckets}
use Rattle.laws.proofs.Listing.{iter_reads, keys_reads, values_reads, predicate_reads}

-- a bucket in which a pending was placed holds a node

abbrev yielded : List EndedPending → Bool
yielded rs = not (eqb (length (placed_of rs)) 0)

module _ (s : BucketSettings) (now : ℕ) where
  abbrev Yields : Bucket × List EndedPending → Type 0
  Yields r = yielded r.1 ≡ true → 1 ≤ num_entries r.0

  full_yields : (n : Node) (b : Bucket) (ds : List Node) → Yields (apply_full s n b ds)
  full_yields n b [] = λ h. clash h refl
  full_yields n b (d ∷ ds) =
      cases Yields (fails_bucket_filter s n.value b) (λ _ h. clash h refl)
      (λ _. cases Yields (is_max_incoming s n b) (λ _ h. clash h refl)
      (λ _ h. omega (arith, count_put n (record { disconnected = ds; connected = b.connected; pending = none }))))

  module _ (n : Node) (b : Bucket) where
    abbrev Free : BucketInsertResult × Bucket → Type 0
    Free r = Yields (cond (is_inserted r.0) r.1 b, ended n (insert_ending r.0))

    insert_full_yields : (u : Bool) (ds : List Node) (p : Option PendingNode) → Free (insert_full s now n b u ds p)
    insert_full_yields false ds p h = clash h refl
    insert_full_yields true [] p h = clash h refl
    insert_full_yields true (d ∷ ds) none h = clash h refl
    insert_full_yields true (d ∷ ds) (some p) h = clash h refl

    free_yields : Free (insert s now n b)
    unfolding insert
    free_yields =
        cases Free (holds n.key b) (λ _ h. clash h refl)
        (λ _. cases Free (fails_bucket_filter s n.value b) (λ _ h. clash h refl)
        (λ _. cases Free (is_max_incoming s n b) (λ _ h. clash h refl)
        (λ _. cases Free (is_full b) (λ _. insert_full_yields n.connected b.disconnected b.pending)
        (λ _ h. omega (arith, count_put n (with_pending (cleared n.key b.pending) b))))))

  due_yields : (n : Node) (b : Bucket) → Yields (apply_due s now n b)
  unfolding apply_due
  due_yields n b = cases Yields (is_full b) (λ _. full_yields n b b.disconnected) (λ _. free_yields n b)

  apply_yields : (b : Bucket) → Yields (apply_pending s now b)
  unfolding apply_pending
  apply_yields b = go b.pending
    where
      go : (o : Option PendingNode) → Yields (apply_if_due s now b o)
      go none = λ h. clash h refl
      go (some p) = cases Yields (leb p.deadline now) (λ _. due_yields p.node (with_pending none b)) (λ _ h. clash h refl)

-- the pass

-- ps are the first of is; behind them is nothing, or they give m, of which seen are counted already
record Covers (g : ℕ → List Node) (m seen : ℕ) (ps is : List ℕ) : Type 0 where
  rest : List ℕ
  all : is ≡ ps ++ rest
  enough : (rest ≡ []) ⊎ (m ≤ seen + length (joined g ps))

-- what a bucket gives, where it yields a record at which the pass stops
enough_at : (n seen k : ℕ) → n ≤ seen + k → 1 ≤ k → at_least_one n ≤ seen + k
enough_at zero seen k h l = omega arith
enough_at (suc n) seen k h l = h

counted_at : (y : Bool) (k : ℕ) → cond y k 0 ≤ k
counted_at true k = omega arith
counted_at false k = omega arith

-- one bucket of it
module _ (now n seen i : ℕ) (t : Table) (g : ℕ → List Node) (e : (j : ℕ) → g j ≡ nodes (applied now t j)) where
  abbrev applying : Bucket × List EndedPending
  applying = apply_pending t.settings.bucket now (t.buckets i)

  abbrev seen_then : ℕ
  seen_then = seen + cond (yielded applying.1) (num_entries applying.0) 0

  given : length (g i) ≡ num_entries applying.0
  given = ap length (e i) ∙ length_nodes applying.0

  stops : yielded applying.1 ≡ true → n ≤ seen_then → at_least_one n ≤ seen + length (joined g (i ∷ []))
  unfolding joined
  stops y h =
      let k : n ≤ seen + num_entries applying.0 = rw y at h in
      let z = enough_at n seen (num_entries applying.0) k (apply_yields t.settings.bucket now (t.buckets i) y) in
      let w : length (g i ++ []) ≡ length (g i) = ap length (append-nil (g i)) in
      omega (arith, given)

  goes : {ps is : List ℕ} → Covers g (at_least_one n) seen_then ps is → Covers g (at_least_one n) seen (i ∷ ps) (i ∷ is)
  unfolding joined
  goes {ps} r =
      record {
        rest = r.rest;
        all = ap (λ (l : List ℕ). i ∷ l) r.all;
        enough =
            ⊎_elim (λ z. inl z)
            (λ z. inr (omega (arith, length-append (g i) (joined g ps), given, counted_at (yielded applying.1) (num_entries applying.0))))
            r.enough;
      }

pass_covers : (now n seen : ℕ) (is : List ℕ) (t : Table) (g : ℕ → List Node) → ((i : ℕ) → g i ≡ nodes (applied now t i))
    → Covers g (at_least_one n) seen (applied_pass now n seen is t) is
pass_covers now n seen [] t g e = record { rest = []; all = refl; enough = inl refl }
pass_covers now n seen (i ∷ is) t g e =
    let a : Bucket × List EndedPending = apply_pending t.settings.bucket now (t.buckets i) in
    let seen' : ℕ = seen + cond (yielded a.1) (num_entries a.0) 0 in
    cases (λ (ps : List ℕ). Covers g (at_least_one n) seen (i ∷ ps) (i ∷ is)) (yielded a.1 && leb n seen')
    (λ h. record {
      rest = is;
      all = refl;
      enough = inr (stops now n seen i t g e (and_left (yielded a.1) (leb n seen') h) (leb-true n seen' (and_right (yielded a.1) (leb n seen') h)));
    })
    (λ h. goes now n seen i t g e (pass_covers now n seen' is (write t i a.0 a.1) g (λ j. e j ∙ ap nodes (sym (apply_all_keeps now (i ∷ []) t j)))))

pub joined_all : {A : Type 0} (f g : ℕ → List A) (is : List ℕ) → All (λ (i : ℕ). f i ≡ g i) is → joined f is ≡ joined g is
unfolding joined
joined_all f g [] a = refl
joined_all {A} f g (i ∷ is) a = ap₂ (λ (x y : List A). x ++ y) a.0 (joined_all f g is a.1)

-- a bucket of the list is none that is in no place of it
are_visited : (is : List ℕ) → All (λ (i : ℕ). every (λ (j : ℕ). not (same i j)) is ≡ false) is
are_visited [] = tt
are_visited (i ∷ is) = (
  rw (same_self i),
  all_map (λ (j : ℕ). every (λ (k : ℕ). not (same j k)) is ≡ false) (λ (j : ℕ). (not (same j i) && every (λ (k : ℕ). not (same j k)) is) ≡ false)
      (λ j e. and_none (not (same j i)) (every (λ (k : ℕ). not (same j k)) is) e) is (are_visited is),
)

-- each bucket of those visited is applied
pub visited_applied : (now : ℕ) (is : List ℕ) (t : Table) → All (λ (i : ℕ). (apply_all now is t).0.buckets i ≡ applied now t i) is
visited_applied now is t =
    all_map (λ (i : ℕ). every (λ (j : ℕ). not (same i j)) is ≡ false) (λ (i : ℕ). (apply_all now is t).0.buckets i ≡ applied now t i)
    (λ i e. apply_all_buckets now is t i ∙ ap (λ (b : Bool). cond b (t.buckets i) (applied now t i)) e) is (are_visited is)

module _ (ds : List ℕ) (n now : ℕ) (t : Table) where
  abbrev l : Listing
  l = Listing.nodes_by_distances ds

  abbrev ps : List ℕ
  ps = applies l n now t

  abbrev sh : ℕ → List Node
  sh = shown l n now t

  c : Covers (λ i. nodes (applied now t i)) (at_least_one n) 0 ps (buckets_at ds)
  c = pass_covers now n 0 (buckets_at ds) t (λ i. nodes (applied now t i)) (λ i. refl)

  -- the pass went to its end
  at_end : c.rest ≡ [] → take (at_least_one n) (joined sh (buckets_at ds)) ≡ take (at_least_one n) (joined sh ps)
  at_end e = ap (λ (is : List ℕ). take (at_least_one n) (joined sh is)) (c.all ∙ ap (λ (r : List ℕ). ps ++ r) e ∙ append-nil ps)

  same_shown : joined sh ps ≡ joined (λ i. nodes (applied now t i)) ps
  same_shown =
      joined_all sh (λ i. nodes (applied now t i)) ps
      (all_map (λ (i : ℕ). (apply_all now ps t).0.buckets i ≡ applied now t i) (λ (i : ℕ). sh i ≡ nodes (applied now t i)) (λ i e. ap nodes e) ps (visited_applied now ps t))

  -- its buckets give n
  at_stop : at_least_one n ≤ 0 + length (joined (λ i. nodes (applied now t i)) ps) → take (at_least_one n) (joined sh (buckets_at ds)) ≡ take (at_least_one n) (joined sh ps)
  at_stop h =
      ap (λ (is : List ℕ). take (at_least_one n) (joined sh is)) c.all
      ∙ ap (take (at_least_one n)) (joined_append sh ps c.rest)
      ∙ take-append-le (at_least_one n) (joined sh ps) (joined sh c.rest) (omega (arith, ap length same_shown))

  pub distances_reads : found l n now t ≡ take (most l n) (joined (shown l n now t) (applies l n now t))
  unfolding found
  distances_reads = ⊎_elim at_end at_stop c.enough

-- every listing
pub found_reads : (l : Listing) (n now : ℕ) (t : Table) → found l n now t ≡ take (most l n) (joined (shown l n now t) (applies l n now t))
found_reads Listing.iter n now t = iter_reads n now t
found_reads (Listing.nodes_by_distances ds) n now t = distances_reads ds n now t
found_reads (Listing.closest_keys x) n now t = keys_reads x n now t
found_reads (Listing.closest_values x) n now t = values_reads x n now t
found_reads (Listing.closest_values_predicate x p) n now t = predicate_reads x p n now t
