-- 02, slip 7: a listing looks at the settings and at the buckets that it visits: where another table has the same ones, it does the same.
use Prim.Native.Nat.{ℕ, zero, suc, ◌+◌, ◌-◌}
use mathlib.Core.Path.{◌≡◌, refl, sym, ap, ◌∙◌}
use mathlib.Core.Bool.{Bool, true, false, cond, not, ◌&&◌}
use mathlib.Core.List.{List, [], ◌∷◌, ◌++◌, map}
use lib.ListN.{length, take}
use lib.Dec.{eqb, leb}
use Rattle.model.specs.Base.{same, every, joined}
use Rattle.model.specs.Node.{Node, EndedPending, placed_of}
use Rattle.model.specs.Bucket.{Bucket, nodes, num_entries, apply_pending}
use Rattle.model.specs.Table.{Table, Answer, write}
use Rattle.model.specs.Call.{Listing, Call}
use Rattle.model.specs.Listing.{item, apply_all, applied, visited, buckets_at, applied_pass, visit_order, applies, by_distance, shown, most, found}
use Rattle.model.specs.Step.{act}
use Rattle.model.specs.Fits.{All}
use Rattle.laws.proofs.All.{all_map}
use Rattle.laws.proofs.Applied.{apply_all_queue, apply_all_buckets}
use Rattle.laws.proofs.DistanceReads.{joined_all, found_reads}
use Rattle.laws.proofs.KeyReads.{with_buckets, Alike, SameBucket}

-- only the sizes of the buckets visited matter
pub visited_agree : (f g : ℕ → ℕ) (n : ℕ) (is : List ℕ) → All (λ (i : ℕ). g i ≡ f i) (visited f n is) → visited g n is ≡ visited f n is
unfolding visited
visited_agree f g n [] a = refl
visited_agree f g zero (i ∷ is) a = refl
visited_agree f g (suc n) (i ∷ is) a =
    ap (λ (k : ℕ). i ∷ visited g (suc n - k) is) a.0 ∙ ap (λ (r : List ℕ). i ∷ r) (visited_agree f g (suc n - f i) is a.1)

-- one bucket of the applying pass, with b for the bucket
abbrev pass_from : ℕ → ℕ → ℕ → ℕ → List ℕ → Table → Bucket → List ℕ
pass_from now n seen i is t b =
    let a = apply_pending t.settings.bucket now b in
    let yielded = not (eqb (length (placed_of a.1)) 0) in
    let seen' = seen + cond yielded (num_entries a.0) 0 in
    i ∷ cond (yielded && leb n seen') [] (applied_pass now n seen' is (write t i a.0 a.1))

-- another bucket i in both
written_same : (t : Table) (bs : ℕ → Bucket) (i : ℕ) (b : Bucket) (rs : List EndedPending) (is : List ℕ) → All (SameBucket t bs) is
    → All (SameBucket (write t i b rs) (write (with_buckets bs t) i b rs).buckets) is
written_same t bs i b rs is h =
    all_map (SameBucket t bs) (SameBucket (write t i b rs) (write (with_buckets bs t) i b rs).buckets) (λ j e. ap (λ (x : Bucket). cond (same j i) b x) e) is h

rest_same : (b : Bool) (xs ys : List ℕ) (P : ℕ → Type 0) → All P (cond b [] xs) → (All P xs → ys ≡ xs) → cond b [] ys ≡ cond b [] xs
rest_same true xs ys P h f = refl
rest_same false xs ys P h f = f h

pass_same : (now n seen : ℕ) (is : List ℕ) (t : Table) (bs : ℕ → Bucket) → All (SameBucket t bs) (applied_pass now n seen is t)
    → applied_pass now n seen is (with_buckets bs t) ≡ applied_pass now n seen is t
pass_same now n seen [] t bs h = refl
pass_same now n seen (i ∷ is) t bs h =
    let a : Bucket × List EndedPending = apply_pending t.settings.bucket now (t.buckets i) in
    let yielded : Bool = not (eqb (length (placed_of a.1)) 0) in
    let seen' : ℕ = seen + cond yielded (num_entries a.0) 0 in
    let t' : Table = write t i a.0 a.1 in
    ap (pass_from now n seen i is (with_buckets bs t)) h.0
    ∙ ap (λ (r : List ℕ). i ∷ r)
    (rest_same (yielded && leb n seen') (applied_pass now n seen' is t') (applied_pass now n seen' is (write (with_buckets bs t) i a.0 a.1)) (SameBucket t bs) h.1
    (λ k. pass_same now n seen' is t' (write (with_buckets bs t) i a.0 a.1).buckets (written_same t bs i a.0 a.1 (applied_pass now n seen' is t') k)))

-- the records that a visit gives, with b for the first bucket
abbrev records_from : ℕ → ℕ → List ℕ → Table → Bucket → List EndedPending
records_from now i is t b =
    let a = apply_pending t.settings.bucket now b in
    a.1 ++ (apply_all now is (write t i a.0 a.1)).1

records_same : (now : ℕ) (is : List ℕ) (t : Table) (bs : ℕ → Bucket) → All (SameBucket t bs) is → (apply_all now is (with_buckets bs t)).1 ≡ (apply_all now is t).1
records_same now [] t bs h = refl
records_same now (i ∷ is) t bs h =
    let a : Bucket × List EndedPending = apply_pending t.settings.bucket now (t.buckets i) in
    ap (records_from now i is (with_buckets bs t)) h.0
    ∙ ap (λ (r : List EndedPending). a.1 ++ r)
    (records_same now is (write t i a.0 a.1) (write (with_buckets bs t) i a.0 a.1).buckets (written_same t bs i a.0 a.1 is h.1))

module _ (t : Table) (bs : ℕ → Bucket) where
  abbrev u : Table
  u = with_buckets bs t

  sizes_same : (now : ℕ) (is : List ℕ) → All (SameBucket t bs) is → All (λ (i : ℕ). num_entries (applied now u i) ≡ num_entries (applied now t i)) is
  sizes_same now is h =
      all_map (SameBucket t bs) (λ (i : ℕ). num_entries (applied now u i) ≡ num_entries (applied now t i))
      (λ i e. ap (λ (b : Bucket). num_entries (apply_pending t.settings.bucket now b).0) e) is h

  visit_same : (now n : ℕ) (is : List ℕ) → All (SameBucket t bs) (visited (λ i. num_entries (applied now t i)) n is)
      → visited (λ i. num_entries (applied now u i)) n is ≡ visited (λ i. num_entries (applied now t i)) n is
  visit_same now n is h =
      visited_agree (λ i. num_entries (applied now t i)) (λ i. num_entries (applied now u i)) n is (sizes_same now (visited (λ i. num_entries (applied now t i)) n is) h)

  pub applies_same : (l : Listing) (n now : ℕ) → All (SameBucket t bs) (applies l n now t) → applies l n now u ≡ applies l n now t
  applies_same Listing.iter n now h = visit_same now n (visit_order Listing.iter t) h
  applies_same (Listing.nodes_by_distances ds) n now h = pass_same now n 0 (buckets_at ds) t bs h
  applies_same (Listing.closest_keys x) n now h = visit_same now n (visit_order (Listing.closest_keys x) t) h
  applies_same (Listing.closest_values x) n now h = visit_same now n (visit_order (Listing.closest_values x) t) h
  applies_same (Listing.closest_values_predicate x p) n now h = visit_same now n (visit_order (Listing.closest_values_predicate x p) t) h

  left_same : (now : ℕ) (is : List ℕ) (i : ℕ) → SameBucket t bs i → (apply_all now is u).0.buckets i ≡ (apply_all now is t).0.buckets i
  left_same now is i e =
      apply_all_buckets now is u i
      ∙ ap (λ (b : Bucket). cond (every (λ (j : ℕ). not (same i j)) is) b (apply_pending t.settings.bucket now b).0) e
      ∙ sym (apply_all_buckets now is t i)

  shown_at : (l : Listing) (n now i : ℕ) → applies l n now u ≡ applies l n now t → SameBucket t bs i → shown l n now u i ≡ shown l n now t i
  shown_at Listing.iter n now i f e = ap (λ (b : Bucket). nodes (apply_pending t.settings.bucket now b).0) e
  shown_at (Listing.nodes_by_distances ds) n now i f e =
      ap (λ (is : List ℕ). nodes ((apply_all now is u).0.buckets i)) f ∙ ap nodes (left_same now (applies (Listing.nodes_by_distances ds) n now t) i e)
  shown_at (Listing.closest_keys x) n now i f e = ap (λ (b : Bucket). by_distance x (apply_pending t.settings.bucket now b).0) e
  shown_at (Listing.closest_values x) n now i f e = ap (λ (b : Bucket). by_distance x (apply_pending t.settings.bucket now b).0) e
  shown_at (Listing.closest_values_predicate x p) n now i f e = ap (λ (b : Bucket). by_distance x (apply_pending t.settings.bucket now b).0) e

  module _ (l : Listing) (n now : ℕ) (h : All (SameBucket t bs) (applies l n now t)) where
    found_same : found l n now u ≡ found l n now t
    found_same =
        found_reads l n now u
        ∙ ap (λ (is : List ℕ). take (most l n) (joined (shown l n now u) is)) (applies_same l n now h)
        ∙ ap (take (most l n))
        (joined_all (shown l n now u) (shown l n now t) (applies l n now t)
        (all_map (SameBucket t bs) (λ (i : ℕ). shown l n now u i ≡ shown l n now t i) (λ i e. shown_at l n now i (applies_same l n now h) e) (applies l n now t) h))
        ∙ sym (found_reads l n now t)

    added_same : (apply_all now (applies l n now u) u).1 ≡ (apply_all now (applies l n now t) t).1
    added_same =
        ap (λ (is : List ℕ). (apply_all now is u).1) (applies_same l n now h) ∙ records_same now (applies l n now t) t bs h

    pub list_act_same : (out : List ℕ) → Alike (act (Call.list l n now out) u) (act (Call.list l n now out) t)
    unfolding act
    list_act_same out =
        record {
          answer = ap (λ (ns : List Node). Answer.Found (length ns)) found_same;
          queue =
              apply_all_queue now (applies l n now u) u
              ∙ ap (λ (rs : List EndedPending). t.queue ++ rs) added_same
              ∙ sym (apply_all_queue now (applies l n now t) t);
          records = added_same;
          items = ap (map (item l)) found_same;
        }
