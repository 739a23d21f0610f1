-- The buckets that a call touches are buckets of the table.
use Prim.Native.Nat.{ℕ, zero, suc, ◌+◌, ◌-◌, ◌≤◌, ◌<◌}
use native.Mathlib.Omega.{arith}
use mathlib.Core.Path.{◌≡◌, refl, ◌∙◌, subst}
use mathlib.Core.Bool.{Bool, true, cond, not, ◌&&◌, and-true}
use mathlib.Core.List.{List, [], ◌∷◌}
use mathlib.Core.Option.{Option, none, some}
use lib.ListN.{length}
use lib.Dec.{leb, eqb}
use borrow.Author.Tests.{leb-true}
use Rattle.model.specs.Base.{every, joined, tabulate, all_below}
use Rattle.model.specs.Bytes.{number}
use Rattle.model.specs.Bucket.{Bucket, num_entries, apply_pending}
use Rattle.model.specs.Node.{EndedPending, placed_of}
use Rattle.model.specs.Table.{Table, num_buckets, write, index_in}
use Rattle.model.specs.Call.{Listing, Call, KeyCall}
use Rattle.model.specs.Listing.{applied, visited, indices, index_at, buckets_at, applied_pass, applies}
use Rattle.model.specs.StepBytes.{every_bucket, filtered, runs_filter, key_reads, reads, bucket_of_key, touched}
use Rattle.model.specs.Formed.{header_formed, bucket_formed_at, buckets_formed, formed}
use Rattle.model.specs.Fits.{All}
use Rattle.laws.proofs.Tests.{cases, and_left, and_right}
use Rattle.laws.proofs.Lists.{length_tabulate, get_d_tabulate, every_append}
use Rattle.laws.proofs.Visits.{visits_below}
use Rattle.laws.proofs.KeepStep.{bucket_index_below}
use Rattle.laws.proofs.All.{all_append, all_get_d, all_tabulate}

abbrev pub Below : List ℕ → Type 0
Below = All (λ (i : ℕ). i < num_buckets)

-- what holds of all buckets holds of each
pub every_bucket_lem : (P : ℕ → Type 0) → All P every_bucket → (i : ℕ) → i < num_buckets → P i
every_bucket_lem P a i m = subst P (get_d_tabulate num_buckets (λ j. j) i 0 m) (all_get_d P every_bucket i 0 a (rw length_tabulate m))

-- every bucket, as a list and by its number
every_tabulated : (f : ℕ → Bool) (n : ℕ) → every f (tabulate n (λ i. i)) ≡ all_below n f
unfolding tabulate all_below
every_tabulated f zero = refl
every_tabulated f (suc n) = every_append f (tabulate n (λ i. i)) (n ∷ []) ∙ rw (every_tabulated f n, and-true)

pub every_formed : (s : List ℕ) → buckets_formed s every_bucket ≡ all_below num_buckets (bucket_formed_at s)
every_formed s = every_tabulated (bucket_formed_at s) num_buckets

-- a table whose settings, queue and every bucket pass question 2
pub whole_formed : (s : List ℕ) → header_formed s ≡ true → buckets_formed s every_bucket ≡ true → formed s ≡ true
unfolding formed
whole_formed s h b = rw (h, ← every_formed s, b)

pub all_visited : (P : ℕ → Type 0) (size : ℕ → ℕ) (n : ℕ) (is : List ℕ) → All P is → All P (visited size n is)
unfolding visited
all_visited P size n [] h = tt
all_visited P size zero (i ∷ is) h = tt
all_visited P size (suc n) (i ∷ is) h = (h.0, all_visited P size (suc n - size i) is h.1)

pub pass_below : (now n seen : ℕ) (is : List ℕ) (t : Table) → Below is → Below (applied_pass now n seen is t)
pass_below now n seen [] t h = tt
pass_below now n seen (i ∷ is) t h =
    let a : Bucket × List EndedPending = apply_pending t.settings.bucket now (t.buckets i) in
    let yielded : Bool = not (eqb (length (placed_of a.1)) 0) in
    let seen' : ℕ = seen + cond yielded (num_entries a.0) 0 in
    (h.0, cases Below (yielded && leb n seen') (λ _. tt) (λ _. pass_below now n seen' is (write t i a.0 a.1) h.1))

index_below : (o : Option ℕ) → ((i : ℕ) → o ≡ some i → i < num_buckets) → Below (indices o)
index_below none h = tt
index_below (some i) h = (h i refl, tt)

-- the distance that an index has
pub record Distance (d i : ℕ) : Type 0 where
  pub more : d ≡ i + 1
  pub below : i < num_buckets

pub distance_of : (d i : ℕ) → index_at d ≡ some i → Distance d i
unfolding index_at
distance_of d i =
    cases (λ (o : Option ℕ). o ≡ some i → Distance d i) (leb 1 d && leb d num_buckets)
    (λ e f.
    let a : 1 ≤ d = leb-true 1 d (and_left (leb 1 d) _ e) in
    let b : d ≤ num_buckets = leb-true d num_buckets (and_right (leb 1 d) _ e) in
    let g : d - 1 ≡ i = cc in
    record { more = omega arith; below = omega arith })
    (λ e f. let z : ◌≡◌ {A = ℕ} 0 1 = cc in absurd (omega arith))

pub distances_below : (ds : List ℕ) → Below (buckets_at ds)
unfolding joined
distances_below [] = tt
distances_below (d ∷ ds) =
    all_append (λ (i : ℕ). i < num_buckets) (indices (index_at d)) (buckets_at ds) (index_below (index_at d) (λ i e. (distance_of d i e).below)) (distances_below ds)

pub applies_below : (l : Listing) (n now : ℕ) (t : Table) → Below (applies l n now t)
applies_below Listing.iter n now t = all_visited (λ (i : ℕ). i < num_buckets) (λ i. num_entries (applied now t i)) n _ (all_tabulate (λ (i : ℕ). i < num_buckets) num_buckets (λ i. i) (λ i m. m))
applies_below (Listing.nodes_by_distances ds) n now t = pass_below now n 0 (buckets_at ds) t (distances_below ds)
applies_below (Listing.closest_keys x) n now t = all_visited (λ (i : ℕ). i < num_buckets) (λ i. num_entries (applied now t i)) n _ (visits_below _)
applies_below (Listing.closest_values x) n now t = all_visited (λ (i : ℕ). i < num_buckets) (λ i. num_entries (applied now t i)) n _ (visits_below _)
applies_below (Listing.closest_values_predicate x p) n now t = all_visited (λ (i : ℕ). i < num_buckets) (λ i. num_entries (applied now t i)) n _ (visits_below _)

key_below : (k : List ℕ) (t : Table) → Below (bucket_of_key k t)
key_below k t = index_below (index_in t (number k)) (λ i e. bucket_index_below t.settings.local_key (number k) i e)

pub touched_below : (c : Call) (t : Table) → Below (touched c t)
touched_below (Call.new k timeout m tf bf) t = all_tabulate (λ (i : ℕ). i < num_buckets) num_buckets (λ i. i) (λ i m. m)
touched_below (Call.on_key k c) t = key_below k t
touched_below (Call.list l n now out) t = applies_below l n now t
touched_below Call.take_applied_pending t = tt
touched_below (Call.read bs) t = all_tabulate (λ (i : ℕ). i < num_buckets) num_buckets (λ i. i) (λ i m. m)

filter_below : (b : Bool) (i : ℕ) → i < num_buckets → Below (cond b every_bucket (i ∷ []))
filter_below b i l = cases Below b (λ _. all_tabulate (λ (i : ℕ). i < num_buckets) num_buckets (λ i. i) (λ i m. m)) (λ _. (l, tt))

key_reads_below : (c : KeyCall) (k : ℕ) (t : Table) (o : Option ℕ) → ((i : ℕ) → o ≡ some i → i < num_buckets) → Below (key_reads c k t o)
key_reads_below c k t none h = tt
key_reads_below c k t (some i) h = filter_below (runs_filter t i k (filtered c)) i (h i refl)

pub reads_below : (c : Call) (t : Table) → Below (reads c t)
reads_below (Call.new k timeout m tf bf) t = tt
reads_below (Call.on_key k c) t = key_reads_below c (number k) t (index_in t (number k)) (λ i e. bucket_index_below t.settings.local_key (number k) i e)
reads_below (Call.list l n now out) t = applies_below l n now t
reads_below Call.take_applied_pending t = tt
reads_below (Call.read bs) t = all_tabulate (λ (i : ℕ). i < num_buckets) num_buckets (λ i. i) (λ i m. m)
