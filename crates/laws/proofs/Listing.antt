-- A listing's items lie in the buckets that it visits, so that it reads no other.
use mathlib.Core.Path.{◌≡◌, refl, sym, ap, ◌∙◌}
use mathlib.Core.List.{List, [], ◌∷◌, ◌++◌}
use Prim.Native.Nat.{ℕ, zero, suc, ◌-◌, ◌≤◌}
use native.Mathlib.Omega.{arith}
use lib.ListN.{length, take}
use Rattle.model.specs.Base.{joined}
use Rattle.model.specs.Bytes.{number}
use Rattle.model.specs.Key.{distance}
use Rattle.model.specs.Node.{Node}
use Rattle.model.specs.Bucket.{Bucket, nodes, num_entries}
use Rattle.model.specs.Table.{Table}
use Rattle.model.specs.Call.{Listing, PredicateArgument}
use Rattle.model.specs.Listing.{applied, visited, visit_order, applies, by_distance, shown, most, found}
use Rattle.model.specs.Question.{max_count}
use Rattle.laws.proofs.Join.{take_append}
use Rattle.laws.proofs.Sort.{length_sort}
use Rattle.laws.proofs.BucketBytes.{length_nodes}

-- the first n items of the buckets visited are the first n of all
pub visited_enough : {A : Type 0} (g : ℕ → List A) (size : ℕ → ℕ) → ((i : ℕ) → size i ≡ length (g i))
    → (n : ℕ) (is : List ℕ) → take n (joined g (visited size n is)) ≡ take n (joined g is)
unfolding visited joined
visited_enough g size e n [] = refl
visited_enough g size e zero (i ∷ is) = refl
visited_enough {A} g size e (suc n) (i ∷ is) =
    take_append (suc n) (g i) (joined g (visited size (suc n - size i) is))
    ∙ ap (λ (k : ℕ). take (suc n) (g i) ++ take k (joined g (visited size (suc n - size i) is))) (ap (λ (k : ℕ). suc n - k) (sym (e i)))
    ∙ ap (λ (l : List A). take (suc n) (g i) ++ l) (visited_enough g size e (suc n - size i) is)
    ∙ ap (λ (k : ℕ). take (suc n) (g i) ++ take k (joined g is)) (ap (λ (k : ℕ). suc n - k) (e i))
    ∙ sym (take_append (suc n) (g i) (joined g is))

pub length_by_distance : (x : List ℕ) (b : Bucket) → length (by_distance x b) ≡ num_entries b
length_by_distance x b = length_sort (λ (n : Node). distance (number x) n.key) (nodes b) ∙ length_nodes b

-- `iter` and the closest calls list from the buckets in which they apply the pending
pub iter_reads : (n now : ℕ) (t : Table)
    → found Listing.iter n now t ≡ take n (joined (shown Listing.iter n now t) (applies Listing.iter n now t))
unfolding found
iter_reads n now t =
    sym (visited_enough (shown Listing.iter n now t) (λ i. num_entries (applied now t i)) (λ i. sym (length_nodes (applied now t i))) n (visit_order Listing.iter t))

closest_reads : (x : List ℕ) (n now : ℕ) (t : Table) (is : List ℕ)
    → take n (joined (λ i. by_distance x (applied now t i)) is)
    ≡ take n (joined (λ i. by_distance x (applied now t i)) (visited (λ i. num_entries (applied now t i)) n is))
closest_reads x n now t is =
    sym (visited_enough (λ i. by_distance x (applied now t i)) (λ i. num_entries (applied now t i)) (λ i. sym (length_by_distance x (applied now t i))) n is)

pub keys_reads : (x : List ℕ) (n now : ℕ) (t : Table) → (let l = Listing.closest_keys x in found l n now t ≡ take n (joined (shown l n now t) (applies l n now t)))
unfolding found
keys_reads x n now t = closest_reads x n now t (visit_order (Listing.closest_keys x) t)

pub values_reads : (x : List ℕ) (n now : ℕ) (t : Table)
    → (let l = Listing.closest_values x in found l n now t ≡ take n (joined (shown l n now t) (applies l n now t)))
unfolding found
values_reads x n now t = closest_reads x n now t (visit_order (Listing.closest_values x) t)

pub predicate_reads : (x : List ℕ) (p : PredicateArgument) (n now : ℕ) (t : Table)
    → (let l = Listing.closest_values_predicate x p in found l n now t ≡ take n (joined (shown l n now t) (applies l n now t)))
unfolding found
predicate_reads x p n now t = closest_reads x n now t (visit_order (Listing.closest_values_predicate x p) t)

-- a count that is allowed stays so
pub most_few : (l : Listing) (n : ℕ) → n ≤ max_count → most l n ≤ max_count
most_few Listing.iter n h = h
most_few (Listing.nodes_by_distances ds) zero h = omega arith
most_few (Listing.nodes_by_distances ds) (suc n) h = h
most_few (Listing.closest_keys x) n h = h
most_few (Listing.closest_values x) n h = h
most_few (Listing.closest_values_predicate x p) n h = h
