-- What the listings visit and give (01, Iterators, and "kbucket.rs (871)").
use Rattle.std.specs.Prelude.{ℕ, zero, suc, ◌+◌, ◌-◌, Bool, cond, not, ◌&&◌, List, [], ◌∷◌, ◌++◌, length, take, leb, eqb}
use Rattle.std.proofs.Math.Option.{Option, none, some}
use Rattle.model.specs.Base.{joined, tabulate}
use Rattle.model.specs.Bytes.{number}
use Rattle.model.specs.Key.{distance}
use Rattle.model.specs.Value.{Value}
use Rattle.model.specs.Node.{Node, EndedPending, placed_of}
use Rattle.model.specs.Bucket.{Bucket, nodes, num_entries, apply_pending}
use Rattle.model.specs.Table.{Table, num_buckets, write}
use Rattle.model.specs.Sort.{sort_by}
use Rattle.model.specs.Visit.{visits}
use Rattle.model.specs.Call.{Listing, matches}

-- what a listing gives of a node: the node; its key; key and value; key, match and value
pub data Item : Type 0 where
  Entry : Node → Item
  Key : ℕ → Item
  ClosestValue : (key : ℕ) (value : Value) → Item
  PredicateValue : (key : ℕ) (predicateMatch : Bool) (value : Value) → Item

abbrev pub item : Listing → Node → Item
item Listing.iter n = Item.Entry n
item (Listing.nodes_by_distances ds) n = Item.Entry n
item (Listing.closest_keys x) n = Item.Key n.key
item (Listing.closest_values x) n = Item.ClosestValue n.key n.value
item (Listing.closest_values_predicate x p) n = Item.PredicateValue n.key (matches p n.value) n.value

-- the due pendings of the buckets named are applied, one bucket after the other
abbrev pub apply_all : ℕ → List ℕ → Table → Table × List EndedPending
apply_all now [] t = (t, [])
apply_all now (i ∷ is) t =
    let a = apply_pending t.settings.bucket now (t.buckets i) in
    let r = apply_all now is (write t i a.0 a.1) in
    (r.0, a.1 ++ r.1)

-- a bucket as it stands once its due pending is applied; applying it again, as at bucket 0's second visit, changes nothing
abbrev pub applied : ℕ → Table → ℕ → Bucket
applied now t i = (apply_pending t.settings.bucket now (t.buckets i)).0

-- 01, Iterators: no further bucket is visited after the n-th item; n = 0 visits none. size i: the items of bucket i.
unfoldable pub visited : (ℕ → ℕ) → ℕ → List ℕ → List ℕ
visited size n [] = []
visited size zero (i ∷ is) = []
visited size (suc n) (i ∷ is) = i ∷ visited size (suc n - size i) is

-- 01, nodes_by_distances: distances outside 1 to 256 are dropped
unfoldable pub index_at : ℕ → Option ℕ
index_at d = cond (leb 1 d && leb d num_buckets) (some (d - 1)) none

-- the bucket, if there is one
abbrev pub indices : Option ℕ → List ℕ
indices none = []
indices (some i) = i ∷ []

abbrev pub buckets_at : List ℕ → List ℕ
buckets_at = joined (λ d. indices (index_at d))

-- 01, nodes_by_distances: the applying pass counts only buckets that yielded a record and stops after a record at which they hold n
-- or more. 02, slip 4: the record of a pending that was placed. seen: what they hold so far.
abbrev pub applied_pass : ℕ → ℕ → ℕ → List ℕ → Table → List ℕ
applied_pass now n seen [] t = []
applied_pass now n seen (i ∷ is) t =
    let a = apply_pending t.settings.bucket now (t.buckets i) in
    let yielded = not (eqb (length (placed_of a.1)) 0) in
    let seen' = seen + cond yielded (num_entries a.0) 0 in
    i ∷ cond (yielded && leb n seen') [] (applied_pass now n seen' is (write t i a.0 a.1))

-- the order of the buckets
abbrev pub visit_order : Listing → Table → List ℕ
visit_order Listing.iter t = tabulate num_buckets (λ i. i)
visit_order (Listing.nodes_by_distances ds) t = buckets_at ds
visit_order (Listing.closest_keys x) t = visits (distance t.settings.local_key (number x))
visit_order (Listing.closest_values x) t = visits (distance t.settings.local_key (number x))
visit_order (Listing.closest_values_predicate x p) t = visits (distance t.settings.local_key (number x))

-- the buckets whose due pending is applied, in turn
abbrev pub applies : Listing → ℕ → ℕ → Table → List ℕ
applies Listing.iter n now t = visited (λ i. num_entries (applied now t i)) n (visit_order Listing.iter t)
applies (Listing.nodes_by_distances ds) n now t = applied_pass now n 0 (buckets_at ds) t
applies (Listing.closest_keys x) n now t = visited (λ i. num_entries (applied now t i)) n (visit_order (Listing.closest_keys x) t)
applies (Listing.closest_values x) n now t = visited (λ i. num_entries (applied now t i)) n (visit_order (Listing.closest_values x) t)
applies (Listing.closest_values_predicate x p) n now t = visited (λ i. num_entries (applied now t i)) n (visit_order (Listing.closest_values_predicate x p) t)

-- how far a node is from x
abbrev pub distance_to : ℕ → Node → ℕ
distance_to x n = distance x n.key

-- the nodes of a bucket nearest to the target first
abbrev pub by_distance : List ℕ → Bucket → List Node
by_distance x b = sort_by (distance_to (number x)) (nodes b)

-- the nodes that a listing reads in bucket i, in its order: each bucket in stored order, or nearest to the target first
abbrev pub shown : Listing → ℕ → ℕ → Table → ℕ → List Node
shown Listing.iter n now t i = nodes (applied now t i)
shown (Listing.nodes_by_distances ds) n now t i = nodes ((apply_all now (applies (Listing.nodes_by_distances ds) n now t) t).0.buckets i)
shown (Listing.closest_keys x) n now t i = by_distance x (applied now t i)
shown (Listing.closest_values x) n now t i = by_distance x (applied now t i)
shown (Listing.closest_values_predicate x p) n now t i = by_distance x (applied now t i)

abbrev pub at_least_one : ℕ → ℕ
at_least_one zero = 1
at_least_one (suc n) = suc n

-- 01, nodes_by_distances: n = 0 still gives one node
abbrev pub most : Listing → ℕ → ℕ
most Listing.iter n = n
most (Listing.nodes_by_distances ds) n = at_least_one n
most (Listing.closest_keys x) n = n
most (Listing.closest_values x) n = n
most (Listing.closest_values_predicate x p) n = n

-- the nodes listed: the buckets in their order, cut at n; buckets past those applied add nothing, since these already give n.
-- Proved in crates/laws, DistanceReads, found_reads.
unfoldable pub found : Listing → ℕ → ℕ → Table → List Node
found l n now t = take (most l n) (joined (shown l n now t) (visit_order l t))
