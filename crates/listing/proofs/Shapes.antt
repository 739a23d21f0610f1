-- The listing of each shape: what it is asked, its order and what it shows.
use mathlib.Core.Path.{◌≡◌, refl, ◌∙◌}
use mathlib.Core.Bool.{and-true}
use mathlib.Core.List.{List}
use Prim.Native.Nat.{ℕ, ◌≤◌}
use native.Mathlib.Omega.{arith}
use lib.Dec.{eqb}
use lib.ListN.{length}
use Rattle.model.specs.Base.{every}
use Rattle.model.specs.Bytes.{number}
use Rattle.model.specs.Key.{distance}
use Rattle.model.specs.Node.{Node}
use Rattle.model.specs.Bucket.{Bucket, nodes, num_entries}
use Rattle.model.specs.Table.{Table}
use Rattle.model.specs.Sizes.{key_size}
use Rattle.model.specs.Call.{Listing}
use Rattle.model.specs.Listing.{applied, visited, item, visit_order, applies, shown, most, distance_to}
use Rattle.model.specs.Question.{targets, listing_codes, entry_size}
use Rattle.laws.proofs.Sort.{length_sort}
use Rattle.laws.proofs.BucketBytes.{length_nodes}
use Rattle.key.specs.declared.Key.{Key}
use Rattle.key.specs.Key.{num}
use Rattle.visit.specs.Passes.{held, Visitable}
use Rattle.visit.proofs.Visitable.{visitable_visits, visitable_in_turn}
use Rattle.items.specs.declared.Form.{Form}
use Rattle.items.specs.declared.Shape.{Shape}
use Rattle.items.specs.Shape.{form_codes, closest_item, closest_size, item_by, size_by, shown_by}
use Rattle.listing.specs.Listed.{closest_listing, visit_order_by}

-- what a closest listing is asked of target and codes
pub closest_keys : (f : Form) (target : List ℕ) → every (λ (k : List ℕ). eqb (length k) key_size) (targets (closest_listing f target)) ≡ eqb (length target) key_size
closest_keys Form.Key target = and-true (eqb (length target) key_size)
closest_keys Form.ClosestValue target = and-true (eqb (length target) key_size)
closest_keys (Form.PredicateValue p) target = and-true (eqb (length target) key_size)

pub closest_codes : (f : Form) (target : List ℕ) → listing_codes (closest_listing f target) ≡ form_codes f
closest_codes Form.Key target = refl
closest_codes Form.ClosestValue target = refl
closest_codes (Form.PredicateValue p) target = refl

-- what a listing visits and gives, and how large its entries are
pub record Gives (x : Shape) (t : Table) (n now : ℕ) (l : Listing) : Type 0 where
  pub size : entry_size l ≡ size_by x
  pub most : most l n ≡ n
  pub order : visit_order l t ≡ visit_order_by x t
  pub applies : applies l n now t ≡ visited (held now t) n (visit_order_by x t)
  pub shown : (i : ℕ) → shown l n now t i ≡ shown_by x (applied now t i)
  pub item : (m : Node) → item l m ≡ item_by x m

pub iter_gives : (t : Table) (n now : ℕ) → Gives Shape.Nodes t n now Listing.iter
unfolding visit_order_by shown_by item_by size_by
iter_gives t n now = record { size = refl; most = refl; order = refl; applies = refl; shown = λ i. refl; item = λ m. refl }

pub closest_gives : (f : Form) (target : List ℕ) (k : Key) → num k ≡ number target → (t : Table) (n now : ℕ) → Gives (Shape.Closest k f) t n now (closest_listing f target)
unfolding visit_order_by shown_by item_by size_by closest_item closest_size
closest_gives Form.Key target k e t n now = record { size = refl; most = refl; order = rw e; applies = rw e; shown = λ i. rw e; item = λ m. refl }
closest_gives Form.ClosestValue target k e t n now = record { size = refl; most = refl; order = rw e; applies = rw e; shown = λ i. rw e; item = λ m. refl }
closest_gives (Form.PredicateValue p) target k e t n now = record { size = refl; most = refl; order = rw e; applies = rw e; shown = λ i. rw e; item = λ m. refl }

pub visitable_by : (x : Shape) (t : Table) → Visitable (visit_order_by x t)
unfolding visit_order_by
visitable_by Shape.Nodes t = visitable_in_turn
visitable_by (Shape.Closest k f) t = visitable_visits (distance t.settings.local_key (num k))

pub length_shown : (x : Shape) (b : Bucket) → length (shown_by x b) ≡ num_entries b
unfolding shown_by
length_shown Shape.Nodes b = length_nodes b
length_shown (Shape.Closest k f) b = length_sort (distance_to (num k)) (nodes b) ∙ length_nodes b

pub size_most : (x : Shape) → size_by x ≤ 64
unfolding size_by closest_size
size_most Shape.Nodes = omega arith
size_most (Shape.Closest k Form.Key) = omega arith
size_most (Shape.Closest k Form.ClosestValue) = omega arith
size_most (Shape.Closest k (Form.PredicateValue p)) = omega arith
