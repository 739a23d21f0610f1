-- The visit of the buckets: the pendings that are due, the records that the buckets give, and the table that is left.
use Rattle.std.specs.Prelude.{ℕ, ◌+◌, ◌-◌, ◌≤◌, ◌<◌, ◌≡◌, Bool, true, false, cond, not, ◌&&◌, ◌||◌, List, [], ◌∷◌, length, drop, eqb, Result, Ok, Err}
use Rattle.std.specs.Coded.{×_prop, Unit-prop, le_prop}
use Rattle.std.proofs.Math.Nat.{ℕ_set}
use Rattle.model.specs.Base.{tabulate}
use Rattle.model.specs.Node.{EndedPending, placed_of}
use Rattle.model.specs.Bucket.{num_entries, apply_pending}
use Rattle.model.specs.Table.{Table, num_buckets, write}
use Rattle.model.specs.Listing.{applied, apply_all, visited}
use Rattle.model.specs.Layout.{table_of}
use Rattle.model.specs.Formed.{buckets_formed}
use Rattle.model.specs.StepBytes.{restore}
use Rattle.model.specs.Fits.{All}
use Rattle.key.specs.Visits.{remaining}
use Rattle.node.specs.declared.Refusal.{Refusal}
use Rattle.visit.specs.declared.Counted.{Counted}
use Rattle.visit.specs.declared.Given.{Given}
use Rattle.visit.specs.declared.Order.{Order}
use Rattle.visit.specs.declared.Tally.{Tally}

-- the nodes that bucket i holds once its due pending is applied, and the records that it gives then
abbrev pub held : ℕ → Table → ℕ → ℕ
held now t i = num_entries (applied now t i)

abbrev pub records : ℕ → Table → ℕ → ℕ
records now t i = length (apply_pending t.settings.bucket now (t.buckets i)).1

-- 02, slip 4: whether one is that of a placed pending
abbrev pub placed : ℕ → Table → ℕ → Bool
placed now t i = not (eqb (length (placed_of (apply_pending t.settings.bucket now (t.buckets i)).1)) 0)

pub record GivenAt (now : ℕ) (t : Table) (i : ℕ) (g : Given) : Type 0 where
  pub count : g.count ≡ held now t i
  pub records : g.records ≡ records now t i
  pub placed : g.placed ≡ placed now t i
  pub one : g.records ≤ 1

-- the records that the buckets give, each by itself; bucket 0 gives none the second time
unfoldable pub records_given : (ℕ → ℕ) → Bool → List ℕ → ℕ
records_given f seen [] = 0
records_given f seen (i ∷ is) = cond (seen && eqb i 0) 0 (f i) + records_given f (seen || eqb i 0) is

-- one bucket further
pub record CountedAt (now : ℕ) (t : Table) (i : ℕ) (before after : Counted) : Type 0 where
  pub left : after.left ≡ before.left - held now t i
  pub zero : after.zero ≡ (before.zero || eqb i 0)
  pub records : after.records ≡ before.records + cond (before.zero && eqb i 0) 0 (records now t i)
  pub one : after.records ≤ before.records + 1

-- the table once bucket i has been visited
abbrev pub visit_one : ℕ → ℕ → Table → Table
visit_one now i t = let a = apply_pending t.settings.bucket now (t.buckets i) in write t i a.0 a.1

-- the buckets that yield n nodes
abbrev pub visited_by : ℕ → ℕ → List ℕ → Table → List ℕ
visited_by now n is t = visited (held now t) n is

-- the table and the records once they have been visited
unfoldable pub visit_all : ℕ → ℕ → List ℕ → Table → Table × List EndedPending
visit_all now n is t = apply_all now (visited_by now n is t) t

-- the storage with the due pendings of the buckets named applied
unfoldable pub applied_in : List ℕ → ℕ → List ℕ → List ℕ
applied_in s now is = restore s is (apply_all now is (table_of s)).0

-- of n items, those that the buckets leave to find; size i: the items of bucket i
unfoldable pub left_of : (ℕ → ℕ) → ℕ → List ℕ → ℕ
left_of size n [] = n
left_of size n (i ∷ is) = left_of size (n - size i) is

-- 02, slip 7: question 2 of the buckets that yield n nodes; where it passes, the records that they give and how many nodes they hold, up
-- to n
pub record Told (now n : ℕ) (is : List ℕ) (s : List ℕ) (y : Tally) : Type 0 where
  pub formed : buckets_formed s (visited_by now n is (table_of s)) ≡ true
  pub records : y.records ≡ length (visit_all now n is (table_of s)).1
  pub count : y.count ≡ n - left_of (held now (table_of s)) n is

abbrev pub Surveyed : ℕ → ℕ → List ℕ → List ℕ → Result Tally Refusal → Type 0
Surveyed now n is s (Ok y) = Told now n is s y
Surveyed now n is s (Err r) = (buckets_formed s (visited_by now n is (table_of s)) ≡ false) × (r ≡ Refusal.Form)

-- no bucket but bucket 0 stands twice
abbrev pub Once : List ℕ → Type 0
Once [] = Unit {0}
Once (i ∷ is) = All (λ (j : ℕ). j ≡ i → i ≡ 0) is × Once is

-- the buckets of an order
abbrev pub buckets_of : Order → List ℕ
buckets_of (Order.InTurn i) = drop i (tabulate num_buckets (λ j. j))
buckets_of (Order.Nearest it) = remaining it

-- buckets of the table, in an order in which they may be visited
pub record Visitable (is : List ℕ) : Type 0 where
  pub below : All (λ (i : ℕ). i < num_buckets) is
  pub once : Once is
  pub short : length is ≤ num_buckets + num_buckets

-- two proofs of it are equal
all_prop : {P : ℕ → Type 0} → ((i : ℕ) → IsProp (P i)) → (is : List ℕ) → IsProp (All P is)
all_prop h [] = Unit-prop
all_prop h (i ∷ is) = ×_prop (h i) (all_prop h is)

once_prop : (is : List ℕ) → IsProp (Once is)
once_prop [] = Unit-prop
once_prop (i ∷ is) = ×_prop (all_prop (λ j. Prim.hlevel ℕ_set) is) (once_prop is)

pub visitable_prop : (is : List ℕ) → IsProp (Visitable is)
visitable_prop is x y i =
    record { below = all_prop (λ j. le_prop) is x.below y.below i; once = once_prop is x.once y.once i; short = le_prop x.short y.short i }
