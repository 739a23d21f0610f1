-- The passes of nodes_by_distances (01, "kbucket.rs (871)"), distance by distance.
use Rattle.std.specs.Prelude.{ℕ, ◌≤◌, ◌≡◌, Bool, true, false, cond, not, List, [], length, take, eqb, Result, Ok, Err}
use Rattle.std.proofs.Math.Option.{Option, none, some}
use Rattle.model.specs.Base.{joined}
use Rattle.model.specs.Node.{Node, EndedPending, placed_of}
use Rattle.model.specs.Bucket.{max_nodes_per_bucket, nodes, num_entries, apply_pending}
use Rattle.model.specs.Table.{Table}
use Rattle.model.specs.Layout.{table_of}
use Rattle.model.specs.Formed.{buckets_formed}
use Rattle.model.specs.Listing.{apply_all, applied, applied_pass, indices, buckets_at}
use Rattle.node.specs.declared.Refusal.{Refusal}
use Rattle.visit.specs.declared.Given.{Given}
use Rattle.visit.specs.Passes.{visit_one}
use Rattle.distances.specs.declared.pass.Tally.{Tally}

-- the records that the bucket gives, and what it holds if it gives that of a placed pending
abbrev pub records_at : ℕ → Table → Option ℕ → List EndedPending
records_at now t none = []
records_at now t (some i) = (apply_pending t.settings.bucket now (t.buckets i)).1

abbrev pub yields : ℕ → Table → Option ℕ → Bool
yields now t o = not (eqb (length (placed_of (records_at now t o))) 0)

abbrev pub held_at : ℕ → Table → Option ℕ → ℕ
held_at now t none = 0
held_at now t (some i) = cond (yields now t (some i)) (num_entries (applied now t i)) 0

pub record Yields (now : ℕ) (t : Table) (o : Option ℕ) (g : Given) : Type 0 where
  pub records : g.records ≡ length (records_at now t o)
  pub placed : g.placed ≡ yields now t o
  pub held : g.count ≡ held_at now t o
  pub one : g.records ≤ 1
  pub few : g.count ≤ max_nodes_per_bucket

-- the table once the bucket has been visited
abbrev pub next_table : ℕ → Table → Option ℕ → Table
next_table now t none = t
next_table now t (some i) = visit_one now i t

-- the table once the buckets at the distances have been visited
unfoldable pub table_after : ℕ → List ℕ → Table → Table
table_after now ds t = (apply_all now (buckets_at ds) t).0

-- 02, slip 7: question 2 of the bucket, and where it passes what it gives, those at the distances before it being visited
abbrev pub Asked : ℕ → List ℕ → Option ℕ → List ℕ → Result Given Refusal → Type 0
Asked now before o s (Ok g) = (buckets_formed s (indices o) ≡ true) × Yields now (table_after now before (table_of s)) o g
Asked now before o s (Err r) = (buckets_formed s (indices o) ≡ false) × (r ≡ Refusal.Form)

-- the applying pass: the table that it leaves, and its records. seen: what the buckets that yielded the record of a placed pending hold so
-- far.
unfoldable pub distance_pass : ℕ → ℕ → ℕ → List ℕ → Table → Table × List EndedPending
distance_pass now n seen ds t = apply_all now (applied_pass now n seen (buckets_at ds) t) t

-- the buckets of the pass
abbrev pub passed : ℕ → ℕ → List ℕ → Table → List ℕ
passed now n ds t = applied_pass now n 0 (buckets_at ds) t

-- the pass takes these distances, the first of those given, and gives so many records
pub record Taken (now n : ℕ) (ds : List ℕ) (t : Table) (taken : List ℕ) (records : ℕ) : Type 0 where
  pub within : length taken ≤ length ds
  pub first : taken ≡ take (length taken) ds
  pub buckets : buckets_at taken ≡ passed now n ds t
  pub given : records ≡ length (distance_pass now n 0 ds t).1

-- 02, slip 7: question 2 of the buckets of the pass, and where it passes how far the pass goes
pub record Told (now n : ℕ) (ds s : List ℕ) (y : Tally) : Type 0 where
  pub formed : buckets_formed s (passed now n ds (table_of s)) ≡ true
  pub pass : Taken now n ds (table_of s) y.taken.now y.records

abbrev pub Surveyed : ℕ → ℕ → List ℕ → List ℕ → Result Tally Refusal → Type 0
Surveyed now n ds s (Ok y) = Told now n ds s y
Surveyed now n ds s (Err r) = (buckets_formed s (passed now n ds (table_of s)) ≡ false) × (r ≡ Refusal.Form)

-- the first n nodes of the buckets named
unfoldable pub listed_nodes : Table → ℕ → List ℕ → List Node
listed_nodes t n ds = take n (joined (λ i. nodes (t.buckets i)) (buckets_at ds))
