-- The table filter, by what it has asked and tested in turn.
use Prim.Native.Nat.{ℕ}
use mathlib.Core.Path.{◌≡◌, sym, ap, ◌∙◌}
use mathlib.Core.Bool.{Bool, true, false, cond, ◌&&◌}
use mathlib.Core.List.{List, [], ◌∷◌}
use Rattle.std.specs.Prelude.{Result, Ok, Err}
use Rattle.model.specs.Value.{Value}
use Rattle.model.specs.Filter.{max_nodes_per_subnet_table, ip_filter_fails}
use Rattle.model.specs.Bucket.{get}
use Rattle.model.specs.Table.{Table, is_duplicate, filter_runs, other_nodes, fails_table_filter}
use Rattle.model.specs.Layout.{table_of}
use Rattle.model.specs.Formed.{header_formed, bucket_formed_at, buckets_formed, formed}
use Rattle.model.specs.StepBytes.{every_bucket}
use Rattle.laws.proofs.Tests.{and_left}
use Rattle.laws.proofs.Touched.{whole_formed}
use Rattle.node.specs.declared.Refusal.{Refusal}
use Rattle.table_filter.specs.Filtered.{Walked, AskedFilter}

module _ (s : List ℕ) (i k : ℕ) (v : Value) where
  abbrev t : Table
  t = table_of s

  abbrev read : Bool → Bool
  read runs = buckets_formed s (cond runs every_bucket (i ∷ []))

  -- it is off or skipped: the key's own bucket was asked before
  pub not_run : bucket_formed_at s i ≡ true → filter_runs t i k v ≡ false → AskedFilter s i k v (Ok false)
  unfolding fails_table_filter
  not_run b r = (ap read r ∙ rw b, sym (ap (λ (x : Bool). x && ip_filter_fails max_nodes_per_subnet_table v (other_nodes k t.buckets)) r))

  -- it runs
  module _ (a : t.settings.table_filter ≡ true) (d : is_duplicate v (get k (t.buckets i)) ≡ false) where
    runs : filter_runs t i k v ≡ true
    runs = rw (a, d)

    pub is_run : (r : Result Bool Refusal) → Walked s k v r → AskedFilter s i k v r
    unfolding fails_table_filter
    is_run (Ok fails) w = (ap read runs ∙ w.0, rw (a, d) w.1)
    is_run (Err r) w = (ap read runs ∙ w.0, w.1)

  -- a value that fails has had the whole table asked
  pub failed_formed : (fails : Bool) → AskedFilter s i k v (Ok fails) → fails ≡ true → header_formed s ≡ true → formed s ≡ true
  unfolding fails_table_filter
  failed_formed fails x e h =
      let run = and_left (filter_runs t i k v) _ (sym x.1 ∙ e) in
      whole_formed s h (ap read (sym run) ∙ x.0)
