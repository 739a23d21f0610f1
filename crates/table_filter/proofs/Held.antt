-- The nodes that are held, one more place or bucket at a time: those that count against the value of a key, and the node of a key.
use mathlib.Core.Path.{◌≡◌, refl, sym, ap, ◌∙◌}
use mathlib.Core.Bool.{Bool, true, false, not}
use mathlib.Core.List.{List, [], ◌∷◌}
use mathlib.Core.Option.{none, some}
use Prim.Native.Nat.{ℕ, ◌+◌, ◌≤◌, ◌<◌}
use native.Mathlib.Numerals.{add-one}
use native.Mathlib.Omega.{arith}
use lib.Dec.{eqb, leb}
use lib.ListN.{length, get_or}
use borrow.Author.Tests.{ne_eqb}
use Rattle.model.specs.Base.{same, select, tabulate}
use Rattle.model.specs.Bytes.{number, part}
use Rattle.model.specs.Value.{Value, has_address}
use Rattle.model.specs.Node.{Node}
use Rattle.model.specs.Filter.{counts, counted, ip_filter_fails}
use Rattle.model.specs.Bucket.{Bucket, max_nodes_per_bucket, nodes, find, get, omit}
use Rattle.model.specs.Table.{num_buckets, held_nodes, other_nodes}
use Rattle.model.specs.Sizes.{key_size, value_size, table_filter_at}
use Rattle.model.specs.Layout.{value_in, node_in, nodes_in, bucket_in, settings_in, bucket_part, table_of}
use Rattle.model.specs.Formed.{bucket_formed_at}
use Rattle.laws.proofs.Tests.{split}
use Rattle.laws.proofs.Lists.{length_tabulate, get_d_tabulate}
use Rattle.places.proofs.Model.{find_held, find_absent}
use Rattle.laws.proofs.KeepLists.{length_select_append, get_nodes}
use Rattle.laws.proofs.BucketFormed.{checked}
use Rattle.laws.proofs.BucketBack.{nodes_in_lem}
use Rattle.node.specs.declared.Value as declared
use Rattle.node.specs.Node.{value_of}
use Rattle.storage.specs.Read.{read_value}
use Rattle.storage.proofs.Bytes.{value_of_read}
use Rattle.well_formed.specs.Tests.{node_at, nodes_here, place}
use Rattle.table_filter.specs.Counted.{counts_other}

-- how many count against the value of a key

-- the key's own left out, by a test
pub counted_others : (k : ℕ) (v : Value) (ns : List Node) → counted v (omit k ns) ≡ select (counts_other k v) ns
counted_others k v [] = refl
counted_others k v (n ∷ ns) =
    split (same n.key k)
    (λ e. split (counts v n.value) (λ c. rw (e, c, counted_others k v ns)) (λ c. rw (e, c, counted_others k v ns)))
    (λ e. split (counts v n.value) (λ c. rw (e, c, counted_others k v ns)) (λ c. rw (e, c, counted_others k v ns)))

module _ (p : Node → Bool) (bs : ℕ → Bucket) where
  -- one more bucket
  pub counted_bucket : (i : ℕ) → length (select p (held_nodes (i + 1) bs)) ≡ length (select p (held_nodes i bs)) + length (select p (nodes (bs i)))
  unfolding held_nodes
  counted_bucket i = rw add-one (length_select_append p (held_nodes i bs) (nodes (bs i)))

-- the filter, by its address and its count

pub has_address_lem : (v : declared.Value) → v.flag ≡ 1 → has_address (value_of v) ≡ true
has_address_lem v e = rw e

pub no_address : (v : declared.Value) → (v.flag ≡ 1 → ⊥) → has_address (value_of v) ≡ false
no_address v e = rw (ne_eqb v.flag 1 e)

pub filter_no_address : (limit : ℕ) (v : Value) (ns : List Node) → has_address v ≡ false → ip_filter_fails limit v ns ≡ false
unfolding ip_filter_fails
filter_no_address limit v ns e = rw e

module _ (limit k : ℕ) (v : Value) (bs : ℕ → Bucket) (e : has_address v ≡ true) where
  abbrev count : ℕ
  count = length (select (counts_other k v) (held_nodes num_buckets bs))

  -- the filter's test, by the count
  pub filter_test : leb limit count ≡ ip_filter_fails limit v (other_nodes k bs)
  unfolding ip_filter_fails
  filter_test = rw (e, counted_others k v (held_nodes num_buckets bs))

-- what the storage holds

pub table_filter : (s : List ℕ) → (table_of s).settings.table_filter ≡ eqb (get_or s table_filter_at 0) 1
unfolding table_of settings_in
table_filter s = refl

pub table_bucket : (s : List ℕ) (i : ℕ) → (table_of s).buckets i ≡ bucket_in (bucket_part s i)
unfolding table_of
table_bucket s i = refl

pub nodes_at : (bs : List ℕ) → nodes (bucket_in bs) ≡ tabulate (get_or bs 0 0) (node_at bs)
unfolding nodes_in node_at
nodes_at bs = nodes_in_lem bs

pub get_at : (k : ℕ) (bs : List ℕ) → get k (bucket_in bs) ≡ find k (tabulate (get_or bs 0 0) (node_at bs))
get_at k bs = get_nodes k (bucket_in bs) ∙ ap (find k) (nodes_at bs)

-- a well-formed bucket has no more than 16 nodes
pub own_count : (s : List ℕ) (i : ℕ) → bucket_formed_at s i ≡ true → get_or (bucket_part s i) 0 0 ≤ max_nodes_per_bucket
own_count s i f = (checked _ _ (bucket_part s i) f).at_most

-- a node counts, by its value and then its key
module _ (k : ℕ) (v : Value) (s : List ℕ) where
  pub value_there : (node_in s).value ≡ value_of (read_value (part s (key_size + 2) value_size))
  unfolding node_in
  value_there = sym (value_of_read _)

  pub place_passed : counts v (value_of (read_value (part s (key_size + 2) value_size))) ≡ false → false ≡ counts_other k v (node_in s)
  place_passed e = rw (value_there, e)

  pub place_by_key : counts v (value_of (read_value (part s (key_size + 2) value_size))) ≡ true → not (same (number (part s 0 key_size)) k) ≡ counts_other k v (node_in s)
  unfolding node_in
  place_by_key e = let f : counts v (value_in (part s (key_size + 2) value_size)) ≡ true = ap (counts v) (sym (value_of_read _)) ∙ e in rw f

-- the node of a key, by its place
module _ (k : ℕ) (bs : List ℕ) {count : ℕ} (e : count ≡ get_or bs 0 0) where
  find_here : get k (bucket_in bs) ≡ find k (tabulate count (node_at bs))
  find_here = get_at k bs ∙ ap (λ n. find k (tabulate n (node_at bs))) (sym e)

  pub get_found : (j : ℕ) → place k (nodes_here bs count) ≡ j → j < count → get k (bucket_in bs) ≡ some (node_at bs j)
  unfolding nodes_here
  get_found j p l =
      find_here ∙ find_held k (tabulate count (node_at bs)) (node_in []) (omega (arith, p, l, length_tabulate count (node_at bs)))
      ∙ ap some (ap (λ i. get_or (tabulate count (node_at bs)) i (node_in [])) p ∙ get_d_tabulate count (node_at bs) j (node_in []) l)

  pub get_absent : place k (nodes_here bs count) ≡ count → get k (bucket_in bs) ≡ none
  unfolding nodes_here
  get_absent p = find_here ∙ find_absent k (tabulate count (node_at bs)) (omega (arith, p, length_tabulate count (node_at bs)))
