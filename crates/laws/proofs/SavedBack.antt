-- What the reader takes, the writer gives back byte for byte (02, slip 6): the loaded nodes are those read, and each is its bytes.
use mathlib.Core.Path.{◌≡◌, refl, sym, ap, ap₂, ◌∙◌}
use mathlib.Core.Bool.{true}
use mathlib.Core.List.{List, [], ◌∷◌, ◌++◌}
use mathlib.Core.Logic.{⊎_elim}
use Prim.Native.Nat.{ℕ, zero, suc, ◌+◌, ◌*◌, ◌-◌, ◌≤◌, ◌<◌}
use native.Mathlib.Nat.{zero-add, not-suc-le-zero}
use native.Mathlib.Omega.{arith}
use lib.ListN.{length, get_or}
use Rattle.model.specs.Base.{joined, tabulate}
use Rattle.model.specs.Bytes.{part, zeros, Bytes}
use Rattle.model.specs.Node.{Node}
use Rattle.model.specs.Bucket.{max_nodes_per_bucket, nodes, num_entries}
use Rattle.model.specs.Table.{Table, num_buckets, held_nodes}
use Rattle.model.specs.Sizes.{key_size, node_size, pending_size}
use Rattle.model.specs.Layout.{node_bytes, node_in, place_in, nodes_in}
use Rattle.model.specs.Formed.{node_codes}
use Rattle.model.specs.Saved.{all_nodes, key_bytes, saved_entry, saved, saved_entry_size, sizes_below, saved_count, saved_node, loaded_nodes, disconnected_from, loaded_bytes, loaded_bucket, loaded_table, load_fits}
use Rattle.laws.proofs.Lists.{lt_or_le, length_tabulate, get_d_tabulate, tabulate_append, tabulate_ext, tabulate_is, length_joined}
use Rattle.laws.proofs.All.{all_tabulate}
use Rattle.laws.proofs.Parts.{part_all, part_append, part_front, part_end, part_left, part_right, part_joined, length_part, get_d_part, joined_slots, slot_before}
use Rattle.laws.proofs.Bytes.{length_bytes}
use Rattle.laws.proofs.NodeFormed.{node_back}
use Rattle.laws.proofs.BucketFormed.{checked}
use Rattle.laws.proofs.BucketBack.{nodes_in_lem, count_in}
use Rattle.laws.proofs.Saved.{length_saved_entry}
use Rattle.laws.proofs.Loaded.{Loads, loads, place_below, Bytes_saved_node, length_key, length_entry, length_saved_node, size_loaded, loaded_at}

pub loaded_count : (bs : List ℕ) (i : ℕ) → i < num_buckets → num_entries (loaded_bucket bs i) ≡ get_or bs i 0
loaded_count bs i h = rw (loaded_at bs i h) (count_in (loaded_bytes bs i) ∙ size_loaded bs i)

module _ (bs : List ℕ) (e : length bs ≡ num_buckets + saved_count bs * node_size) where
  -- place j of bucket i
  pub place_loaded : (i j : ℕ) → i < num_buckets → j < get_or bs i 0 → place_in (loaded_bytes bs i) j ≡ saved_node bs (sizes_below bs i + j)
  unfolding loaded_bytes
  place_loaded i j h l =
      let size : ℕ = get_or bs i 0 in
      let from : ℕ = sizes_below bs i in
      let js : List ℕ = tabulate size (λ k. from + k) in
      let ns : List ℕ = joined (saved_node bs) js in
      let zs : List ℕ = zeros ((max_nodes_per_bucket - size) * node_size + pending_size) in
      let w = all_tabulate (λ (k : ℕ). length (saved_node bs k) ≡ node_size) size (λ k. from + k) (λ k m. length_saved_node bs e (from + k) (place_below bs i k h m)) in
      let n : length ns ≡ size * node_size = length_joined (saved_node bs) node_size js w ∙ rw length_tabulate in
      part_right (size ∷ disconnected_from bs from size ∷ []) (ns ++ zs) 2 (j * node_size) node_size refl
      ∙ part_left ns zs (j * node_size) node_size (rw n (slot_before j size node_size l))
      ∙ part_joined (saved_node bs) node_size js w j 0 (rw length_tabulate l)
      ∙ ap (saved_node bs) (get_d_tabulate size (λ k. from + k) j 0 l)

  pub nodes_loaded : (i : ℕ) → i < num_buckets → nodes_in (loaded_bytes bs i) ≡ tabulate (get_or bs i 0) (λ j. node_in (saved_node bs (sizes_below bs i + j)))
  unfolding nodes_in
  nodes_loaded i h =
      ap (λ (k : ℕ). tabulate k (λ j. node_in (place_in (loaded_bytes bs i) j))) (size_loaded bs i)
      ∙ tabulate_ext (get_or bs i 0) (λ j. node_in (place_in (loaded_bytes bs i) j)) (λ j. node_in (saved_node bs (sizes_below bs i + j)))
      (λ j l. ap node_in (place_loaded i j h l))

  -- the held nodes of the buckets below i are the nodes read for them, in their order
  pub loaded_all : (i : ℕ) → i ≤ num_buckets → held_nodes i (loaded_bucket bs) ≡ tabulate (sizes_below bs i) (λ j. node_in (saved_node bs j))
  unfolding held_nodes sizes_below tabulate
  loaded_all zero h = refl
  loaded_all (suc i) h =
      ap₂ (λ (x y : List Node). x ++ y) (loaded_all i (omega arith)) (ap nodes (loaded_at bs i h) ∙ nodes_in_lem (loaded_bytes bs i) ∙ nodes_loaded i h)
      ∙ sym (tabulate_append (sizes_below bs i) (get_or bs i 0) (λ j. node_in (saved_node bs j)))

  pub loaded_are_read : (t : Table) → all_nodes (loaded_table bs t) ≡ loaded_nodes bs
  unfolding loaded_nodes
  loaded_are_read t = loaded_all num_buckets (omega arith)

pub length_read : (bs : List ℕ) → length (loaded_nodes bs) ≡ saved_count bs
unfolding loaded_nodes
length_read bs = length_tabulate (saved_count bs) (λ j. node_in (saved_node bs j))

module _ (bs : List ℕ) (t : Table) (h : Bytes bs) (c : load_fits bs t ≡ true) where
  g : Loads bs t
  g = loads bs t c

  abbrev all : ℕ
  all = saved_count bs

  abbrev node : ℕ → Node
  node j = node_in (saved_node bs j)

  abbrev key_part : ℕ → List ℕ
  key_part j = part bs (num_buckets + j * key_size) key_size

  abbrev entry_part : ℕ → List ℕ
  entry_part j = part bs (num_buckets + all * key_size + j * saved_entry_size) saved_entry_size

  codes_below : (i : ℕ) → i ≤ num_buckets → (j : ℕ) → j < sizes_below bs i → node_codes (saved_node bs j) ≡ true
  unfolding sizes_below
  codes_below zero l j k = absurd (not-suc-le-zero k)
  codes_below (suc i) l j k =
      ⊎_elim (codes_below i (omega arith) j)
      (λ m.
      let f : sizes_below bs i + (j - sizes_below bs i) ≡ j = omega arith in
      let w : j - sizes_below bs i < get_or bs i 0 = omega arith in
      let o = checked _ _ (loaded_bytes bs i) (g.formed i l) in
      rw (place_loaded bs g.size i (j - sizes_below bs i) l w, f) at (o.codes (j - sizes_below bs i) (rw (size_loaded bs i) w)))
      (lt_or_le j (sizes_below bs i))

  -- a node read is its bytes
  pub node_read : (j : ℕ) → j < all → node_bytes (node j) ≡ saved_node bs j
  node_read j l = node_back (saved_node bs j) (length_saved_node bs g.size j l) (Bytes_saved_node bs j h) (codes_below num_buckets (omega arith) j l)

  key_read : (j : ℕ) → j < all → key_bytes (node j) ≡ key_part j
  unfolding node_bytes saved_node
  key_read j l =
      sym (part_front (key_bytes (node j)) (saved_entry (node j)) key_size (length_bytes key_size (node j).key))
      ∙ ap (λ (x : List ℕ). part x 0 key_size) (node_read j l)
      ∙ part_front (key_part j) (entry_part j) key_size (length_key bs g.size j l)

  entry_read : (j : ℕ) → j < all → saved_entry (node j) ≡ entry_part j
  unfolding node_bytes saved_node
  entry_read j l =
      sym (part_end (key_bytes (node j)) (saved_entry (node j)) key_size saved_entry_size (length_bytes key_size (node j).key) (length_saved_entry (node j)))
      ∙ ap (λ (x : List ℕ). part x key_size saved_entry_size) (node_read j l)
      ∙ part_end (key_part j) (entry_part j) key_size saved_entry_size (length_key bs g.size j l) (length_entry bs g.size j l)

  sizes_read : tabulate num_buckets (λ i. num_entries (loaded_bucket bs i)) ≡ part bs 0 num_buckets
  sizes_read =
      tabulate_is (part bs 0 num_buckets) 0 num_buckets (λ i. num_entries (loaded_bucket bs i)) (length_part bs 0 num_buckets (omega (arith, g.size)))
      (λ i l. loaded_count bs i l ∙ sym (get_d_part bs 0 num_buckets i l ∙ rw zero-add))

  -- 02, slip 6: byte for byte
  pub saved_back : saved (loaded_table bs t) ≡ bs
  unfolding saved
  saved_back =
      let k : ℕ = all * key_size in
      let w : ℕ = all * saved_entry_size in
      rw (
        sizes_read,
        loaded_all bs g.size num_buckets (omega arith),
        joined_slots key_bytes node bs num_buckets key_size all key_read,
        joined_slots saved_entry node bs (num_buckets + k) saved_entry_size all entry_read,
        ← part_append bs num_buckets k w,
        ← part_append bs 0 num_buckets (k + w),
      )
      (part_all bs (num_buckets + (k + w)) (omega (arith, g.size)))
