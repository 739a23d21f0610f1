-- How many nodes the sizes say, and a bucket of the bytes, built node by node as a table stores it.
use mathlib.Core.Path.{◌≡◌, refl, sym, ap, ap₂, ◌∙◌}
use mathlib.Core.Bool.{Bool, cond, not, not-not}
use mathlib.Core.List.{List, [], ◌∷◌, ◌++◌}
use Prim.Native.Nat.{ℕ, zero, suc, ◌+◌, ◌*◌, ◌-◌, ◌≤◌, ◌<◌}
use native.Mathlib.Numerals.{add-one}
use native.Mathlib.Omega.{arith}
use lib.Dec.{eqb, ltb}
use borrow.Author.Tests.{ltb-false}
use lib.ListN.{length, get_or, take, set, length-replicate}
use borrow.Rule.Slice.PartMut.{put_mid}
use Rattle.std.specs.Array.{IsFirstChunk}
pub use Rattle.std.proofs.iter.runs.Sources.{sums}
use Rattle.std.specs.Prelude.{Option, Some, None, sum}
use Rattle.std.specs.Option.{unwrap_or}
use Rattle.std.specs.List.{position_or_len, range_with_len}
use Rattle.std.proofs.lemmas.List.{drop-replicate, length-set}
use Rattle.std.proofs.lemmas.List.FromFn.{length-range_with_len}
use Rattle.std.proofs.lemmas.List.Sums.{sum_by_more, prefix_len-le-length}
use Rattle.model.specs.Base.{joined, tabulate}
use Rattle.model.specs.Bytes.{number, bytes, part, splice, zeros, Bytes}
use Rattle.model.specs.Bucket.{max_nodes_per_bucket}
use Rattle.model.specs.Table.{num_buckets}
use Rattle.model.specs.Sizes.{key_size, node_size, place_at, pending_size, bucket_size}
use Rattle.model.specs.Saved.{saved_entry_size, sizes_below, saved_count, saved_node, disconnected_from, loaded_bytes}
use Rattle.laws.proofs.Tests.{split}
use Rattle.laws.proofs.Lists.{length_tabulate, tabulate_one_more, joined_snoc, length_joined}
use Rattle.laws.proofs.Parts.{part_all, get_or_right, set_splice, splice_nil, splice_next}
use Rattle.laws.proofs.Bytes.{number_back}
use Rattle.words.proofs.Words.{set_more, put_mid_splice}
use Rattle.laws.proofs.All.{all_tabulate}
use Rattle.laws.proofs.Loaded.{below_more, place_below, length_key, length_saved_node}

-- the sizes, one more

pub below_none : (bs : List ℕ) → sizes_below bs 0 ≡ 0
unfolding sizes_below
below_none bs = refl

pub below_next : (bs : List ℕ) (i : ℕ) → sizes_below bs (i + 1) ≡ sizes_below bs i + get_or bs i 0
unfolding sizes_below
below_next bs i = rw add-one

sum_below : (bs : List ℕ) (i : ℕ) → i ≤ length bs → sum (take i bs) ≡ sizes_below bs i
unfolding sizes_below
sum_below bs zero h = refl
sum_below bs (suc i) h =
    let e : sum (take (suc i) bs) ≡ sum (take i bs) + get_or bs i 0 = rw (← add-one) (sum_by_more (λ x. x) bs i 0 (omega arith)) in
    omega (arith, e, sum_below bs i (omega arith))

pub counted : (bs : List ℕ) {n : ℕ} {sizes : List ℕ} → n ≡ sum sizes → IsFirstChunk bs sizes num_buckets → n ≡ saved_count bs
counted bs e h = e ∙ ap sum h.same ∙ sum_below bs num_buckets h.enough

-- the bytes of the k nodes from index from on
unfoldable pub nodes_from : List ℕ → ℕ → ℕ → List ℕ
nodes_from bs from k = joined (saved_node bs) (tabulate k (λ j. from + j))

pub nodes_none : (bs s : List ℕ) (from at : ℕ) → s ≡ splice s at (nodes_from bs from 0)
unfolding nodes_from joined tabulate
nodes_none bs s from at = sym (splice_nil s at)

-- at the start of zeros
over_zeros : (k : ℕ) (v : List ℕ) → splice (zeros k) 0 v ≡ v ++ zeros (k - length v)
unfolding splice
over_zeros k v = ap (λ (x : List ℕ). v ++ x) (drop-replicate (0 + length v) k 0 ∙ ap zeros (omega arith))

-- a node, by words

pub key_put : (s : List ℕ) (k : ℕ) → Bytes s → length s ≡ key_size → k ≡ number s → bytes key_size k ≡ s
key_put s k b l e =
    let w : part s 0 key_size ≡ s = part_all s key_size (omega arith) in
    ap (bytes key_size) (e ∙ ap number (sym w)) ∙ number_back s 0 key_size (omega arith) b ∙ w

module _ (bs : List ℕ) (nodes : ℕ) (n : nodes ≡ saved_count bs) (z : length bs ≡ num_buckets + nodes * node_size) where
  sized : length bs ≡ num_buckets + saved_count bs * node_size
  sized = rw (← n) z

  -- how many are disconnected

  -- the state of node j of all, as its entry has it
  abbrev pub state : ℕ → ℕ
  state j = get_or (part bs (num_buckets + nodes * key_size + j * saved_entry_size) saved_entry_size) 0 0

  state_there : (j : ℕ) → j < nodes → state j ≡ get_or (saved_node bs j) key_size 0
  unfolding saved_node
  state_there j m =
      sym
      (get_or_right (part bs (num_buckets + j * key_size) key_size) (part bs (num_buckets + saved_count bs * key_size + j * saved_entry_size) saved_entry_size) key_size 0
      (length_key bs sized j (rw (← n) m))
      ∙ rw n)

  abbrev pub is_connected : ℕ → Bool
  is_connected j = not (eqb (state j) 0)

  disconnected_len : (j k : ℕ) → j + k ≤ nodes → position_or_len is_connected (range_with_len j k) ≡ disconnected_from bs j k
  unfolding disconnected_from
  disconnected_len j zero h = refl
  disconnected_len j (suc k) h =
      let behind : position_or_len is_connected (range_with_len (j + 1) k) ≡ disconnected_from bs (suc j) k =
      disconnected_len (j + 1) k (omega arith) ∙ ap (λ i. disconnected_from bs i k) (add-one j)
      in
      rw not-not (ap₂ (λ (n k : ℕ). cond (eqb n 0) k 0) (state_there j (omega arith)) (omega (arith, behind)))

  pub disconnected_is : (j k : ℕ) → j + k ≤ nodes → {r : Option ℕ}
      → r ≡ cond (ltb (position_or_len is_connected (range_with_len j k)) (length (range_with_len j k))) (Some (position_or_len is_connected (range_with_len j k))) None
      → unwrap_or r k ≡ disconnected_from bs j k
  disconnected_is j k h {r} e =
      let all = range_with_len j k in
      let long : length all ≡ k = length-range_with_len j k in
      let given : (o : Option ℕ) → r ≡ o → unwrap_or r k ≡ unwrap_or o k = λ o f. ap (λ p. unwrap_or p k) f in
      split (ltb (position_or_len is_connected all) (length all))
      (λ t. given _ (rw t at e) ∙ disconnected_len j k h)
      (λ t.
      let none : k ≡ position_or_len is_connected all =
      omega (arith, long, ltb-false (position_or_len is_connected all) (length all) t, prefix_len-le-length (λ i. not (is_connected i)) all)
      in
      given _ (rw t at e) ∙ none ∙ disconnected_len j k h)

  -- bucket i, whose first node is that of index from
  module _ (from i : ℕ) (b : i < num_buckets) (w : from ≡ sizes_below bs i) where
    abbrev count : ℕ
    count = get_or bs i 0

    place_within : (j : ℕ) → j < count → from + j < nodes
    place_within j l = rw (w, n) (place_below bs i j b l)

    pub bucket_within : from + count ≤ nodes
    unfolding sizes_below
    bucket_within = rw (w, n) (below_more bs (suc i) (num_buckets - suc i) num_buckets (omega (arith, b)))

    length_nodes : (k : ℕ) → k ≤ count → length (nodes_from bs from k) ≡ k * node_size
    unfolding nodes_from
    length_nodes k l =
        length_joined (saved_node bs) node_size (tabulate k (λ j. from + j))
        (all_tabulate (λ (j : ℕ). length (saved_node bs j) ≡ node_size) k (λ j. from + j) (λ j m. length_saved_node bs sized (from + j) (rw (← n) (place_within j (omega arith)))))
        ∙ rw length_tabulate

    -- put where all was zero
    module _ {s : List ℕ} (a : s ≡ zeros bucket_size) (m : count ≤ max_nodes_per_bucket) (first : ℕ) where
      abbrev counts : List ℕ
      counts = set (set s 0 count) 1 first

      length_counts : length counts ≡ bucket_size
      length_counts = length-set (set s 0 count) 1 first ∙ length-set s 0 count ∙ ap length a ∙ length-replicate {A = ℕ} bucket_size 0

      -- one more node
      pub nodes_more : (j : ℕ) {t v : List ℕ} → j < count → t ≡ splice counts 2 (nodes_from bs from j)
          → v ≡ part bs (num_buckets + (from + j) * key_size) key_size ++ part bs (num_buckets + nodes * key_size + (from + j) * saved_entry_size) saved_entry_size
          → put_mid (place_at j) (place_at j + node_size - place_at j) t v ≡ splice counts 2 (nodes_from bs from (j + 1))
      unfolding nodes_from saved_node
      nodes_more j {t} {v} l e f =
          let w' : List ℕ = saved_node bs (from + j) in
          let lw : length w' ≡ node_size = length_saved_node bs sized (from + j) (rw (← n) (place_within j (omega arith))) in
          let g : v ≡ w' = f ∙ rw n in
          let k : place_at j + node_size - place_at j ≡ node_size = omega arith in
          put_mid_splice t (place_at j) _ g (lw ∙ sym k)
          ∙ rw (e, tabulate_one_more, joined_snoc (saved_node bs) (tabulate j (λ k. from + k)) (from + j))
          (splice_next counts 2 (j * node_size) (nodes_from bs from j) w' (length_nodes j (omega arith)) (omega (arith, lw, length_counts)))

      -- the whole bucket
      pub bucket_built : {t : List ℕ} → first ≡ disconnected_from bs from count → t ≡ splice counts 2 (nodes_from bs from count) → t ≡ loaded_bytes bs i
      unfolding loaded_bytes nodes_from
      bucket_built {t} f e =
          let ns : List ℕ = nodes_from bs from count in
          let ln : length ns ≡ count * node_size = length_nodes count (omega arith) in
          let v : List ℕ = count ∷ first ∷ ns in
          let ls : length s ≡ bucket_size = ap length a ∙ length-replicate {A = ℕ} bucket_size 0 in
          let e₀ : set s 0 count ≡ splice s 0 (count ∷ []) = set_splice s 0 count (omega arith) in
          let e₁ : counts ≡ splice s 0 (count ∷ first ∷ []) = set_more s 0 1 (count ∷ []) first e₀ refl (omega arith) in
          let e₂ : t ≡ splice s 0 v = e ∙ rw e₁ (splice_next s 0 2 (count ∷ first ∷ []) ns refl (omega (arith, ln))) in
          let u : bucket_size - length v ≡ (max_nodes_per_bucket - count) * node_size + pending_size = omega (arith, ln) in
          e₂ ∙ rw (a, over_zeros bucket_size v, u, f, w)
