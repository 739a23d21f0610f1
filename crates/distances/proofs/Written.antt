-- The nodes that are written, bucket by bucket.
use mathlib.Core.Path.{◌≡◌, refl, sym, ap, ◌∙◌}
use mathlib.Core.Bool.{true}
use mathlib.Core.List.{List, [], ◌∷◌, ◌++◌, append-nil, append_assoc}
use Prim.Native.Nat.{ℕ, ◌+◌, ◌-◌, ◌*◌, ◌≤◌, ◌<◌}
use native.Mathlib.Nat.{zero-add, sub-zero}
use native.Mathlib.Omega.{arith}
use lib.ListN.{length, take, length-append, length-take}
use lib.Seq.{take-nil}
use Rattle.model.specs.Base.{joined}
use Rattle.model.specs.Bytes.{splice}
use Rattle.model.specs.Node.{Node}
use Rattle.model.specs.Table.{num_buckets}
use Rattle.model.specs.Sizes.{node_size}
use Rattle.model.specs.Layout.{node_bytes, table_of}
use Rattle.model.specs.Listing.{buckets_at}
use Rattle.model.specs.Formed.{bucket_formed_at, buckets_formed}
use Rattle.model.specs.Fits.{All}
use Rattle.laws.proofs.Tests.{and_left, and_right}
use Rattle.laws.proofs.Touched.{distances_below}
use Rattle.laws.proofs.Join.{take_joined}
use Rattle.laws.proofs.Parts.{splice_nil, length_splice, splice_next}
use Rattle.items.specs.declared.Shape.{Shape}
use Rattle.items.specs.Shape.{items_by, shown_by, size_by}
use Rattle.items.proofs.Items.{length_items, items_append, nodes_written}
use Rattle.distances.specs.Passes.{listed_nodes}

module _ (s : List ℕ) (n : ℕ) where
  abbrev shows : ℕ → List Node
  shows i = shown_by Shape.Nodes ((table_of s).buckets i)

  abbrev written : List Node → List ℕ
  written = items_by Shape.Nodes

  length_written : (ns : List Node) → length (written ns) ≡ length ns * node_size
  unfolding size_by
  length_written ns = length_items Shape.Nodes ns

  -- k nodes are written, and the others come from the buckets that remain
  pub record Writing (ns : List Node) (before after : List ℕ) (k : ℕ) (rest : List ℕ) : Type 0 where
    pub put : List Node
    pub count : k ≡ length put
    pub within : k ≤ n
    pub size : length after ≡ length before
    pub output : after ≡ splice before 0 (written put)
    pub total : put ++ take (n - k) (joined shows rest) ≡ ns
    pub below : All (λ (i : ℕ). i < num_buckets) rest
    pub formed : buckets_formed s rest ≡ true

  pub writing_starts : (ds before : List ℕ) → buckets_formed s (buckets_at ds) ≡ true
      → Writing (listed_nodes (table_of s) n ds) before before 0 (buckets_at ds)
  unfolding listed_nodes shown_by joined
  writing_starts ds before f =
      record {
        put = [];
        count = refl;
        within = omega arith;
        size = refl;
        output = sym (splice_nil before 0);
        total = ap (λ (m : ℕ). take m (joined shows (buckets_at ds))) (sub-zero n);
        below = distances_below ds;
        formed = f;
      }

  module _ {ns : List Node} {before after : List ℕ} {k : ℕ} where
    module _ {i : ℕ} {rest : List ℕ} (h : n * node_size ≤ length before) (w : Writing ns before after k (i ∷ rest)) where
      pub writing_formed : bucket_formed_at s i ≡ true
      writing_formed = and_left (bucket_formed_at s i) (buckets_formed s rest) w.formed

      -- what is written of the others has room behind those that are there
      pub writing_room : k * node_size + (n - k) * node_size ≤ length after
      writing_room = let z = w.within in omega (arith, w.size, h)

      pub writing_next : {m : ℕ} {after' : List ℕ} → m ≡ length (take (n - k) (shows i)) → after' ≡ splice after (k * node_size) (written (take (n - k) (shows i)))
          → Writing ns before after' (k + m) rest
      writing_next {m} {after'} e f =
          let ms : List Node = take (n - k) (shows i) in
          let few : length ms ≤ n - k = omega (arith, length-take (n - k) (shows i)) in
          let q : k + m ≤ n = (let v = w.within in omega arith) in
          let a : length (written w.put) ≡ k * node_size = length_written w.put ∙ ap (λ (j : ℕ). j * node_size) (sym w.count) in
          let b : length (written ms) ≡ length ms * node_size = length_written ms in
          let l : 0 + k * node_size + length (written ms) ≤ length before = (let v = w.within in omega arith) in
          let left : n - (k + m) ≡ n - k - length (shows i) = omega (arith, length-take (n - k) (shows i)) in
          let z : after' ≡ splice before 0 (written (w.put ++ ms)) = (
          f ∙ ap (λ (o : List ℕ). splice o (k * node_size) (written ms)) w.output
          ∙ ap (λ (j : ℕ). splice (splice before 0 (written w.put)) j (written ms)) (sym (zero-add (k * node_size)))
          ∙ splice_next before 0 (k * node_size) (written w.put) (written ms) a l
          ∙ ap (splice before 0) (sym (items_append Shape.Nodes w.put ms))
          ) in
          record {
            put = w.put ++ ms;
            count = omega (arith, e, w.count, length-append w.put ms);
            within = q;
            size = ap length z ∙ length_splice before 0 (written (w.put ++ ms)) (omega (arith, ap length (items_append Shape.Nodes w.put ms), length-append (written w.put) (written ms)));
            output = z;
            total =
                append_assoc w.put ms (take (n - (k + m)) (joined shows rest))
                ∙ ap (λ (j : ℕ). w.put ++ (ms ++ take j (joined shows rest))) left
                ∙ ap (λ (l : List Node). w.put ++ l) (sym (take_joined shows (n - k) i rest))
                ∙ w.total;
            below = w.below.1;
            formed = and_right (bucket_formed_at s i) (buckets_formed s rest) w.formed;
          }

    pub writing_ends : {rest : List ℕ} → rest ≡ [] → Writing ns before after k rest → (k ≡ length ns) × (after ≡ splice before 0 (joined node_bytes ns))
    unfolding joined
    writing_ends {rest} e w =
        let g : take (n - k) (joined shows rest) ≡ [] = ap (λ (l : List ℕ). take (n - k) (joined shows l)) e ∙ take-nil (n - k) in
        let p : w.put ≡ ns = sym (append-nil w.put) ∙ ap (λ (l : List Node). w.put ++ l) (sym g) ∙ w.total in
        (w.count ∙ ap length p, w.output ∙ ap (λ (l : List Node). splice before 0 (written l)) p ∙ ap (splice before 0) (nodes_written ns))
