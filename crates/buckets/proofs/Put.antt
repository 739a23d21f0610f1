-- What is written of a bucket, part by part, is its bytes.
use mathlib.Core.Path.{◌≡◌, refl, sym, ap, ap₂, ◌∙◌}
use mathlib.Core.List.{List, [], ◌∷◌, ◌++◌, map, append_assoc, map-append}
use Prim.Native.Nat.{ℕ, ◌+◌, ◌*◌, ◌-◌, ◌≤◌, ◌<◌}
use native.Mathlib.Nat.{zero-add}
use native.Mathlib.Numerals.{add-one}
use native.Mathlib.Omega.{arith}
use Rattle.std.specs.Prelude.{Some}
use lib.ListN.{length, get_or, set, take, drop, length-append, length-take, length-drop, length-replicate, length-map}
use borrow.Rule.Slice.PartMut.{put_mid}
use lib.Seq.{length-take-le, take-suc}
use Rattle.model.specs.Base.{joined}
use Rattle.model.specs.Bytes.{bytes, splice, zeros}
use Rattle.model.specs.Node as model
use Rattle.model.specs.Bucket.{Bucket, max_nodes_per_bucket, nodes, num_entries}
use Rattle.model.specs.Sizes.{time_size, node_size, place_at, pending_at, pending_size, bucket_size}
use Rattle.model.specs.Layout.{node_bytes, pending_bytes, bucket_bytes}
use Rattle.laws.proofs.Lists.{joined_snoc, length_joined}
use Rattle.laws.proofs.Parts.{set_splice, length_splice, splice_nil, splice_next}
use Rattle.laws.proofs.Bytes.{length_bytes}
use Rattle.laws.proofs.NodeBytes.{length_node}
use Rattle.laws.proofs.BucketBytes.{length_held, length_pending}
use Rattle.laws.proofs.All.{all_any}
use Rattle.key.proofs.Bytes.{splice_all}
use Rattle.words.proofs.Words.{set_2, put_mid_splice}
use Rattle.node.specs.declared.Node.{Node}
use Rattle.node.specs.Node.{node_of, stored_node, zero_node}
use Rattle.places.proofs.Padded.{padded_length}
use Rattle.bucket.specs.declared.PendingNode.{PendingNode}
use Rattle.bucket.specs.declared.KBucket.{KBucket}
use Rattle.bucket.specs.Bucket.{pending_of, bucket_of, Sound}
use Rattle.bucket.proofs.Sound.{nodes_of, count_of, first_of, places_of}
use Rattle.bucket.proofs.Steps.{nodes_count}

-- the places of a sound bucket, and the codes of the nodes in them

module _ (b : KBucket) (s : Sound b) where
  pub places_long : length b.nodes ≡ max_nodes_per_bucket
  places_long =
      let xs : List Node = map stored_node (nodes (bucket_of b)) in
      let n : length xs ≡ b.count = length-map (nodes (bucket_of b)) stored_node ∙ nodes_count b s in
      ap length (places_of b s) ∙ padded_length xs (omega (arith, s.few))

-- the bytes of the nodes of the first i places
unfoldable pub held_bytes : List Node → ℕ → List ℕ
held_bytes ns i = joined node_bytes (map node_of (take i ns))

-- written into a run that is as long, over all that it held

pub pending_put : (s : List ℕ) (p : PendingNode) → length s ≡ pending_size → {a b : List ℕ} → a ≡ node_bytes (node_of p.node) → b ≡ bytes time_size p.deadline
    → put_mid 48 8 (put_mid 1 47 (set s 0 1) a) b ≡ pending_bytes (pending_of (Some p))
pending_put s p l {a} {b} ea eb =
    let n : List ℕ = node_bytes (node_of p.node) in
    let d : List ℕ = bytes time_size p.deadline in
    put_mid_splice _ 48 8 eb (length_bytes time_size _)
    ∙ ap (λ (t : List ℕ). splice t 48 d)
    (put_mid_splice _ 1 47 ea (length_node _)
    ∙ ap (λ (t : List ℕ). splice t 1 n) (set_splice s 0 1 (omega arith))
    ∙ splice_next s 0 1 (1 ∷ []) n refl (simp length_node (omega arith)))
    ∙ splice_next s 0 48 ((1 ∷ []) ++ n) d (simp length_node) (simp length_bytes (omega arith))
    ∙ splice_all s (pending_bytes (pending_of (Some p))) (l ∙ sym (length_pending (pending_of (Some p))))

pub held_none : (s : List ℕ) (ns : List Node) → s ≡ splice s 2 (held_bytes ns 0)
unfolding held_bytes joined
held_none s ns = sym (splice_nil s 2)

length_held_bytes : (ns : List Node) (i : ℕ) → i ≤ length ns → length (held_bytes ns i) ≡ i * node_size
unfolding held_bytes
length_held_bytes ns i h =
    let k : length (map node_of (take i ns)) ≡ i = length-map (take i ns) node_of ∙ length-take-le i ns (omega arith) in
    length_joined node_bytes node_size (map node_of (take i ns)) (all_any _ (map node_of (take i ns)) length_node) ∙ ap (λ (j : ℕ). j * node_size) k

pub held_next : (s : List ℕ) (ns : List Node) (i at to : ℕ) {t v : List ℕ} → t ≡ splice s 2 (held_bytes ns i) → i < length ns → at ≡ place_at i → to - at ≡ node_size
    → place_at (i + 1) ≤ length s → v ≡ node_bytes (node_of (get_or ns i zero_node)) → put_mid at (to - at) t v ≡ splice s 2 (held_bytes ns (i + 1))
unfolding held_bytes
held_next s ns i at to {t} {v} et h ea ek l ev =
    let n : model.Node = node_of (get_or ns i zero_node) in
    let b : List ℕ = joined node_bytes (map node_of (take i ns)) in
    let e : length b ≡ i * node_size = length_held_bytes ns i (omega arith) in
    let m : map node_of (take (i + 1) ns) ≡ map node_of (take i ns) ++ (n ∷ []) =
    ap (λ (j : ℕ). map node_of (take j ns)) (add-one i) ∙ ap (map node_of) (take-suc ns i zero_node h) ∙ map-append node_of (take i ns) (get_or ns i zero_node ∷ []) in
    let f : joined node_bytes (map node_of (take (i + 1) ns)) ≡ b ++ node_bytes n = rw m (joined_snoc node_bytes (map node_of (take i ns)) n) in
    put_mid_splice t at (to - at) ev (length_node n ∙ sym ek)
    ∙ rw (et, ea) (splice_next s 2 (i * node_size) b (node_bytes n) e (simp length_node (omega arith)))
    ∙ ap (splice s 2) (sym f)

bucket_parts : (s : List ℕ) (m : Bucket) (k f : ℕ) (ns : List ℕ) → k ≡ num_entries m → f ≡ length m.disconnected → ns ≡ joined node_bytes (nodes m) → k ≤ max_nodes_per_bucket
    → length s ≡ bucket_size
    → splice (splice (splice (splice s 0 (k ∷ f ∷ [])) 2 ns) (place_at k) (zeros ((max_nodes_per_bucket - k) * node_size))) pending_at (pending_bytes m.pending) ≡ bucket_bytes m
unfolding bucket_bytes
bucket_parts s m k f ns e₁ e₂ e₃ a l =
    let z : List ℕ = zeros ((max_nodes_per_bucket - k) * node_size) in
    let n : length ns ≡ k * node_size = ap length e₃ ∙ length_held m ∙ ap (λ (j : ℕ). j * node_size) (sym e₁) in
    let y : length z ≡ (max_nodes_per_bucket - k) * node_size = length-replicate {A = ℕ} ((max_nodes_per_bucket - k) * node_size) 0 in
    let q : length (pending_bytes m.pending) ≡ pending_size = length_pending m.pending in
    let b : List ℕ = ((k ∷ f ∷ []) ++ ns) ++ z in
    let w : length b ≡ pending_at = rw (length-append ns z) (omega arith) in
    let unused : splice (splice s 0 ((k ∷ f ∷ []) ++ ns)) (place_at k) z ≡ splice s 0 b =
    ap (λ (i : ℕ). splice (splice s 0 ((k ∷ f ∷ []) ++ ns)) i z) (sym (zero-add (place_at k))) ∙ splice_next s 0 (place_at k) ((k ∷ f ∷ []) ++ ns) z (omega arith) (omega arith) in
    rw (
      splice_next s 0 2 (k ∷ f ∷ []) ns refl (omega arith),
      unused,
      splice_next s 0 pending_at b (pending_bytes m.pending) w (omega arith),
      splice_all s (b ++ pending_bytes m.pending) (rw (length-append b (pending_bytes m.pending)) (omega arith)),
      e₁,
      e₂,
      e₃,
    )
    (ap (λ (r : List ℕ). num_entries m ∷ length m.disconnected ∷ r)
    (append_assoc (joined node_bytes (nodes m)) (zeros ((max_nodes_per_bucket - num_entries m) * node_size)) (pending_bytes m.pending)))

held_all : (b : KBucket) → Sound b → held_bytes b.nodes b.count ≡ joined node_bytes (nodes (bucket_of b))
unfolding held_bytes
held_all b h = ap (joined node_bytes) (sym (nodes_of b))

pub bucket_put : (s : List ℕ) (b : KBucket) → Sound b → length s ≡ bucket_size → (t z p : List ℕ) (i at : ℕ) → i ≡ b.count
    → t ≡ splice (set (set s 0 b.count) 1 b.first_connected_pos) 2 (held_bytes b.nodes i) → at ≡ place_at b.count
    → z ≡ zeros (length (take (pending_at - at) (drop at t))) → p ≡ pending_bytes (pending_of b.pending)
    → put_mid 754 56 (put_mid at (754 - at) t z) p ≡ bucket_bytes (bucket_of b)
bucket_put s b h l t z p i at ei et ea ez ep =
    let k : ℕ = b.count in
    let c : List ℕ = k ∷ b.first_connected_pos ∷ [] in
    let ns : List ℕ = held_bytes b.nodes k in
    let q : List ℕ = pending_bytes (pending_of b.pending) in
    let few : k ≤ max_nodes_per_bucket = h.few in
    let n : length ns ≡ k * node_size = length_held_bytes b.nodes k (omega (arith, places_long b h)) in
    let e0 : set (set s 0 k) 1 b.first_connected_pos ≡ splice s 0 c = set_2 s 0 k b.first_connected_pos (omega arith) in
    let o : length (splice s 0 c) ≡ length s = length_splice s 0 c (omega arith) in
    let e1 : t ≡ splice (splice s 0 c) 2 ns = et ∙ ap₂ (λ (x : List ℕ) (j : ℕ). splice x 2 (held_bytes b.nodes j)) e0 ei in
    let m : length t ≡ length s = ap length e1 ∙ length_splice (splice s 0 c) 2 ns (omega arith) ∙ o in
    let u : length (take (pending_at - at) (drop at t)) ≡ (max_nodes_per_bucket - k) * node_size = simp (length-take, length-drop) (omega arith) in
    let e2 : put_mid at (754 - at) t z ≡ splice t at (zeros ((max_nodes_per_bucket - k) * node_size)) =
    put_mid_splice t at (754 - at) (ez ∙ ap zeros u) (length-replicate {A = ℕ} ((max_nodes_per_bucket - k) * node_size) 0 ∙ omega arith) in
    put_mid_splice _ 754 56 ep (length_pending (pending_of b.pending))
    ∙ rw (e2, e1, ea) (bucket_parts s (bucket_of b) k b.first_connected_pos ns (count_of b h) (first_of b h) (held_all b h) few l)
