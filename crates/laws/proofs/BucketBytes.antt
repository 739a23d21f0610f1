-- The bytes of a bucket: what is written is read again.
use mathlib.Core.Path.{◌≡◌, refl, ap, ◌∙◌}
use mathlib.Core.List.{List, [], ◌∷◌, ◌++◌, append_assoc}
use mathlib.Core.Option.{Option, none, some}
use Prim.Native.Nat.{ℕ, ◌+◌, ◌*◌, ◌-◌, ◌≤◌, ◌<◌}
use native.Mathlib.Omega.{arith}
use lib.ListN.{length, get_or, length-append, length-replicate}
use lib.Seq.{take-append_seam, drop-append_seam}
use Rattle.model.specs.Base.{joined, tabulate}
use Rattle.model.specs.Bytes.{bytes, part, zeros, Bytes}
use Rattle.model.specs.Node.{Node, PendingNode}
use Rattle.model.specs.Bucket.{Bucket, max_nodes_per_bucket, nodes, num_entries, empty_bucket}
use Rattle.model.specs.Sizes.{node_size, time_size, pending_at, pending_size, bucket_size}
use Rattle.model.specs.Layout.{node_bytes, pending_bytes, bucket_bytes, node_in, place_in, nodes_in, pending_in, bucket_in}
use Rattle.model.specs.Fits.{Opt, FitsNode, FitsPending, FitsBucket}
use Rattle.laws.proofs.Lists.{length_joined, tabulate_is}
use Rattle.laws.proofs.Parts.{part_left, part_right, part_front, part_end, part_joined, get_or_right, slot_before}
use Rattle.laws.proofs.Bytes.{length_bytes, number_there, Bytes_cons, Bytes_append, Bytes_zeros, Bytes_bytes, Bytes_joined}
use Rattle.laws.proofs.NodeBytes.{length_node, Bytes_node, node_there}
use Rattle.laws.proofs.All.{all_any, all_map, all_get_d}

-- the pending

pub length_pending : (o : Option PendingNode) → length (pending_bytes o) ≡ pending_size
length_pending none = length-replicate {A = ℕ} pending_size 0
length_pending (some p) = simp (length-append, length_node, length_bytes)

pub Bytes_pending : (o : Option PendingNode) → Opt FitsPending o → Bytes (pending_bytes o)
Bytes_pending none f = Bytes_zeros pending_size
Bytes_pending (some p) f =
    let ns : List ℕ = node_bytes p.node in
    let d : List ℕ = bytes time_size p.deadline in
    Bytes_cons 1 (ns ++ d) (omega arith) (Bytes_append ns d (Bytes_node p.node f.0) (Bytes_bytes time_size p.deadline))

pub pending_there : (o : Option PendingNode) (a : List ℕ) → length a ≡ pending_at → Opt FitsPending o → pending_in (a ++ pending_bytes o) ≡ o
unfolding part
pending_there none a e f = rw (get_or_right a (zeros pending_size) pending_at 0 e)
pending_there (some p) a e f =
    let ns : List ℕ = node_bytes p.node in
    let d : List ℕ = bytes time_size p.deadline in
    let n : length ns ≡ node_size = length_node p.node in
    let m : length d ≡ time_size = length_bytes time_size p.deadline in
    rw (
      get_or_right a (1 ∷ (ns ++ d)) pending_at 0 e,
      part_right a (1 ∷ (ns ++ d)) pending_at 1 node_size e,
      part_right a (1 ∷ (ns ++ d)) pending_at (1 + node_size) time_size e,
      part_front ns d node_size n,
      part_end ns d node_size time_size n m,
      node_there p.node f.0,
      number_there time_size p.deadline f.1,
    )

-- the bucket

pub length_nodes : (b : Bucket) → length (nodes b) ≡ num_entries b
length_nodes b = length-append b.disconnected b.connected

-- what stands before the pending: the two counts and the places
abbrev pub places_bytes : Bucket → List ℕ
places_bytes b = num_entries b ∷ length b.disconnected ∷ (joined node_bytes (nodes b) ++ zeros ((max_nodes_per_bucket - num_entries b) * node_size))

pub bucket_cut : (b : Bucket) → bucket_bytes b ≡ places_bytes b ++ pending_bytes b.pending
unfolding bucket_bytes
bucket_cut b = simp append_assoc

pub length_held : (b : Bucket) → length (joined node_bytes (nodes b)) ≡ num_entries b * node_size
length_held b = length_joined node_bytes node_size (nodes b) (all_any _ (nodes b) length_node) ∙ ap (λ (k : ℕ). k * node_size) (length_nodes b)

pub length_places : (b : Bucket) → num_entries b ≤ max_nodes_per_bucket → length (places_bytes b) ≡ pending_at
length_places b l = rw (length-append (joined node_bytes (nodes b)) (zeros ((max_nodes_per_bucket - num_entries b) * node_size)), length_held b, length-replicate {A = ℕ} ((max_nodes_per_bucket - num_entries b) * node_size) 0) (omega arith)

pub length_bucket : (b : Bucket) → num_entries b ≤ max_nodes_per_bucket → length (bucket_bytes b) ≡ bucket_size
length_bucket b l = rw (bucket_cut b, length-append (places_bytes b) (pending_bytes b.pending), length_places b l, length_pending b.pending)

pub Bytes_bucket : (b : Bucket) → num_entries b ≤ max_nodes_per_bucket → FitsBucket b → Bytes (bucket_bytes b)
unfolding bucket_bytes
Bytes_bucket b l f =
    let ns : List ℕ = joined node_bytes (nodes b) in
    let z : List ℕ = zeros ((max_nodes_per_bucket - num_entries b) * node_size) in
    let q : List ℕ = pending_bytes b.pending in
    Bytes_cons (num_entries b) (length b.disconnected ∷ (ns ++ (z ++ q))) (omega arith)
    (Bytes_cons (length b.disconnected) (ns ++ (z ++ q)) (omega arith)
    (Bytes_append ns (z ++ q) (Bytes_joined node_bytes (nodes b) (all_map FitsNode (λ n. Bytes (node_bytes n)) Bytes_node (nodes b) f.held))
    (Bytes_append z q (Bytes_zeros ((max_nodes_per_bucket - num_entries b) * node_size)) (Bytes_pending b.pending f.pending))))

pub place_there : (b : Bucket) (j : ℕ) (d : Node) → j < num_entries b → place_in (bucket_bytes b) j ≡ node_bytes (get_or (nodes b) j d)
unfolding bucket_bytes
place_there b j d l =
    let ns : List ℕ = joined node_bytes (nodes b) in
    let r : List ℕ = zeros ((max_nodes_per_bucket - num_entries b) * node_size) ++ pending_bytes b.pending in
    let h : j * node_size + node_size ≤ length ns = omega (arith, length_held b, slot_before j (num_entries b) node_size l) in
    part_right (num_entries b ∷ length b.disconnected ∷ []) (ns ++ r) 2 (j * node_size) node_size refl
    ∙ part_left ns r (j * node_size) node_size h
    ∙ part_joined node_bytes node_size (nodes b) (all_any _ (nodes b) length_node) j d (rw length_nodes l)

pub nodes_there : (b : Bucket) → FitsBucket b → nodes_in (bucket_bytes b) ≡ nodes b
unfolding nodes_in bucket_bytes
nodes_there b f =
    tabulate_is (nodes b) (node_in []) (num_entries b) (λ j. node_in (place_in (bucket_bytes b) j)) (length_nodes b)
    (λ j l. ap node_in (place_there b j (node_in []) l) ∙ node_there (get_or (nodes b) j (node_in [])) (all_get_d FitsNode (nodes b) j (node_in []) f.held (rw length_nodes l)))

pub bucket_there : (b : Bucket) → num_entries b ≤ max_nodes_per_bucket → FitsBucket b → bucket_in (bucket_bytes b) ≡ b
unfolding bucket_in
bucket_there b l f =
    let p : pending_in (bucket_bytes b) ≡ b.pending = rw (bucket_cut b) (pending_there b.pending (places_bytes b) (length_places b l) f.pending) in
    let g : get_or (bucket_bytes b) 1 0 ≡ length b.disconnected = rw (bucket_cut b) in
    rw (g, nodes_there b f, p, take-append_seam b.disconnected b.connected, drop-append_seam b.disconnected b.connected)

-- past the storage's end there is the empty bucket
pub bucket_none : bucket_in [] ≡ empty_bucket
unfolding bucket_in nodes_in tabulate
bucket_none = refl

pub bytes_empty : bucket_bytes empty_bucket ≡ zeros bucket_size
unfolding bucket_bytes joined
bytes_empty = refl
