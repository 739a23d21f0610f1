use Rattle.std.proofs.Common.{◌≡◌, ◌+◌, ◌*◌, ◌-◌, ℕ, List, get_or, refl, sym, ap, ◌∙◌, arith}
use Rattle.model.specs.Bytes.{part}
use Rattle.model.specs.Bucket.{max_nodes_per_bucket}
use Rattle.model.specs.Sizes.{node_size}
use Rattle.model.specs.Formed.{are_zero}
use Rattle.words.proofs.Zero.{zero_bytes}
use Rattle.well_formed.specs.Index.{has_index}
use Rattle.well_formed.proofs.Buckets.{bucket_many, bucket_held}
use Rattle.well_formed.proofs.parts_formed.Goals as goal

pub returns-then-from-gt-MAX_NODES_PER_BUCKET : goal.returns-then-from-gt-MAX_NODES_PER_BUCKET
returns-then-from-gt-MAX_NODES_PER_BUCKET c =
    let a = c.args in
    sym (bucket_many (has_index a.index) a.max_incoming a.bucket.now _ _ c.from.ensures refl (omega arith))

pub returns : goal.returns
unfolding part
returns c =
    let a = c.args in
    let bs = a.bucket.now in
    let nodes = c.of-nodes.result in
    let e = c.of-nodes.ensures in
    let at : ℕ = 2 + nodes.count * 47 in
    let n : 754 - at ≡ (max_nodes_per_bucket - nodes.count) * node_size = omega (arith, nodes.few) in
    let z = c.all_zero_by-rest.ensures ∙ zero_bytes bs at (754 - at) (omega arith) ∙ ap (are_zero bs at) n in
    let counts : nodes.count ≡ get_or bs 0 0 = nodes.counts ∙ ap (λ (s : List ℕ). get_or s 0 0) e in
    rw (c.keys_differ.ensures, c.places_formed.ensures, z, c.from-2.ensures, c.incoming_within-within.ensures, c.pending_formed.ensures, e)
    (sym (bucket_held (has_index a.index) a.max_incoming bs _ _ counts refl nodes.few))
