use Rattle.std.proofs.Common.{◌≡◌, arith, refl, ap, length-set, ◌∙◌, ℕ, get_or}
use Rattle.model.specs.Bucket.{max_nodes_per_bucket}
use Rattle.node.specs.declared.Node.{Node}
use Rattle.std.proofs.Math.ListN.{replicate}
use Rattle.places.specs.Places.{padded}
use Rattle.buckets.specs.Read.{read_places}
use Rattle.buckets.proofs.Loaded.{places_none, places_next, count_few, loaded}
use Rattle.buckets.proofs.load.Goals as goal

pub of-held-requires : goal.of-held-requires
of-held-requires c = count_few c.args.bucket.now c.args.settings.max_incoming c.requires.bucket_value

pub loop-i-init : goal.loop-i-init
loop-i-init c = record { length_nodes = refl; places = ap (λ (n : Node). replicate max_nodes_per_bucket n) c.zero-nodes.ensures ∙ places_none c.args.bucket.now }

pub loop-i-preserved : goal.loop-i-preserved
loop-i-preserved c = record {
  length_nodes = length-set c.loop-i.nodes c.loop-i.i c.load_node.result ∙ c.loop-i.invariant.length_nodes;
  places =
      rw (c.load_node.ensures, c.place.ensures, c.of-held.ensures)
      (places_next c.args.bucket.now c.loop-i.i c.loop-i.nodes (omega (arith, c.of-held.result.few)) c.loop-i.invariant.places);
}

pub invariant_of-result : goal.invariant_of-result
invariant_of-result c =
    let bs = c.args.bucket.now in
    let n : c.of-held.result.count ≡ get_or bs 0 0 = rw (← c.of-held.ensures) c.of-held.result.counts in
    let e : c.loop-i.i ≡ c.of-held.result.count = omega arith in
    let x = loaded bs c.told-bucket c.fits-bucket c.args.settings c.requires.bucket_value c.requires.settings_value c.loop-i.nodes _ _ _
    (c.loop-i.invariant.places ∙ ap (λ (k : ℕ). padded (read_places bs k)) e) n c.from.ensures c.load_pending.ensures
    in record { sound = x.sound }

pub returns : goal.returns
returns c =
    let bs = c.args.bucket.now in
    let n : c.of-held.result.count ≡ get_or bs 0 0 = rw (← c.of-held.ensures) c.of-held.result.counts in
    let e : c.loop-i.i ≡ c.of-held.result.count = omega arith in
    loaded bs c.told-bucket c.fits-bucket c.args.settings c.requires.bucket_value c.requires.settings_value c.loop-i.nodes _ _ _
    (c.loop-i.invariant.places ∙ ap (λ (k : ℕ). padded (read_places bs k)) e) n c.from.ensures c.load_pending.ensures
