use Rattle.std.proofs.Common.{ℕ, sym, ap, ◌∙◌}
use lib.ListN.{get_or}
use Rattle.model.specs.Bucket as rules
use Rattle.node.specs.Node.{node_of, zero_node}
use Rattle.bucket.specs.Bucket.{bucket_of, settings_of, stated}
use Rattle.bucket.proofs.Steps.{then_does}
use Rattle.bucket.proofs.Held.{room, not_held}
use Rattle.bucket.proofs.SoundBucket.put_again.Goals as goal

pub reinserted-requires : goal.reinserted-requires
reinserted-requires c =
    let b = c.args.self.now.bucket in
    let s = c.args.self.now.sound in
    record {
      count_lt_max_nodes_per_bucket = room b s c.args.pos c.requires.pos_lt_count _ _ c.rest_at.ensures;
      self_value = ap (λ (k : ℕ). rules.holds k (bucket_of c.rest_at.result.bucket)) (sym c.requires.pos_value) ∙ not_held b s c.args.pos c.requires.pos_lt_count _ _ c.rest_at.ensures;
    }

pub returns : goal.returns
returns c =
    let b = c.args.self.now.bucket in
    let s = settings_of b in
    let n = node_of c.args.node.node in
    let old = node_of (get_or b.nodes c.args.pos zero_node) in
    let x = rw (c.is_connected.ensures, c.requires.pos_value) at c.rest_at.ensures in
    then_does x (λ (t : rules.BucketSettings) (m : rules.Bucket). stated old n (rules.reinsert t n m)) c.reinserted.ensures
