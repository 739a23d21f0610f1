use mathlib.Core.Path.{ap, ◌∙◌}
use native.Mathlib.Omega.{arith}
use mathlib.Core.Option.{some}
use Rattle.model.specs.Bucket as rules
use Rattle.model.specs.Node as model
use Rattle.laws.proofs.KeepFormed.{count_take_out_held, take_out_holds}
use Rattle.key.specs.Key.{num}
use Rattle.node.specs.declared.Node.{Node}
use Rattle.node.specs.Node.{node_of}
use Rattle.bucket.specs.Bucket.{bucket_of, settings_of, key_at}
use Rattle.bucket.proofs.Sound.{count_of, formed_of}
use Rattle.bucket.proofs.Steps.{told, then_becomes, holds_at}
use Rattle.bucket.proofs.Rules.{take_out_low}
use Rattle.bucket.proofs.SoundBucket.evict.Goals as goal

pub placed-requires : goal.placed-requires
placed-requires c =
    let b = c.args.self.now.bucket in
    let k = key_at b 0 in
    let x = c.taken_out.ensures in
    let n = node_of c.args.node.node in
    let fewer = count_take_out_held k (bucket_of b) (holds_at b c.args.self.now.sound 0 (omega (arith, c.requires.max_nodes_per_bucket_le_count))) in
    let most = (formed_of b c.args.self.now.sound).at_most in
    let many = count_of c.taken_out.result.bucket x.sound ∙ ap rules.num_entries x.bucket in
    record {
      count_lt_max_nodes_per_bucket = omega arith;
      self_value = told x (λ (s : rules.BucketSettings) (m : rules.Bucket). rules.holds (num c.args.node.node.key) m) ∙ take_out_holds (num c.args.node.node.key) k (bucket_of b) c.requires.self_value;
      self_value_2 = told x (λ (s : rules.BucketSettings) (m : rules.Bucket). rules.is_max_incoming s n m) ∙ take_out_low (settings_of b) n k (bucket_of b) c.requires.self_value_2;
    }

pub returns : goal.returns
returns c =
    let n = node_of c.args.node.node in
    record {
      result_value = ap (λ (m : Node). model.ended n (model.Placed (some (node_of m)))) c.node_at-evicted.ensures;
      becomes = then_becomes c.taken_out.ensures (λ (s' : rules.BucketSettings) (m' : rules.Bucket). rules.placed n m') c.placed.ensures;
    }
