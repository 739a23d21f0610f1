use Rattle.std.proofs.Common.{◌+◌, sym, ◌∙◌, arith}
use Rattle.key.specs.Key.{Words}
use Rattle.node.specs.Node.{node_of}
use Rattle.model.specs.Bucket as rules
use Rattle.bucket.specs.Bucket.{bucket_of, settings_of, Becomes}
use Rattle.bucket.proofs.Steps.{renewed, placed_connected, placed_disconnected}
use Rattle.bucket.proofs.SoundBucket.placed.Goals as goal
use Rattle.bucket.proofs.SoundBucket.placed.Goals.{After-insert_at, After-insert_at-2}

module _ (c : After-insert_at) where
  connected : Becomes (settings_of c.args.self.bucket) (rules.placed (node_of c.args.node.node) (bucket_of c.args.self.bucket))
      (renewed c.insert_at.result (c.args.self.bucket.count + 1) c.args.self.bucket.first_connected_pos c.cleared-pending.result c.args.self.bucket)
  connected =
      let words : Words c.args.node.node.key = omega arith in
      placed_connected c.args.self.bucket c.args.self.sound c.requires.count_lt_max_nodes_per_bucket c.args.node.node words c.args.node.codes c.requires.self_value c.requires.self_value_2 _ _
      c.cleared-pending.ensures (sym c.is_connected.ensures ∙ c.if-is_connected.true) c.insert_at.ensures

module _ (c : After-insert_at-2) where
  disconnected : Becomes (settings_of c.args.self.bucket) (rules.placed (node_of c.args.node.node) (bucket_of c.args.self.bucket))
      (renewed c.insert_at-2.result (c.args.self.bucket.count + 1) (c.args.self.bucket.first_connected_pos + 1) c.cleared-pending.result c.args.self.bucket)
  disconnected =
      let words : Words c.args.node.node.key = omega arith in
      placed_disconnected c.args.self.bucket c.args.self.sound c.requires.count_lt_max_nodes_per_bucket c.args.node.node words c.args.node.codes c.requires.self_value c.requires.self_value_2 _ _
      c.cleared-pending.ensures (sym c.is_connected.ensures ∙ c.if-is_connected.false) c.insert_at-2.ensures

pub invariant_of-result : goal.invariant_of-result
invariant_of-result c = record { sound = (connected (goal.at.invariant_of-result c).After-insert_at).sound }

pub returns-then-is_connected : goal.returns-then-is_connected
returns-then-is_connected c = connected (goal.at.returns-then-is_connected c).After-insert_at

pub invariant_of-result-2 : goal.invariant_of-result-2
invariant_of-result-2 c = record { sound = (disconnected (goal.at.invariant_of-result-2 c).After-insert_at-2).sound }

pub returns : goal.returns
returns c = disconnected (goal.at.returns c).After-insert_at-2
