use Rattle.std.proofs.Common.{sym, ◌∙◌}
use Rattle.node.specs.Node.{node_of}
use Rattle.bucket.proofs.Steps.{incoming_not, incoming_counts}
use Rattle.bucket.proofs.SoundBucket.is_max_incoming.Goals as goal

pub returns-then-is_connected_incoming : goal.returns-then-is_connected_incoming
returns-then-is_connected_incoming c = incoming_counts c.args.self.now.bucket (node_of c.args.node) (sym c.is_connected_incoming.ensures ∙ c.if-is_connected_incoming.true) _ (rw c.nodes.ensures at c.incoming.ensures)

pub returns-else-is_connected_incoming : goal.returns-else-is_connected_incoming
returns-else-is_connected_incoming c = c.if-is_connected_incoming.false ∙ incoming_not c.args.self.now.bucket (node_of c.args.node) (sym c.is_connected_incoming.ensures ∙ c.if-is_connected_incoming.false)
