use Rattle.key.specs.Key.{num}
use Rattle.node.specs.Node.{node_of}
use Rattle.bucket.specs.Settings.{settings_of}
use Rattle.held.proofs.Steps.{step_filter, step_many, step_placed}
use Rattle.held.proofs.step.Goals as goal

pub returns-then-fails_filter : goal.returns-then-fails_filter
returns-then-fails_filter c =
    step_filter c.requires.quiet (settings_of c.args.settings) (node_of c.args.old) (node_of c.args.node.node) c.args.pos c.requires.node c.requires.held
    (rw c.nodes.ensures at c.fails_filter.ensures) c.if-fails_filter.true (c.take_out.ensures (num c.args.node.node.key) c.requires.node)

pub returns-then-is_max_incoming : goal.returns-then-is_max_incoming
returns-then-is_max_incoming c =
    step_many c.requires.quiet (settings_of c.args.settings) (node_of c.args.old) (node_of c.args.node.node) c.args.pos c.requires.node c.requires.held
    (rw c.nodes.ensures at c.fails_filter.ensures) c.if-fails_filter.false (rw c.nodes.ensures at c.is_max_incoming.ensures) c.if-is_max_incoming.true (c.take_out-then-is_max_incoming.ensures (num c.args.node.node.key) c.requires.node)

pub returns : goal.returns
returns c =
    step_placed c.requires.quiet (settings_of c.args.settings) (node_of c.args.old) (node_of c.args.node.node) c.args.pos c.requires.node c.requires.held
    (rw c.nodes.ensures at c.fails_filter.ensures) c.if-fails_filter.false (rw c.nodes.ensures at c.is_max_incoming.ensures) c.if-is_max_incoming.false c.status_result.ensures c.replace.ensures
