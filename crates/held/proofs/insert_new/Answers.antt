use Rattle.std.proofs.Common.{arith}
use Rattle.node.specs.Node.{node_of}
use Rattle.bucket.specs.Settings.{settings_of}
use Rattle.held.proofs.Steps.{inserts_filter, inserts_many, inserts_placed, inserts_full}
use Rattle.held.proofs.insert_new.Goals as goal

pub returns-then-fails_filter : goal.returns-then-fails_filter
returns-then-fails_filter c = inserts_filter c.requires.quiet (settings_of c.args.now.settings) (node_of c.args.node.node) c.args.now.time c.requires.absent (rw c.nodes-held.ensures at c.nodes-held.result.counts) (rw c.nodes-held.ensures at c.fails_filter.ensures) c.if-fails_filter.true

pub returns-then-is_max_incoming : goal.returns-then-is_max_incoming
returns-then-is_max_incoming c =
    inserts_many c.requires.quiet (settings_of c.args.now.settings) (node_of c.args.node.node) c.args.now.time c.requires.absent (rw c.nodes-held.ensures at c.nodes-held.result.counts) (rw c.nodes-held.ensures at c.fails_filter.ensures) c.if-fails_filter.false
    (rw c.nodes-held.ensures at c.is_max_incoming.ensures) c.if-is_max_incoming.true

pub returns-then-held-lt-MAX_NODES_PER_BUCKET : goal.returns-then-held-lt-MAX_NODES_PER_BUCKET
returns-then-held-lt-MAX_NODES_PER_BUCKET c =
    inserts_placed c.requires.quiet (settings_of c.args.now.settings) (node_of c.args.node.node) c.args.now.time c.requires.absent (rw c.nodes-held.ensures at c.nodes-held.result.counts) (rw c.nodes-held.ensures at c.fails_filter.ensures) c.if-fails_filter.false
    (rw c.nodes-held.ensures at c.is_max_incoming.ensures) c.if-is_max_incoming.false (omega arith) c.place.ensures

pub returns : goal.returns
returns c =
    inserts_full c.requires.quiet (settings_of c.args.now.settings) (node_of c.args.node.node) c.args.now.time c.requires.absent (rw c.nodes-held.ensures at c.nodes-held.result.counts) (rw c.nodes-held.ensures at c.fails_filter.ensures) c.if-fails_filter.false
    (rw c.nodes-held.ensures at c.is_max_incoming.ensures) c.if-is_max_incoming.false (omega arith) c.insert_full.ensures
