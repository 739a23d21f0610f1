use Rattle.std.proofs.Common.{arith}
use Rattle.key.specs.Key.{num}
use Rattle.model.specs.Layout.{bucket_in}
use Rattle.node.specs.Node.{node_of}
use Rattle.bucket.specs.Settings.{settings_of}
use Rattle.held.proofs.Steps.{absent_holds}
use Rattle.held_update.proofs.Laws.{filtered_does, held_does, inserted_does}
use Rattle.held_update.proofs.insert_or_update.Goals as goal

pub returns-then-fails : goal.returns-then-fails
returns-then-fails c = filtered_does (settings_of c.args.now.settings) (bucket_in c.args.bucket.now) (node_of c.args.node.node) c.args.now.time c.if-fails.true (c.remove.ensures (settings_of c.args.now.settings) c.args.now.time)

pub returns-in-Some : goal.returns-in-Some
returns-in-Some c = held_does (settings_of c.args.now.settings) (bucket_in c.args.bucket.now) (node_of c.args.node.node) c.args.now.time c.if-fails.false (c.update_held.ensures c.args.now.time)

pub returns-in-None : goal.returns-in-None
returns-in-None c =
    inserted_does (settings_of c.args.now.settings) (bucket_in c.args.bucket.now) (node_of c.args.node.node) c.args.now.time c.if-fails.false
    (absent_holds c.requires.quiet (num c.args.node.node.key) (omega (arith, rw c.in-None.is at c.requires.position))) c.inserts.ensures c.insert_new.ensures

pub update_held-requires-clause-held : goal.update_held-requires-clause-held
update_held-requires-clause-held c = (rw c.in-Some.is at c.requires.position).1

pub update_held-requires-clause-node : goal.update_held-requires-clause-node
update_held-requires-clause-node c = (rw c.in-Some.is at c.requires.position).0

pub insert_new-requires-clause-absent : goal.insert_new-requires-clause-absent
insert_new-requires-clause-absent c = omega (arith, rw c.in-None.is at c.requires.position)
