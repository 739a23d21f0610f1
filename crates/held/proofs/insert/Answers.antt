use Rattle.std.proofs.Common.{arith}
use Rattle.node.specs.Node.{node_of}
use Rattle.bucket.specs.Settings.{settings_of}
use Rattle.held.proofs.Steps.{insert_held}
use Rattle.held.proofs.insert.Goals as goal

pub returns-in-Some : goal.returns-in-Some
returns-in-Some c =
    let f = rw c.nodes.ensures at c.in-Some.ensures in
    insert_held c.requires (settings_of c.args.now.settings) (node_of c.args.node.node) c.args.now.time (omega (arith, f.0, f.1))
