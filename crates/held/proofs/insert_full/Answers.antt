use Rattle.std.proofs.Common.{arith, sym, ◌∙◌}
use Rattle.node.specs.Node.{node_of}
use Rattle.bucket.specs.Settings.{settings_of}
use Rattle.held.proofs.Steps.{full_off, full_none, full_waits}
use Rattle.held.proofs.insert_full.Goals as goal
use Rattle.held.proofs.insert_full.Goals.{else-is_connected-via-then-is_connected+else-bucket-gt0, else-is_connected-via-else-is_connected}

pub returns-then-bucket-gt0 : goal.returns-then-bucket-gt0
returns-then-bucket-gt0 c =
    full_waits c.requires (settings_of c.args.now.settings) (node_of c.args.node.node) c.args.now.time (sym c.is_connected.ensures ∙ c.if-is_connected.true) c.if-bucket-gt0.true
    (rw (c.place.ensures, c.nodes.ensures) at c.load_key-key.ensures) c.store_pending.ensures

pub returns : goal.returns
returns c =
    elim c.else-is_connected.branch [
      | else-is_connected-via-then-is_connected+else-bucket-gt0 w ↦
          full_none c.requires (settings_of c.args.now.settings) (node_of c.args.node.node) c.args.now.time (sym c.is_connected.ensures ∙ w.if-is_connected.true) (omega arith)
      | else-is_connected-via-else-is_connected w ↦
          full_off c.requires (settings_of c.args.now.settings) (node_of c.args.node.node) c.args.now.time (sym c.is_connected.ensures ∙ w.if-is_connected.false)
    ]
