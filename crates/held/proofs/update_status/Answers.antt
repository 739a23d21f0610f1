use Rattle.std.proofs.Common.{arith}
use Rattle.key.specs.Key.{num}
use Rattle.model.specs.Call.{is_one}
use Rattle.node.specs.Status.{optional_of}
use Rattle.bucket.specs.Settings.{settings_of}
use Rattle.held.proofs.Steps.{status_none}
use Rattle.held.proofs.update_status.Goals as goal

pub returns-in-Some : goal.returns-in-Some
returns-in-Some c = c.update_status_at.ensures (num c.args.key) (rw c.nodes.ensures at c.in-Some.ensures).0

pub returns-in-None : goal.returns-in-None
returns-in-None c =
    status_none c.requires (num c.args.key) (settings_of c.args.settings) (is_one c.args.status.state) (optional_of c.args.status.direction)
    (omega (arith, rw c.nodes.ensures at c.in-None.ensures))
