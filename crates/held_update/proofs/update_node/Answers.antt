use Rattle.std.proofs.Common.{arith, refl}
use Rattle.model.specs.Layout.{bucket_in}
use Rattle.key.specs.Key.{num}
use Rattle.node.specs.Node.{value_of}
use Rattle.node.specs.Status.{optional_of}
use Rattle.bucket.specs.Settings.{settings_of}
use Rattle.held.proofs.Steps.{value_none}
use Rattle.held_update.proofs.Laws.{out_does, kept_does, value_failed}
use Rattle.held_update.proofs.update_node.Goals as goal

pub returns-then-fails : goal.returns-then-fails
returns-then-fails c =
    λ time. out_does (settings_of c.args.settings) (bucket_in c.args.bucket.now) time (num c.args.key) (value_of c.args.update.value.value) (optional_of c.args.update.state) c.if-fails.true
    (c.remove.ensures (settings_of c.args.settings) time)

-- the key is not held
pub returns-in-None : goal.returns-in-None
returns-in-None c =
    λ time.
    kept_does (settings_of c.args.settings) (bucket_in c.args.bucket.now) time (num c.args.key) (value_of c.args.update.value.value) (optional_of c.args.update.state) c.if-fails.false
    (value_failed (settings_of c.args.settings) (bucket_in c.args.bucket.now) time (num c.args.key) (value_of c.args.update.value.value) (optional_of c.args.update.state)
    (value_none c.requires (num c.args.key) (settings_of c.args.settings) (value_of c.args.update.value.value) (omega (arith, rw c.nodes.ensures at c.in-None.ensures))) refl)

pub returns-in-Some : goal.returns-in-Some
returns-in-Some c =
    λ time.
    kept_does (settings_of c.args.settings) (bucket_in c.args.bucket.now) time (num c.args.key) (value_of c.args.update.value.value) (optional_of c.args.update.state) c.if-fails.false
    (c.update_at.ensures time (num c.args.key) (rw c.nodes.ensures at c.in-Some.ensures).0)
