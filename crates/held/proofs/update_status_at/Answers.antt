use Rattle.bucket.specs.Settings.{settings_of}
use Rattle.held.proofs.Steps.{same_place, status_does}
use Rattle.held.proofs.update_status_at.Goals as goal

pub step-requires-clause-node : goal.step-requires-clause-node
step-requires-clause-node c = same_place c.requires.quiet c.args.pos c.requires.held c.node_at-old.ensures c.args.status.state c.args.status.direction c.with_status.ensures

pub returns : goal.returns
returns c =
    λ k e. status_does c.requires.quiet c.args.pos c.requires.held c.node_at-old.ensures c.args.status.state c.args.status.direction c.with_status.ensures (settings_of c.args.settings) k e c.step.ensures
