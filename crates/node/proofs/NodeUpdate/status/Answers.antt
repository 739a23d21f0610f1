use Rattle.std.proofs.Common.{◌≤◌}
use Rattle.std.specs.Bool.{⊤}
use Rattle.std.proofs.lemmas.Option.{MatchOption-at_some}
use Rattle.node.proofs.NodeUpdate.status.Goals as goal

pub invariant_of-result-clause-state_bound : goal.invariant_of-result-clause-state_bound
invariant_of-result-clause-state_bound c = MatchOption-at_some ⊤ (λ u. u ≤ 1) c.in_ok-state.state c.in_ok-state.was c.args.self.state_bound
