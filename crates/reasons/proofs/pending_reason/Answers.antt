use Rattle.std.proofs.Common.{rules, refl, not, ◌∙◌}
use Rattle.key.specs.Key.{num}
use Rattle.reasons.proofs.Rules.{reason_if, not_pending}
use Rattle.reasons.proofs.pending_reason.Goals as goal

pub returns : goal.returns
returns c =
    let t = c.is_some_and-pending.result in
    rw c.then_some.ensures (reason_if (not t) _ refl ∙ not_pending (num c.args.key) c.args.b.now.bucket.pending t c.is_some_and-pending.ensures (λ q h. search rules))
