use Rattle.std.proofs.Common.{ap, ◌∙◌}
use Rattle.bucket.specs.declared.KBucket.{KBucket}
use Rattle.lent_run.proofs.Computed.{two_held}
use Rattle.lent_run.proofs.inserted.Goals as goal

pub prove-unreachable-requires-2 : goal.prove-unreachable-requires-2
prove-unreachable-requires-2 g c =
    c.if-prove-2.true (ap (λ (b : KBucket). b.count) c.inserted-step.ensures.bucket_value ∙ two_held)
