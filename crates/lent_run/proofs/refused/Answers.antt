use Rattle.std.proofs.Common.{ap, ◌∙◌}
use Rattle.bucket.specs.declared.KBucket.{KBucket}
use Rattle.lent_run.proofs.Computed.{none_held}
use Rattle.lent_run.proofs.refused.Goals as goal

pub prove-unreachable-requires-2 : goal.prove-unreachable-requires-2
prove-unreachable-requires-2 g c =
    c.if-prove-2.true (ap (λ (b : KBucket). b.count) c.requires.bucket_value ∙ none_held)
