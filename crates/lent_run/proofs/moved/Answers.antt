use Rattle.key.proofs.Words.{is_key}
use Rattle.lent_run.proofs.moved.Goals as goal

pub prove-unreachable-requires : goal.prove-unreachable-requires
prove-unreachable-requires g c = is_key 33 c.moved-step.ensures.bucket_value c.from.ensures c.eq.ensures c.if-prove.true

pub prove-unreachable-requires-2 : goal.prove-unreachable-requires-2
prove-unreachable-requires-2 g c = is_key 32 c.moved-step.ensures.bucket_value_2 c.from-2.ensures c.eq-2.ensures c.if-prove-2.true
