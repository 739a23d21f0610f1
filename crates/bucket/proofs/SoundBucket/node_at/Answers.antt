use Rattle.bucket.proofs.Steps.{stored_at}
use Rattle.node.proofs.Stored.{stored_codes}
use Rattle.bucket.proofs.SoundBucket.node_at.Goals as goal

pub invariant_of-result : goal.invariant_of-result
invariant_of-result c = record { codes = stored_codes _ (stored_at c.args.self.now.bucket c.args.self.now.sound c.args.pos c.requires) }
