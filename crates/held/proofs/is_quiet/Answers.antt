use Rattle.std.proofs.Common.{rules}
use Rattle.held.proofs.Quiet.{quiet_if}
use Rattle.held.proofs.is_quiet.Goals as goal

pub returns : goal.returns
returns c = λ p m h r. quiet_if p m c.args.bucket.now (search rules) (search rules) h r
