use Rattle.std.proofs.Common.{refl, not, ◌∙◌}
use Rattle.key.specs.Key.{num}
use Rattle.bucket.specs.Bucket.{bucket_of}
use Rattle.reasons.proofs.Rules.{reason_if, removes}
use Rattle.reasons.proofs.remove_reason.Goals as goal

pub returns : goal.returns
returns c =
    rw c.then_some.ensures (reason_if (not c.holds.result) _ refl ∙ removes (num c.args.key) (bucket_of c.args.b.now.bucket) c.holds.result c.holds.ensures)
