use Rattle.std.proofs.Common.{refl, sym, subst, None}
use mathlib.Core.Option.{none}
use Rattle.model.specs.Bucket.{with_pending}
use Rattle.bucket.specs.Bucket.{bucket_of, settings_of, Becomes}
use Rattle.bucket.proofs.Steps.{pending_becomes}
use Rattle.bucket.proofs.SoundBucket.without_pending.Goals as goal
use Rattle.bucket.proofs.SoundBucket.without_pending.Goals.{After-with_pending}

module _ (c : After-with_pending) where
  left : Becomes (settings_of c.args.self.bucket) (with_pending none (bucket_of c.args.self.bucket)) c.with_pending.result
  left =
      let b = c.args.self.bucket in
      subst (Becomes (settings_of b) (with_pending none (bucket_of b))) (sym c.with_pending.ensures) (pending_becomes b c.args.self.sound None none refl tt)

pub invariant_of-result : goal.invariant_of-result
invariant_of-result c = record { sound = (left (goal.at.invariant_of-result c).After-with_pending).sound }

pub returns : goal.returns
returns c = left (goal.at.returns c).After-with_pending
