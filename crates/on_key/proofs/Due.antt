-- A pending that is not due.
use mathlib.Core.Path.{◌≡◌, refl}
use mathlib.Core.Bool.{false}
use mathlib.Core.List.{[]}
use mathlib.Core.Option.{Option, none, some}
use Prim.Native.Nat.{ℕ}
use Rattle.model.specs.Node.{PendingNode}
use Rattle.model.specs.Bucket.{Bucket, BucketSettings, apply_if_due, apply_pending}
use Rattle.on_key.specs.Answers.{is_due}

-- a bucket without a due pending stays as it is
pub not_due : (s : BucketSettings) (now : ℕ) (b : Bucket) → is_due now b.pending ≡ false → apply_pending s now b ≡ (b, [])
unfolding apply_pending
not_due s now b e = go b.pending e
  where
    go : (o : Option PendingNode) → is_due now o ≡ false → apply_if_due s now b o ≡ (b, [])
    go none e = refl
    go (some p) e = rw e
