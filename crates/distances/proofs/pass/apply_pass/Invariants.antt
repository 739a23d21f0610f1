use Rattle.std.proofs.Common.{length, drop}
use Rattle.model.specs.Listing.{buckets_at}
use Rattle.visit.proofs.Applying.{Appliable, Applying}
use Rattle.distances.proofs.pass.apply_pass.Given as goal

abbrev pub invariant-loop-i : goal.invariant-loop-i
invariant-loop-i l =
    Appliable l.fn.s l.time (buckets_at l.tally.taken.now)
    × Applying l.fn.s l.time (buckets_at l.tally.taken.now) l.s (drop (length l.yielded) (buckets_at l.tally.taken.now))
