use Rattle.std.proofs.Common.{◌≡◌}
use Rattle.model.specs.Bytes.{splice}
use Rattle.buckets.proofs.Put.{held_bytes}
use Rattle.buckets.proofs.store.Given as goal

abbrev pub invariant-loop-i : goal.invariant-loop-i
invariant-loop-i l = l.bucket ≡ splice l.initial.bucket 2 (held_bytes l.b.bucket.nodes l.i)
