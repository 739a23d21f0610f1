use Rattle.std.proofs.Common.{◌≤◌}
use Rattle.bucket.specs.Bucket.{Sound}
use Rattle.bench.proofs.bench_insert_sound.Given as goal

abbrev pub invariant-loop-i : goal.invariant-loop-i
invariant-loop-i l = l.seen ≤ l._i

-- the bucket is a value with a fact, which a loop hands on as a pair
abbrev pub invariant-loop-k : goal.invariant-loop-k
invariant-loop-k l = (l.b.0.settings.pending_timeout ≤ 60000) × Sound l.b.0
