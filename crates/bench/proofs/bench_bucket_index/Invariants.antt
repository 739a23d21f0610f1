use Rattle.std.proofs.Common.{◌≤◌}
use Rattle.bench.proofs.bench_bucket_index.Given as goal

abbrev pub invariant-loop-i : goal.invariant-loop-i
invariant-loop-i l = l.seen ≤ l.i
