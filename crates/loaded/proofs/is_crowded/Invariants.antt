use Rattle.std.proofs.Common.{◌≡◌, length}
use Rattle.loaded.specs.Load.{octet_at}
use Rattle.loaded.proofs.Crowded.{Seen}
use Rattle.loaded.proofs.is_crowded.Given as goal

abbrev pub invariant-loop-j : goal.invariant-loop-j
invariant-loop-j l = (length l.seen ≡ 256) × Seen (octet_at l.nodes.bucket.now) l.j l.seen
