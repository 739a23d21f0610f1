use Rattle.std.proofs.Common.{◌≡◌}
use Rattle.model.specs.Bytes.{splice}
use Rattle.loaded.proofs.Built.{nodes_from}
use Rattle.loaded.proofs.saved.SavedBucket.build.Given as goal

abbrev pub invariant-loop-j : goal.invariant-loop-j
invariant-loop-j l = l.bucket ≡ splice l.initial.bucket 2 (nodes_from l.self.saved.bytes.now l.self.from l.j)
