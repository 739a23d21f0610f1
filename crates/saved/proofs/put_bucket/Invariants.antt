use Rattle.std.proofs.Common.{◌≡◌}
use Rattle.model.specs.Base.{tabulate}
use Rattle.model.specs.Bytes.{splice}
use Rattle.items.specs.Run.{node_at}
use Rattle.saved.proofs.Fields.{written}
use Rattle.saved.proofs.put_bucket.Given as goal

abbrev pub invariant-loop-j : goal.invariant-loop-j
invariant-loop-j l = l.out ≡ splice l.fn.out 0 (written l.field (tabulate l.j (node_at l.formed.nodes.bucket.now)))
