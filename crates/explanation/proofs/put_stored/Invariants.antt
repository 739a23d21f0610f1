use Rattle.model.specs.Base.{select, tabulate}
use Rattle.model.specs.Explain.{keys_of}
use Rattle.well_formed.specs.Tests.{node_at}
use Rattle.explanation.specs.Put.{PutKeys, passes}
use Rattle.explanation.proofs.put_stored.Given as goal

abbrev pub invariant-loop-place : goal.invariant-loop-place
invariant-loop-place l = PutKeys (keys_of (select (passes l.test) (tabulate l.place-index (node_at l.held.bucket.now)))) l.fn.out l.out l.n
