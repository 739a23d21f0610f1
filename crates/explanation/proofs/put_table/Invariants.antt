use Rattle.model.specs.Base.{select}
use Rattle.model.specs.Table.{held_nodes}
use Rattle.model.specs.Layout.{table_of}
use Rattle.model.specs.Explain.{keys_of}
use Rattle.explanation.specs.Put.{PutKeys, passes}
use Rattle.explanation.proofs.put_table.Given as goal

abbrev pub invariant-loop-i : goal.invariant-loop-i
invariant-loop-i l = PutKeys (keys_of (select (passes l.test) (held_nodes l.i (table_of l.table.s.now).buckets))) l.fn.out l.out l.n
