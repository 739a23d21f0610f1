use Rattle.std.proofs.Common.{◌≡◌, ◌*◌, length}
use Rattle.model.specs.Bytes.{splice}
use Rattle.model.specs.Table.{held_nodes}
use Rattle.model.specs.Layout.{table_of}
use Rattle.saved.specs.Fields.{field_size}
use Rattle.saved.proofs.Fields.{written}
use Rattle.saved.proofs.put_all.Given as goal

abbrev pub invariant-loop-i : goal.invariant-loop-i
invariant-loop-i l =
    (l.at ≡ length (held_nodes l.i (table_of l.table.s.now).buckets) * field_size l.field)
    × (l.out ≡ splice l.fn.out 0 (written l.field (held_nodes l.i (table_of l.table.s.now).buckets)))
