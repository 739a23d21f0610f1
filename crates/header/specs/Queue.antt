-- Storage with another queue.
use Rattle.std.specs.Prelude.{ℕ, List}
use Rattle.model.specs.Bytes.{splice}
use Rattle.model.specs.Node as model
use Rattle.model.specs.Table.{with_queue}
use Rattle.model.specs.Layout.{header_bytes, table_of}

-- the storage with another queue in its header; the settings and the buckets stay
abbrev pub requeued : List model.EndedPending → List ℕ → List ℕ
requeued q s = splice s 0 (header_bytes (with_queue q (table_of s)))
