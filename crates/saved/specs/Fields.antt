-- What the writer answers, and what it puts out of the held nodes: one array of their keys, one of their entries.
use Rattle.std.specs.Prelude.{ℕ, List, Result}
use Rattle.model.specs.Node.{Node}
use Rattle.model.specs.Result.{Reply}
use Rattle.model.specs.Sizes.{key_size}
use Rattle.model.specs.Saved.{key_bytes, saved_entry, saved_entry_size}
use Rattle.node.specs.declared.Refusal.{Refusal}
use Rattle.node.specs.Refusal.{reply_of}
use Rattle.saved.specs.declared.Field.{Field}

abbrev pub write_answer_of : Result ℕ Refusal → Reply ℕ
write_answer_of = reply_of (λ n. n)

-- what an array holds of a node, and how many bytes that takes

unfoldable pub field_bytes : Field → Node → List ℕ
field_bytes Field.Key n = key_bytes n
field_bytes Field.Entry n = saved_entry n

unfoldable pub field_size : Field → ℕ
field_size Field.Key = key_size
field_size Field.Entry = saved_entry_size
