-- What the reader's answer means.
use Rattle.std.specs.Prelude.{ℕ, Result}
use Rattle.model.specs.Table.{Answer}
use Rattle.node.specs.declared.Refusal.{Refusal}
use Rattle.node.specs.Refusal.{answer_of}

abbrev pub read_answer : Result ℕ Refusal → Answer
read_answer = answer_of Answer.Read
