-- What a listing owes: its answer, the storage and every byte of the output are those of the outcome.
use Rattle.std.specs.Prelude.{ℕ, ◌≡◌, List, Result}
use Rattle.model.specs.Table.{Answer}
use Rattle.model.specs.StepBytes.{BytesOutcome}
use Rattle.node.specs.declared.Refusal.{Refusal}
use Rattle.node.specs.Refusal.{answer_of}

abbrev pub list_answer : Result ℕ Refusal → Answer
list_answer = answer_of Answer.Found

pub record Lists (a : Answer) (s out : List ℕ) (o : BytesOutcome) : Type 0 where
  pub answer : a ≡ o.answer
  pub storage : s ≡ o.storage
  pub output : out ≡ o.output
