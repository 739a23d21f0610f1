-- What the table's answers mean.
use Rattle.std.specs.Prelude as code
use Rattle.std.specs.Prelude.{Result, Bool}
use Rattle.model.specs.Base.{first}
use Rattle.model.specs.Table.{Answer}
use Rattle.node.specs.declared.Refusal.{Refusal}
use Rattle.node.specs.Refusal.{answer_of}
use Rattle.bucket.specs.declared.ending.EndedPending.{EndedPending}
use Rattle.bucket.specs.Calls.{records_of}

abbrev pub remove_answer : Result Bool Refusal → Answer
remove_answer = answer_of Answer.Remove

abbrev pub take_answer : Result (code.Option EndedPending) Refusal → Answer
take_answer = answer_of (λ a. Answer.TakeAppliedPending (first (records_of a)))

abbrev pub new_answer : Result (Unit {0}) Refusal → Answer
new_answer = answer_of (λ u. Answer.New)
