-- What insert_or_update answers.
use Rattle.std.specs.Prelude.{Result}
use Rattle.model.specs.Table.{Answer}
use Rattle.node.specs.declared.Refusal.{Refusal}
use Rattle.node.specs.Refusal.{answer_of}
use Rattle.bucket_update.specs.declared.InsertResult.{InsertResult}
use Rattle.bucket_update.specs.Results.{table_insert_result_of}

abbrev pub insert_or_update_answer : Result InsertResult Refusal → Answer
insert_or_update_answer = answer_of (λ r. Answer.InsertOrUpdate (table_insert_result_of r))
