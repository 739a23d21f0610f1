-- What an InsertResult of the table means.
use Rattle.model.specs.Result as model
use Rattle.key.specs.Key.{num}
use Rattle.bucket.specs.Calls.{failure_reason_of}
use Rattle.bucket_update.specs.declared.InsertResult.{InsertResult}

abbrev pub table_insert_result_of : InsertResult → model.InsertResult
table_insert_result_of InsertResult.Inserted = model.InsertResult.Inserted
table_insert_result_of (InsertResult.Pending k) = model.InsertResult.Pending (num k)
table_insert_result_of (InsertResult.StatusUpdated p) = model.InsertResult.StatusUpdated p
table_insert_result_of InsertResult.ValueUpdated = model.InsertResult.ValueUpdated
table_insert_result_of (InsertResult.Updated p) = model.InsertResult.Updated p
table_insert_result_of InsertResult.UpdatedPending = model.InsertResult.UpdatedPending
table_insert_result_of (InsertResult.Failed r) = model.InsertResult.Failed (failure_reason_of r)
