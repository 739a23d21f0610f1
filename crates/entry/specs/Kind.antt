-- What the answers of the entry calls mean.
use Rattle.std.specs.Prelude.{Result, Ok, Err, Bool, true, eqb}
use Rattle.model.specs.Table as model
use Rattle.node.specs.declared.Refusal.{Refusal}
use Rattle.node.specs.Node.{status_codes}
use Rattle.node.specs.Refusal.{answer_of}
use Rattle.bucket.specs.declared.InsertResult.{InsertResult}
use Rattle.bucket.specs.Calls.{insert_result_of}
use Rattle.entry.specs.declared.EntryKind.{EntryKind}

abbrev pub kind_of : EntryKind → model.EntryKind
kind_of (EntryKind.Present s) = model.EntryKind.Present (eqb s.state 1) (eqb s.direction 1)
kind_of (EntryKind.Pending s) = model.EntryKind.Pending (eqb s.state 1) (eqb s.direction 1)
kind_of EntryKind.Absent = model.EntryKind.Absent
kind_of EntryKind.SelfEntry = model.EntryKind.SelfEntry

abbrev pub entry_answer : Result EntryKind Refusal → model.Answer
entry_answer = answer_of (λ k. model.Answer.Entry (kind_of k))

-- the codes of the status that it carries pass question 4
abbrev pub kind_codes : EntryKind → Bool
kind_codes (EntryKind.Present s) = status_codes s
kind_codes (EntryKind.Pending s) = status_codes s
kind_codes EntryKind.Absent = true
kind_codes EntryKind.SelfEntry = true

abbrev pub entry_codes : Result EntryKind Refusal → Bool
entry_codes (Err r) = true
entry_codes (Ok k) = kind_codes k

abbrev pub insert_answer : Result InsertResult Refusal → model.Answer
insert_answer = answer_of (λ r. model.Answer.Insert (insert_result_of r))
