-- The questions by their numbers, and what a test of them, or a call, answers.
use Rattle.std.specs.Prelude.{ℕ, Result, Ok, Err}
use Rattle.std.proofs.Math.Option.{Option, none, some}
use Rattle.model.specs.Result.{Reply}
use Rattle.model.specs.Table.{Answer}
use Rattle.node.specs.declared.Refusal.{Refusal}

-- 01, "The gatekeeper's questions", 1 to 8; 02, slip 6 (9) and slip 8 (10, 11)
abbrev pub number_of : Refusal → ℕ
number_of Refusal.Size = 1
number_of Refusal.Form = 2
number_of Refusal.Key = 3
number_of Refusal.Code = 4
number_of Refusal.Time = 5
number_of Refusal.Output = 6
number_of Refusal.Kind = 7
number_of Refusal.Queue = 8
number_of Refusal.Load = 9
number_of Refusal.Hours = 10
number_of Refusal.Closed = 11

-- the number of the question that failed, or none
abbrev pub failed_of : {A : Type 0} → Result A Refusal → Option ℕ
failed_of (Ok x) = none
failed_of (Err r) = some (number_of r)

-- what a call answers; f says what its result means
abbrev pub reply_of : {A B : Type 0} → (A → B) → Result A Refusal → Reply B
reply_of f (Ok x) = Reply.Answered (f x)
reply_of f (Err r) = Reply.Refused (number_of r)

-- what a call of the table answers
abbrev pub answer_of : {A : Type 0} → (A → Answer) → Result A Refusal → Answer
answer_of f (Ok x) = f x
answer_of f (Err r) = Answer.Refused (number_of r)
