-- What an export returns and leaves, for every storage and every argument.
use Rattle.std.specs.Prelude.{ℕ, ◌≡◌, List, length, leb}
use Rattle.std.proofs.Math.Option.{Option, none, some}
use Rattle.model.specs.Bytes.{splice}
use Rattle.model.specs.Result.{Reply}
use Rattle.model.specs.Call.{Call}
use Rattle.model.specs.Question.{first_failed, with_room}
use Rattle.model.specs.StepBytes.{Replied, all_questions, step_bytes}
use Rattle.codes.specs.Codes.{refused_code, answer_code, answer_bytes, answer_size}

-- the return code, and what the lent memory holds after the call
pub record Exported : Type 0 where
  pub code : ℕ
  pub storage : List ℕ
  pub output : List ℕ

-- the code and the storage are those of the outcome
pub record Leaves (r : ℕ) (s : List ℕ) (o : Exported) : Type 0 where
  pub code : r ≡ o.code
  pub storage : s ≡ o.storage

-- and so is the output
pub record Writes (r : ℕ) (s out : List ℕ) (o : Exported) : Type 0 where
  pub code : r ≡ o.code
  pub storage : s ≡ o.storage
  pub output : out ≡ o.output

-- a call whose answer is its code alone
unfoldable pub exported : Call → List ℕ → Exported
exported c s = let o = step_bytes c s in record { code = answer_code o.answer; storage = o.storage; output = o.output }

-- a refusal is its number alone; all lent memory keeps its bytes
abbrev pub unless_refused_export : Option ℕ → Call → List ℕ → List ℕ → Exported
unless_refused_export (some q) c answer s = record { code = refused_code q; storage = s; output = answer }
unless_refused_export none c answer s =
    let o = step_bytes c s in
    record { code = answer_code o.answer; storage = o.storage; output = splice answer 0 (answer_bytes o.answer) }

-- a call whose answer can carry a key or a record: its bytes stand at the front of `answer`
unfoldable pub exported_with : Call → List ℕ → List ℕ → Exported
exported_with c answer s = unless_refused_export (first_failed (with_room (leb answer_size (length answer)) (all_questions c s))) c answer s

-- a query's code is a refusal's or its number: of the bytes of the line (02, slip 1), of the nodes written (slip 6)
abbrev pub reply_code : Reply ℕ → ℕ
reply_code (Reply.Refused q) = refused_code q
reply_code (Reply.Answered n) = n

-- the code and the output are those of the query, which writes no storage
pub record Tells (r : ℕ) (out : List ℕ) (x : Replied) : Type 0 where
  pub code : r ≡ reply_code x.answer
  pub output : out ≡ x.output
