-- The calls that are explained, what the query answers, and what it owes.
use Rattle.std.specs.Prelude as code
use Rattle.std.specs.Prelude.{Result, Ok, Err, ℕ, ◌≡◌, ◌⊎◌, Bool, true, cond, List, [], ◌∷◌, ◌++◌}
use Rattle.std.specs.Option.{is_some}
use Rattle.std.proofs.Math.Option.{Option, some}
use Rattle.model.specs.Result.{Reply}
use Rattle.model.specs.Session.{Session}
use Rattle.model.specs.Call.{KeyCall}
use Rattle.model.specs.Question.{first_failed}
use Rattle.model.specs.Explain.{line_unless_refused}
use Rattle.model.specs.StepBytes.{Replied}
use Rattle.key.specs.declared.Key.{Key}
use Rattle.node.specs.declared.Refusal.{Refusal}
use Rattle.node.specs.Node.{argument_of}
use Rattle.node.specs.Refusal.{number_of, reply_of}
use Rattle.on_key.specs.Answers.{Replies, first_five}
use Rattle.on_key.specs.Start.{key_formed, Begun}
use Rattle.explain.specs.declared.PeerCall.{PeerCall}

-- with the hours of a call that is given them
abbrev pub call_of : PeerCall → Session → KeyCall
call_of (PeerCall.InsertOrUpdate v st now) x = KeyCall.insert_or_update (argument_of v) st.state st.direction now x
call_of (PeerCall.UpdateNodeStatus state direction now) x = KeyCall.update_node_status state direction now
call_of (PeerCall.UpdateNode v state now) x = KeyCall.update_node (argument_of v) state now
call_of (PeerCall.Remove now) x = KeyCall.remove now
call_of (PeerCall.PresentUpdate state direction) x = KeyCall.present_update state direction
call_of (PeerCall.PendingUpdate st) x = KeyCall.pending_update st.state st.direction
call_of (PeerCall.AbsentInsert v st now) x = KeyCall.absent_insert (argument_of v) st.state st.direction now x

-- what the query answers: the length of the line
abbrev pub explain_answer_of : Result ℕ Refusal → Reply ℕ
explain_answer_of = reply_of (λ n. n)

abbrev pub Explains : Result ℕ Refusal → List ℕ → Replied → Type 0
Explains r out x = Replies (explain_answer_of r) out x

-- questions 1 to 5 of the call, 6 of the output, then 2 of the key's bucket
unfoldable pub failed_at_opening : List ℕ → Bool → Option ℕ → (room : Bool) → List ℕ → Option ℕ
failed_at_opening key codes now room s = first_failed (first_five key codes now s ++ ((6, room) ∷ (2, key_formed s key) ∷ []))

-- how an explanation starts: as its call, with 6 asked in its turn
abbrev pub Opened : {T : Type 0} → List ℕ → List ℕ → code.Option T → Option ℕ → (room : Bool) → Result (code.Option (Key × ℕ × T)) Refusal → Type 0
Opened s key arguments now room (Err r) = failed_at_opening key (is_some arguments) now room s ≡ some (number_of r)
Opened s key arguments now room (Ok x) = (room ≡ true) × Begun s key arguments now (Ok x)

-- the same of an action on an entry: of the local key it is refused with 7
abbrev pub EntryOpened : {T : Type 0} → List ℕ → List ℕ → code.Option T → Option ℕ → (room : Bool) → Result (Key × ℕ × T) Refusal → Type 0
EntryOpened s key arguments now room (Err r) = Opened s key arguments now room (Err r) ⊎ ((r ≡ Refusal.Kind) × Opened s key arguments now room (Ok code.None))
EntryOpened s key arguments now room (Ok x) = Opened s key arguments now room (Ok (code.Some x))

-- 01, question 8, then 02's 10 and 11 by the first of them that fails, and the line where none does
unfoldable pub last_asked : (room : Bool) (hours : Option ℕ) (line output : List ℕ) → Replied
last_asked room hours l out = line_unless_refused (cond room hours (some 8)) l out
