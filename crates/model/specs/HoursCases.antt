-- Calls with session hours in single situations (02, slip 8), in the form of Rows. Keys 32 to 63 are of bucket 5; the timeout is 60,000.
use Rattle.std.specs.Prelude.{ℕ, List, [], ◌∷◌, ◌++◌}
use Rattle.std.proofs.Math.Option.{some}
use Rattle.model.specs.Result.{FailureReason, BucketInsertResult, InsertResult}
use Rattle.model.specs.Node.{Ending}
use Rattle.model.specs.Table.{Answer}
use Rattle.model.specs.Session.{Date, Session}
use Rattle.model.specs.Call.{Call, KeyCall}
use Rattle.model.specs.Rows.{Row, key, plain, addressed, start, disconnected, connected, from, pending_at100, two_of_aNet}
use Rattle.model.specs.Cases.{full_at_once, applied}
use Rattle.model.specs.ExplainCases.{ExplainRow}

-- open on Mondays from minute 540 to minute 1,050
abbrev hours : (closed : List ℕ) (today : Date) (minute : ℕ) → Session
hours cs d m = record { windows = 1 ∷ 540 ∷ 1050 ∷ []; closed = cs; today = d; minute = m }

-- the 16th of November 2026 was a Monday
abbrev november : (day : ℕ) → Date
november d = record { year = 2026; month = 11; day = d }

abbrev at_opening : Session
at_opening = hours [] (november 16) 540

abbrev at_closing : Session
at_closing = hours [] (november 16) 1050

-- no minute of a day, and outside all windows
abbrev no_minute : Session
no_minute = hours [] (november 16) 1440

-- no windows, and nothing else that is right
abbrev empty_list : Session
empty_list = record { windows = []; closed = 1 ∷ []; today = november 31; minute = 1440 }

abbrev insert_or_update : (key slot state now : ℕ) → Session → Call
insert_or_update k slot st now hs = Call.on_key (key k) (KeyCall.insert_or_update (plain slot) st 0 now hs)

abbrev absent_insert : (key state now : ℕ) → Session → Call
absent_insert k st now hs = Call.on_key (key k) (KeyCall.absent_insert (plain k) st 0 now hs)

abbrev inserted : Answer
inserted = Answer.InsertOrUpdate InsertResult.Inserted

abbrev single : List Call
single = start 16 0 0 ∷ disconnected 32 ∷ []

-- bucket filter on; bucket 5 full of disconnected nodes, two of one /24, and 48 pending since time 0 with a third value of it: due, it is dropped
abbrev third_pending : List Call
third_pending = two_of_aNet ++ (from disconnected 34 14 ++ (connected 48 ∷ Call.on_key (key 48) (KeyCall.update_node (addressed 3 0) 2 0) ∷ []))

-- 64 records, and a pending that every call on the bucket ends
abbrev queue_full : List Call
queue_full = full_at_once ++ (applied 272 64 ++ (connected 336 ∷ []))

unfoldable pub hours_cases : List Row
hours_cases =
    -- a new key is admitted from the opening minute on, and not at the closing minute, on another weekday or on a closed date
    Row.answers single (insert_or_update 33 33 0 0 at_opening ∷ absent_insert 34 0 0 at_opening ∷ []) (inserted ∷ Answer.Insert BucketInsertResult.Inserted ∷ [])
    ∷ Row.answers single (insert_or_update 33 33 0 0 (hours [] (november 16) 1049) ∷ []) (inserted ∷ [])
    ∷ Row.refuses single (insert_or_update 33 33 0 0 (hours [] (november 16) 539)) 11
    ∷ Row.refuses single (insert_or_update 33 33 0 0 at_closing) 11
    ∷ Row.refuses single (absent_insert 33 0 0 at_closing) 11
    ∷ Row.refuses single (insert_or_update 33 33 0 0 (hours [] (november 17) 540)) 11
    ∷ Row.refuses single (absent_insert 33 0 0 (hours (2026 ∷ 11 ∷ 16 ∷ []) (november 16) 540)) 11
    ∷ Row.answers single (absent_insert 33 0 0 (hours (2025 ∷ 11 ∷ 16 ∷ []) (november 16) 540) ∷ []) (Answer.Insert BucketInsertResult.Inserted ∷ [])
    -- nothing is applied: the due pending stays, and has no record
    ∷ Row.refuses pending_at100 (insert_or_update 49 49 1 60100 at_closing) 11
    ∷ Row.adds pending_at100 (insert_or_update 49 49 1 60100 at_closing) []
    ∷ Row.refuses pending_at100 (insert_or_update 49 49 1 60100 no_minute) 10
    ∷ Row.refuses pending_at100 (absent_insert 49 1 60100 at_closing) 11
    -- at every hour: a held key, a pending key and the local key
    ∷ Row.answers pending_at100 (insert_or_update 32 7 0 100 at_closing ∷ []) (Answer.InsertOrUpdate InsertResult.ValueUpdated ∷ [])
    ∷ Row.answers (pending_at100 ++ (Call.on_key (key 32) (KeyCall.remove 100) ∷ [])) (insert_or_update 48 7 1 100 at_closing ∷ []) (inserted ∷ [])
    ∷ Row.answers pending_at100 (insert_or_update 0 0 0 100 at_closing ∷ []) (Answer.InsertOrUpdate (InsertResult.Failed FailureReason.InvalidSelfUpdate) ∷ [])
    -- pending before the call: due, it is placed and updated, or it is dropped and comes as a new one
    ∷ Row.answers pending_at100 (insert_or_update 48 7 1 60100 at_closing ∷ []) (Answer.InsertOrUpdate InsertResult.ValueUpdated ∷ [])
    ∷ Row.answers third_pending (insert_or_update 48 48 1 60000 at_closing ∷ Call.take_applied_pending ∷ [])
    (Answer.InsertOrUpdate (InsertResult.Pending 32) ∷ Answer.TakeAppliedPending (some (record { key = 48; ending = Ending.BucketFilter })) ∷ [])
    -- 10, whatever the key
    ∷ Row.refuses pending_at100 (insert_or_update 49 49 1 100 no_minute) 10
    ∷ Row.refuses pending_at100 (absent_insert 49 1 100 no_minute) 10
    ∷ Row.refuses pending_at100 (insert_or_update 32 7 0 100 no_minute) 10
    ∷ Row.refuses pending_at100 (insert_or_update 48 7 0 100 no_minute) 10
    ∷ Row.refuses pending_at100 (insert_or_update 0 0 0 100 no_minute) 10
    -- 7 and 8 stand in front of both
    ∷ Row.refuses pending_at100 (absent_insert 32 0 100 no_minute) 7
    ∷ Row.refuses pending_at100 (absent_insert 0 0 100 no_minute) 7
    ∷ Row.refuses queue_full (insert_or_update 337 337 0 0 at_closing) 8
    ∷ Row.refuses queue_full (insert_or_update 337 337 0 0 no_minute) 8
    -- with an empty window list neither is asked
    ∷ Row.answers single (insert_or_update 33 33 0 0 empty_list ∷ absent_insert 34 0 0 empty_list ∷ insert_or_update 0 0 0 0 empty_list ∷ [])
    (inserted ∷ Answer.Insert BucketInsertResult.Inserted ∷ Answer.InsertOrUpdate (InsertResult.Failed FailureReason.InvalidSelfUpdate) ∷ [])
    ∷ []

-- an explanation is refused alike, with the output's room in 6's turn
unfoldable pub hours_explained : List ExplainRow
hours_explained =
    ExplainRow.refuses single (key 33) (KeyCall.insert_or_update (plain 33) 0 0 0 at_closing) 2048 11
    ∷ ExplainRow.refuses single (key 33) (KeyCall.absent_insert (plain 33) 0 0 0 at_closing) 2048 11
    ∷ ExplainRow.refuses single (key 0) (KeyCall.insert_or_update (plain 0) 0 0 0 no_minute) 2048 10
    ∷ ExplainRow.refuses single (key 33) (KeyCall.insert_or_update (plain 33) 0 0 0 at_closing) 2047 6
    ∷ []
