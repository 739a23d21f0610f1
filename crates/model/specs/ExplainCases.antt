-- Explanations in single situations (02, slip 1), in the form of Rows: every reason with the fewest and the most keys that it can have, for
-- every call that can have it; whole lines; and what is refused. Keys 32 to 63 are of bucket 5.
use Rattle.std.specs.Prelude.{ℕ, ◌+◌, ◌-◌, ◌^◌, Bool, true, false, ◌&&◌, List, [], ◌∷◌, ◌++◌, length, replicate}
use Rattle.model.specs.Bytes.{bytes, splice, zeros}
use Rattle.model.specs.Result.{FailureReason, Reply}
use Rattle.model.specs.Table.{Table}
use Rattle.model.specs.Sizes.{max_incoming_at, storage_size}
use Rattle.model.specs.Call.{ValueArgument, Call, KeyCall, no_hours}
use Rattle.model.specs.Step.{questions, step}
use Rattle.model.specs.Numbers.{same_numbers}
use Rattle.model.specs.Explain.{Told, Reason, told, explanation, told_text, line, explained, explain_bytes}
use Rattle.model.specs.Rows.{no_table, after, key, plain, addressed, start, disconnected, connected, from, pending_at100, two_of_aNet}
use Rattle.model.specs.Cases.{member, members, equal_member, numbers, one_between_equals, pending_over_one, full_at_once, applied}
use Rattle.model.specs.StepBytes.{Replied}

pub data ExplainRow : Type 0 where
  -- after the calls, what is told of a call on a key and its reason; and the call then gives the answer that is told
  explains : (before : List Call) (key : ℕ) (call : KeyCall) (told : Told) (reason : Reason) → ExplainRow
  -- after the calls, the line of a call's explanation, byte by byte
  writes : (before : List Call) (key : ℕ) (call : KeyCall) (line : List ℕ) → ExplainRow
  -- after the calls, with an output of this many bytes the explanation is refused with the question's number
  refuses : (before : List Call) (key : List ℕ) (call : KeyCall) (room question : ℕ) → ExplainRow
  -- the same of a storage's bytes
  refuses_bytes : (storage key : List ℕ) (call : KeyCall) (room question : ℕ) → ExplainRow

abbrev reply_numbers : Reply ℕ → List ℕ
reply_numbers (Reply.Refused q) = 0 ∷ q ∷ []
reply_numbers (Reply.Answered n) = 1 ∷ n ∷ []

abbrev gives : Replied → Reply ℕ → (output : List ℕ) → Bool
gives e r out = same_numbers (reply_numbers e.answer) (reply_numbers r) && same_numbers e.output out

-- an output, of bytes that stay behind the line
abbrev lent : ℕ → List ℕ
lent n = replicate n 9

abbrev explained_in : Table → (key : List ℕ) → KeyCall → (output : List ℕ) → Replied
explained_in t k c out = explained (questions (Call.on_key k c) t) (line (explanation c k t)) out

abbrev gives_line : Replied → (line : List ℕ) → Bool
gives_line e l = gives e (Reply.Answered (length l)) (splice (lent 2048) 0 l)

abbrev pub holds : ExplainRow → Bool
holds (ExplainRow.explains before k c a r) =
    let t = after before no_table in
    gives_line (explained_in t (key k) c (lent 2048)) (line (record { told = a; reason = r }))
    && same_numbers (told_text (told (step (Call.on_key (key k) c) t).answer)) (told_text a)
holds (ExplainRow.writes before k c l) = gives_line (explained_in (after before no_table) (key k) c (lent 2048)) l
holds (ExplainRow.refuses before k c room q) = gives (explained_in (after before no_table) k c (lent room)) (Reply.Refused q) (lent room)
holds (ExplainRow.refuses_bytes s k c room q) = gives (explain_bytes k c (lent room) s) (Reply.Refused q) (lent room)

-- Calls, at time 0 where nothing is said.

abbrev update_node_status : (state direction : ℕ) → KeyCall
update_node_status st dr = KeyCall.update_node_status st dr 0

abbrev update_node : ValueArgument → (state : ℕ) → KeyCall
update_node v st = KeyCall.update_node v st 0

abbrev insert_or_update : ValueArgument → (state direction : ℕ) → KeyCall
insert_or_update v st dr = KeyCall.insert_or_update v st dr 0 no_hours

abbrev absent_insert : ValueArgument → (state direction : ℕ) → KeyCall
absent_insert v st dr = KeyCall.absent_insert v st dr 0 no_hours

abbrev remove : KeyCall
remove = KeyCall.remove 0

-- Lists of calls.

-- a connected incoming node; a disconnected one whose direction is incoming
abbrev incoming : ℕ → Call
incoming k = Call.on_key (key k) (absent_insert (plain k) 1 1)

abbrev waiting : ℕ → Call
waiting k = Call.on_key (key k) (absent_insert (plain k) 0 1)

-- max_incoming m, which the m nodes from key 33 on reach; 32 is held, disconnected and incoming
abbrev at_maximum : ℕ → List Call
at_maximum m = start m 0 0 ∷ waiting 32 ∷ from incoming 33 m

-- max_incoming 16 and 16 connected incoming nodes
abbrev all_incoming : List Call
all_incoming = start 16 0 0 ∷ from incoming 32 16

-- bucket filter on; 10.0.0.1 is held by 32, 10.0.0.2 by 33 and 34
abbrev two_equals : List Call
two_equals = two_of_aNet ++ (Call.on_key (key 34) (absent_insert (addressed 2 0) 0 0) ∷ [])

-- bucket 5 full of disconnected nodes, or of connected ones
abbrev all_disconnected : List Call
all_disconnected = start 16 0 0 ∷ from disconnected 32 16

abbrev all_connected : List Call
all_connected = start 16 0 0 ∷ from connected 32 16

-- 48 pending since time 0, and all 16 connected
abbrev pending_over_none : List Call
pending_over_none = pending_over_one ++ (Call.on_key (key 32) remove ∷ connected 49 ∷ [])

-- table filter on; bucket 5 full of disconnected nodes, ten of one /24 first, and 48 pending since time 0 with an eleventh value of it
abbrev ten_and_pending : List Call
ten_and_pending = start 16 1 0 ∷ (from member 32 10 ++ (from disconnected 42 6 ++ (Call.on_key (key 48) (absent_insert (addressed 48 0) 1 0) ∷ [])))

-- 32 disconnected and 15 connected
abbrev one_disconnected : List Call
one_disconnected = start 16 0 0 ∷ disconnected 32 ∷ from connected 33 15

-- 32 held alone
abbrev single : List Call
single = start 16 0 0 ∷ disconnected 32 ∷ []

unfoldable pub explain_cases : List ExplainRow
explain_cases =
    -- none: each call, and each answer that does not fail
    ExplainRow.explains single 32 (update_node_status 0 2) Told.NotModified Reason.None
    ∷ ExplainRow.explains single 32 (update_node_status 0 1) Told.Updated Reason.None
    ∷ ExplainRow.explains single 32 (update_node_status 1 2) Told.UpdatedAndPromoted Reason.None
    ∷ ExplainRow.explains pending_at100 48 (update_node_status 0 2) Told.UpdatedPending Reason.None
    ∷ ExplainRow.explains single 32 (update_node (plain 32) 2) Told.NotModified Reason.None
    ∷ ExplainRow.explains single 32 (update_node (plain 7) 2) Told.Updated Reason.None
    ∷ ExplainRow.explains single 32 (update_node (plain 7) 1) Told.UpdatedAndPromoted Reason.None
    ∷ ExplainRow.explains pending_at100 48 (update_node (plain 7) 0) Told.UpdatedPending Reason.None
    ∷ ExplainRow.explains single 33 (insert_or_update (plain 33) 0 0) Told.Inserted Reason.None
    ∷ ExplainRow.explains all_disconnected 48 (insert_or_update (plain 48) 1 0) (Told.Pending 32) Reason.None
    ∷ ExplainRow.explains single 32 (insert_or_update (plain 32) 0 1) (Told.StatusUpdated false) Reason.None
    ∷ ExplainRow.explains single 32 (insert_or_update (plain 32) 1 0) (Told.StatusUpdated true) Reason.None
    ∷ ExplainRow.explains single 32 (insert_or_update (plain 7) 0 0) Told.ValueUpdated Reason.None
    ∷ ExplainRow.explains single 32 (insert_or_update (plain 7) 0 1) (Told.UpdatedBoth false) Reason.None
    ∷ ExplainRow.explains single 32 (insert_or_update (plain 7) 1 0) (Told.UpdatedBoth true) Reason.None
    ∷ ExplainRow.explains single 32 (insert_or_update (plain 32) 0 0) (Told.UpdatedBoth false) Reason.None
    ∷ ExplainRow.explains single 32 remove (Told.Removed true) Reason.None
    ∷ ExplainRow.explains single 32 (KeyCall.present_update 0 2) Told.NotModified Reason.None
    ∷ ExplainRow.explains single 32 (KeyCall.present_update 1 2) Told.UpdatedAndPromoted Reason.None
    ∷ ExplainRow.explains pending_at100 48 (KeyCall.pending_update 0 1) Told.UpdatedPending Reason.None
    ∷ ExplainRow.explains single 33 (absent_insert (plain 33) 0 0) Told.Inserted Reason.None
    ∷ ExplainRow.explains all_disconnected 48 (absent_insert (plain 48) 1 0) (Told.Pending 32) Reason.None
    -- table filter: none where ten are held, the key's own among them
    ∷ ExplainRow.explains (members 10) 32 (update_node (addressed 32 7) 2) Told.Updated Reason.None
    ∷ ExplainRow.explains (members 10) 32 (insert_or_update (addressed 32 7) 0 0) Told.ValueUpdated Reason.None
    -- ten keys, not the key's own, in front of them and between; another key with a value that is equal to the old one
    ∷ ExplainRow.explains (members 11) 32 (update_node (addressed 32 7) 2) (Told.Failed FailureReason.TableFilter) (Reason.TableFilter (numbers 33 10))
    ∷ ExplainRow.explains (members 11) 32 (insert_or_update (addressed 32 7) 0 0) (Told.Failed FailureReason.TableFilter) (Reason.TableFilter (numbers 33 10))
    ∷ ExplainRow.explains (members 12) 36 (update_node (addressed 36 7) 2) (Told.Failed FailureReason.TableFilter) (Reason.TableFilter (numbers 32 4 ++ numbers 37 6))
    ∷ ExplainRow.explains equal_member 32 (update_node (addressed 32 7) 2) (Told.Failed FailureReason.TableFilter) (Reason.TableFilter (numbers 33 10))
    -- the first ten where twelve are held; bucket and place order
    ∷ ExplainRow.explains (members 12) 64 (update_node (addressed 64 0) 1) (Told.Failed FailureReason.TableFilter) (Reason.TableFilter (numbers 32 10))
    ∷ ExplainRow.explains (start 16 1 0 ∷ member 64 ∷ Call.on_key (key 33) (absent_insert (addressed 33 0) 1 0) ∷ member 16 ∷ member 32 ∷ from member 34 8) 65 (update_node (addressed 64 0) 1) (Told.Failed FailureReason.TableFilter) (Reason.TableFilter (16 ∷ 32 ∷ from (λ x. x) 34 8))
    ∷ ExplainRow.explains (members 12) 64 (insert_or_update (addressed 64 0) 1 0) (Told.Failed FailureReason.TableFilter) (Reason.TableFilter (numbers 32 10))
    ∷ ExplainRow.explains (start 16 1 0 ∷ member 64 ∷ Call.on_key (key 33) (absent_insert (addressed 33 0) 1 0) ∷ member 16 ∷ member 32 ∷ from member 34 8) 65 (insert_or_update (addressed 64 0) 1 0) (Told.Failed FailureReason.TableFilter) (Reason.TableFilter (16 ∷ 32 ∷ from (λ x. x) 34 8))
    -- as the table was found: the due pending would take the place of 32
    ∷ ExplainRow.explains ten_and_pending 49 (KeyCall.update_node (addressed 49 0) 2 60000) (Told.Failed FailureReason.TableFilter) (Reason.TableFilter (numbers 32 10))
    ∷ ExplainRow.explains ten_and_pending 49 (KeyCall.insert_or_update (addressed 49 0) 0 0 60000 no_hours) (Told.Failed FailureReason.TableFilter) (Reason.TableFilter (numbers 32 10))
    -- bucket filter: two keys, the first two where three count, not the node itself; a status step, a value's step, an insert
    ∷ ExplainRow.explains one_between_equals 33 (update_node_status 1 2) (Told.Failed FailureReason.BucketFilter) (Reason.BucketFilter (32 ∷ 34 ∷ []))
    ∷ ExplainRow.explains one_between_equals 33 (KeyCall.present_update 1 2) (Told.Failed FailureReason.BucketFilter) (Reason.BucketFilter (32 ∷ 34 ∷ []))
    ∷ ExplainRow.explains one_between_equals 33 (update_node (addressed 2 0) 1) (Told.Failed FailureReason.BucketFilter) (Reason.BucketFilter (32 ∷ 34 ∷ []))
    ∷ ExplainRow.explains two_equals 32 (update_node (addressed 3 0) 2) (Told.Failed FailureReason.BucketFilter) (Reason.BucketFilter (33 ∷ 34 ∷ []))
    -- insert_or_update: the status step looks at the old value and says TooManyIncoming; the value's step looks at the new one
    ∷ ExplainRow.explains one_between_equals 33 (insert_or_update (addressed 2 0) 1 0) (Told.Failed FailureReason.TooManyIncoming) (Reason.BucketFilter (32 ∷ 34 ∷ []))
    ∷ ExplainRow.explains one_between_equals 33 (insert_or_update (plain 33) 1 0) (Told.Failed FailureReason.TooManyIncoming) (Reason.BucketFilter (32 ∷ 34 ∷ []))
    ∷ ExplainRow.explains (start 0 0 1 ∷ Call.on_key (key 32) (absent_insert (addressed 1 0) 0 0) ∷ Call.on_key (key 33) (absent_insert (addressed 2 0) 0 0) ∷ Call.on_key (key 34) (absent_insert (addressed 1 0) 0 0) ∷ []) 33 (insert_or_update (addressed 2 0) 1 1) (Told.Failed FailureReason.TooManyIncoming) (Reason.BucketFilter (32 ∷ 34 ∷ []))
    ∷ ExplainRow.explains (two_of_aNet ++ (disconnected 34 ∷ [])) 34 (insert_or_update (addressed 3 0) 0 0) (Told.Failed FailureReason.BucketFilter) (Reason.BucketFilter (32 ∷ 33 ∷ []))
    ∷ ExplainRow.explains two_of_aNet 34 (insert_or_update (addressed 3 0) 0 0) (Told.Failed FailureReason.BucketFilter) (Reason.BucketFilter (32 ∷ 33 ∷ []))
    ∷ ExplainRow.explains one_between_equals 35 (insert_or_update (addressed 3 0) 1 1) (Told.Failed FailureReason.BucketFilter) (Reason.BucketFilter (32 ∷ 33 ∷ []))
    ∷ ExplainRow.explains two_of_aNet 34 (absent_insert (addressed 3 0) 0 0) Told.FailedFilter (Reason.BucketFilter (32 ∷ 33 ∷ []))
    ∷ ExplainRow.explains one_between_equals 35 (absent_insert (addressed 3 0) 1 1) Told.FailedFilter (Reason.BucketFilter (32 ∷ 33 ∷ []))
    -- incoming limit: no key at max_incoming 0; 15 others for a status step, 16 for an insert
    ∷ ExplainRow.explains (at_maximum 0) 32 (update_node_status 1 2) (Told.Failed FailureReason.TooManyIncoming) (Reason.IncomingLimit [])
    ∷ ExplainRow.explains (at_maximum 15) 32 (update_node_status 1 2) (Told.Failed FailureReason.TooManyIncoming) (Reason.IncomingLimit (numbers 33 15))
    ∷ ExplainRow.explains (at_maximum 0) 32 (KeyCall.present_update 1 2) (Told.Failed FailureReason.TooManyIncoming) (Reason.IncomingLimit [])
    ∷ ExplainRow.explains (at_maximum 15) 32 (KeyCall.present_update 1 2) (Told.Failed FailureReason.TooManyIncoming) (Reason.IncomingLimit (numbers 33 15))
    ∷ ExplainRow.explains (at_maximum 0) 32 (update_node (plain 7) 1) (Told.Failed FailureReason.TooManyIncoming) (Reason.IncomingLimit [])
    ∷ ExplainRow.explains (at_maximum 15) 32 (update_node (plain 7) 1) (Told.Failed FailureReason.TooManyIncoming) (Reason.IncomingLimit (numbers 33 15))
    ∷ ExplainRow.explains (at_maximum 0) 32 (insert_or_update (plain 7) 1 1) (Told.Failed FailureReason.TooManyIncoming) (Reason.IncomingLimit [])
    ∷ ExplainRow.explains (at_maximum 15) 32 (insert_or_update (plain 7) 1 1) (Told.Failed FailureReason.TooManyIncoming) (Reason.IncomingLimit (numbers 33 15))
    ∷ ExplainRow.explains (start 0 0 0 ∷ []) 48 (insert_or_update (plain 48) 1 1) (Told.Failed FailureReason.TooManyIncoming) (Reason.IncomingLimit [])
    ∷ ExplainRow.explains all_incoming 48 (insert_or_update (plain 48) 1 1) (Told.Failed FailureReason.TooManyIncoming) (Reason.IncomingLimit (numbers 32 16))
    ∷ ExplainRow.explains (start 0 0 0 ∷ []) 48 (absent_insert (plain 48) 1 1) Told.TooManyIncoming (Reason.IncomingLimit [])
    ∷ ExplainRow.explains all_incoming 48 (absent_insert (plain 48) 1 1) Told.TooManyIncoming (Reason.IncomingLimit (numbers 32 16))
    -- Full: the newcomer is disconnected, even where all are connected and one is pending
    ∷ ExplainRow.explains all_disconnected 50 (insert_or_update (plain 50) 0 0) (Told.Failed FailureReason.BucketFull) Reason.NewcomerDisconnected
    ∷ ExplainRow.explains pending_over_none 50 (insert_or_update (plain 50) 0 0) (Told.Failed FailureReason.BucketFull) Reason.NewcomerDisconnected
    ∷ ExplainRow.explains all_disconnected 50 (absent_insert (plain 50) 0 0) Told.Full Reason.NewcomerDisconnected
    ∷ ExplainRow.explains pending_over_none 50 (absent_insert (plain 50) 0 0) Told.Full Reason.NewcomerDisconnected
    -- else all are connected, even where one is pending
    ∷ ExplainRow.explains all_connected 50 (insert_or_update (plain 50) 1 0) (Told.Failed FailureReason.BucketFull) Reason.AllConnected
    ∷ ExplainRow.explains pending_over_none 50 (insert_or_update (plain 50) 1 0) (Told.Failed FailureReason.BucketFull) Reason.AllConnected
    ∷ ExplainRow.explains all_connected 50 (absent_insert (plain 50) 1 0) Told.Full Reason.AllConnected
    ∷ ExplainRow.explains pending_over_none 50 (absent_insert (plain 50) 1 0) Told.Full Reason.AllConnected
    -- else the pending, and it can be the key itself
    ∷ ExplainRow.explains pending_over_one 50 (insert_or_update (plain 50) 1 0) (Told.Failed FailureReason.BucketFull) (Reason.Pending 48)
    ∷ ExplainRow.explains pending_over_one 50 (absent_insert (plain 50) 1 0) Told.Full (Reason.Pending 48)
    ∷ ExplainRow.explains pending_over_one 48 (insert_or_update (plain 48) 1 0) (Told.Failed FailureReason.BucketFull) (Reason.Pending 48)
    -- a due pending is applied first, by an entry action not
    ∷ ExplainRow.explains pending_at100 49 (KeyCall.insert_or_update (plain 49) 1 0 60099 no_hours) (Told.Failed FailureReason.BucketFull) (Reason.Pending 48)
    ∷ ExplainRow.explains pending_at100 49 (KeyCall.insert_or_update (plain 49) 1 0 60100 no_hours) (Told.Pending 33) Reason.None
    ∷ ExplainRow.explains pending_at100 49 (KeyCall.absent_insert (plain 49) 1 0 60100 no_hours) Told.Full (Reason.Pending 48)
    ∷ ExplainRow.explains pending_at100 48 (KeyCall.remove 60100) (Told.Removed true) Reason.None
    ∷ ExplainRow.explains pending_at100 32 (KeyCall.update_node_status 1 2 60100) (Told.Failed FailureReason.KeyNonExistent) Reason.NoSuchKey
    -- no such key: neither held nor pending, for remove not held
    ∷ ExplainRow.explains single 60 (update_node_status 1 2) (Told.Failed FailureReason.KeyNonExistent) Reason.NoSuchKey
    ∷ ExplainRow.explains single 60 (update_node (plain 60) 1) (Told.Failed FailureReason.KeyNonExistent) Reason.NoSuchKey
    ∷ ExplainRow.explains single 60 remove (Told.Removed false) Reason.NoSuchKey
    ∷ ExplainRow.explains pending_at100 60 (update_node_status 1 2) (Told.Failed FailureReason.KeyNonExistent) Reason.NoSuchKey
    ∷ ExplainRow.explains pending_at100 60 (update_node (plain 60) 1) (Told.Failed FailureReason.KeyNonExistent) Reason.NoSuchKey
    ∷ ExplainRow.explains pending_at100 60 remove (Told.Removed false) Reason.NoSuchKey
    ∷ ExplainRow.explains pending_at100 48 remove (Told.Removed false) Reason.NoSuchKey
    -- the local key, with the table filter on and ten held too
    ∷ ExplainRow.explains single 0 (update_node_status 1 2) Told.NotModified Reason.LocalKey
    ∷ ExplainRow.explains single 0 (update_node (addressed 0 0) 1) Told.NotModified Reason.LocalKey
    ∷ ExplainRow.explains single 0 (insert_or_update (addressed 0 0) 1 0) (Told.Failed FailureReason.InvalidSelfUpdate) Reason.LocalKey
    ∷ ExplainRow.explains single 0 remove (Told.Removed false) Reason.LocalKey
    ∷ ExplainRow.explains (members 10) 0 (update_node_status 1 2) Told.NotModified Reason.LocalKey
    ∷ ExplainRow.explains (members 10) 0 (update_node (addressed 0 0) 1) Told.NotModified Reason.LocalKey
    ∷ ExplainRow.explains (members 10) 0 (insert_or_update (addressed 0 0) 1 0) (Told.Failed FailureReason.InvalidSelfUpdate) Reason.LocalKey
    ∷ ExplainRow.explains (members 10) 0 remove (Told.Removed false) Reason.LocalKey
    -- whole lines
    -- Failed BucketFull pending KEY
    ∷ ExplainRow.writes pending_over_one 49 (insert_or_update (plain 9) 1 0) (70 ∷ 97 ∷ 105 ∷ 108 ∷ 101 ∷ 100 ∷ 32 ∷ 66 ∷ 117 ∷ 99 ∷ 107 ∷ 101 ∷ 116 ∷ 70 ∷ 117 ∷ 108 ∷ 108 ∷ 32 ∷ 112 ∷ 101 ∷ 110 ∷ 100 ∷ 105 ∷ 110 ∷ 103 ∷ 32 ∷ 48 ∷ 48 ∷ 48 ∷ 48 ∷ 48 ∷ 48 ∷ 48 ∷ 48 ∷ 48 ∷ 48 ∷ 48 ∷ 48 ∷ 48 ∷ 48 ∷ 48 ∷ 48 ∷ 48 ∷ 48 ∷ 48 ∷ 48 ∷ 48 ∷ 48 ∷ 48 ∷ 48 ∷ 48 ∷ 48 ∷ 48 ∷ 48 ∷ 48 ∷ 48 ∷ 48 ∷ 48 ∷ 48 ∷ 48 ∷ 48 ∷ 48 ∷ 48 ∷ 48 ∷ 48 ∷ 48 ∷ 48 ∷ 48 ∷ 48 ∷ 48 ∷ 48 ∷ 48 ∷ 48 ∷ 48 ∷ 48 ∷ 48 ∷ 48 ∷ 48 ∷ 48 ∷ 48 ∷ 48 ∷ 48 ∷ 48 ∷ 48 ∷ 48 ∷ 48 ∷ 48 ∷ 48 ∷ 51 ∷ 48 ∷ 10 ∷ [])
    -- Pending KEY none
    ∷ ExplainRow.writes one_disconnected 48 (insert_or_update (plain 9) 1 0) (80 ∷ 101 ∷ 110 ∷ 100 ∷ 105 ∷ 110 ∷ 103 ∷ 32 ∷ 48 ∷ 48 ∷ 48 ∷ 48 ∷ 48 ∷ 48 ∷ 48 ∷ 48 ∷ 48 ∷ 48 ∷ 48 ∷ 48 ∷ 48 ∷ 48 ∷ 48 ∷ 48 ∷ 48 ∷ 48 ∷ 48 ∷ 48 ∷ 48 ∷ 48 ∷ 48 ∷ 48 ∷ 48 ∷ 48 ∷ 48 ∷ 48 ∷ 48 ∷ 48 ∷ 48 ∷ 48 ∷ 48 ∷ 48 ∷ 48 ∷ 48 ∷ 48 ∷ 48 ∷ 48 ∷ 48 ∷ 48 ∷ 48 ∷ 48 ∷ 48 ∷ 48 ∷ 48 ∷ 48 ∷ 48 ∷ 48 ∷ 48 ∷ 48 ∷ 48 ∷ 48 ∷ 48 ∷ 48 ∷ 48 ∷ 48 ∷ 48 ∷ 48 ∷ 48 ∷ 48 ∷ 48 ∷ 50 ∷ 48 ∷ 32 ∷ 110 ∷ 111 ∷ 110 ∷ 101 ∷ 10 ∷ [])
    -- Failed TooManyIncoming bucket filter KEY KEY
    ∷ ExplainRow.writes one_between_equals 33 (insert_or_update (addressed 2 0) 1 0) (70 ∷ 97 ∷ 105 ∷ 108 ∷ 101 ∷ 100 ∷ 32 ∷ 84 ∷ 111 ∷ 111 ∷ 77 ∷ 97 ∷ 110 ∷ 121 ∷ 73 ∷ 110 ∷ 99 ∷ 111 ∷ 109 ∷ 105 ∷ 110 ∷ 103 ∷ 32 ∷ 98 ∷ 117 ∷ 99 ∷ 107 ∷ 101 ∷ 116 ∷ 32 ∷ 102 ∷ 105 ∷ 108 ∷ 116 ∷ 101 ∷ 114 ∷ 32 ∷ 48 ∷ 48 ∷ 48 ∷ 48 ∷ 48 ∷ 48 ∷ 48 ∷ 48 ∷ 48 ∷ 48 ∷ 48 ∷ 48 ∷ 48 ∷ 48 ∷ 48 ∷ 48 ∷ 48 ∷ 48 ∷ 48 ∷ 48 ∷ 48 ∷ 48 ∷ 48 ∷ 48 ∷ 48 ∷ 48 ∷ 48 ∷ 48 ∷ 48 ∷ 48 ∷ 48 ∷ 48 ∷ 48 ∷ 48 ∷ 48 ∷ 48 ∷ 48 ∷ 48 ∷ 48 ∷ 48 ∷ 48 ∷ 48 ∷ 48 ∷ 48 ∷ 48 ∷ 48 ∷ 48 ∷ 48 ∷ 48 ∷ 48 ∷ 48 ∷ 48 ∷ 48 ∷ 48 ∷ 48 ∷ 48 ∷ 48 ∷ 48 ∷ 48 ∷ 48 ∷ 48 ∷ 48 ∷ 50 ∷ 48 ∷ 32 ∷ 48 ∷ 48 ∷ 48 ∷ 48 ∷ 48 ∷ 48 ∷ 48 ∷ 48 ∷ 48 ∷ 48 ∷ 48 ∷ 48 ∷ 48 ∷ 48 ∷ 48 ∷ 48 ∷ 48 ∷ 48 ∷ 48 ∷ 48 ∷ 48 ∷ 48 ∷ 48 ∷ 48 ∷ 48 ∷ 48 ∷ 48 ∷ 48 ∷ 48 ∷ 48 ∷ 48 ∷ 48 ∷ 48 ∷ 48 ∷ 48 ∷ 48 ∷ 48 ∷ 48 ∷ 48 ∷ 48 ∷ 48 ∷ 48 ∷ 48 ∷ 48 ∷ 48 ∷ 48 ∷ 48 ∷ 48 ∷ 48 ∷ 48 ∷ 48 ∷ 48 ∷ 48 ∷ 48 ∷ 48 ∷ 48 ∷ 48 ∷ 48 ∷ 48 ∷ 48 ∷ 48 ∷ 48 ∷ 50 ∷ 50 ∷ 10 ∷ [])
    -- Updated true none
    ∷ ExplainRow.writes single 32 (insert_or_update (plain 1) 1 0) (85 ∷ 112 ∷ 100 ∷ 97 ∷ 116 ∷ 101 ∷ 100 ∷ 32 ∷ 116 ∷ 114 ∷ 117 ∷ 101 ∷ 32 ∷ 110 ∷ 111 ∷ 110 ∷ 101 ∷ 10 ∷ [])
    -- false no such key
    ∷ ExplainRow.writes single 119 remove (102 ∷ 97 ∷ 108 ∷ 115 ∷ 101 ∷ 32 ∷ 110 ∷ 111 ∷ 32 ∷ 115 ∷ 117 ∷ 99 ∷ 104 ∷ 32 ∷ 107 ∷ 101 ∷ 121 ∷ 10 ∷ [])
    -- TooManyIncoming incoming limit KEY
    ∷ ExplainRow.writes (start 1 0 0 ∷ incoming 115277457729594790111051606095322955253812084748904390551416886243100556336655 ∷ []) 57896044618658097711785492504343953926634992332820282019728792003956564819968 (absent_insert (plain 1) 1 1) (84 ∷ 111 ∷ 111 ∷ 77 ∷ 97 ∷ 110 ∷ 121 ∷ 73 ∷ 110 ∷ 99 ∷ 111 ∷ 109 ∷ 105 ∷ 110 ∷ 103 ∷ 32 ∷ 105 ∷ 110 ∷ 99 ∷ 111 ∷ 109 ∷ 105 ∷ 110 ∷ 103 ∷ 32 ∷ 108 ∷ 105 ∷ 109 ∷ 105 ∷ 116 ∷ 32 ∷ 102 ∷ 101 ∷ 100 ∷ 99 ∷ 98 ∷ 97 ∷ 57 ∷ 56 ∷ 55 ∷ 54 ∷ 53 ∷ 52 ∷ 51 ∷ 50 ∷ 49 ∷ 48 ∷ 48 ∷ 49 ∷ 50 ∷ 51 ∷ 52 ∷ 53 ∷ 54 ∷ 55 ∷ 56 ∷ 57 ∷ 97 ∷ 98 ∷ 99 ∷ 100 ∷ 101 ∷ 102 ∷ 102 ∷ 48 ∷ 101 ∷ 49 ∷ 100 ∷ 50 ∷ 99 ∷ 51 ∷ 98 ∷ 52 ∷ 97 ∷ 53 ∷ 57 ∷ 54 ∷ 56 ∷ 55 ∷ 55 ∷ 56 ∷ 54 ∷ 57 ∷ 53 ∷ 97 ∷ 52 ∷ 98 ∷ 51 ∷ 99 ∷ 50 ∷ 100 ∷ 49 ∷ 101 ∷ 48 ∷ 102 ∷ 10 ∷ [])
    -- Full newcomer disconnected
    ∷ ExplainRow.writes all_disconnected 48 (absent_insert (plain 48) 0 0) (70 ∷ 117 ∷ 108 ∷ 108 ∷ 32 ∷ 110 ∷ 101 ∷ 119 ∷ 99 ∷ 111 ∷ 109 ∷ 101 ∷ 114 ∷ 32 ∷ 100 ∷ 105 ∷ 115 ∷ 99 ∷ 111 ∷ 110 ∷ 110 ∷ 101 ∷ 99 ∷ 116 ∷ 101 ∷ 100 ∷ 10 ∷ [])
    -- Failed BucketFull all connected
    ∷ ExplainRow.writes all_connected 48 (insert_or_update (plain 48) 1 0) (70 ∷ 97 ∷ 105 ∷ 108 ∷ 101 ∷ 100 ∷ 32 ∷ 66 ∷ 117 ∷ 99 ∷ 107 ∷ 101 ∷ 116 ∷ 70 ∷ 117 ∷ 108 ∷ 108 ∷ 32 ∷ 97 ∷ 108 ∷ 108 ∷ 32 ∷ 99 ∷ 111 ∷ 110 ∷ 110 ∷ 101 ∷ 99 ∷ 116 ∷ 101 ∷ 100 ∷ 10 ∷ [])
    -- Failed InvalidSelfUpdate local key
    ∷ ExplainRow.writes (members 10) 0 (insert_or_update (plain 48) 1 0) (70 ∷ 97 ∷ 105 ∷ 108 ∷ 101 ∷ 100 ∷ 32 ∷ 73 ∷ 110 ∷ 118 ∷ 97 ∷ 108 ∷ 105 ∷ 100 ∷ 83 ∷ 101 ∷ 108 ∷ 102 ∷ 85 ∷ 112 ∷ 100 ∷ 97 ∷ 116 ∷ 101 ∷ 32 ∷ 108 ∷ 111 ∷ 99 ∷ 97 ∷ 108 ∷ 32 ∷ 107 ∷ 101 ∷ 121 ∷ 10 ∷ [])
    -- Failed TableFilter table filter KEY KEY KEY KEY KEY KEY KEY KEY KEY KEY
    ∷ ExplainRow.writes (members 10) 64 (update_node (addressed 64 0) 2) (70 ∷ 97 ∷ 105 ∷ 108 ∷ 101 ∷ 100 ∷ 32 ∷ 84 ∷ 97 ∷ 98 ∷ 108 ∷ 101 ∷ 70 ∷ 105 ∷ 108 ∷ 116 ∷ 101 ∷ 114 ∷ 32 ∷ 116 ∷ 97 ∷ 98 ∷ 108 ∷ 101 ∷ 32 ∷ 102 ∷ 105 ∷ 108 ∷ 116 ∷ 101 ∷ 114 ∷ 32 ∷ 48 ∷ 48 ∷ 48 ∷ 48 ∷ 48 ∷ 48 ∷ 48 ∷ 48 ∷ 48 ∷ 48 ∷ 48 ∷ 48 ∷ 48 ∷ 48 ∷ 48 ∷ 48 ∷ 48 ∷ 48 ∷ 48 ∷ 48 ∷ 48 ∷ 48 ∷ 48 ∷ 48 ∷ 48 ∷ 48 ∷ 48 ∷ 48 ∷ 48 ∷ 48 ∷ 48 ∷ 48 ∷ 48 ∷ 48 ∷ 48 ∷ 48 ∷ 48 ∷ 48 ∷ 48 ∷ 48 ∷ 48 ∷ 48 ∷ 48 ∷ 48 ∷ 48 ∷ 48 ∷ 48 ∷ 48 ∷ 48 ∷ 48 ∷ 48 ∷ 48 ∷ 48 ∷ 48 ∷ 48 ∷ 48 ∷ 48 ∷ 48 ∷ 48 ∷ 48 ∷ 48 ∷ 48 ∷ 50 ∷ 48 ∷ 32 ∷ 48 ∷ 48 ∷ 48 ∷ 48 ∷ 48 ∷ 48 ∷ 48 ∷ 48 ∷ 48 ∷ 48 ∷ 48 ∷ 48 ∷ 48 ∷ 48 ∷ 48 ∷ 48 ∷ 48 ∷ 48 ∷ 48 ∷ 48 ∷ 48 ∷ 48 ∷ 48 ∷ 48 ∷ 48 ∷ 48 ∷ 48 ∷ 48 ∷ 48 ∷ 48 ∷ 48 ∷ 48 ∷ 48 ∷ 48 ∷ 48 ∷ 48 ∷ 48 ∷ 48 ∷ 48 ∷ 48 ∷ 48 ∷ 48 ∷ 48 ∷ 48 ∷ 48 ∷ 48 ∷ 48 ∷ 48 ∷ 48 ∷ 48 ∷ 48 ∷ 48 ∷ 48 ∷ 48 ∷ 48 ∷ 48 ∷ 48 ∷ 48 ∷ 48 ∷ 48 ∷ 48 ∷ 48 ∷ 50 ∷ 49 ∷ 32 ∷ 48 ∷ 48 ∷ 48 ∷ 48 ∷ 48 ∷ 48 ∷ 48 ∷ 48 ∷ 48 ∷ 48 ∷ 48 ∷ 48 ∷ 48 ∷ 48 ∷ 48 ∷ 48 ∷ 48 ∷ 48 ∷ 48 ∷ 48 ∷ 48 ∷ 48 ∷ 48 ∷ 48 ∷ 48 ∷ 48 ∷ 48 ∷ 48 ∷ 48 ∷ 48 ∷ 48 ∷ 48 ∷ 48 ∷ 48 ∷ 48 ∷ 48 ∷ 48 ∷ 48 ∷ 48 ∷ 48 ∷ 48 ∷ 48 ∷ 48 ∷ 48 ∷ 48 ∷ 48 ∷ 48 ∷ 48 ∷ 48 ∷ 48 ∷ 48 ∷ 48 ∷ 48 ∷ 48 ∷ 48 ∷ 48 ∷ 48 ∷ 48 ∷ 48 ∷ 48 ∷ 48 ∷ 48 ∷ 50 ∷ 50 ∷ 32 ∷ 48 ∷ 48 ∷ 48 ∷ 48 ∷ 48 ∷ 48 ∷ 48 ∷ 48 ∷ 48 ∷ 48 ∷ 48 ∷ 48 ∷ 48 ∷ 48 ∷ 48 ∷ 48 ∷ 48 ∷ 48 ∷ 48 ∷ 48 ∷ 48 ∷ 48 ∷ 48 ∷ 48 ∷ 48 ∷ 48 ∷ 48 ∷ 48 ∷ 48 ∷ 48 ∷ 48 ∷ 48 ∷ 48 ∷ 48 ∷ 48 ∷ 48 ∷ 48 ∷ 48 ∷ 48 ∷ 48 ∷ 48 ∷ 48 ∷ 48 ∷ 48 ∷ 48 ∷ 48 ∷ 48 ∷ 48 ∷ 48 ∷ 48 ∷ 48 ∷ 48 ∷ 48 ∷ 48 ∷ 48 ∷ 48 ∷ 48 ∷ 48 ∷ 48 ∷ 48 ∷ 48 ∷ 48 ∷ 50 ∷ 51 ∷ 32 ∷ 48 ∷ 48 ∷ 48 ∷ 48 ∷ 48 ∷ 48 ∷ 48 ∷ 48 ∷ 48 ∷ 48 ∷ 48 ∷ 48 ∷ 48 ∷ 48 ∷ 48 ∷ 48 ∷ 48 ∷ 48 ∷ 48 ∷ 48 ∷ 48 ∷ 48 ∷ 48 ∷ 48 ∷ 48 ∷ 48 ∷ 48 ∷ 48 ∷ 48 ∷ 48 ∷ 48 ∷ 48 ∷ 48 ∷ 48 ∷ 48 ∷ 48 ∷ 48 ∷ 48 ∷ 48 ∷ 48 ∷ 48 ∷ 48 ∷ 48 ∷ 48 ∷ 48 ∷ 48 ∷ 48 ∷ 48 ∷ 48 ∷ 48 ∷ 48 ∷ 48 ∷ 48 ∷ 48 ∷ 48 ∷ 48 ∷ 48 ∷ 48 ∷ 48 ∷ 48 ∷ 48 ∷ 48 ∷ 50 ∷ 52 ∷ 32 ∷ 48 ∷ 48 ∷ 48 ∷ 48 ∷ 48 ∷ 48 ∷ 48 ∷ 48 ∷ 48 ∷ 48 ∷ 48 ∷ 48 ∷ 48 ∷ 48 ∷ 48 ∷ 48 ∷ 48 ∷ 48 ∷ 48 ∷ 48 ∷ 48 ∷ 48 ∷ 48 ∷ 48 ∷ 48 ∷ 48 ∷ 48 ∷ 48 ∷ 48 ∷ 48 ∷ 48 ∷ 48 ∷ 48 ∷ 48 ∷ 48 ∷ 48 ∷ 48 ∷ 48 ∷ 48 ∷ 48 ∷ 48 ∷ 48 ∷ 48 ∷ 48 ∷ 48 ∷ 48 ∷ 48 ∷ 48 ∷ 48 ∷ 48 ∷ 48 ∷ 48 ∷ 48 ∷ 48 ∷ 48 ∷ 48 ∷ 48 ∷ 48 ∷ 48 ∷ 48 ∷ 48 ∷ 48 ∷ 50 ∷ 53 ∷ 32 ∷ 48 ∷ 48 ∷ 48 ∷ 48 ∷ 48 ∷ 48 ∷ 48 ∷ 48 ∷ 48 ∷ 48 ∷ 48 ∷ 48 ∷ 48 ∷ 48 ∷ 48 ∷ 48 ∷ 48 ∷ 48 ∷ 48 ∷ 48 ∷ 48 ∷ 48 ∷ 48 ∷ 48 ∷ 48 ∷ 48 ∷ 48 ∷ 48 ∷ 48 ∷ 48 ∷ 48 ∷ 48 ∷ 48 ∷ 48 ∷ 48 ∷ 48 ∷ 48 ∷ 48 ∷ 48 ∷ 48 ∷ 48 ∷ 48 ∷ 48 ∷ 48 ∷ 48 ∷ 48 ∷ 48 ∷ 48 ∷ 48 ∷ 48 ∷ 48 ∷ 48 ∷ 48 ∷ 48 ∷ 48 ∷ 48 ∷ 48 ∷ 48 ∷ 48 ∷ 48 ∷ 48 ∷ 48 ∷ 50 ∷ 54 ∷ 32 ∷ 48 ∷ 48 ∷ 48 ∷ 48 ∷ 48 ∷ 48 ∷ 48 ∷ 48 ∷ 48 ∷ 48 ∷ 48 ∷ 48 ∷ 48 ∷ 48 ∷ 48 ∷ 48 ∷ 48 ∷ 48 ∷ 48 ∷ 48 ∷ 48 ∷ 48 ∷ 48 ∷ 48 ∷ 48 ∷ 48 ∷ 48 ∷ 48 ∷ 48 ∷ 48 ∷ 48 ∷ 48 ∷ 48 ∷ 48 ∷ 48 ∷ 48 ∷ 48 ∷ 48 ∷ 48 ∷ 48 ∷ 48 ∷ 48 ∷ 48 ∷ 48 ∷ 48 ∷ 48 ∷ 48 ∷ 48 ∷ 48 ∷ 48 ∷ 48 ∷ 48 ∷ 48 ∷ 48 ∷ 48 ∷ 48 ∷ 48 ∷ 48 ∷ 48 ∷ 48 ∷ 48 ∷ 48 ∷ 50 ∷ 55 ∷ 32 ∷ 48 ∷ 48 ∷ 48 ∷ 48 ∷ 48 ∷ 48 ∷ 48 ∷ 48 ∷ 48 ∷ 48 ∷ 48 ∷ 48 ∷ 48 ∷ 48 ∷ 48 ∷ 48 ∷ 48 ∷ 48 ∷ 48 ∷ 48 ∷ 48 ∷ 48 ∷ 48 ∷ 48 ∷ 48 ∷ 48 ∷ 48 ∷ 48 ∷ 48 ∷ 48 ∷ 48 ∷ 48 ∷ 48 ∷ 48 ∷ 48 ∷ 48 ∷ 48 ∷ 48 ∷ 48 ∷ 48 ∷ 48 ∷ 48 ∷ 48 ∷ 48 ∷ 48 ∷ 48 ∷ 48 ∷ 48 ∷ 48 ∷ 48 ∷ 48 ∷ 48 ∷ 48 ∷ 48 ∷ 48 ∷ 48 ∷ 48 ∷ 48 ∷ 48 ∷ 48 ∷ 48 ∷ 48 ∷ 50 ∷ 56 ∷ 32 ∷ 48 ∷ 48 ∷ 48 ∷ 48 ∷ 48 ∷ 48 ∷ 48 ∷ 48 ∷ 48 ∷ 48 ∷ 48 ∷ 48 ∷ 48 ∷ 48 ∷ 48 ∷ 48 ∷ 48 ∷ 48 ∷ 48 ∷ 48 ∷ 48 ∷ 48 ∷ 48 ∷ 48 ∷ 48 ∷ 48 ∷ 48 ∷ 48 ∷ 48 ∷ 48 ∷ 48 ∷ 48 ∷ 48 ∷ 48 ∷ 48 ∷ 48 ∷ 48 ∷ 48 ∷ 48 ∷ 48 ∷ 48 ∷ 48 ∷ 48 ∷ 48 ∷ 48 ∷ 48 ∷ 48 ∷ 48 ∷ 48 ∷ 48 ∷ 48 ∷ 48 ∷ 48 ∷ 48 ∷ 48 ∷ 48 ∷ 48 ∷ 48 ∷ 48 ∷ 48 ∷ 48 ∷ 48 ∷ 50 ∷ 57 ∷ 10 ∷ [])
    -- true none
    ∷ ExplainRow.writes single 32 remove (116 ∷ 114 ∷ 117 ∷ 101 ∷ 32 ∷ 110 ∷ 111 ∷ 110 ∷ 101 ∷ 10 ∷ [])
    -- StatusUpdated false none
    ∷ ExplainRow.writes single 32 (insert_or_update (plain 32) 0 1) (83 ∷ 116 ∷ 97 ∷ 116 ∷ 117 ∷ 115 ∷ 85 ∷ 112 ∷ 100 ∷ 97 ∷ 116 ∷ 101 ∷ 100 ∷ 32 ∷ 102 ∷ 97 ∷ 108 ∷ 115 ∷ 101 ∷ 32 ∷ 110 ∷ 111 ∷ 110 ∷ 101 ∷ 10 ∷ [])
    -- ValueUpdated none
    ∷ ExplainRow.writes single 32 (insert_or_update (plain 7) 0 0) (86 ∷ 97 ∷ 108 ∷ 117 ∷ 101 ∷ 85 ∷ 112 ∷ 100 ∷ 97 ∷ 116 ∷ 101 ∷ 100 ∷ 32 ∷ 110 ∷ 111 ∷ 110 ∷ 101 ∷ 10 ∷ [])
    -- Updated none
    ∷ ExplainRow.writes single 32 (update_node_status 0 1) (85 ∷ 112 ∷ 100 ∷ 97 ∷ 116 ∷ 101 ∷ 100 ∷ 32 ∷ 110 ∷ 111 ∷ 110 ∷ 101 ∷ 10 ∷ [])
    -- UpdatedAndPromoted none
    ∷ ExplainRow.writes single 32 (update_node_status 1 2) (85 ∷ 112 ∷ 100 ∷ 97 ∷ 116 ∷ 101 ∷ 100 ∷ 65 ∷ 110 ∷ 100 ∷ 80 ∷ 114 ∷ 111 ∷ 109 ∷ 111 ∷ 116 ∷ 101 ∷ 100 ∷ 32 ∷ 110 ∷ 111 ∷ 110 ∷ 101 ∷ 10 ∷ [])
    -- UpdatedPending none
    ∷ ExplainRow.writes pending_at100 48 (KeyCall.pending_update 0 1) (85 ∷ 112 ∷ 100 ∷ 97 ∷ 116 ∷ 101 ∷ 100 ∷ 80 ∷ 101 ∷ 110 ∷ 100 ∷ 105 ∷ 110 ∷ 103 ∷ 32 ∷ 110 ∷ 111 ∷ 110 ∷ 101 ∷ 10 ∷ [])
    -- NotModified local key
    ∷ ExplainRow.writes single 0 (update_node_status 1 2) (78 ∷ 111 ∷ 116 ∷ 77 ∷ 111 ∷ 100 ∷ 105 ∷ 102 ∷ 105 ∷ 101 ∷ 100 ∷ 32 ∷ 108 ∷ 111 ∷ 99 ∷ 97 ∷ 108 ∷ 32 ∷ 107 ∷ 101 ∷ 121 ∷ 10 ∷ [])
    -- FailedFilter bucket filter KEY KEY
    ∷ ExplainRow.writes two_of_aNet 34 (absent_insert (addressed 3 0) 0 0) (70 ∷ 97 ∷ 105 ∷ 108 ∷ 101 ∷ 100 ∷ 70 ∷ 105 ∷ 108 ∷ 116 ∷ 101 ∷ 114 ∷ 32 ∷ 98 ∷ 117 ∷ 99 ∷ 107 ∷ 101 ∷ 116 ∷ 32 ∷ 102 ∷ 105 ∷ 108 ∷ 116 ∷ 101 ∷ 114 ∷ 32 ∷ 48 ∷ 48 ∷ 48 ∷ 48 ∷ 48 ∷ 48 ∷ 48 ∷ 48 ∷ 48 ∷ 48 ∷ 48 ∷ 48 ∷ 48 ∷ 48 ∷ 48 ∷ 48 ∷ 48 ∷ 48 ∷ 48 ∷ 48 ∷ 48 ∷ 48 ∷ 48 ∷ 48 ∷ 48 ∷ 48 ∷ 48 ∷ 48 ∷ 48 ∷ 48 ∷ 48 ∷ 48 ∷ 48 ∷ 48 ∷ 48 ∷ 48 ∷ 48 ∷ 48 ∷ 48 ∷ 48 ∷ 48 ∷ 48 ∷ 48 ∷ 48 ∷ 48 ∷ 48 ∷ 48 ∷ 48 ∷ 48 ∷ 48 ∷ 48 ∷ 48 ∷ 48 ∷ 48 ∷ 48 ∷ 48 ∷ 48 ∷ 48 ∷ 48 ∷ 48 ∷ 48 ∷ 48 ∷ 50 ∷ 48 ∷ 32 ∷ 48 ∷ 48 ∷ 48 ∷ 48 ∷ 48 ∷ 48 ∷ 48 ∷ 48 ∷ 48 ∷ 48 ∷ 48 ∷ 48 ∷ 48 ∷ 48 ∷ 48 ∷ 48 ∷ 48 ∷ 48 ∷ 48 ∷ 48 ∷ 48 ∷ 48 ∷ 48 ∷ 48 ∷ 48 ∷ 48 ∷ 48 ∷ 48 ∷ 48 ∷ 48 ∷ 48 ∷ 48 ∷ 48 ∷ 48 ∷ 48 ∷ 48 ∷ 48 ∷ 48 ∷ 48 ∷ 48 ∷ 48 ∷ 48 ∷ 48 ∷ 48 ∷ 48 ∷ 48 ∷ 48 ∷ 48 ∷ 48 ∷ 48 ∷ 48 ∷ 48 ∷ 48 ∷ 48 ∷ 48 ∷ 48 ∷ 48 ∷ 48 ∷ 48 ∷ 48 ∷ 48 ∷ 48 ∷ 50 ∷ 49 ∷ 10 ∷ [])
    -- Inserted none
    ∷ ExplainRow.writes single 33 (absent_insert (plain 33) 0 0) (73 ∷ 110 ∷ 115 ∷ 101 ∷ 114 ∷ 116 ∷ 101 ∷ 100 ∷ 32 ∷ 110 ∷ 111 ∷ 110 ∷ 101 ∷ 10 ∷ [])
    -- Failed KeyNonExistent no such key
    ∷ ExplainRow.writes single 60 (update_node_status 1 2) (70 ∷ 97 ∷ 105 ∷ 108 ∷ 101 ∷ 100 ∷ 32 ∷ 75 ∷ 101 ∷ 121 ∷ 78 ∷ 111 ∷ 110 ∷ 69 ∷ 120 ∷ 105 ∷ 115 ∷ 116 ∷ 101 ∷ 110 ∷ 116 ∷ 32 ∷ 110 ∷ 111 ∷ 32 ∷ 115 ∷ 117 ∷ 99 ∷ 104 ∷ 32 ∷ 107 ∷ 101 ∷ 121 ∷ 10 ∷ [])
    -- Failed BucketFilter bucket filter KEY KEY
    ∷ ExplainRow.writes (two_of_aNet ++ (disconnected 34 ∷ [])) 34 (update_node (addressed 3 0) 2) (70 ∷ 97 ∷ 105 ∷ 108 ∷ 101 ∷ 100 ∷ 32 ∷ 66 ∷ 117 ∷ 99 ∷ 107 ∷ 101 ∷ 116 ∷ 70 ∷ 105 ∷ 108 ∷ 116 ∷ 101 ∷ 114 ∷ 32 ∷ 98 ∷ 117 ∷ 99 ∷ 107 ∷ 101 ∷ 116 ∷ 32 ∷ 102 ∷ 105 ∷ 108 ∷ 116 ∷ 101 ∷ 114 ∷ 32 ∷ 48 ∷ 48 ∷ 48 ∷ 48 ∷ 48 ∷ 48 ∷ 48 ∷ 48 ∷ 48 ∷ 48 ∷ 48 ∷ 48 ∷ 48 ∷ 48 ∷ 48 ∷ 48 ∷ 48 ∷ 48 ∷ 48 ∷ 48 ∷ 48 ∷ 48 ∷ 48 ∷ 48 ∷ 48 ∷ 48 ∷ 48 ∷ 48 ∷ 48 ∷ 48 ∷ 48 ∷ 48 ∷ 48 ∷ 48 ∷ 48 ∷ 48 ∷ 48 ∷ 48 ∷ 48 ∷ 48 ∷ 48 ∷ 48 ∷ 48 ∷ 48 ∷ 48 ∷ 48 ∷ 48 ∷ 48 ∷ 48 ∷ 48 ∷ 48 ∷ 48 ∷ 48 ∷ 48 ∷ 48 ∷ 48 ∷ 48 ∷ 48 ∷ 48 ∷ 48 ∷ 48 ∷ 48 ∷ 50 ∷ 48 ∷ 32 ∷ 48 ∷ 48 ∷ 48 ∷ 48 ∷ 48 ∷ 48 ∷ 48 ∷ 48 ∷ 48 ∷ 48 ∷ 48 ∷ 48 ∷ 48 ∷ 48 ∷ 48 ∷ 48 ∷ 48 ∷ 48 ∷ 48 ∷ 48 ∷ 48 ∷ 48 ∷ 48 ∷ 48 ∷ 48 ∷ 48 ∷ 48 ∷ 48 ∷ 48 ∷ 48 ∷ 48 ∷ 48 ∷ 48 ∷ 48 ∷ 48 ∷ 48 ∷ 48 ∷ 48 ∷ 48 ∷ 48 ∷ 48 ∷ 48 ∷ 48 ∷ 48 ∷ 48 ∷ 48 ∷ 48 ∷ 48 ∷ 48 ∷ 48 ∷ 48 ∷ 48 ∷ 48 ∷ 48 ∷ 48 ∷ 48 ∷ 48 ∷ 48 ∷ 48 ∷ 48 ∷ 48 ∷ 48 ∷ 50 ∷ 49 ∷ 10 ∷ [])
    -- refused alike: 3, 4 and 5 before an output that is too short
    ∷ ExplainRow.refuses single (bytes 31 32) (update_node_status 2 2) 0 3
    ∷ ExplainRow.refuses single (key 32) (update_node_status 2 2) 0 4
    ∷ ExplainRow.refuses single (key 32) (KeyCall.remove (2 ^ 64 - 60000)) 0 5
    -- 6: 2,047 bytes are too few however short the line; before 7 and 8
    ∷ ExplainRow.refuses single (key 32) remove 2047 6
    ∷ ExplainRow.refuses single (key 33) (KeyCall.present_update 1 2) 2047 6
    ∷ ExplainRow.refuses (full_at_once ++ (applied 272 64 ++ (connected 336 ∷ []))) (key 336) (update_node_status 0 2) 2047 6
    -- 7: the key is of another kind, the local key too; 8: the call would leave 65 records
    ∷ ExplainRow.refuses single (key 33) (KeyCall.present_update 1 2) 2048 7
    ∷ ExplainRow.refuses single (key 0) (KeyCall.present_update 1 2) 2048 7
    ∷ ExplainRow.refuses single (key 32) (KeyCall.pending_update 1 0) 2048 7
    ∷ ExplainRow.refuses single (key 0) (KeyCall.pending_update 1 0) 2048 7
    ∷ ExplainRow.refuses single (key 32) (absent_insert (plain 32) 0 0) 2048 7
    ∷ ExplainRow.refuses single (key 0) (absent_insert (plain 0) 0 0) 2048 7
    ∷ ExplainRow.refuses pending_at100 (key 48) (KeyCall.absent_insert (plain 48) 1 0 60100 no_hours) 2048 7
    ∷ ExplainRow.refuses (full_at_once ++ (applied 272 64 ++ (connected 336 ∷ []))) (key 336) (update_node_status 0 2) 2048 8
    -- 1: a storage of five bytes, before all others
    ∷ ExplainRow.refuses_bytes (zeros 5) (bytes 31 32) (update_node_status 2 2) 0 1
    -- 2: max_incoming 17, before 3 to 8
    ∷ ExplainRow.refuses_bytes (zeros max_incoming_at ++ (17 ∷ zeros (storage_size - (max_incoming_at + 1)))) (bytes 31 32) (update_node_status 2 2) 0 2
    ∷ []
