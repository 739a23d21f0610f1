use Rattle.std.proofs.Common.{ℕ, Bool, not, ◌≡◌, refl, sym, ap, ◌∙◌, arith, subst}
use mathlib.Core.Option.{some}
use mir.Val.{bool_byte}
use Rattle.model.specs.Bytes.{Bytes, number}
use Rattle.model.specs.Bucket as rules
use Rattle.model.specs.Table.{EntryKind, Answer, fails_table_filter, insert_or_update_in}
use Rattle.model.specs.Session.{hours_questions}
use Rattle.model.specs.Layout.{table_of}
use Rattle.model.specs.Call.{KeyCall, value_of, is_one}
use Rattle.model.specs.Question.{first_failed, is_absent, key_arguments}
use Rattle.node.specs.declared.Value.{Value}
use Rattle.node.specs.declared.NodeStatus.{NodeStatus}
use Rattle.node.specs.declared.NodeFields.{NodeFields}
use Rattle.node.specs.Node.{argument_of}
use Rattle.bucket.specs.Calls.{records_of}
use Rattle.bucket_update.specs.Results.{table_insert_result_of}
use Rattle.session.specs.declared.Hours.{Hours}
use Rattle.session.specs.Hours.{hours_of}
use Rattle.on_key.specs.Start.{AtBucket}
use Rattle.on_key.proofs.OneKey.{ReadFormed, suits_all, reads_are, refused_early, refused_read, refused_self, answers_self}
use Rattle.on_key.proofs.Steps.{started, timely, timely_there}
use Rattle.on_key.proofs.Stored.{room_asked, has_room}
use Rattle.on_key.proofs.Ended.{Told, Here, refused_exit, refused_size, hours_full, hours_refused, hours_ended, unrecorded_refused, hours_suit}
use Rattle.on_key.proofs.InPlace.{ranged_is, formed_in, none_here, none_recorded, did, in_place_at}
use Rattle.held.specs.Held.{Quiet}
use Rattle.entry.proofs.Kind.{kind_self}
use Rattle.entry.proofs.InPlace.{position_there, known_here}
use Rattle.update.proofs.Told.{inserted, hours_at}
use Rattle.update.proofs.insert_or_update.Goals as goal
use Rattle.update.proofs.insert_or_update.Goals.{In_ok-fails, After-record_of-record}

abbrev call : Value → NodeStatus → ℕ → Hours → KeyCall
call v st time hours = KeyCall.insert_or_update (argument_of v) st.state st.direction time (hours_of hours)

-- what is known of the fields of the node
abbrev IsGiven : Value → NodeStatus → NodeFields → Type 0
IsGiven v st f = (f.value.value ≡ v) × (f.status.status ≡ st)

-- the key's bucket, once the table filter was asked
asked : (c : In_ok-fails) → Here (IsGiven c.args.value c.args.status) c.in_ok-s.s.now c.args.s.now c.args.key.now (call c.args.value c.args.status c.args.time c.args.hours) c.in-Some.k c.in-Some.i c.in-Some.fields
    × (c.in_ok-fails.fails ≡ fails_table_filter (table_of c.in_ok-s.s.now) c.in-Some.i (number c.args.key.now) (value_of (argument_of c.args.value)))
asked c =
    let w = rw c.in_ok-s.ensures.ok_part at c.as_mut_array.ensures.cases in
    let y = started _ c.of-fields.ensures.passes c.of-fields.ensures.value (rw c.in-Some.is at c.in_ok-k.ensures) in
    let d = rw (y.0.key_is, c.with_key-node.ensures, y.1.0) at c.in_ok-fails.ensures in
    (record { same = w.same; at = y.0; given = y.1; read = reads_are _ _ (call c.args.value c.args.status c.args.time c.args.hours) y.0.index d.0 }, d.1)

-- what was done to it by value, where a due pending was applied first
module _ (c : After-record_of-record) where
  told : Told c.in_ok-s.s.now c.args.key.now (call c.args.value c.args.status c.args.time c.args.hours) c.in-Some.i
      (Answer.InsertOrUpdate (table_insert_result_of c.insert_or_update_in-step.result.result)) c.insert_or_update_in-step.result.bucket.bucket (records_of c.record_of-record.result)
  told =
      let y = started _ c.of-fields.ensures.passes c.of-fields.ensures.value (rw c.in-Some.is at c.in_ok-k.ensures) in
      let d = rw (y.0.key_is, c.with_key-node.ensures, y.1.0) at c.in_ok-fails.ensures in
      let x = rw (c.with_key-node.ensures, y.1.0, y.1.1) at c.insert_or_update_in-step.ensures in
      inserted y.0 c.args.value c.args.time c.apply_at-applied.ensures d.1 c.record_of-record.ensures c.args.status.state c.args.status.direction (hours_of c.args.hours) x.result_value x.becomes

pub returns-in_err-s : goal.returns-in_err-s
returns-in_err-s c =
    refused_size _ _ _ c.in_err-s.ensures.value c.in_err-s.ensures.ok_part (rw c.in_err-s.ensures.ok_part at c.as_mut_array.ensures.cases) c.from_residual.ensures.1

pub returns-in_err-k : goal.returns-in_err-k
returns-in_err-k c =
    let w = rw c.in_ok-s.ensures.ok_part at c.as_mut_array.ensures.cases in
    rw (← w.same) (refused_exit _ _ _ c.from_residual-in_err-k.ensures.1 (refused_early _ _ _ _ (rw c.of-fields.ensures.passes at c.in_err-k.ensures)))

pub returns-in_err-asked : goal.returns-in_err-asked
returns-in_err-asked c =
    let a = c.args in
    let w = rw c.in_ok-s.ensures.ok_part at c.as_mut_array.ensures.cases in
    let h : Bytes a.s.now = λ j. (c.slice_known-1.given j).fits in
    let s = c.in_ok-s.s.now in
    let hs = hours_of a.hours in
    let it = call a.value a.status a.time a.hours in
    let y = rw (c.in_default.is, c.of-fields.ensures.passes) at c.in_ok-k.ensures in
    let own = ap (λ (x : EntryKind). first_failed (hours_questions hs (not (is_absent x)))) (kind_self s a.key.now y.1) in
    rw (← w.same) (refused_exit _ _ _ c.from_residual-in_err-asked.ensures.1 (refused_self s a.key.now it y.0 refl (rw (← w.same) at h) y.1 (c.in_err-asked.ensures ∙ sym own)))

pub returns-in_default : goal.returns-in_default
returns-in_default c =
    let a = c.args in
    let w = rw c.in_ok-s.ensures.ok_part at c.as_mut_array.ensures.cases in
    let h : Bytes a.s.now = λ j. (c.slice_known-1.given j).fits in
    let s = c.in_ok-s.s.now in
    let hs = hours_of a.hours in
    let it = call a.value a.status a.time a.hours in
    let y = rw (c.in_default.is, c.of-fields.ensures.passes) at c.in_ok-k.ensures in
    let own = ap (λ (x : EntryKind). first_failed (hours_questions hs (not (is_absent x)))) (kind_self s a.key.now y.1) in
    rw (← w.same) (answers_self s a.key.now it y.0 (suits_all s a.key.now it refl (own ∙ sym c.in_ok-asked.ensures)) (rw (← w.same) at h) y.1)

pub returns-in_err-fails : goal.returns-in_err-fails
returns-in_err-fails c =
    let w = rw c.in_ok-s.ensures.ok_part at c.as_mut_array.ensures.cases in
    let y = started _ c.of-fields.ensures.passes c.of-fields.ensures.value (rw c.in-Some.is at c.in_ok-k.ensures) in
    let d = rw (y.0.key_is, c.with_key-node.ensures, y.1.0) at c.in_err-fails.ensures in
    rw (← w.same) (refused_exit _ _ _ c.from_residual-in_err-fails.ensures.1 (rw d.1 (refused_read _ _ _ y.0.passed (reads_are _ _ (call c.args.value c.args.status c.args.time c.args.hours) y.0.index d.0))))

pub nodes-requires : goal.nodes-requires
nodes-requires c = c.is_quiet.ensures _ _ (formed_in _ _ c.bucket-bucket.ensures (asked (goal.at.nodes-requires c).In_ok-fails).0.at.ready) c.if-is_quiet.true

pub returns-in_err-asked-2 : goal.returns-in_err-asked-2
returns-in_err-asked-2 c =
    let h : Bytes c.args.s.now = λ j. (c.slice_known-1.given j).fits in
    let y = asked (goal.at.returns-in_err-asked-2 c).In_ok-fails in
    let s = c.in_ok-s.s.now in
    let it = call c.args.value c.args.status c.args.time c.args.hours in
    let q = c.is_quiet.ensures _ _ (formed_in _ _ c.bucket-bucket.ensures y.0.at.ready) c.if-is_quiet.true in
    let known = ap (λ (x : Bool). first_failed (hours_questions (hours_of c.args.hours) x)) (known_here y.0.at c.bucket-bucket.ensures q c.nodes.ensures _ c.position-pos.ensures ∙ sym c.is_some.ensures) in
    let p = none_recorded it c.args.key.now (table_of s) c.in-Some.i ((table_of s).buckets c.in-Some.i) (none_here _ _ c.bucket-bucket.ensures q.pending) in
    rw (← y.0.same)
    (refused_exit _ _ _ c.from_residual-in_err-asked-2.ensures.1 (unrecorded_refused s c.args.key.now it y.0.at y.0.read refl (rw (← y.0.same) at h) (sym p) (c.in_err-asked-2.ensures ∙ sym known)))

pub invariant_of-now : goal.invariant_of-now
invariant_of-now c =
    let t = timely _ _ _ c.args.time (asked (goal.at.invariant_of-now c).In_ok-fails).0.at.passed in
    record { deadline = omega (arith, t, ap (λ (u : rules.BucketSettings). u.pending_timeout) c.settings-settings.ensures.settings) }

pub insert_or_update-requires-clause-quiet : goal.insert_or_update-requires-clause-quiet
insert_or_update-requires-clause-quiet c =
    let y = asked (goal.at.insert_or_update-requires-clause-quiet c).In_ok-fails in
    subst Quiet (ranged_is _ _ c.bucket-bucket.ensures c.bucket_range.ensures) (c.is_quiet.ensures _ _ (formed_in _ _ c.bucket-bucket.ensures y.0.at.ready) c.if-is_quiet.true)

pub insert_or_update-requires-clause-position : goal.insert_or_update-requires-clause-position
insert_or_update-requires-clause-position c = rw c.with_key-node.ensures (position_there _ _ c.bucket-bucket.ensures c.bucket_range.ensures c.nodes.ensures _ _ c.position-pos.ensures)

-- in place
pub returns-then-is_quiet : goal.returns-then-is_quiet
returns-then-is_quiet c =
    let a = c.args in
    let h : Bytes a.s.now = λ j. (c.slice_known-1.given j).fits in
    let y = asked (goal.at.returns-then-is_quiet c).In_ok-fails in
    let s = c.in_ok-s.s.now in
    let it = call a.value a.status a.time a.hours in
    let q = c.is_quiet.ensures _ _ (formed_in _ _ c.bucket-bucket.ensures y.0.at.ready) c.if-is_quiet.true in
    let known = ap (λ (x : Bool). first_failed (hours_questions (hours_of a.hours) x)) (known_here y.0.at c.bucket-bucket.ensures q c.nodes.ensures _ c.position-pos.ensures ∙ sym c.is_some.ensures) in
    let F = λ (u : rules.BucketSettings) (n : ℕ) (x : rules.Bucket). insert_or_update_in u (fails_table_filter (table_of s) c.in-Some.i (number a.key.now) (value_of (argument_of a.value))) a.time (record { key = n; value = value_of (argument_of a.value); connected = is_one a.status.state; incoming = is_one a.status.direction }) x in
    let x = rw (y.1, c.with_key-node.ensures, y.0.given.0, y.0.given.1) at c.insert_or_update.ensures in
    rw (← y.0.same)
    (in_place_at s a.key.now it y.0.at y.0.read (hours_suit s a.key.now it y.0.at y.0.read refl (c.in_ok-asked-2.ensures ∙ sym known)) (rw (← y.0.same) at h) (none_here _ _ c.bucket-bucket.ensures q.pending) F
    (did y.0.at F c.settings-settings.ensures.settings c.bucket_range.ensures x.answers x.leaves c.insert_or_update.auto.bucket) (λ (b : Answer). b) a.time refl refl)

pub insert_or_update_in-step-requires : goal.insert_or_update_in-step-requires
insert_or_update_in-step-requires c =
    let y = asked (goal.at.insert_or_update_in-step-requires c).In_ok-fails in
    timely_there _ c.args.time c.apply_at-applied.ensures.bucket (timely _ _ _ c.args.time y.0.at.passed)

pub returns-in_err-asked_queue : goal.returns-in_err-asked_queue
returns-in_err-asked_queue c =
    let y = asked (goal.at.returns-in_err-asked_queue c).In_ok-fails in
    let t = told (goal.at.returns-in_err-asked_queue c).After-record_of-record in
    let room = room_asked c.in_ok-s.s.now c.record_of-record.result (c.from.ensures ∙ ap bool_byte c.is_some-2.ensures) c.in_err-asked_queue.ensures in
    rw (← y.0.same) (refused_exit _ _ _ c.from_residual-in_err-asked_queue.ensures.1 (hours_full _ _ _ y.0.at y.0.read refl t.records room))

pub write_back-requires-clause-room : goal.write_back-requires-clause-room
write_back-requires-clause-room c = has_room _ (room_asked c.in_ok-s.s.now c.record_of-record.result (c.from.ensures ∙ ap bool_byte c.is_some-2.ensures) c.in_ok-asked_queue.ensures)

pub returns-in_err-asked-3 : goal.returns-in_err-asked-3
returns-in_err-asked-3 c =
    let y = asked (goal.at.returns-in_err-asked-3 c).In_ok-fails in
    let t = told (goal.at.returns-in_err-asked-3 c).After-record_of-record in
    let room = room_asked c.in_ok-s.s.now c.record_of-record.result (c.from.ensures ∙ ap bool_byte c.is_some-2.ensures) c.in_ok-asked_queue.ensures in
    rw (← y.0.same)
    (refused_exit _ _ _ c.from_residual-in_err-asked-3.ensures.1 (hours_refused _ _ _ y.0.at y.0.read refl t.records room (c.in_err-asked-3.ensures ∙ sym (hours_at y.0.at (hours_of c.args.hours)))))

pub returns : goal.returns
returns c =
    let y = asked (goal.at.returns c).In_ok-fails in
    let t = told (goal.at.returns c).After-record_of-record in
    let room = room_asked c.in_ok-s.s.now c.record_of-record.result (c.from.ensures ∙ ap bool_byte c.is_some-2.ensures) c.in_ok-asked_queue.ensures in
    rw (← y.0.same) (hours_ended _ _ _ y.0.at y.0.read refl t.records room (c.in_ok-asked-3.ensures ∙ sym (hours_at y.0.at (hours_of c.args.hours))) c.write_back.ensures t.answer t.bucket)
