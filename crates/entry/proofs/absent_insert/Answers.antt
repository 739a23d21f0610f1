use Rattle.std.proofs.Common.{[], ℕ, true, false, Bool, not, ◌≡◌, refl, sym, ap, ◌∙◌, arith, subst}
use borrow.Author.Tests.{not-true, not-false}
use Rattle.model.specs.Bytes.{Bytes}
use Rattle.model.specs.Bucket as rules
use Rattle.model.specs.Table.{Answer}
use Rattle.model.specs.Session.{hours_questions}
use Rattle.model.specs.Call.{KeyCall, is_one}
use Rattle.model.specs.Question.{first_failed, is_absent, kind_of_key}
use Rattle.model.specs.Layout.{table_of}
use Rattle.model.specs.Result.{BucketInsertResult}
use Rattle.model.specs.Step.{node_of, effect}
use Rattle.node.specs.declared.Value.{Value}
use Rattle.node.specs.declared.NodeStatus.{NodeStatus}
use Rattle.node.specs.declared.NodeFields.{NodeFields}
use Rattle.node.specs.Node.{value_of, argument_of}
use Rattle.session.specs.declared.Hours.{Hours}
use Rattle.session.specs.Hours.{hours_of}
use Rattle.on_key.proofs.OneKey.{refused_kind}
use Rattle.on_key.proofs.Steps.{started, timely, timely_there, stepped}
use Rattle.on_key.proofs.Ended.{Here, here, refused_exit, refused_size, unrecorded_refused, hours_suit, ends_full, ends}
use Rattle.on_key.proofs.Endings.{absent_ends_none}
use Rattle.on_key.proofs.InPlace.{ranged_is, formed_in, none_here, none_recorded, did, in_place}
use Rattle.held.specs.Held.{Quiet}
use Rattle.entry.specs.declared.EntryKind as code
use Rattle.entry.specs.Kind as kind
use Rattle.entry.proofs.Start.{refused_start}
use Rattle.entry.proofs.Kind.{kind_at, kind_told, not_absent}
use Rattle.entry.proofs.InPlace.{absent_there, known_here}
use Rattle.entry.proofs.absent_insert.Goals as goal
use Rattle.entry.proofs.absent_insert.Goals.{In_ok-k, In-Absent}

abbrev call : Value → NodeStatus → ℕ → Hours → KeyCall
call v st time hours = KeyCall.absent_insert (argument_of v) st.state st.direction time (hours_of hours)

abbrev step : Value → NodeStatus → ℕ → rules.BucketSettings → ℕ → rules.Bucket → BucketInsertResult × rules.Bucket
step v st time u k b = rules.insert u time (record { key = k; value = value_of v; connected = is_one st.state; incoming = is_one st.direction }) b

-- what is known of the fields of the node
abbrev IsGiven : Value → NodeStatus → NodeFields → Type 0
IsGiven v st f = (f.value.value ≡ v) × (f.status.status ≡ st)

-- the key's bucket
at_bucket : (c : In_ok-k) → Here (IsGiven c.args.value c.args.status) c.in_ok-s.s.now c.args.s.now c.args.key.now (call c.args.value c.args.status c.args.time c.args.hours) c.in_ok-k.k c.in_ok-k.i c.in_ok-k.fields
at_bucket c = let w = rw c.in_ok-s.ensures.ok_part at c.as_mut_array.ensures.cases in here _ _ w.same c.of.ensures.passes c.of.ensures.value c.in_ok-k.ensures refl

-- the key is absent, by the kind that was told of it: a new key to the session hours, and not pending, so that the insert ends none
module _ (c : In-Absent) where
  record Absent : Type 0 where
    absent : is_absent (kind_of_key c.args.key.now (table_of c.in_ok-s.s.now)) ≡ true
    none_ended : [] ≡ (effect (call c.args.value c.args.status c.args.time c.args.hours) c.args.key.now (table_of c.in_ok-s.s.now) c.in_ok-k.i ((table_of c.in_ok-s.s.now).buckets c.in_ok-k.i)).records
    new_key : first_failed (hours_questions (hours_of c.args.hours) (not (is_absent (kind_of_key c.args.key.now (table_of c.in_ok-s.s.now))))) ≡ first_failed (hours_questions (hours_of c.args.hours) false)

  absent_is : Absent
  absent_is =
      let y = (started _ c.of.ensures.passes c.of.ensures.value c.in_ok-k.ensures).0 in
      let t = ap is_absent (kind_told y c.load_bucket-stored.ensures c.kind_of.ensures.result_value) ∙ ap (λ (z : code.EntryKind). is_absent (kind.kind_of z)) c.in-Absent.is in
      let n = node_of c.args.key.now (argument_of c.args.value) c.args.status.state c.args.status.direction in
      let m = (table_of c.in_ok-s.s.now).buckets c.in_ok-k.i in
      record {
        absent = t;
        none_ended = sym (absent_ends_none n m (rules.insert (table_of c.in_ok-s.s.now).settings.bucket c.args.time n m).0 (sym (ap is_absent (kind_at _ _ c.in_ok-k.i y.index)) ∙ t));
        new_key = ap (λ (z : Bool). first_failed (hours_questions (hours_of c.args.hours) (not z))) t;
      }

pub returns-in_err-s : goal.returns-in_err-s
returns-in_err-s c =
    refused_size _ _ _ c.in_err-s.ensures.value c.in_err-s.ensures.ok_part (rw c.in_err-s.ensures.ok_part at c.as_mut_array.ensures.cases) c.from_residual.ensures.1

pub returns-in_err-k : goal.returns-in_err-k
returns-in_err-k c =
    let w = rw c.in_ok-s.ensures.ok_part at c.as_mut_array.ensures.cases in
    rw (← w.same)
    (refused_exit _ _ _ c.from_residual-in_err-k.ensures.1 (refused_start _ _ (call c.args.value c.args.status c.args.time c.args.hours) refl _ c.of.ensures.passes c.in_err-k.ensures))

pub nodes-requires : goal.nodes-requires
nodes-requires c = c.is_quiet.ensures _ _ (formed_in _ _ c.bucket-bucket.ensures (at_bucket (goal.at.nodes-requires c).In_ok-k).at.ready) c.if-is_quiet.true

pub returns-then-is_some : goal.returns-then-is_some
returns-then-is_some c =
    let y = at_bucket (goal.at.returns-then-is_some c).In_ok-k in
    let q = c.is_quiet.ensures _ _ (formed_in _ _ c.bucket-bucket.ensures y.at.ready) c.if-is_quiet.true in
    let known = known_here y.at c.bucket-bucket.ensures q c.nodes.ensures _ c.position.ensures ∙ sym c.is_some.ensures in
    rw (← y.same) (refused_kind _ _ _ y.at.passed y.read (not-true _ (known ∙ c.if-is_some.true)))

pub returns-in_err-asked : goal.returns-in_err-asked
returns-in_err-asked c =
    let h : Bytes c.args.s.now = λ j. (c.slice_known-1.given j).fits in
    let y = at_bucket (goal.at.returns-in_err-asked c).In_ok-k in
    let s = c.in_ok-s.s.now in
    let q = c.is_quiet.ensures _ _ (formed_in _ _ c.bucket-bucket.ensures y.at.ready) c.if-is_quiet.true in
    let known = known_here y.at c.bucket-bucket.ensures q c.nodes.ensures _ c.position.ensures ∙ sym c.is_some.ensures ∙ c.if-is_some.false in
    let p = none_recorded (call c.args.value c.args.status c.args.time c.args.hours) c.args.key.now (table_of s) c.in_ok-k.i ((table_of s).buckets c.in_ok-k.i) (none_here _ _ c.bucket-bucket.ensures q.pending) in
    rw (← y.same)
    (refused_exit _ _ _ c.from_residual-in_err-asked.ensures.1
    (unrecorded_refused _ _ _ y.at y.read (not-false _ known) (rw (← y.same) at h) (sym p)
    (c.in_err-asked.ensures ∙ sym (ap (λ (x : Bool). first_failed (hours_questions (hours_of c.args.hours) x)) known))))

pub invariant_of-now : goal.invariant_of-now
invariant_of-now c =
    let t = timely _ _ _ c.args.time (at_bucket (goal.at.invariant_of-now c).In_ok-k).at.passed in
    record { deadline = omega (arith, t, ap (λ (u : rules.BucketSettings). u.pending_timeout) c.settings-settings.ensures.settings) }

pub insert_new-requires-clause-quiet : goal.insert_new-requires-clause-quiet
insert_new-requires-clause-quiet c =
    let y = at_bucket (goal.at.insert_new-requires-clause-quiet c).In_ok-k in
    subst Quiet (ranged_is _ _ c.bucket-bucket.ensures c.bucket_range.ensures) (c.is_quiet.ensures _ _ (formed_in _ _ c.bucket-bucket.ensures y.at.ready) c.if-is_quiet.true)

pub insert_new-requires-clause-absent : goal.insert_new-requires-clause-absent
insert_new-requires-clause-absent c =
    rw c.with_key-node.ensures (absent_there _ _ c.bucket-bucket.ensures c.bucket_range.ensures c.nodes.ensures _ _ c.position.ensures (sym c.is_some.ensures ∙ c.if-is_some.false))

-- in place
pub returns-then-is_quiet : goal.returns-then-is_quiet
returns-then-is_quiet c =
    let h : Bytes c.args.s.now = λ j. (c.slice_known-1.given j).fits in
    let y = at_bucket (goal.at.returns-then-is_quiet c).In_ok-k in
    let q = c.is_quiet.ensures _ _ (formed_in _ _ c.bucket-bucket.ensures y.at.ready) c.if-is_quiet.true in
    let known = known_here y.at c.bucket-bucket.ensures q c.nodes.ensures _ c.position.ensures ∙ sym c.is_some.ensures ∙ c.if-is_some.false in
    let hours = c.in_ok-asked.ensures ∙ sym (ap (λ (x : Bool). first_failed (hours_questions (hours_of c.args.hours) x)) known) in
    let F = step c.args.value c.args.status c.args.time in
    let x = rw (c.with_key-node.ensures, y.given.0, y.given.1) at c.insert_new.ensures in
    rw (← y.same)
    (in_place _ _ (call c.args.value c.args.status c.args.time c.args.hours) y.at y.read (hours_suit _ _ (call c.args.value c.args.status c.args.time c.args.hours) y.at y.read (not-false _ known) hours)
    (rw (← y.same) at h) (none_here _ _ c.bucket-bucket.ensures q.pending) F
    (did y.at F c.settings-settings.ensures.settings c.bucket_range.ensures x.answers x.leaves c.insert_new.auto.bucket) Answer.Insert refl refl)

pub returns-in_default : goal.returns-in_default
returns-in_default c =
    let y = at_bucket (goal.at.returns-in_default c).In_ok-k in
    rw (← y.same)
    (refused_kind _ _ _ y.at.passed y.read (ap is_absent (kind_told y.at c.load_bucket-stored.ensures c.kind_of.ensures.result_value) ∙ not_absent c.kind_of.result c.in_default.not-Absent))

pub returns-in_err-asked-2 : goal.returns-in_err-asked-2
returns-in_err-asked-2 c =
    let h : Bytes c.args.s.now = λ j. (c.slice_known-1.given j).fits in
    let y = at_bucket (goal.at.returns-in_err-asked-2 c).In_ok-k in
    let t = absent_is (goal.at.returns-in_err-asked-2 c).In-Absent in
    rw (← y.same)
    (refused_exit _ _ _ c.from_residual-in_err-asked-2.ensures.1 (unrecorded_refused _ _ _ y.at y.read t.absent (rw (← y.same) at h) t.none_ended (c.in_err-asked-2.ensures ∙ sym t.new_key)))

pub insert-step-requires : goal.insert-step-requires
insert-step-requires c =
    let y = at_bucket (goal.at.insert-step-requires c).In_ok-k in
    timely_there _ c.args.time c.load_bucket-stored.ensures (timely _ _ _ c.args.time y.at.passed)

pub returns-in_err-finish : goal.returns-in_err-finish
returns-in_err-finish c =
    let y = at_bucket (goal.at.returns-in_err-finish c).In_ok-k in
    let t = absent_is (goal.at.returns-in_err-finish c).In-Absent in
    let g = hours_suit _ _ (call c.args.value c.args.status c.args.time c.args.hours) y.at y.read t.absent (c.in_ok-asked-2.ensures ∙ sym t.new_key) in
    rw (← y.same) (refused_exit _ _ _ c.from_residual-in_err-finish.ensures.1 (ends_full _ _ _ y.at y.read g c.in_err-finish.ensures t.none_ended))

pub returns : goal.returns
returns c =
    let y = at_bucket (goal.at.returns c).In_ok-k in
    let t = absent_is (goal.at.returns c).In-Absent in
    let g = hours_suit _ _ (call c.args.value c.args.status c.args.time c.args.hours) y.at y.read t.absent (c.in_ok-asked-2.ensures ∙ sym t.new_key) in
    let x = rw (c.with_key-node.ensures, y.given.0, y.given.1) at c.insert-step.ensures in
    let z = stepped c.load_bucket-stored.ensures (step c.args.value c.args.status c.args.time) y.at.key_is x.result_value x.becomes in
    rw (← y.same) (ends _ _ _ y.at y.read g c.in_ok-finish.ensures t.none_ended (ap Answer.Insert z.answer) z.bucket)
