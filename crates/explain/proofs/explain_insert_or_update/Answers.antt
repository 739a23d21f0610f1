use Rattle.std.proofs.Common.{ℕ, ◌≡◌, Bool, not, cond, sym, refl, ap, ◌∙◌, inr}
use Rattle.model.specs.Bytes.{number}
use Rattle.model.specs.Bucket as rules
use Rattle.model.specs.Table.{EntryKind, fails_table_filter, insert_or_update_in, kind_of}
use Rattle.model.specs.Layout.{table_of}
use Rattle.model.specs.Call.{is_one, value_of}
use Rattle.model.specs.Session.{hours_questions}
use Rattle.model.specs.Question.{first_failed, is_absent}
use Rattle.model.specs.Explain.{told, table_filter_reason, insert_or_update_reason}
use Rattle.node.specs.declared.Node.{Node}
use Rattle.node.specs.Node.{argument_of, node_of}
use Rattle.table_filter.proofs.Asked.{failed_formed}
use Rattle.on_key.proofs.Questions.{passed_five}
use Rattle.on_key.proofs.Steps.{timely, timely_there, stepped}
use Rattle.on_key.proofs.Endings.{insert_or_update_records}
use Rattle.session.specs.Hours.{hours_of}
use Rattle.entry.proofs.Kind.{kind_self, kind_at}
use Rattle.explanation.specs.Explanation.{reason_of}
use Rattle.explain.proofs.Ends.{opened_self, opened, refused_exit, refused_size, refused_opening, refused_read, ends_local, ends_at, reason_told, node_with}
use Rattle.explain.proofs.explain_insert_or_update.Goals as goal
use Rattle.explain.proofs.explain_insert_or_update.Goals.{then-fails, else-fails}

pub returns-in_err-s : goal.returns-in_err-s
returns-in_err-s c =
    let e = c.in_err-s.ensures in
    refused_size _ _ _ _ c.from_residual.result e.value e.ok_part (rw e.ok_part at c.as_array.ensures.cases) c.from_residual.ensures.1

pub returns-in_err-k : goal.returns-in_err-k
returns-in_err-k c =
    let same = rw c.in_ok-s.ensures.ok_part at c.as_array.ensures.cases in
    rw (← same.same) (refused_opening _ _ _ _ _ _ c.from_residual-in_err-k.ensures.1 (rw c.of-fields.ensures.passes at c.in_err-k.ensures))

pub ended-requires-clause-header : goal.ended-requires-clause-header
ended-requires-clause-header c =
    let y = opened_self _ _ _ _ c.of-fields.ensures.passes (rw c.in_default.is at c.in_ok-k.ensures) in
    (passed_five _ _ _ _ y.1.0).header

pub returns-in_default : goal.returns-in_default
returns-in_default c =
    let y = opened_self _ _ _ _ c.of-fields.ensures.passes (rw c.in_default.is at c.in_ok-k.ensures) in
    let hours = c.asked.ensures ∙ ap (λ (k : EntryKind). first_failed (hours_questions (hours_of c.args.hours) (not (is_absent k)))) (sym (kind_self c.in_ok-s.s.now c.args.key.now y.1.1)) in
    let same = rw c.in_ok-s.ensures.ok_part at c.as_array.ensures.cases in
    rw (← same.same) (ends_local _ _ _ _ y refl hours c.ended.ensures)

pub returns-in_err-fails : goal.returns-in_err-fails
returns-in_err-fails c =
    let y = (opened _ c.of-fields.ensures.passes c.of-fields.ensures.value (rw c.in-Some.is at c.in_ok-k.ensures)).0 in
    let w = rw y.1.key_is at c.in_err-fails.ensures in
    let same = rw c.in_ok-s.ensures.ok_part at c.as_array.ensures.cases in
    rw (← same.same) (refused_exit _ _ c.from_residual-in_err-fails.ensures.1 (rw w.1 (refused_read _ _ _ _ y w.0)))

pub insert_or_update_in-step-requires : goal.insert_or_update_in-step-requires
insert_or_update_in-step-requires c =
    let y = rw c.in-Some.is at c.in_ok-k.ensures in
    timely_there c.in_ok-s.s.now c.args.time c.apply_at-applied.ensures.bucket (timely c.in_ok-s.s.now c.args.key.now _ c.args.time y.1.0.passed)

pub invariant_of-why : goal.invariant_of-why
invariant_of-why c =
    let y = rw c.in-Some.is at c.in_ok-k.ensures in
    record { formed = failed_formed c.in_ok-s.s.now c.in-Some.i _ _ c.in_ok-fails.fails c.in_ok-fails.ensures c.if-fails.true y.1.0.ready.header }

pub returns : goal.returns
returns c =
    let a = c.args in
    let s = c.in_ok-s.s.now in
    let same = rw c.in_ok-s.ensures.ok_part at c.as_array.ensures.cases in
    let x = hours_of a.hours in
    let opening = opened _ c.of-fields.ensures.passes c.of-fields.ensures.value (rw c.in-Some.is at c.in_ok-k.ensures) in
    let y = opening.0 in
    let w = rw y.1.key_is at c.in_ok-fails.ensures in
    let p = c.apply_at-applied.ensures in
    let made = rw (opening.1.0, opening.1.1) at c.with_key-node.ensures in
    let step = rw made at c.insert_or_update_in-step.ensures in
    let t = table_of s in
    let i = c.in-Some.i in
    let v = value_of (argument_of a.value) in
    let k = number a.key.now in
    let u = t.settings.bucket in
    let there = (rules.apply_pending u a.time (t.buckets i)).0 in
    let node = λ (n : ℕ). node_with n v (is_one a.status.state) (is_one a.status.direction) in
    let does = λ (fails : Bool) (u : rules.BucketSettings) (n : ℕ) (b : rules.Bucket). insert_or_update_in u fails a.time (node n) b in
    let G = λ (u : rules.BucketSettings) (n : ℕ) (b : rules.Bucket). insert_or_update_reason u (node n) b in
    let why = λ (fails : Bool). cond fails (table_filter_reason k v t.buckets) (G u k there) in
    let z = stepped p.bucket (does c.in_ok-fails.fails) y.1.key_is step.result_value step.becomes in
    let hours = c.asked-asked.ensures ∙ ap (λ (q : EntryKind). first_failed (hours_questions x (not (is_absent q)))) (ap (λ (n : ℕ). kind_of n (t.buckets i)) y.1.key_is ∙ sym (kind_at s a.key.now i y.1.index)) in
    let filtered =
    ap (λ (n : ℕ). table_filter_reason n (node_of c.with_key-node.result.node).value t.buckets) y.1.key_is
    ∙ ap (λ (n : Node). table_filter_reason k (node_of n).value t.buckets) made in
    let told_why : reason_of c.if-fails.why ≡ why c.in_ok-fails.fails =
    elim c.if-fails.branch [
      | then-fails z ↦ rw (z.why-is, z.if-fails.true) filtered
      | else-fails z ↦ rw (z.why-is, z.if-fails.false) (reason_told _ p.bucket G y.1.key_is (rw made at z.insert_or_update_reason-why.ensures))
    ] in
    rw (← same.same)
    (ends_at _ _ _ _ y (inr w.0) refl hours
    (insert_or_update_records _ a.time _ _ c.insert_or_update_in-step.result.bucket.bucket p.bucket p.records y.1.key_is c.record_of-record.ensures (fails_table_filter t i k v) (node k) refl
    (z.bucket ∙ ap (λ (q : Bool). (does q u k there).1) w.1))
    (c.from.ensures ∙ ap told (z.answer ∙ ap (λ (q : Bool). (does q u k there).0) w.1))
    (told_why ∙ ap why w.1) c.ended-2.ensures)
