use Rattle.std.proofs.Common.{ℕ, Bool, not, sym, refl, ap, ◌∙◌, inl}
use Rattle.model.specs.Bytes.{number}
use Rattle.model.specs.Bucket as rules
use Rattle.model.specs.Layout.{table_of}
use Rattle.model.specs.Call.{is_one, value_of}
use Rattle.model.specs.Session.{hours_questions}
use Rattle.model.specs.Question.{first_failed, is_absent}
use Rattle.model.specs.Explain.{told_insert, insert_reason}
use Rattle.node.specs.Node.{argument_of}
use Rattle.on_key.proofs.Steps.{timely, timely_there, stepped}
use Rattle.on_key.proofs.Endings.{absent_ends_none}
use Rattle.session.specs.Hours.{hours_of}
use Rattle.entry.specs.declared.EntryKind as code
use Rattle.entry.specs.Kind as kind
use Rattle.entry.proofs.Kind.{kind_at, kind_told, not_absent}
use Rattle.explain.proofs.Ends.{opened, refused_size, refused_entry, refused_kind, ends_at, reason_told, node_with}
use Rattle.explain.proofs.explain_absent_insert.Goals as goal

pub returns-in_err-s : goal.returns-in_err-s
returns-in_err-s c =
    let e = c.in_err-s.ensures in
    refused_size _ _ _ _ c.from_residual.result e.value e.ok_part (rw e.ok_part at c.as_array.ensures.cases) c.from_residual.ensures.1

pub returns-in_err-k : goal.returns-in_err-k
returns-in_err-k c =
    let same = rw c.in_ok-s.ensures.ok_part at c.as_array.ensures.cases in
    rw (← same.same) (refused_entry _ _ _ _ _ _ c.of-fields.ensures.passes c.from_residual-in_err-k.ensures.1 c.in_err-k.ensures refl)

pub returns-in_default : goal.returns-in_default
returns-in_default c =
    let y = (opened _ c.of-fields.ensures.passes c.of-fields.ensures.value c.in_ok-k.ensures).0 in
    let same = rw c.in_ok-s.ensures.ok_part at c.as_array.ensures.cases in
    rw (← same.same)
    (refused_kind _ _ _ _ y refl (ap is_absent (kind_told y.1 c.load_bucket-stored.ensures c.kind_of.ensures.result_value) ∙ not_absent c.kind_of.result c.in_default.not-Absent))

pub insert-step-requires : goal.insert-step-requires
insert-step-requires c =
    timely_there c.in_ok-s.s.now c.args.time c.load_bucket-stored.ensures (timely c.in_ok-s.s.now c.args.key.now _ c.args.time c.in_ok-k.ensures.1.0.passed)

pub returns : goal.returns
returns c =
    let a = c.args in
    let opening = opened _ c.of-fields.ensures.passes c.of-fields.ensures.value c.in_ok-k.ensures in
    let y = opening.0 in
    let x = c.load_bucket-stored.ensures in
    let made = rw (opening.1.0, opening.1.1) at c.with_key-node.ensures in
    let step = rw made at c.insert-step.ensures in
    let v = value_of (argument_of a.value) in
    let node = λ (n : ℕ). node_with n v (is_one a.status.state) (is_one a.status.direction) in
    let t = table_of c.in_ok-s.s.now in
    let m = t.buckets c.in_ok-k.i in
    let kind = ap is_absent (kind_told y.1 x c.kind_of.ensures.result_value) ∙ ap (λ (q : code.EntryKind). is_absent (kind.kind_of q)) c.in-Absent.is in
    let hours = c.asked-asked.ensures ∙ ap (λ (q : Bool). first_failed (hours_questions (hours_of a.hours) (not q))) (sym kind) in
    let z = stepped x (λ (u : rules.BucketSettings) (n : ℕ) (b : rules.Bucket). rules.insert u a.time (node n) b) y.1.key_is step.result_value step.becomes in
    let same = rw c.in_ok-s.ensures.ok_part at c.as_array.ensures.cases in
    rw (← same.same)
    (ends_at _ _ _ _ y (inl refl) kind hours
    (sym (absent_ends_none (node (number a.key.now)) m (rules.insert t.settings.bucket a.time (node (number a.key.now)) m).0 (sym (ap is_absent (kind_at c.in_ok-s.s.now a.key.now c.in_ok-k.i y.1.index)) ∙ kind)))
    (c.from.ensures ∙ ap told_insert z.answer)
    (reason_told _ x (λ (u : rules.BucketSettings) (n : ℕ) (b : rules.Bucket). insert_reason u (node n) b) y.1.key_is (rw made at c.insert_reason-why.ensures)) c.ended.ensures)
