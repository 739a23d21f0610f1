use Rattle.std.proofs.Common.{ℕ, refl, ap, ◌∙◌, inl}
use Rattle.model.specs.Bucket as rules
use Rattle.model.specs.Call.{is_one, optional}
use Rattle.model.specs.Question.{is_present}
use Rattle.model.specs.Explain.{told_update, status_reason}
use Rattle.node.specs.Status.{optional_of}
use Rattle.on_key.proofs.Steps.{stepped}
use Rattle.on_key.proofs.Endings.{stored_status_records}
use Rattle.entry.specs.declared.EntryKind as code
use Rattle.entry.specs.Kind as kind
use Rattle.entry.proofs.Kind.{kind_told, not_present}
use Rattle.explain.proofs.Ends.{opened, refused_size, refused_entry, refused_kind, ends_at, reason_told}
use Rattle.explain.proofs.explain_present_update.Goals as goal

pub returns-in_err-s : goal.returns-in_err-s
returns-in_err-s c =
    let e = c.in_err-s.ensures in
    refused_size _ _ _ _ c.from_residual.result e.value e.ok_part (rw e.ok_part at c.as_array.ensures.cases) c.from_residual.ensures.1

pub returns-in_err-k : goal.returns-in_err-k
returns-in_err-k c =
    let same = rw c.in_ok-s.ensures.ok_part at c.as_array.ensures.cases in
    rw (← same.same) (refused_entry _ _ _ _ _ _ c.of-status.ensures.passes c.from_residual-in_err-k.ensures.1 c.in_err-k.ensures refl)

pub returns-in_default : goal.returns-in_default
returns-in_default c =
    let y = (opened _ c.of-status.ensures.passes c.of-status.ensures.value c.in_ok-k.ensures).0 in
    let same = rw c.in_ok-s.ensures.ok_part at c.as_array.ensures.cases in
    rw (← same.same)
    (refused_kind _ _ _ _ y refl (ap is_present (kind_told y.1 c.load_bucket-stored.ensures c.kind_of.ensures.result_value) ∙ not_present c.kind_of.result c.in_default.not-Present))

pub returns : goal.returns
returns c =
    let u = is_one c.in_ok-k.status.state in
    let d = optional_of c.in_ok-k.status.direction in
    let opening = opened _ c.of-status.ensures.passes c.of-status.ensures.value c.in_ok-k.ensures in
    let y = opening.0 in
    let x = c.load_bucket-stored.ensures in
    let step = c.update_status-step.ensures in
    let kind = ap is_present (kind_told y.1 x c.kind_of.ensures.result_value) ∙ ap (λ (q : code.EntryKind). is_present (kind.kind_of q)) c.in-Present.is in
    let does = stepped x (λ (v : rules.BucketSettings) (n : ℕ) (b : rules.Bucket). rules.update_status v n u d b) y.1.key_is step.result_value step.becomes in
    let why = reason_told _ x (λ (v : rules.BucketSettings) (n : ℕ) (b : rules.Bucket). status_reason v n u d b) y.1.key_is c.status_reason-why.ensures in
    let z = rw (opening.1.0, opening.1.1) at does in
    let same = rw c.in_ok-s.ensures.ok_part at c.as_array.ensures.cases in
    rw (← same.same)
    (ends_at _ _ _ _ y (inl refl) kind refl
    (stored_status_records _ _ _ c.update_status-step.result.bucket.bucket x y.1.key_is c.record_of-record.ensures (is_one c.args.state) (optional c.args.direction) z.bucket)
    (c.from.ensures ∙ ap told_update z.answer) (rw (opening.1.0, opening.1.1) at why) c.ended.ensures)
