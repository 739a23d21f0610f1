use Rattle.std.proofs.Common.{ℕ, refl, ap, ◌∙◌, inl}
use Rattle.model.specs.Bucket as rules
use Rattle.model.specs.Call.{is_one, optional}
use Rattle.model.specs.Explain.{told_update, status_reason}
use Rattle.node.specs.Status.{optional_of}
use Rattle.on_key.proofs.Questions.{passed_five}
use Rattle.on_key.proofs.Steps.{stepped}
use Rattle.on_key.proofs.Endings.{status_records}
use Rattle.explain.proofs.Ends.{opened_self, opened, refused_size, refused_opening, ends_local, ends_at, reason_told}
use Rattle.explain.proofs.explain_update_node_status.Goals as goal

pub returns-in_err-s : goal.returns-in_err-s
returns-in_err-s c =
    let e = c.in_err-s.ensures in
    refused_size _ _ _ _ c.from_residual.result e.value e.ok_part (rw e.ok_part at c.as_array.ensures.cases) c.from_residual.ensures.1

pub returns-in_err-k : goal.returns-in_err-k
returns-in_err-k c =
    let same = rw c.in_ok-s.ensures.ok_part at c.as_array.ensures.cases in
    rw (← same.same) (refused_opening _ _ _ _ _ _ c.from_residual-in_err-k.ensures.1 (rw c.of-status.ensures.passes at c.in_err-k.ensures))

pub ended-requires-clause-header : goal.ended-requires-clause-header
ended-requires-clause-header c =
    let y = opened_self _ _ _ _ c.of-status.ensures.passes (rw c.in_default.is at c.in_ok-k.ensures) in
    (passed_five _ _ _ _ y.1.0).header

pub returns-in_default : goal.returns-in_default
returns-in_default c =
    let y = opened_self _ _ _ _ c.of-status.ensures.passes (rw c.in_default.is at c.in_ok-k.ensures) in
    let same = rw c.in_ok-s.ensures.ok_part at c.as_array.ensures.cases in
    rw (← same.same) (ends_local _ _ _ _ y refl refl c.ended.ensures)

pub returns : goal.returns
returns c =
    let same = rw c.in_ok-s.ensures.ok_part at c.as_array.ensures.cases in
    let u = is_one c.in-Some.status.state in
    let d = optional_of c.in-Some.status.direction in
    let opening = opened _ c.of-status.ensures.passes c.of-status.ensures.value (rw c.in-Some.is at c.in_ok-k.ensures) in
    let y = opening.0 in
    let x = c.apply_at-applied.ensures in
    let step = c.update_status-step.ensures in
    let does = stepped x.bucket (λ (v : rules.BucketSettings) (n : ℕ) (b : rules.Bucket). rules.update_status v n u d b) y.1.key_is step.result_value step.becomes in
    let why = reason_told _ x.bucket (λ (v : rules.BucketSettings) (n : ℕ) (b : rules.Bucket). status_reason v n u d b) y.1.key_is c.status_reason-why.ensures in
    let z = rw (opening.1.0, opening.1.1) at does in
    rw (← same.same)
    (ends_at _ _ _ _ y (inl refl) refl refl
    (status_records _ c.args.time _ _ c.update_status-step.result.bucket.bucket x.bucket x.records y.1.key_is c.record_of-record.ensures (is_one c.args.state) (optional c.args.direction) z.bucket)
    (c.from.ensures ∙ ap told_update z.answer) (rw (opening.1.0, opening.1.1) at why) c.ended-2.ensures)
