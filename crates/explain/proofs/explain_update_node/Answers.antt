use Rattle.std.proofs.Common.{ℕ, ◌≡◌, Bool, cond, refl, ap, ◌∙◌, inr}
use Rattle.model.specs.Bytes.{number}
use Rattle.model.specs.Bucket as rules
use Rattle.model.specs.Table.{fails_table_filter, update_node_in}
use Rattle.model.specs.Layout.{table_of}
use Rattle.model.specs.Call.{value_of, optional}
use Rattle.model.specs.Explain.{told, table_filter_reason, update_node_reason}
use Rattle.node.specs.Node.{argument_of}
use Rattle.table_filter.proofs.Asked.{failed_formed}
use Rattle.on_key.proofs.Questions.{passed_five}
use Rattle.on_key.proofs.Steps.{stepped}
use Rattle.on_key.proofs.Endings.{update_records}
use Rattle.explanation.specs.Explanation.{reason_of}
use Rattle.explain.proofs.Ends.{opened_self, opened, refused_exit, refused_size, refused_opening, refused_read, ends_local, ends_at, reason_told}
use Rattle.explain.proofs.explain_update_node.Goals as goal
use Rattle.explain.proofs.explain_update_node.Goals.{then-fails, else-fails}

pub returns-in_err-s : goal.returns-in_err-s
returns-in_err-s c =
    let e = c.in_err-s.ensures in
    refused_size _ _ _ _ c.from_residual.result e.value e.ok_part (rw e.ok_part at c.as_array.ensures.cases) c.from_residual.ensures.1

pub returns-in_err-k : goal.returns-in_err-k
returns-in_err-k c =
    let same = rw c.in_ok-s.ensures.ok_part at c.as_array.ensures.cases in
    rw (← same.same) (refused_opening _ _ _ _ _ _ c.from_residual-in_err-k.ensures.1 (rw c.of-update.ensures.passes at c.in_err-k.ensures))

pub ended-requires-clause-header : goal.ended-requires-clause-header
ended-requires-clause-header c =
    let y = opened_self _ _ _ _ c.of-update.ensures.passes (rw c.in_default.is at c.in_ok-k.ensures) in
    (passed_five _ _ _ _ y.1.0).header

pub returns-in_default : goal.returns-in_default
returns-in_default c =
    let y = opened_self _ _ _ _ c.of-update.ensures.passes (rw c.in_default.is at c.in_ok-k.ensures) in
    let same = rw c.in_ok-s.ensures.ok_part at c.as_array.ensures.cases in
    rw (← same.same) (ends_local _ _ _ _ y refl refl c.ended.ensures)

pub returns-in_err-fails : goal.returns-in_err-fails
returns-in_err-fails c =
    let y = (opened _ c.of-update.ensures.passes c.of-update.ensures.value (rw c.in-Some.is at c.in_ok-k.ensures)).0 in
    let w = rw y.1.key_is at c.in_err-fails.ensures in
    let same = rw c.in_ok-s.ensures.ok_part at c.as_array.ensures.cases in
    rw (← same.same) (refused_exit _ _ c.from_residual-in_err-fails.ensures.1 (rw w.1 (refused_read _ _ _ _ y w.0)))

pub invariant_of-why : goal.invariant_of-why
invariant_of-why c =
    let y = rw c.in-Some.is at c.in_ok-k.ensures in
    record { formed = failed_formed c.in_ok-s.s.now c.in-Some.i _ _ c.in_ok-fails.fails c.in_ok-fails.ensures c.if-fails.true y.1.0.ready.header }

pub returns : goal.returns
returns c =
    let a = c.args in
    let s = c.in_ok-s.s.now in
    let same = rw c.in_ok-s.ensures.ok_part at c.as_array.ensures.cases in
    let opening = opened _ c.of-update.ensures.passes c.of-update.ensures.value (rw c.in-Some.is at c.in_ok-k.ensures) in
    let y = opening.0 in
    let w = rw y.1.key_is at c.in_ok-fails.ensures in
    let x = c.apply_at-applied.ensures in
    let step = rw (opening.1.0, opening.1.1) at c.update_node_in-step.ensures in
    let t = table_of s in
    let i = c.in-Some.i in
    let v = value_of (argument_of a.value) in
    let o = optional a.state in
    let k = number a.key.now in
    let u = t.settings.bucket in
    let there = (rules.apply_pending u a.time (t.buckets i)).0 in
    let does = λ (fails : Bool) (u : rules.BucketSettings) (n : ℕ) (b : rules.Bucket). update_node_in u fails a.time n v o b in
    let G = λ (u : rules.BucketSettings) (n : ℕ) (b : rules.Bucket). update_node_reason u n v o b in
    let why = λ (fails : Bool). cond fails (table_filter_reason k v t.buckets) (G u k there) in
    let z = stepped x.bucket (does c.in_ok-fails.fails) y.1.key_is step.result_value step.becomes in
    let told_why : reason_of c.if-fails.why ≡ why c.in_ok-fails.fails =
    elim c.if-fails.branch [
      | then-fails z ↦ rw (z.why-is, z.if-fails.true) (ap (λ (n : ℕ). table_filter_reason n v t.buckets) y.1.key_is)
      | else-fails z ↦ rw (z.why-is, z.if-fails.false) (reason_told _ x.bucket G y.1.key_is (rw (opening.1.0, opening.1.1) at z.update_node_reason-why.ensures))
    ] in
    rw (← same.same)
    (ends_at _ _ _ _ y (inr w.0) refl refl
    (update_records _ a.time _ _ c.update_node_in-step.result.bucket.bucket x.bucket x.records y.1.key_is c.record_of-record.ensures (fails_table_filter t i k v) v o
    (z.bucket ∙ ap (λ (q : Bool). (does q u k there).1) w.1))
    (c.from.ensures ∙ ap told (z.answer ∙ ap (λ (q : Bool). (does q u k there).0) w.1))
    (told_why ∙ ap why w.1) c.ended-2.ensures)
