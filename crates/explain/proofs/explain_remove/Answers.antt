use Rattle.std.proofs.Common.{ℕ, refl, ap, inl}
use Rattle.model.specs.Bucket as rules
use Rattle.model.specs.Explain as model
use Rattle.model.specs.Explain.{remove_reason}
use Rattle.on_key.proofs.Questions.{passed_five}
use Rattle.on_key.proofs.Steps.{stepped}
use Rattle.on_key.proofs.Endings.{no_own}
use Rattle.explain.proofs.Ends.{refused_size, refused_opening, ends_local, ends_at, reason_told}
use Rattle.explain.proofs.explain_remove.Goals as goal

pub returns-in_err-s : goal.returns-in_err-s
returns-in_err-s c =
    let e = c.in_err-s.ensures in
    refused_size _ _ _ _ c.from_residual.result e.value e.ok_part (rw e.ok_part at c.as_array.ensures.cases) c.from_residual.ensures.1

pub returns-in_err-k : goal.returns-in_err-k
returns-in_err-k c =
    let same = rw c.in_ok-s.ensures.ok_part at c.as_array.ensures.cases in
    rw (← same.same) (refused_opening _ _ _ _ _ _ c.from_residual-in_err-k.ensures.1 c.in_err-k.ensures)

pub ended-requires-clause-header : goal.ended-requires-clause-header
ended-requires-clause-header c =
    let y = rw c.in_default.is at c.in_ok-k.ensures in
    (passed_five _ _ _ _ y.1.0).header

pub returns-in_default : goal.returns-in_default
returns-in_default c =
    let y = rw c.in_default.is at c.in_ok-k.ensures in
    let same = rw c.in_ok-s.ensures.ok_part at c.as_array.ensures.cases in
    rw (← same.same) (ends_local _ _ _ _ y refl refl c.ended.ensures)

pub returns : goal.returns
returns c =
    let same = rw c.in_ok-s.ensures.ok_part at c.as_array.ensures.cases in
    let y = rw c.in-Some.is at c.in_ok-k.ensures in
    let x = c.apply_at-applied.ensures in
    let z = stepped x.bucket (λ (u : rules.BucketSettings) (n : ℕ) (b : rules.Bucket). rules.remove u c.args.time n b) y.1.0.key_is c.remove-step.ensures.result_value c.remove-step.ensures.becomes in
    rw (← same.same)
    (ends_at _ _ _ _ (y.0, y.1.0) (inl refl) refl refl (no_own x.records) (ap model.Told.Removed z.answer)
    (reason_told _ x.bucket (λ (u : rules.BucketSettings) (n : ℕ) (b : rules.Bucket). remove_reason n b) y.1.0.key_is c.remove_reason-why.ensures) c.ended-2.ensures)
