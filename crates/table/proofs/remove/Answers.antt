use Rattle.std.proofs.Common.{ℕ, Bool, refl, ap, subst}
use Rattle.model.specs.Bytes.{Bytes}
use Rattle.model.specs.Bucket as rules
use Rattle.model.specs.Table.{Answer}
use Rattle.model.specs.Call.{KeyCall}
use Rattle.model.specs.Layout.{table_of}
use Rattle.on_key.proofs.OneKey.{refused_early, answers_self}
use Rattle.on_key.proofs.Steps.{stepped}
use Rattle.on_key.proofs.Ended.{Here, here, refused_exit, refused_size, ends_full, ends}
use Rattle.on_key.proofs.Endings.{no_own}
use Rattle.on_key.proofs.InPlace.{ranged_is, formed_in, none_here, did, in_place_at}
use Rattle.held.specs.Held.{Quiet}
use Rattle.table.proofs.remove.Goals as goal
use Rattle.table.proofs.remove.Goals.{In-Some}

abbrev step : ℕ → rules.BucketSettings → ℕ → rules.Bucket → Bool × rules.Bucket
step time u n b = rules.remove u time n b

-- the key's bucket
at_bucket : (c : In-Some) → Here (λ _. Unit {0}) c.in_ok-s.s.now c.args.s.now c.args.key.now (KeyCall.remove c.args.time) c.in-Some.k c.in-Some.i c.in-Some.field-0-2
at_bucket c = let w = rw c.in_ok-s.ensures.ok_part at c.as_mut_array.ensures.cases in here _ _ w.same refl tt (rw c.in-Some.is at c.in_ok-k.ensures) refl

pub returns-in_err-s : goal.returns-in_err-s
returns-in_err-s c =
    refused_size _ _ _ c.in_err-s.ensures.value c.in_err-s.ensures.ok_part (rw c.in_err-s.ensures.ok_part at c.as_mut_array.ensures.cases) c.from_residual.ensures.1

pub returns-in_err-k : goal.returns-in_err-k
returns-in_err-k c =
    let w = rw c.in_ok-s.ensures.ok_part at c.as_mut_array.ensures.cases in
    rw (← w.same) (refused_exit _ _ _ c.from_residual-in_err-k.ensures.1 (refused_early _ _ (KeyCall.remove c.args.time) _ c.in_err-k.ensures))

pub returns-in_default : goal.returns-in_default
returns-in_default c =
    let w = rw c.in_ok-s.ensures.ok_part at c.as_mut_array.ensures.cases in
    let h : Bytes c.args.s.now = λ j. (c.slice_known-1.given j).fits in
    let y = rw c.in_default.is at c.in_ok-k.ensures in
    rw (← w.same) (answers_self _ _ (KeyCall.remove c.args.time) y.0 refl (rw (← w.same) at h) y.1)

pub remove-requires : goal.remove-requires
remove-requires c =
    let y = at_bucket (goal.at.remove-requires c).In-Some in
    subst Quiet (ranged_is _ _ c.bucket.ensures c.bucket_range.ensures) (c.is_quiet.ensures _ _ (formed_in _ _ c.bucket.ensures y.at.ready) c.if-is_quiet.true)

-- in place
pub returns-then-is_quiet : goal.returns-then-is_quiet
returns-then-is_quiet c =
    let h : Bytes c.args.s.now = λ j. (c.slice_known-1.given j).fits in
    let y = at_bucket (goal.at.returns-then-is_quiet c).In-Some in
    let q = c.is_quiet.ensures _ _ (formed_in _ _ c.bucket.ensures y.at.ready) c.if-is_quiet.true in
    let x = c.remove.ensures (table_of c.in_ok-s.s.now).settings.bucket c.args.time in
    rw (← y.same)
    (in_place_at _ _ (KeyCall.remove c.args.time) y.at y.read refl (rw (← y.same) at h) (none_here _ _ c.bucket.ensures q.pending) (step c.args.time)
    (did y.at (step c.args.time) refl c.bucket_range.ensures x.answers x.leaves c.remove.auto.bucket) Answer.Remove c.args.time refl refl)

pub returns-in_err-finish : goal.returns-in_err-finish
returns-in_err-finish c =
    let y = at_bucket (goal.at.returns-in_err-finish c).In-Some in
    rw (← y.same)
    (refused_exit _ _ _ c.from_residual-in_err-finish.ensures.1 (ends_full _ _ (KeyCall.remove c.args.time) y.at y.read refl c.in_err-finish.ensures (no_own c.apply_at-applied.ensures.records)))

pub returns : goal.returns
returns c =
    let y = at_bucket (goal.at.returns c).In-Some in
    let z = stepped c.apply_at-applied.ensures.bucket (step c.args.time) y.at.key_is c.remove-step.ensures.result_value c.remove-step.ensures.becomes in
    rw (← y.same)
    (ends _ _ (KeyCall.remove c.args.time) y.at y.read refl c.in_ok-finish.ensures (no_own c.apply_at-applied.ensures.records) (ap Answer.Remove z.answer) z.bucket)
