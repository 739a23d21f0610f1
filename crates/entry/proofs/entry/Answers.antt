use Rattle.std.proofs.Common.{ℕ, refl, ap, ◌∙◌}
use Rattle.model.specs.Bytes.{Bytes}
use Rattle.model.specs.Bucket as rules
use Rattle.model.specs.Table.{Answer, kind_of}
use Rattle.model.specs.Call.{KeyCall}
use Rattle.model.specs.Layout.{table_of}
use Rattle.key.specs.Key.{num}
use Rattle.on_key.proofs.OneKey.{refused_early, answers_self}
use Rattle.on_key.proofs.Ended.{Here, here, refused_exit, refused_size, ends_full, ends}
use Rattle.on_key.proofs.Endings.{no_own}
use Rattle.on_key.proofs.InPlace.{formed_in, none_here, in_place_at}
use Rattle.entry.proofs.InPlace.{told_here}
use Rattle.entry.proofs.entry.Goals as goal
use Rattle.entry.proofs.entry.Goals.{In-Some}

-- the key's bucket
at_bucket : (c : In-Some) → Here (λ _. Unit {0}) c.in_ok-s.s.now c.args.s.now c.args.key.now (KeyCall.entry c.args.time) c.in-Some.k c.in-Some.i c.in-Some.field-0-2
at_bucket c = let w = rw c.in_ok-s.ensures.ok_part at c.as_mut_array.ensures.cases in here _ _ w.same refl tt (rw c.in-Some.is at c.in_ok-k.ensures) refl

pub returns-in_err-s-clause-answers : goal.returns-in_err-s-clause-answers
returns-in_err-s-clause-answers c =
    refused_size _ _ _ c.in_err-s.ensures.value c.in_err-s.ensures.ok_part (rw c.in_err-s.ensures.ok_part at c.as_mut_array.ensures.cases) c.from_residual.ensures.1

pub returns-in_err-k-clause-answers : goal.returns-in_err-k-clause-answers
returns-in_err-k-clause-answers c =
    let w = rw c.in_ok-s.ensures.ok_part at c.as_mut_array.ensures.cases in
    rw (← w.same) (refused_exit _ _ _ c.from_residual-in_err-k.ensures.1 (refused_early _ _ (KeyCall.entry c.args.time) _ c.in_err-k.ensures))

pub returns-in_default-clause-answers : goal.returns-in_default-clause-answers
returns-in_default-clause-answers c =
    let w = rw c.in_ok-s.ensures.ok_part at c.as_mut_array.ensures.cases in
    let h : Bytes c.args.s.now = λ j. (c.slice_known-1.given j).fits in
    let y = rw c.in_default.is at c.in_ok-k.ensures in
    rw (← w.same) (answers_self _ _ (KeyCall.entry c.args.time) y.0 refl (rw (← w.same) at h) y.1)

pub kind_here-requires : goal.kind_here-requires
kind_here-requires c = c.is_quiet.ensures _ _ (formed_in _ _ c.bucket-bucket.ensures (at_bucket (goal.at.kind_here-requires c).In-Some).at.ready) c.if-is_quiet.true

-- in place: nothing is written
pub returns-then-is_quiet-clause-answers : goal.returns-then-is_quiet-clause-answers
returns-then-is_quiet-clause-answers c =
    let h : Bytes c.args.s.now = λ j. (c.slice_known-1.given j).fits in
    let y = at_bucket (goal.at.returns-then-is_quiet-clause-answers c).In-Some in
    let q = c.is_quiet.ensures _ _ (formed_in _ _ c.bucket-bucket.ensures y.at.ready) c.if-is_quiet.true in
    rw (← y.same)
    (in_place_at _ _ (KeyCall.entry c.args.time) y.at y.read refl (rw (← y.same) at h) (none_here _ _ c.bucket-bucket.ensures q.pending)
    (λ (u : rules.BucketSettings) (k : ℕ) (x : rules.Bucket). (kind_of k x, x)) (told_here y.at c.bucket-bucket.ensures q c.kind_here.ensures.result_value) Answer.Entry c.args.time refl refl)

pub returns-in_err-finish-clause-answers : goal.returns-in_err-finish-clause-answers
returns-in_err-finish-clause-answers c =
    let y = at_bucket (goal.at.returns-in_err-finish-clause-answers c).In-Some in
    rw (← y.same)
    (refused_exit _ _ _ c.from_residual-in_err-finish.ensures.1 (ends_full _ _ (KeyCall.entry c.args.time) y.at y.read refl c.in_err-finish.ensures (no_own c.apply_at-applied.ensures.records)))

pub returns-clause-answers : goal.returns-clause-answers
returns-clause-answers c =
    let y = at_bucket (goal.at.returns-clause-answers c).In-Some in
    let t = table_of c.in_ok-s.s.now in
    let x = c.apply_at-applied.ensures in
    let b = (rules.apply_pending t.settings.bucket c.args.time (t.buckets c.in-Some.i)).0 in
    let z = c.kind_of-found.ensures.result_value ∙ ap (kind_of (num c.in-Some.k)) x.bucket.bucket ∙ ap (λ (k : ℕ). kind_of k b) y.at.key_is in
    rw (← y.same) (ends _ _ (KeyCall.entry c.args.time) y.at y.read refl c.in_ok-finish.ensures (no_own x.records) (ap Answer.Entry z) x.bucket.bucket)
