use Rattle.std.proofs.Common.{ℕ, ◌≡◌, refl, ap, subst}
use Rattle.model.specs.Bytes.{Bytes}
use Rattle.model.specs.Bucket as rules
use Rattle.model.specs.Table.{Answer}
use Rattle.model.specs.Call.{KeyCall, is_one, optional}
use Rattle.model.specs.Result.{UpdateResult}
use Rattle.key.specs.Key.{num}
use Rattle.node.specs.declared.StatusUpdate.{StatusUpdate}
use Rattle.node.specs.Status.{optional_of}
use Rattle.bucket.specs.Calls.{update_result_of}
use Rattle.on_key.specs.Answers.{recorded}
use Rattle.on_key.proofs.OneKey.{refused_early, answers_self}
use Rattle.on_key.proofs.Steps.{started, stepped}
use Rattle.on_key.proofs.Ended.{Here, here, Told, refused_exit, refused_size, ends_full, ends}
use Rattle.on_key.proofs.Endings.{status_records}
use Rattle.on_key.proofs.InPlace.{ranged_is, formed_in, none_here, did, in_place_at}
use Rattle.held.specs.Held.{Quiet}
use Rattle.table.proofs.update_node_status.Goals as goal
use Rattle.table.proofs.update_node_status.Goals.{In-Some, After-update_status-step}

abbrev call : ℕ → ℕ → ℕ → KeyCall
call state direction time = KeyCall.update_node_status state direction time

abbrev step : ℕ → ℕ → rules.BucketSettings → ℕ → rules.Bucket → UpdateResult × rules.Bucket
step state direction u n b = rules.update_status u n (is_one state) (optional direction) b

-- what is known of the status to be set
abbrev IsGiven : ℕ → ℕ → StatusUpdate → Type 0
IsGiven state direction u = (u.state ≡ state) × (optional_of u.direction ≡ optional direction)

-- the key's bucket
at_bucket : (c : In-Some) → Here (IsGiven c.args.state c.args.direction) c.in_ok-s.s.now c.args.s.now c.args.key.now (call c.args.state c.args.direction c.args.time) c.in-Some.k c.in-Some.i c.in-Some.status
at_bucket c =
    let w = rw c.in_ok-s.ensures.ok_part at c.as_mut_array.ensures.cases in
    here _ _ w.same c.of-status.ensures.passes c.of-status.ensures.value (rw c.in-Some.is at c.in_ok-k.ensures) refl

-- what was done to it by value, where a due pending was applied first
module _ (c : After-update_status-step) where
  told : Told c.in_ok-s.s.now c.args.key.now (call c.args.state c.args.direction c.args.time) c.in-Some.i
      (Answer.Update (update_result_of c.update_status-step.result.result)) c.update_status-step.result.bucket.bucket
      (recorded c.apply_at-applied.result.result c.apply_at-applied.result.bucket.bucket.pending c.update_status-step.result.bucket.bucket.pending (num c.in-Some.k))
  told =
      let y = started _ c.of-status.ensures.passes c.of-status.ensures.value (rw c.in-Some.is at c.in_ok-k.ensures) in
      let x = c.apply_at-applied.ensures in
      let u = rw (y.1.0, y.1.1) at c.update_status-step.ensures in
      let z = stepped x.bucket (step c.args.state c.args.direction) y.0.key_is u.result_value u.becomes in
      record {
        answer = ap Answer.Update z.answer;
        bucket = z.bucket;
        records = status_records _ c.args.time _ _ c.update_status-step.result.bucket.bucket x.bucket x.records y.0.key_is refl (is_one c.args.state) (optional c.args.direction) z.bucket;
      }

pub returns-in_err-s : goal.returns-in_err-s
returns-in_err-s c =
    refused_size _ _ _ c.in_err-s.ensures.value c.in_err-s.ensures.ok_part (rw c.in_err-s.ensures.ok_part at c.as_mut_array.ensures.cases) c.from_residual.ensures.1

pub returns-in_err-k : goal.returns-in_err-k
returns-in_err-k c =
    let w = rw c.in_ok-s.ensures.ok_part at c.as_mut_array.ensures.cases in
    rw (← w.same) (refused_exit _ _ _ c.from_residual-in_err-k.ensures.1 (refused_early _ _ _ _ (rw c.of-status.ensures.passes at c.in_err-k.ensures)))

pub returns-in_default : goal.returns-in_default
returns-in_default c =
    let w = rw c.in_ok-s.ensures.ok_part at c.as_mut_array.ensures.cases in
    let h : Bytes c.args.s.now = λ j. (c.slice_known-1.given j).fits in
    let y = rw (c.in_default.is, c.of-status.ensures.passes) at c.in_ok-k.ensures in
    rw (← w.same) (answers_self _ _ (call c.args.state c.args.direction c.args.time) y.0 refl (rw (← w.same) at h) y.1)

pub update_status-requires : goal.update_status-requires
update_status-requires c =
    let y = at_bucket (goal.at.update_status-requires c).In-Some in
    subst Quiet (ranged_is _ _ c.bucket.ensures c.bucket_range.ensures) (c.is_quiet.ensures _ _ (formed_in _ _ c.bucket.ensures y.at.ready) c.if-is_quiet.true)

-- in place
pub returns-then-is_quiet : goal.returns-then-is_quiet
returns-then-is_quiet c =
    let h : Bytes c.args.s.now = λ j. (c.slice_known-1.given j).fits in
    let y = at_bucket (goal.at.returns-then-is_quiet c).In-Some in
    let q = c.is_quiet.ensures _ _ (formed_in _ _ c.bucket.ensures y.at.ready) c.if-is_quiet.true in
    let x = rw (y.given.0, y.given.1) at c.update_status.ensures in
    let F = step c.args.state c.args.direction in
    rw (← y.same)
    (in_place_at _ _ _ y.at y.read refl (rw (← y.same) at h) (none_here _ _ c.bucket.ensures q.pending) F
    (did y.at F c.settings-settings.ensures.settings c.bucket_range.ensures x.answers x.leaves c.update_status.auto.bucket) Answer.Update c.args.time refl refl)

pub returns-in_err-end : goal.returns-in_err-end
returns-in_err-end c =
    let y = at_bucket (goal.at.returns-in_err-end c).In-Some in
    let t = told (goal.at.returns-in_err-end c).After-update_status-step in
    rw (← y.same) (refused_exit _ _ _ c.from_residual-in_err-end.ensures.1 (ends_full _ _ _ y.at y.read refl c.in_err-end.ensures t.records))

pub returns : goal.returns
returns c =
    let y = at_bucket (goal.at.returns c).In-Some in
    let t = told (goal.at.returns c).After-update_status-step in
    rw (← y.same) (ends _ _ _ y.at y.read refl c.in_ok-end.ensures t.records t.answer t.bucket)
