use Rattle.std.proofs.Common.{ℕ, true, ◌≡◌, refl, ap, ◌∙◌, subst}
use Rattle.std.specs.Prelude.{None}
use Rattle.std.specs.Option.{is_some}
use Rattle.model.specs.Bytes.{Bytes}
use Rattle.model.specs.Bucket as rules
use Rattle.model.specs.Table.{Answer}
use Rattle.model.specs.Result.{UpdateResult}
use Rattle.model.specs.Call.{KeyCall, is_one, optional}
use Rattle.model.specs.Layout.{table_of}
use Rattle.model.specs.Question.{is_present, kind_of_key}
use Rattle.key.specs.Key.{num}
use Rattle.node.specs.declared.StatusUpdate.{StatusUpdate}
use Rattle.node.specs.Status.{optional_of}
use Rattle.bucket.specs.Calls.{update_result_of}
use Rattle.on_key.specs.Answers.{recorded}
use Rattle.on_key.proofs.OneKey.{refused_kind}
use Rattle.on_key.proofs.Steps.{started, stepped}
use Rattle.on_key.proofs.Ended.{Here, here, Told, refused_exit, refused_size, ends_full, ends}
use Rattle.on_key.proofs.Endings.{stored_status_records}
use Rattle.on_key.proofs.InPlace.{ranged_is, formed_in, none_here, did, in_place}
use Rattle.held.specs.Held.{Quiet}
use Rattle.entry.specs.declared.EntryKind as code
use Rattle.entry.specs.Kind as kind
use Rattle.entry.proofs.Start.{refused_start}
use Rattle.entry.proofs.Kind.{kind_told, not_present}
use Rattle.entry.proofs.InPlace.{position_there, present_here}
use Rattle.entry.proofs.present_update.Goals as goal
use Rattle.entry.proofs.present_update.Goals.{In_ok-k, After-update_status-step}

abbrev call : ℕ → ℕ → KeyCall
call state direction = KeyCall.present_update state direction

abbrev step : ℕ → ℕ → rules.BucketSettings → ℕ → rules.Bucket → UpdateResult × rules.Bucket
step state direction u n b = rules.update_status u n (is_one state) (optional direction) b

-- what is known of the status to be set
abbrev IsGiven : ℕ → ℕ → StatusUpdate → Type 0
IsGiven state direction u = (u.state ≡ state) × (optional_of u.direction ≡ optional direction)

-- the key's bucket
at_bucket : (c : In_ok-k) → Here (IsGiven c.args.state c.args.direction) c.in_ok-s.s.now c.args.s.now c.args.key.now (call c.args.state c.args.direction) c.in_ok-k.k c.in_ok-k.i c.in_ok-k.status
at_bucket c = let w = rw c.in_ok-s.ensures.ok_part at c.as_mut_array.ensures.cases in here _ _ w.same c.of.ensures.passes c.of.ensures.value c.in_ok-k.ensures refl

-- what was done to it by value, where the key is present
module _ (c : After-update_status-step) where
  record Done : Type 0 where
    present : is_present (kind_of_key c.args.key.now (table_of c.in_ok-s.s.now)) ≡ true
    told : Told c.in_ok-s.s.now c.args.key.now (call c.args.state c.args.direction) c.in_ok-k.i
        (Answer.Update (update_result_of c.update_status-step.result.result)) c.update_status-step.result.bucket.bucket
        (recorded None c.load_bucket-stored.result.bucket.pending c.update_status-step.result.bucket.bucket.pending (num c.in_ok-k.k))

  done : Done
  done =
      let y = started _ c.of.ensures.passes c.of.ensures.value c.in_ok-k.ensures in
      let x = c.load_bucket-stored.ensures in
      let u = rw (y.1.0, y.1.1) at c.update_status-step.ensures in
      let z = stepped x (step c.args.state c.args.direction) y.0.key_is u.result_value u.becomes in
      record {
        present = ap is_present (kind_told y.0 x c.kind_of.ensures.result_value) ∙ ap (λ (x : code.EntryKind). is_present (kind.kind_of x)) c.in-Present.is;
        told =
            record {
              answer = ap Answer.Update z.answer;
              bucket = z.bucket;
              records = stored_status_records _ _ _ c.update_status-step.result.bucket.bucket x y.0.key_is refl (is_one c.args.state) (optional c.args.direction) z.bucket;
            };
      }

pub returns-in_err-s : goal.returns-in_err-s
returns-in_err-s c =
    refused_size _ _ _ c.in_err-s.ensures.value c.in_err-s.ensures.ok_part (rw c.in_err-s.ensures.ok_part at c.as_mut_array.ensures.cases) c.from_residual.ensures.1

pub returns-in_err-k : goal.returns-in_err-k
returns-in_err-k c =
    let w = rw c.in_ok-s.ensures.ok_part at c.as_mut_array.ensures.cases in
    rw (← w.same) (refused_exit _ _ _ c.from_residual-in_err-k.ensures.1 (refused_start _ _ (call c.args.state c.args.direction) refl _ c.of.ensures.passes c.in_err-k.ensures))

pub nodes-requires : goal.nodes-requires
nodes-requires c = c.is_quiet.ensures _ _ (formed_in _ _ c.bucket-bucket.ensures (at_bucket (goal.at.nodes-requires c).In_ok-k).at.ready) c.if-is_quiet.true

pub returns-in_default : goal.returns-in_default
returns-in_default c =
    let y = at_bucket (goal.at.returns-in_default c).In_ok-k in
    let q = c.is_quiet.ensures _ _ (formed_in _ _ c.bucket-bucket.ensures y.at.ready) c.if-is_quiet.true in
    rw (← y.same) (refused_kind _ _ _ y.at.passed y.read (present_here y.at c.bucket-bucket.ensures q c.nodes.ensures _ c.position.ensures ∙ ap is_some c.in_default.is))

pub update_status_at-requires-clause-quiet : goal.update_status_at-requires-clause-quiet
update_status_at-requires-clause-quiet c =
    let y = at_bucket (goal.at.update_status_at-requires-clause-quiet c).In_ok-k in
    subst Quiet (ranged_is _ _ c.bucket-bucket.ensures c.bucket_range.ensures) (c.is_quiet.ensures _ _ (formed_in _ _ c.bucket-bucket.ensures y.at.ready) c.if-is_quiet.true)

pub update_status_at-requires-clause-held : goal.update_status_at-requires-clause-held
update_status_at-requires-clause-held c = (rw c.in-Some.is at (position_there _ _ c.bucket-bucket.ensures c.bucket_range.ensures c.nodes.ensures _ _ c.position.ensures)).1

-- in place
pub returns-then-is_quiet : goal.returns-then-is_quiet
returns-then-is_quiet c =
    let h : Bytes c.args.s.now = λ j. (c.slice_known-1.given j).fits in
    let y = at_bucket (goal.at.returns-then-is_quiet c).In_ok-k in
    let q = c.is_quiet.ensures _ _ (formed_in _ _ c.bucket-bucket.ensures y.at.ready) c.if-is_quiet.true in
    let F = step c.args.state c.args.direction in
    let f = rw c.in-Some.is at (position_there _ _ c.bucket-bucket.ensures c.bucket_range.ensures c.nodes.ensures (num c.in_ok-k.k) _ c.position.ensures) in
    let x = rw (y.given.0, y.given.1) at (c.update_status_at.ensures (num c.in_ok-k.k) f.0) in
    rw (← y.same)
    (in_place _ _ (call c.args.state c.args.direction) y.at y.read (present_here y.at c.bucket-bucket.ensures q c.nodes.ensures _ c.position.ensures ∙ ap is_some c.in-Some.is)
    (rw (← y.same) at h) (none_here _ _ c.bucket-bucket.ensures q.pending) F
    (did y.at F c.settings-settings.ensures.settings c.bucket_range.ensures x.answers x.leaves c.update_status_at.auto.bucket) Answer.Update refl refl)

pub returns-in_default-kind_of : goal.returns-in_default-kind_of
returns-in_default-kind_of c =
    let y = at_bucket (goal.at.returns-in_default-kind_of c).In_ok-k in
    rw (← y.same)
    (refused_kind _ _ _ y.at.passed y.read
    (ap is_present (kind_told y.at c.load_bucket-stored.ensures c.kind_of.ensures.result_value) ∙ not_present c.kind_of.result c.in_default-kind_of.not-Present))

pub returns-in_err-end : goal.returns-in_err-end
returns-in_err-end c =
    let y = at_bucket (goal.at.returns-in_err-end c).In_ok-k in
    let d = done (goal.at.returns-in_err-end c).After-update_status-step in
    rw (← y.same) (refused_exit _ _ _ c.from_residual-in_err-end.ensures.1 (ends_full _ _ _ y.at y.read d.present c.in_err-end.ensures d.told.records))

pub returns : goal.returns
returns c =
    let y = at_bucket (goal.at.returns c).In_ok-k in
    let d = done (goal.at.returns c).After-update_status-step in
    rw (← y.same) (ends _ _ _ y.at y.read d.present c.in_ok-end.ensures d.told.records d.told.answer d.told.bucket)
