use Rattle.std.proofs.Common.{◌≡◌, refl, ap, ◌∙◌}
use Rattle.model.specs.Bucket as rules
use Rattle.model.specs.Call.{KeyCall, is_one}
use Rattle.model.specs.Question.{is_pending}
use Rattle.node.specs.declared.NodeStatus.{NodeStatus}
use Rattle.node.specs.declared.StatusInRange.{StatusInRange}
use Rattle.bucket.proofs.Steps.{then_becomes}
use Rattle.on_key.proofs.OneKey.{refused_kind}
use Rattle.on_key.proofs.Ended.{Here, here, refused_exit, refused_size, ends_full, ends}
use Rattle.entry.specs.declared.EntryKind as code
use Rattle.entry.specs.Kind as kind
use Rattle.entry.proofs.Start.{refused_start}
use Rattle.entry.proofs.Kind.{kind_told, not_pending}
use Rattle.entry.proofs.pending_update.Goals as goal
use Rattle.entry.proofs.pending_update.Goals.{In_ok-k}

abbrev call : NodeStatus → KeyCall
call st = KeyCall.pending_update st.state st.direction

-- the key's bucket
at_bucket : (c : In_ok-k) → Here (λ (u : StatusInRange). u.status ≡ c.args.status) c.in_ok-s.s.now c.args.s.now c.args.key.now (call c.args.status) c.in_ok-k.k c.in_ok-k.i c.in_ok-k.status
at_bucket c = let w = rw c.in_ok-s.ensures.ok_part at c.as_mut_array.ensures.cases in here _ _ w.same c.of.ensures.passes c.of.ensures.value c.in_ok-k.ensures refl

pub returns-in_err-s : goal.returns-in_err-s
returns-in_err-s c =
    refused_size _ _ _ c.in_err-s.ensures.value c.in_err-s.ensures.ok_part (rw c.in_err-s.ensures.ok_part at c.as_mut_array.ensures.cases) c.from_residual.ensures.1

pub returns-in_err-k : goal.returns-in_err-k
returns-in_err-k c =
    let w = rw c.in_ok-s.ensures.ok_part at c.as_mut_array.ensures.cases in
    rw (← w.same) (refused_exit _ _ _ c.from_residual-in_err-k.ensures.1 (refused_start _ _ (call c.args.status) refl _ c.of.ensures.passes c.in_err-k.ensures))

pub returns-in_default : goal.returns-in_default
returns-in_default c =
    let y = at_bucket (goal.at.returns-in_default c).In_ok-k in
    rw (← y.same)
    (refused_kind _ _ _ y.at.passed y.read (ap is_pending (kind_told y.at c.load_bucket-stored.ensures c.kind_of.ensures.result_value) ∙ not_pending c.kind_of.result c.in_default.not-Pending))

pub returns-in_err-finish : goal.returns-in_err-finish
returns-in_err-finish c =
    let y = at_bucket (goal.at.returns-in_err-finish c).In_ok-k in
    let t = ap is_pending (kind_told y.at c.load_bucket-stored.ensures c.kind_of.ensures.result_value) ∙ ap (λ (x : code.EntryKind). is_pending (kind.kind_of x)) c.in-Pending.is in
    rw (← y.same) (refused_exit _ _ _ c.from_residual-in_err-finish.ensures.1 (ends_full _ _ _ y.at y.read t c.in_err-finish.ensures refl))

pub returns : goal.returns
returns c =
    let y = at_bucket (goal.at.returns c).In_ok-k in
    let t = ap is_pending (kind_told y.at c.load_bucket-stored.ensures c.kind_of.ensures.result_value) ∙ ap (λ (x : code.EntryKind). is_pending (kind.kind_of x)) c.in-Pending.is in
    let F = λ (u : rules.BucketSettings) (x : rules.Bucket). rules.update_pending (is_one c.args.status.state) (is_one c.args.status.direction) x in
    let z = then_becomes c.load_bucket-stored.ensures F (rw y.given at c.update_pending.ensures) in
    rw (← y.same) (ends _ _ _ y.at y.read t c.in_ok-finish.ensures refl refl z.bucket)
