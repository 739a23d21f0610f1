use Rattle.std.proofs.Common.{ℕ, ◌≡◌, refl, subst}
use Rattle.model.specs.Bytes.{Bytes, number}
use Rattle.model.specs.Bucket as rules
use Rattle.model.specs.Table.{Answer, fails_table_filter, update_node_in}
use Rattle.model.specs.Call.{KeyCall, value_of, optional}
use Rattle.model.specs.Layout.{table_of}
use Rattle.key.specs.Key.{num}
use Rattle.node.specs.declared.Value.{Value}
use Rattle.node.specs.declared.NodeUpdate.{NodeUpdate}
use Rattle.node.specs.Node.{argument_of}
use Rattle.node.specs.Status.{optional_of}
use Rattle.bucket.specs.Calls.{update_result_of}
use Rattle.on_key.specs.Answers.{recorded}
use Rattle.on_key.proofs.OneKey.{reads_are, refused_early, refused_read, answers_self}
use Rattle.on_key.proofs.Steps.{started}
use Rattle.on_key.proofs.Ended.{Told, Here, refused_exit, refused_size, ends_full, ends}
use Rattle.on_key.proofs.InPlace.{ranged_is, formed_in, none_here, did, in_place_at}
use Rattle.held.specs.Held.{Quiet}
use Rattle.update.proofs.Told.{updated}
use Rattle.update.proofs.update_node.Goals as goal
use Rattle.update.proofs.update_node.Goals.{In_ok-fails, After-update_node_in-step}

abbrev call : Value → ℕ → ℕ → KeyCall
call v state time = KeyCall.update_node (argument_of v) state time

-- what is known of the update
abbrev IsGiven : Value → ℕ → NodeUpdate → Type 0
IsGiven v state u = (u.value.value ≡ v) × (optional_of u.state ≡ optional state)

-- the key's bucket, once the table filter was asked
asked : (c : In_ok-fails) → Here (IsGiven c.args.value c.args.state) c.in_ok-s.s.now c.args.s.now c.args.key.now (call c.args.value c.args.state c.args.time) c.in-Some.k c.in-Some.i c.in-Some.update
    × (c.in_ok-fails.fails ≡ fails_table_filter (table_of c.in_ok-s.s.now) c.in-Some.i (number c.args.key.now) (value_of (argument_of c.args.value)))
asked c =
    let w = rw c.in_ok-s.ensures.ok_part at c.as_mut_array.ensures.cases in
    let y = started _ c.of-update.ensures.passes c.of-update.ensures.value (rw c.in-Some.is at c.in_ok-k.ensures) in
    let d = rw y.0.key_is at c.in_ok-fails.ensures in
    (record { same = w.same; at = y.0; given = y.1; read = reads_are _ _ (call c.args.value c.args.state c.args.time) y.0.index d.0 }, d.1)

-- what was done to it by value, where a due pending was applied first
module _ (c : After-update_node_in-step) where
  told : Told c.in_ok-s.s.now c.args.key.now (call c.args.value c.args.state c.args.time) c.in-Some.i
      (Answer.Update (update_result_of c.update_node_in-step.result.result)) c.update_node_in-step.result.bucket.bucket
      (recorded c.apply_at-applied.result.result c.apply_at-applied.result.bucket.bucket.pending c.update_node_in-step.result.bucket.bucket.pending (num c.in-Some.k))
  told =
      let y = started _ c.of-update.ensures.passes c.of-update.ensures.value (rw c.in-Some.is at c.in_ok-k.ensures) in
      let d = rw y.0.key_is at c.in_ok-fails.ensures in
      let x = rw (y.1.0, y.1.1) at c.update_node_in-step.ensures in
      updated y.0 c.args.value c.args.time c.apply_at-applied.ensures d.1 refl c.args.state x.result_value x.becomes

pub returns-in_err-s : goal.returns-in_err-s
returns-in_err-s c =
    refused_size _ _ _ c.in_err-s.ensures.value c.in_err-s.ensures.ok_part (rw c.in_err-s.ensures.ok_part at c.as_mut_array.ensures.cases) c.from_residual.ensures.1

pub returns-in_err-k : goal.returns-in_err-k
returns-in_err-k c =
    let w = rw c.in_ok-s.ensures.ok_part at c.as_mut_array.ensures.cases in
    rw (← w.same) (refused_exit _ _ _ c.from_residual-in_err-k.ensures.1 (refused_early _ _ _ _ (rw c.of-update.ensures.passes at c.in_err-k.ensures)))

pub returns-in_default : goal.returns-in_default
returns-in_default c =
    let w = rw c.in_ok-s.ensures.ok_part at c.as_mut_array.ensures.cases in
    let h : Bytes c.args.s.now = λ j. (c.slice_known-1.given j).fits in
    let y = rw (c.in_default.is, c.of-update.ensures.passes) at c.in_ok-k.ensures in
    rw (← w.same) (answers_self _ _ (call c.args.value c.args.state c.args.time) y.0 refl (rw (← w.same) at h) y.1)

pub returns-in_err-fails : goal.returns-in_err-fails
returns-in_err-fails c =
    let w = rw c.in_ok-s.ensures.ok_part at c.as_mut_array.ensures.cases in
    let y = started _ c.of-update.ensures.passes c.of-update.ensures.value (rw c.in-Some.is at c.in_ok-k.ensures) in
    let d = rw y.0.key_is at c.in_err-fails.ensures in
    rw (← w.same)
    (refused_exit _ _ _ c.from_residual-in_err-fails.ensures.1 (rw d.1 (refused_read _ _ _ y.0.passed (reads_are _ _ (call c.args.value c.args.state c.args.time) y.0.index d.0))))

pub update_node-requires : goal.update_node-requires
update_node-requires c =
    let y = asked (goal.at.update_node-requires c).In_ok-fails in
    subst Quiet (ranged_is _ _ c.bucket.ensures c.bucket_range.ensures) (c.is_quiet.ensures _ _ (formed_in _ _ c.bucket.ensures y.0.at.ready) c.if-is_quiet.true)

-- in place
pub returns-then-is_quiet : goal.returns-then-is_quiet
returns-then-is_quiet c =
    let a = c.args in
    let h : Bytes a.s.now = λ j. (c.slice_known-1.given j).fits in
    let y = asked (goal.at.returns-then-is_quiet c).In_ok-fails in
    let q = c.is_quiet.ensures _ _ (formed_in _ _ c.bucket.ensures y.0.at.ready) c.if-is_quiet.true in
    let F = λ (u : rules.BucketSettings) (n : ℕ) (x : rules.Bucket). update_node_in u (fails_table_filter (table_of c.in_ok-s.s.now) c.in-Some.i (number a.key.now) (value_of (argument_of a.value))) a.time n (value_of (argument_of a.value)) (optional a.state) x in
    let x = rw (y.1, y.0.given.0, y.0.given.1) at c.update_node.ensures a.time in
    rw (← y.0.same)
    (in_place_at _ _ _ y.0.at y.0.read refl (rw (← y.0.same) at h) (none_here _ _ c.bucket.ensures q.pending) F
    (did y.0.at F c.settings-settings.ensures.settings c.bucket_range.ensures x.answers x.leaves c.update_node.auto.bucket) (λ (b : Answer). b) a.time refl refl)

pub returns-in_err-end : goal.returns-in_err-end
returns-in_err-end c =
    let y = asked (goal.at.returns-in_err-end c).In_ok-fails in
    let t = told (goal.at.returns-in_err-end c).After-update_node_in-step in
    rw (← y.0.same) (refused_exit _ _ _ c.from_residual-in_err-end.ensures.1 (ends_full _ _ _ y.0.at y.0.read refl c.in_err-end.ensures t.records))

pub returns : goal.returns
returns c =
    let y = asked (goal.at.returns c).In_ok-fails in
    let t = told (goal.at.returns c).After-update_node_in-step in
    rw (← y.0.same) (ends _ _ _ y.0.at y.0.read refl c.in_ok-end.ensures t.records t.answer t.bucket)
