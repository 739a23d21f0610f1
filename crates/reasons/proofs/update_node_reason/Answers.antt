use Rattle.std.proofs.Common.{◌≡◌, None, sym, ap, ◌∙◌}
use Rattle.std.proofs.Math.Option.{none}
use Rattle.model.specs.Result.{is_failed}
use Rattle.model.specs.Bucket as rules
use Rattle.model.specs.Call.{is_one}
use Rattle.model.specs.Explain.{status_reason}
use Rattle.key.specs.Key.{num}
use Rattle.node.specs.Node.{value_of}
use Rattle.node.specs.Status.{optional_of}
use Rattle.bucket.specs.declared.UpdateResult.{UpdateResult}
use Rattle.bucket.specs.Bucket.{bucket_of, settings_of}
use Rattle.bucket.specs.Calls.{update_result_of}
use Rattle.bucket.proofs.Steps.{told}
use Rattle.bucket_update.proofs.Rules.{not_failed}
use Rattle.reasons.proofs.Rules.{node_failed, node_valued, node_both}
use Rattle.reasons.proofs.update_node_reason.Goals as goal

pub returns-in-Failed-default : goal.returns-in-Failed-default
returns-in-Failed-default c =
    let b = c.args.b.now.bucket in
    let x = c.args.update in
    let failed = ap is_failed (sym c.update_value-valued.ensures.result_value) ∙ ap (λ (r : UpdateResult). is_failed (update_result_of r)) c.in-Failed-default.is-0 in
    c.value_reason.ensures ∙ node_failed (settings_of b) (num c.args.key) (value_of x.value.value) (optional_of x.state) (bucket_of b) failed

pub returns-in_default-Some : goal.returns-in_default-Some
returns-in_default-Some c =
    let b = c.args.b.now.bucket in
    let x = c.args.update in
    let k = num c.args.key in
    let u = is_one c.in_default-Some.status.state in
    let given = rw c.in_default-Some.is-1 at c.status.ensures in
    let failed = ap is_failed (sym c.update_value-valued.ensures.result_value) ∙ not_failed _ c.in_default-Some.not-Failed-0 in
    (rw given.1 at c.status_reason.ensures)
    ∙ told c.update_value-valued.ensures.becomes (λ (s : rules.BucketSettings) (m : rules.Bucket). status_reason s k u none m)
    ∙ node_both (settings_of b) k (value_of x.value.value) (optional_of x.state) (bucket_of b) failed u (ap optional_of given.0)

pub returns-in_default-None : goal.returns-in_default-None
returns-in_default-None c =
    let b = c.args.b.now.bucket in
    let x = c.args.update in
    let none : x.state ≡ None = rw c.in_default-None.is-1 at c.status.ensures in
    let failed = ap is_failed (sym c.update_value-valued.ensures.result_value) ∙ not_failed _ c.in_default-None.not-Failed-0 in
    node_valued (settings_of b) (num c.args.key) (value_of x.value.value) (optional_of x.state) (bucket_of b) failed (ap optional_of none)
