use Rattle.std.proofs.Common.{◌≡◌, Bool, refl, sym, ap, ◌∙◌}
use Rattle.std.specs.Prelude.{Some}
use Rattle.std.proofs.Math.Option.{Option, some}
use Rattle.model.specs.Result.{is_failed}
use Rattle.model.specs.Bucket as rules
use Rattle.model.specs.Call.{is_one}
use Rattle.model.specs.Explain.{status_reason, value_reason}
use Rattle.key.specs.Key.{num}
use Rattle.node.specs.declared.NodeInRange.{NodeInRange}
use Rattle.node.specs.declared.StatusUpdate.{StatusUpdate}
use Rattle.node.specs.Node.{value_of, node_of}
use Rattle.node.specs.Status.{optional_of}
use Rattle.bucket.specs.declared.UpdateResult.{UpdateResult}
use Rattle.bucket.specs.Bucket.{bucket_of, settings_of}
use Rattle.bucket.specs.Calls.{update_result_of}
use Rattle.bucket.proofs.Steps.{told}
use Rattle.bucket_update.proofs.Rules.{not_failed}
use Rattle.reasons.proofs.Rules.{inserts, updates_failed, updates}
use Rattle.reasons.proofs.insert_or_update_reason.Goals as goal

-- the status of a node in range is given, and so is its direction
module _ (n : NodeInRange) (x : StatusUpdate) (e : (x.state ≡ n.node.status.state) × (x.direction ≡ Some n.node.status.direction)) where
  given : {A : Type 0} (F : Bool → Option Bool → A) → F (is_one x.state) (optional_of x.direction) ≡ F (node_of n.node).connected (some (node_of n.node).incoming)
  given F = rw (e.0, e.1) refl

pub returns-then-not-holds : goal.returns-then-not-holds
returns-then-not-holds c =
    let b = c.args.b.now.bucket in
    c.insert_reason.ensures ∙ inserts (settings_of b) (node_of c.args.node.node) (bucket_of b) (sym c.holds.ensures ∙ c.if-not-holds.true)

pub returns-in-Failed : goal.returns-in-Failed
returns-in-Failed c =
    let b = c.args.b.now.bucket in
    let n = c.args.node in
    let k = num n.node.key in
    let failed =
    sym (given n c.status.result c.status.ensures (λ (u : Bool) (d : Option Bool). is_failed (rules.update_status (settings_of b) k u d (bucket_of b)).0))
    ∙ ap is_failed (sym c.update_status-stated.ensures.result_value) ∙ ap (λ (r : UpdateResult). is_failed (update_result_of r)) c.in-Failed.is in
    c.status_reason.ensures
    ∙ given n c.status-in-Failed.result c.status-in-Failed.ensures (λ (u : Bool) (d : Option Bool). status_reason (settings_of b) k u d (bucket_of b))
    ∙ updates_failed (settings_of b) (node_of n.node) (bucket_of b) (sym c.holds.ensures ∙ c.if-not-holds.false) failed

pub returns-in_default : goal.returns-in_default
returns-in_default c =
    let b = c.args.b.now.bucket in
    let n = c.args.node in
    let k = num n.node.key in
    let v = value_of n.node.value in
    let failed =
    sym (given n c.status.result c.status.ensures (λ (u : Bool) (d : Option Bool). is_failed (rules.update_status (settings_of b) k u d (bucket_of b)).0))
    ∙ ap is_failed (sym c.update_status-stated.ensures.result_value) ∙ not_failed _ c.in_default.not-Failed in
    c.value_reason.ensures
    ∙ told c.update_status-stated.ensures.becomes (λ (s : rules.BucketSettings) (m : rules.Bucket). value_reason s k v m)
    ∙ given n c.status.result c.status.ensures (λ (u : Bool) (d : Option Bool). value_reason (settings_of b) k v (rules.update_status (settings_of b) k u d (bucket_of b)).1)
    ∙ updates (settings_of b) (node_of n.node) (bucket_of b) (sym c.holds.ensures ∙ c.if-not-holds.false) failed
