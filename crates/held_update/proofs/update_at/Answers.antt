use Rattle.std.proofs.Common.{◌≡◌, ◌∙◌, ap, subst, None}
use Rattle.model.specs.Bucket.{nodes}
use Rattle.model.specs.Table.{both_updates}
use Rattle.model.specs.Call.{is_one}
use Rattle.model.specs.Layout.{bucket_in}
use Rattle.key.specs.Key.{num}
use Rattle.node.specs.declared.Node.{Node}
use Rattle.node.specs.Node.{value_of, node_of, restated, revalued}
use Rattle.node.specs.Status.{optional_of}
use Rattle.bucket.specs.Settings.{settings_of}
use Rattle.bucket.specs.Calls.{update_result_of}
use Rattle.held.specs.Held.{Does, place}
use Rattle.held.specs.Held as held
use Rattle.held.proofs.Steps.{own_key, get_old, key_old}
use Rattle.held_update.proofs.Laws.{both_do, value_alone}
use Rattle.held_update.proofs.update_at.Goals as goal
use Rattle.held_update.proofs.update_at.Goals.{After-with_status-node}

-- the node that is put again
made : (c : After-with_status-node) → c.with_status-node.result.node ≡ restated c.in-Some.status.state None (revalued c.args.update.value.value c.node_at-old.result.node)
made c =
    let s = c.in-Some.status in
    c.with_status-node.ensures ∙ ap (λ d. restated s.state d c.with_value.result.node) c.in-Some.ensures.1 ∙ ap (restated s.state None) c.with_value.ensures

pub returns-in_default : goal.returns-in_default
returns-in_default c =
    λ time k e.
    value_alone (settings_of c.args.settings) (bucket_in c.args.bucket.now) time k (value_of c.args.update.value.value) (optional_of c.args.update.state) (ap optional_of c.in_default.ensures) (c.value_at.ensures k e)

pub step-of_status-requires-clause-node : goal.step-of_status-requires-clause-node
step-of_status-requires-clause-node c =
    ap (λ (n : Node). place (num n.key) (nodes (bucket_in c.args.bucket.now))) (made (goal.at.step-of_status-requires-clause-node c).After-with_status-node)
    ∙ own_key c.requires.quiet c.args.pos c.requires.held c.node_at-old.ensures

pub returns : goal.returns
returns c =
    λ time k e.
    let q = c.requires.quiet in
    let b = bucket_in c.args.bucket.now in
    let old = c.node_at-old.result.node in
    let eo = c.node_at-old.ensures in
    let new = made (goal.at.returns c).After-with_status-node in
    both_do (settings_of c.args.settings) b q.pending time (node_of old) k (get_old q c.args.pos c.requires.held eo k e) (key_old q c.args.pos c.requires.held eo k e)
    (optional_of c.args.update.state) (is_one c.in-Some.status.state) (ap optional_of c.in-Some.ensures.0) (value_of c.args.update.value.value)
    (subst (λ (n : Node). Does (held.restated (settings_of c.args.settings) (node_of old) (node_of n) b) (update_result_of c.step-of_status.result) c.step-of_status.new.bucket) new c.step-of_status.ensures)
    (c.both_updates.ensures ∙ ap (λ r. both_updates r (update_result_of c.step-of_status.result)) c.value_result-of_value.ensures)
