use mathlib.Core.Path.{◌≡◌, refl, sym, ap, ◌∙◌, subst}
use lib.ListN.{get_or}
use Rattle.model.specs.Bucket as rules
use Rattle.model.specs.Node as model
use Rattle.model.specs.Call.{is_one}
use Rattle.node.specs.Status.{optional_of}
use Rattle.key.specs.Key.{num}
use Rattle.node.specs.declared.Node.{Node}
use Rattle.node.specs.Node.{node_of, zero_node, restated}
use Rattle.node.proofs.Stored.{node_of_restated}
use Rattle.bucket.specs.Bucket.{bucket_of, settings_of, Does, stated, key_at}
use Rattle.bucket.specs.Calls.{update_result_of}
use Rattle.bucket.proofs.Steps.{get_at, by_rule}
use Rattle.bucket.proofs.Rules.{status_held}
use Rattle.bucket.proofs.SoundBucket.status_at.Goals as goal
use Rattle.bucket.proofs.SoundBucket.status_at.Goals.{After-with_status}

-- the node that is put again
made : (c : After-with_status) → c.with_status.result.node ≡ restated c.args.status.state c.args.status.direction (get_or c.args.self.now.bucket.nodes c.args.pos zero_node)
made c = c.with_status.ensures ∙ ap (restated c.args.status.state c.args.status.direction) c.node_at.ensures

pub put_again-requires : goal.put_again-requires
put_again-requires c =
    record { pos_lt_count = c.requires; pos_value = ap (λ (n : Node). num n.key) (sym (made (goal.at.put_again-requires c).After-with_status)) }

pub returns : goal.returns
returns c =
    let b = c.args.self.now.bucket in
    let s = settings_of b in
    let m = bucket_of b in
    let old = node_of (get_or b.nodes c.args.pos zero_node) in
    let u = is_one c.args.status.state in
    let d = optional_of c.args.status.direction in
    let new = model.with_status u d old in
    let is-new : node_of c.with_status.result.node ≡ new =
    ap node_of (made (goal.at.returns c).After-with_status) ∙ node_of_restated c.args.status.state c.args.status.direction (get_or b.nodes c.args.pos zero_node) in
    let r = rules.reinsert s new (rules.taken_out new.key u m) in
    let held = status_held s (key_at b c.args.pos) u d m old r.0 r.1 (get_at b c.args.self.now.sound c.args.pos c.requires) refl in
    by_rule held
    (subst (λ (n : model.Node). Does s (stated old n (rules.reinsert s n (rules.taken_out n.key n.connected m))) (update_result_of c.put_again.result.result) c.put_again.result.bucket.bucket)
    is-new c.put_again.ensures)
