use Rattle.std.proofs.Common.{◌≡◌, Bool, ap, ap₂, ◌∙◌}
use lib.ListN.{get_or}
use Rattle.model.specs.Node as model
use Rattle.model.specs.Bucket as rules
use Rattle.model.specs.Call.{is_one}
use Rattle.model.specs.Explain.{reinsert_reason}
use Rattle.node.specs.Node.{node_of, zero_node, restated}
use Rattle.node.specs.Status.{optional_of}
use Rattle.node.proofs.Stored.{node_of_restated}
use Rattle.bucket.specs.Bucket.{bucket_of, settings_of, key_at}
use Rattle.bucket.proofs.Steps.{told, get_at}
use Rattle.reasons.proofs.Rules.{status_held}
use Rattle.reasons.proofs.status_reason_at.Goals as goal

pub returns : goal.returns
returns c =
    let b = c.args.b.now in
    let status = c.args.status in
    let k = key_at b.bucket c.args.pos in
    let u = is_one status.state in
    let d = optional_of status.direction in
    let old = get_or b.bucket.nodes c.args.pos zero_node in
    let new : node_of c.with_status.result.node ≡ model.with_status u d (node_of old) =
    ap node_of (c.with_status.ensures ∙ ap (restated status.state status.direction) c.node_at.ensures) ∙ node_of_restated status.state status.direction old in
    let connected : c.is_connected.result ≡ u = c.is_connected.ensures ∙ ap (λ (n : model.Node). n.connected) new in
    c.reinsert_reason.ensures
    ∙ told c.rest_at-rest.ensures (λ (s : rules.BucketSettings) (m : rules.Bucket). reinsert_reason s (node_of c.with_status.result.node) m)
    ∙ ap₂ (λ (n : model.Node) (x : Bool). reinsert_reason (settings_of b.bucket) n (rules.taken_out k x (bucket_of b.bucket))) new connected
    ∙ status_held (settings_of b.bucket) k u d (bucket_of b.bucket) (node_of old) (get_at b.bucket b.sound c.args.pos c.requires)
