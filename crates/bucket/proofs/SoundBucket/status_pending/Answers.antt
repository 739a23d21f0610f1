use Rattle.std.proofs.Common.{◌≡◌, ap, ◌∙◌, rules}
use Rattle.model.specs.Node.{with_status}
use Rattle.model.specs.Call.{is_one}
use Rattle.node.specs.Node.{node_of, restated}
use Rattle.node.specs.Status.{optional_of}
use Rattle.node.proofs.Stored.{node_of_restated}
use Rattle.bucket.proofs.SoundBucket.status_pending.Goals as goal

pub returns : goal.returns
returns c =
    let st = c.args.status in
    c.pending_changed.ensures (with_status (is_one st.state) (optional_of st.direction))
    (λ n m q. let w : m.node ≡ restated st.state st.direction n.node = search rules in ap node_of w ∙ node_of_restated st.state st.direction n.node)
