use Rattle.std.proofs.Common.{◌≡◌, ap, rules}
use Rattle.model.specs.Node.{with_value}
use Rattle.node.specs.Node.{node_of, value_of, revalued}
use Rattle.bucket.proofs.SoundBucket.value_pending.Goals as goal

pub returns : goal.returns
returns c =
    let v = c.args.value.value in
    c.pending_changed.ensures (with_value (value_of v)) (λ n m q. let w : m.node ≡ revalued v n.node = search rules in ap node_of w)
