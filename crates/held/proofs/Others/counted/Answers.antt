use Rattle.std.proofs.Common.{rules}
use Rattle.model.specs.Filter.{counts}
use Rattle.model.specs.Bytes.{part}
use Rattle.model.specs.Node.{Node}
use Rattle.node.specs.Node.{value_of}
use Rattle.held.proofs.Places.{value_is}
use Rattle.held.proofs.Others.counted.Goals as goal

pub returns : goal.returns
unfolding part
returns c = c.count.ensures (λ (x : Node). counts (value_of c.args.value) x.value) (λ s r post. rw (← value_is s) (search rules))
