use Rattle.buckets.proofs.Put.{pending_put}
use Rattle.buckets.proofs.store_pending.Goals as goal

pub returns-in-Some : goal.returns-in-Some
returns-in-Some c = rw c.in-Some.is (pending_put c.args.s.now c.in-Some.p c.requires.0 c.store_node.ensures c.put_u64.ensures)
