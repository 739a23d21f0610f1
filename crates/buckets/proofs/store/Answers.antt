use Rattle.std.proofs.Common.{refl, arith, length-take, length-drop, length-set}
use Rattle.buckets.proofs.Put.{places_long, held_none, held_next, bucket_put}
use Rattle.buckets.proofs.store.Goals as goal

pub loop-i-init : goal.loop-i-init
loop-i-init c = held_none _ _

pub store_node-requires : goal.store_node-requires
store_node-requires c =
    let n = simp length-set at c.loop-i.auto.bucket in
    simp (length-take, length-drop) (omega (arith, c.args.b.now.sound.few))

pub loop-i-preserved : goal.loop-i-preserved
loop-i-preserved c =
    let n = places_long c.args.b.now.bucket c.args.b.now.sound in
    held_next _ c.args.b.now.bucket.nodes c.loop-i.i _ _ c.loop-i.invariant (omega (arith, n, c.args.b.now.sound.few)) refl (omega arith) (simp length-set (omega (arith, c.args.b.now.sound.few))) (rw c.node_at.ensures at c.store_node.ensures)

pub returns : goal.returns
returns c =
    bucket_put c.args.bucket.now c.args.b.now.bucket c.args.b.now.sound c.requires c.loop-i.bucket _ _ c.loop-i.i _ (omega arith) c.loop-i.invariant refl c.put_zeros.ensures
    c.store_pending.ensures
