use Rattle.std.proofs.Common.{◌≡◌, ◌∷◌, ◌+◌, ◌-◌, ◌*◌, length, length-append, drop, ap, ◌∙◌, rules}
use Rattle.std.proofs.Math.Seq.{drop-length}
use Rattle.std.proofs.lemmas.Iterator.{YieldsList-from_slice}
use Rattle.std.proofs.lemmas.Iterator.Consumers.{YieldsList-at, YieldsList-from_filter_map, YieldsList-turn, YieldsList-end}
use Rattle.model.specs.Sizes.{node_size}
use Rattle.model.specs.Listing.{index_at, buckets_at}
use Rattle.items.specs.Shape.{size_by}
use Rattle.items.proofs.Items.{room_behind, put_behind}
use Rattle.distances.proofs.Yielded.{given, given_by, indexed, next_is}
use Rattle.distances.proofs.Written.{writing_starts, writing_formed, writing_room, writing_next, writing_ends}
use Rattle.distances.proofs.pass.put_all.Goals as goal
use Rattle.distances.proofs.pass.put_all.Goals.{In-Some}

pub loop-i-init : goal.loop-i-init
loop-i-init c = writing_starts c.args.s.now c.args.n c.args.distances.now c.args.out.now c.requires.distances_value

-- the bucket is the next of those that remain
here : (c : In-Some) → drop (length c.loop-i.yielded) (buckets_at c.args.distances.now) ≡ c.in-Some.i ∷ drop (length c.loop-i.yielded + 1) (buckets_at c.args.distances.now)
here c =
    let turn = YieldsList-turn
    (YieldsList-at c.into_iter-i-iterator.ensures.into_iter_gives
    (YieldsList-from_filter_map _ (λ d. given (index_at d)) (YieldsList-from_slice c.args.distances.now cc) c.filter_map-i-items.ensures.closure (λ x r q k. (search rules, given_by (search rules)))))
    c.loop-i.yielded _ c.loop-i.yielded_by _ _ c.in-Some.i c.in-Some.is c.next.ensures.steps in
    next_is _ _ _ (rw (indexed c.args.distances.now) at turn)

pub put_bucket-k-requires : goal.put_bucket-k-requires
unfolding size_by
put_bucket-k-requires c =
    let a = c.args in
    let h = c.requires.node_size_in_bounds in
    let w = rw (here (goal.at.put_bucket-k-requires c).In-Some) at c.loop-i.invariant in
    record {
      below = w.below.0;
      formed = writing_formed a.s.now a.n h w;
      shape_in_bounds = room_behind c.loop-i.out (c.loop-i.k * node_size) ((a.n - c.loop-i.k) * node_size) (writing_room a.s.now a.n h w);
    }

pub loop-i-preserved : goal.loop-i-preserved
unfolding size_by
loop-i-preserved c =
    let a = c.args in
    let w = rw (here (goal.at.loop-i-preserved c).In-Some) at c.loop-i.invariant in
    let x = c.put_bucket-k.ensures in
    rw length-append (writing_next a.s.now a.n c.requires.node_size_in_bounds w x.value (put_behind c.loop-i.out _ (c.loop-i.k * node_size) x.out_after))

pub returns : goal.returns
returns c =
    let a = c.args in
    let is = buckets_at a.distances.now in
    let all = YieldsList-end
    (YieldsList-at c.into_iter-i-iterator.ensures.into_iter_gives
    (YieldsList-from_filter_map _ (λ d. given (index_at d)) (YieldsList-from_slice c.args.distances.now cc) c.filter_map-i-items.ensures.closure (λ x r q k. (search rules, given_by (search rules)))))
    c.loop-i.yielded _ c.loop-i.yielded_by _ _ c.in-None.is c.next.ensures.steps in
    let e = writing_ends a.s.now a.n (ap (λ k. drop k is) (all.1 ∙ ap length (indexed a.distances.now)) ∙ drop-length is) c.loop-i.invariant in
    record { value = e.0; out_after = e.1 }
