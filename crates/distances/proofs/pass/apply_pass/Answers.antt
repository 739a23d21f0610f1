use Rattle.std.proofs.Common.{◌≡◌, ◌∷◌, ◌+◌, ℕ, length, length-append, drop, ap, ◌∙◌, arith, rules}
use Rattle.std.proofs.Math.Seq.{drop-length}
use Rattle.std.proofs.lemmas.Iterator.{YieldsList-from_slice}
use Rattle.std.proofs.lemmas.Iterator.Consumers.{YieldsList-at, YieldsList-from_filter_map, YieldsList-turn, YieldsList-end}
use Rattle.model.specs.Listing.{index_at, buckets_at}
use Rattle.visit.proofs.Applying.{applying_nothing, applying_starts, applying_ready, applying_room, applying_next, applying_ends}
use Rattle.distances.proofs.Passes.{pass_appliable}
use Rattle.distances.proofs.Yielded.{given, given_by, indexed, next_is}
use Rattle.distances.proofs.pass.apply_pass.Goals as goal
use Rattle.distances.proofs.pass.apply_pass.Goals.{In-Some}

pub returns-then-tally-eq0 : goal.returns-then-tally-eq0
returns-then-tally-eq0 c =
    let a = c.args in
    let r = c.requires in
    let p = pass_appliable a.s.now a.time a.tally.taken.now c.fits-s (record { size = c.told-s; header = r.header }) r.taken_value r.s_len_bound in
    applying_nothing a.s.now a.time (buckets_at a.tally.taken.now) p (omega arith)

pub loop-i-init : goal.loop-i-init
loop-i-init c =
    let a = c.args in
    let r = c.requires in
    let p = pass_appliable a.s.now a.time a.tally.taken.now c.fits-s (record { size = c.told-s; header = r.header }) r.taken_value r.s_len_bound in
    (p, applying_starts a.s.now a.time (buckets_at a.tally.taken.now) p)

-- the bucket is the next of those that remain
here : (c : In-Some) → drop (length c.loop-i.yielded) (buckets_at c.args.tally.taken.now) ≡ c.in-Some.i ∷ drop (length c.loop-i.yielded + 1) (buckets_at c.args.tally.taken.now)
here c =
    let turn = YieldsList-turn
    (YieldsList-at c.into_iter-i-iterator.ensures.into_iter_gives
    (YieldsList-from_filter_map _ (λ d. given (index_at d)) (YieldsList-from_slice c.args.tally.taken.now cc) c.filter_map-i-items.ensures.closure (λ x r q k. (search rules, given_by (search rules)))))
    c.loop-i.yielded _ c.loop-i.yielded_by _ _ c.in-Some.i c.in-Some.is c.next.ensures.steps in
    next_is _ _ _ (rw (indexed c.args.tally.taken.now) at turn)

pub apply_in-requires : goal.apply_in-requires
apply_in-requires c =
    let a = c.args in
    let w = rw (here (goal.at.apply_in-requires c).In-Some) at c.loop-i.invariant.1 in
    record {
      ready = applying_ready a.s.now a.time _ c.loop-i.invariant.0 c.loop-i.s _ _ w;
      s_len_bound = applying_room a.s.now a.time _ c.loop-i.invariant.0 c.loop-i.s _ _ w;
    }

pub loop-i-preserved : goal.loop-i-preserved
loop-i-preserved c =
    let a = c.args in
    let w = rw (here (goal.at.loop-i-preserved c).In-Some) at c.loop-i.invariant.1 in
    (c.loop-i.invariant.0, rw length-append (applying_next a.s.now a.time _ c.loop-i.invariant.0 c.loop-i.s _ _ w _ c.apply_in.ensures))

pub returns : goal.returns
returns c =
    let a = c.args in
    let is = buckets_at a.tally.taken.now in
    let all = YieldsList-end
    (YieldsList-at c.into_iter-i-iterator.ensures.into_iter_gives
    (YieldsList-from_filter_map _ (λ d. given (index_at d)) (YieldsList-from_slice c.args.tally.taken.now cc) c.filter_map-i-items.ensures.closure (λ x r q k. (search rules, given_by (search rules)))))
    c.loop-i.yielded _ c.loop-i.yielded_by _ _ c.in-None.is c.next.ensures.steps in
    applying_ends a.s.now a.time is c.loop-i.invariant.0 c.loop-i.s _ c.loop-i.invariant.1 (ap (λ (k : ℕ). drop k is) (all.1 ∙ ap length (indexed a.tally.taken.now)) ∙ drop-length is)
