use Rattle.std.proofs.Common.{◌<◌, ◌-◌, ℕ, ap, ◌∙◌, arith}
use Rattle.visit.specs.Passes.{buckets_of}
use Rattle.visit.proofs.Passes.{visit_appliable, visiting_starts, visiting_nothing, visiting_ready, visiting_room, visiting_next, visiting_ends, visiting_full}
use Rattle.visit.proofs.Visit.apply_all.Goals as goal

pub returns-then-tally-eq0 : goal.returns-then-tally-eq0
returns-then-tally-eq0 c =
    let a = c.args in
    let r = c.requires in
    visiting_nothing a.self.time a.self.n (buckets_of a.self.order) a.s.now
    (visit_appliable a.self.time a.self.n (buckets_of a.self.order) a.s.now c.fits-s c.told-s r.header a.self.visitable r.s_value r.s_len_bound)
    r.records_value (omega arith)

pub loop-i-init : goal.loop-i-init
loop-i-init c =
    let a = c.args in
    let r = c.requires in
    let p = visit_appliable a.self.time a.self.n (buckets_of a.self.order) a.s.now c.fits-s c.told-s r.header a.self.visitable r.s_value r.s_len_bound in
    (p, rw c.into_iter-i-iterator.ensures.into_iter_gives (visiting_starts a.self.time a.self.n (buckets_of a.self.order) a.s.now p))

pub apply_in-requires : goal.apply_in-requires
apply_in-requires c =
    let a = c.args in
    let p = c.loop-i.invariant.0 in
    let w = rw c.in-Some.ensures.steps at c.loop-i.invariant.1 in
    let z : 0 < c.loop-i.left = omega arith in
    record {
      ready = visiting_ready a.self.time a.self.n (buckets_of a.self.order) a.s.now p c.loop-i.s c.loop-i.left _ _ z w;
      s_len_bound = visiting_room a.self.time a.self.n (buckets_of a.self.order) a.s.now p c.loop-i.s c.loop-i.left _ _ z w;
    }

pub size_at-requires : goal.size_at-requires
size_at-requires c =
    let a = c.args in
    let p = c.loop-i.invariant.0 in
    let w = rw c.in-Some.ensures.steps at c.loop-i.invariant.1 in
    let z : 0 < c.loop-i.left = omega arith in
    (visiting_ready a.self.time a.self.n (buckets_of a.self.order) a.s.now p c.loop-i.s c.loop-i.left _ _ z w).below

pub loop-i-preserved : goal.loop-i-preserved
loop-i-preserved c =
    let a = c.args in
    let p = c.loop-i.invariant.0 in
    let w = rw c.in-Some.ensures.steps at c.loop-i.invariant.1 in
    let z : 0 < c.loop-i.left = omega arith in (
      p,
      visiting_next a.self.time a.self.n (buckets_of a.self.order) a.s.now p c.loop-i.s c.loop-i.left _ _ z w _ c.apply_in.ensures _
          (c.saturating_sub-left.ensures ∙ ap (λ (m : ℕ). c.loop-i.left - m) (c.from.ensures ∙ c.size_at.ensures)),
    )

pub returns-in-None : goal.returns-in-None
returns-in-None c =
    let a = c.args in
    visiting_ends a.self.time a.self.n (buckets_of a.self.order) a.s.now c.loop-i.invariant.0 c.loop-i.s c.loop-i.left _ c.loop-i.invariant.1 c.in-None.ensures.steps.0

pub returns-then-left-eq0 : goal.returns-then-left-eq0
returns-then-left-eq0 c =
    let a = c.args in
    visiting_full a.self.time a.self.n (buckets_of a.self.order) a.s.now c.loop-i.invariant.0 c.loop-i.s c.loop-i.left _ c.loop-i.invariant.1 (omega arith)
