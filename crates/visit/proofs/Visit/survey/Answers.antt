use Rattle.std.proofs.Common.{◌<◌, refl, sym, ◌∙◌, arith}
use Rattle.visit.specs.Passes.{buckets_of}
use Rattle.visit.proofs.Counts.{counting_starts, counting_next, counting_fails, counting_ends, counting_full}
use Rattle.visit.proofs.Visit.survey.Goals as goal
use Rattle.visit.proofs.Visit.survey.Goals.{in-None, in-Some+then-c-eq0}

pub loop-i-init : goal.loop-i-init
loop-i-init c =
    let a = c.args in
    rw c.into_iter-i-iterator.ensures.into_iter_gives
    (counting_starts a.self.time a.self.n (buckets_of a.self.order) a.s.now a.self.visitable _ refl c.default.ensures.1.0 c.default.ensures.1.1)

pub bucket_formed_at-requires : goal.bucket_formed_at-requires
bucket_formed_at-requires c =
    let w = rw c.in-Some.ensures.steps at c.loop-i.invariant in
    w.below.0

pub returns-then-not-bucket_formed_at : goal.returns-then-not-bucket_formed_at
returns-then-not-bucket_formed_at c =
    let w = rw c.in-Some.ensures.steps at c.loop-i.invariant in
    let h : 0 < c.loop-i.c.left = omega arith in
    counting_fails c.args.self.time c.args.self.n (buckets_of c.args.self.order) c.args.s.now c.loop-i.c _ _ h (sym c.bucket_formed_at.ensures ∙ c.if-not-bucket_formed_at.true) w

pub count_at-c-requires-clause-ready : goal.count_at-c-requires-clause-ready
count_at-c-requires-clause-ready c =
    let w = rw c.in-Some.ensures.steps at c.loop-i.invariant in
    record { size = c.told-s; header = c.requires; below = w.below.0; bucket = sym c.bucket_formed_at.ensures ∙ c.if-not-bucket_formed_at.false }

pub count_at-c-requires-clause-records_bound : goal.count_at-c-requires-clause-records_bound
count_at-c-requires-clause-records_bound c =
    let w = rw c.in-Some.ensures.steps at c.loop-i.invariant in
    omega (arith, w.short)

pub loop-i-preserved : goal.loop-i-preserved
loop-i-preserved c =
    let w = rw c.in-Some.ensures.steps at c.loop-i.invariant in
    let h : 0 < c.loop-i.c.left = omega arith in
    counting_next c.args.self.time c.args.self.n (buckets_of c.args.self.order) c.args.s.now c.loop-i.c _ _ _ h
    (sym c.bucket_formed_at.ensures ∙ c.if-not-bucket_formed_at.false) c.count_at-c.ensures w

pub returns : goal.returns
returns c =
    let a = c.args in
    let v = c.loop-i.invariant in
    elim c.match-next.branch [
      | in-None w ↦ counting_ends a.self.time a.self.n (buckets_of a.self.order) a.s.now c.loop-i.c _ _ w.in-None.ensures.steps.0 v refl refl
      | in-Some+then-c-eq0 w ↦ counting_full a.self.time a.self.n (buckets_of a.self.order) a.s.now c.loop-i.c _ _ (omega arith) v refl refl
    ]
