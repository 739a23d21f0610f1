use Rattle.std.proofs.Common.{◌≡◌, length, refl, arith}
use Rattle.std.proofs.lemmas.Result.{err_from_is_err_and}
use Rattle.distances.proofs.Passes.{counting_starts, counting_fails, counting_stops, counting_goes, counting_ends}
use Rattle.distances.proofs.pass.survey.Goals as goal

pub loop-p-init : goal.loop-p-init
loop-p-init c = counting_starts c.args.time c.args.n c.args.distances.now c.args.s.now

pub returns-in_err-g : goal.returns-in_err-g
returns-in_err-g c =
    let p = err_from_is_err_and c.from_residual.result c.from_residual.ensures.1 in
    let e = c.in_err-g.ensures in
    rw (p.1, p.2) (counting_fails c.args.time c.args.n c.args.distances.now c.args.s.now c.loop-p.invariant c.loop-p-test.true e.0, e.1)

pub returns-then-g-n : goal.returns-then-g-n
returns-then-g-n c =
    counting_stops c.args.time c.args.n c.args.distances.now c.args.s.now c.loop-p.invariant c.loop-p-test.true
    c.in_ok-g.ensures.0 c.in_ok-g.ensures.1 c.if-g-n.true refl refl

pub loop-p-preserved : goal.loop-p-preserved
loop-p-preserved c =
    counting_goes c.args.time c.args.n c.args.distances.now c.args.s.now c.loop-p.invariant c.loop-p-test.true
    c.in_ok-g.ensures.0 c.in_ok-g.ensures.1 c.requires.n_le_max_count c.if-g-n.false

pub returns : goal.returns
returns c =
    let e : c.loop-p.p ≡ length c.args.distances.now = omega arith in
    counting_ends c.args.time c.args.n c.args.distances.now c.args.s.now c.loop-p.invariant e refl refl
