use Rattle.std.proofs.Common.{sym, ◌∙◌, arith}
use Rattle.laws.proofs.Index.{index_at, index_nothing}
use Rattle.laws.proofs.Visits.{visits_top, visits_none}
use Rattle.key.specs.Key.{num, Words}
use Rattle.key.proofs.Words.{num_lt}
use Rattle.key.proofs.Leading.{index_of_distance}
use Rattle.key.proofs.ClosestBucketsIter.new.Goals as goal

pub returns-in-Some : goal.returns-in-Some
returns-in-Some c =
    let words : Words c.args.distance = omega arith in
    let d = num c.args.distance in
    let t = index_at d c.in-Some.i (num_lt c.args.distance words) (index_of_distance d ∙ sym c.in-Some.ensures) in
    sym (visits_top d c.in-Some.i t.0 t.1)

pub returns-in-None : goal.returns-in-None
returns-in-None c =
    let words : Words c.args.distance = omega arith in
    let d = num c.args.distance in
    sym (visits_none d (index_nothing d (num_lt c.args.distance words) (index_of_distance d ∙ sym c.in-None.ensures)))
