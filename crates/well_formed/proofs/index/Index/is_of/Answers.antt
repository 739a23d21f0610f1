use Rattle.std.proofs.Common.{sym, arith}
use Rattle.key.specs.Key.{num, Words}
use Rattle.key.proofs.Words.{num_lt}
use Rattle.well_formed.proofs.Leading.{index_by_zeros}
use Rattle.well_formed.proofs.index.Index.is_of.Goals as goal

pub returns : goal.returns
returns c =
    let a = c.args in
    let d = c.distance in
    let w : Words d.result = omega arith in
    let e = index_by_zeros (num a.self.local) (num a.key) a.self.i (rw (← d.ensures) (num_lt d.result w)) in
    rw (c.leading_zeros.ensures, d.ensures) (sym e)
