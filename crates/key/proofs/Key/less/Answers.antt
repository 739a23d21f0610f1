use Rattle.std.proofs.Common.{arith, ◌∙◌}
use Rattle.key.specs.Key.{Words}
use Rattle.key.proofs.Words.{derived_less}
use Rattle.key.proofs.Key.less.Goals as goal

pub returns : goal.returns
returns c =
    let a : Words c.args.self = omega arith in
    let b : Words c.args.other = omega arith in
    c.lt.ensures ∙ derived_less c.args.self c.args.other a b
