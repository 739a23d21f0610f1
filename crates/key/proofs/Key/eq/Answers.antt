use Rattle.std.proofs.Common.{arith, ◌∙◌}
use Rattle.key.specs.Key.{Words}
use Rattle.key.proofs.Words.{same_words}
use Rattle.key.proofs.Key.eq.Goals as goal

pub returns : goal.returns
returns c =
    let a : Words c.args.self = omega arith in
    let b : Words c.args.other = omega arith in
    c.eq.ensures ∙ same_words c.args.self c.args.other a b
