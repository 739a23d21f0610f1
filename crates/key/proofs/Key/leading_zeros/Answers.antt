use Rattle.std.proofs.Common.{arith}
use Rattle.key.specs.Key.{Words}
use Rattle.key.proofs.Leading.{leading0, leading1, leading2, leading3}
use Rattle.key.proofs.Key.leading_zeros.Goals as goal

pub returns-then-self-ne0 : goal.returns-then-self-ne0
returns-then-self-ne0 c = let words : Words c.args.self = omega arith in leading0 c.args.self words c.if-self-ne0.true

pub returns-then-self-ne0-2 : goal.returns-then-self-ne0-2
returns-then-self-ne0-2 c =
    let words : Words c.args.self = omega arith in leading1 c.args.self words (omega arith) c.if-self-ne0-2.true

pub returns-then-self-ne0-3 : goal.returns-then-self-ne0-3
returns-then-self-ne0-3 c =
    let words : Words c.args.self = omega arith in leading2 c.args.self words (omega arith) (omega arith) c.if-self-ne0-3.true

pub returns : goal.returns
returns c =
    let words : Words c.args.self = omega arith in leading3 c.args.self words (omega arith) (omega arith) (omega arith)
