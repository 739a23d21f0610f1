use Rattle.std.proofs.Common.{arith}
use Rattle.key.specs.Key.{Words}
use Rattle.key.proofs.Words.{xor_key_lem}
use Rattle.key.proofs.Key.distance.Goals as goal

pub returns : goal.returns
returns c =
    let a : Words c.args.self = omega arith in
    let b : Words c.args.other = omega arith in
    xor_key_lem c.args.self c.args.other a b
