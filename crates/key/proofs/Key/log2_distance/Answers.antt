use Rattle.std.proofs.Common.{sym, ap, ◌∙◌, arith}
use Rattle.laws.proofs.Index.{log2_of, log2_distance_lem}
use Rattle.key.specs.Answers.{option_of}
use Rattle.key.specs.Key.{num, Words}
use Rattle.key.proofs.Words.{num_lt}
use Rattle.key.proofs.Leading.{log2_told}
use Rattle.key.proofs.Key.log2_distance.Goals as goal

pub returns : goal.returns
returns c =
    let words : Words c.distance.result = omega arith in
    ap option_of c.then_some.ensures
    ∙ log2_told (num c.distance.result) (num_lt c.distance.result words) c.leading_zeros-bits.result c.leading_zeros-bits.ensures
    ∙ ap log2_of c.distance.ensures
    ∙ sym (log2_distance_lem (num c.args.self) (num c.args.other))
