use Rattle.std.proofs.Common.{◌∙◌, arith}
use Rattle.key.specs.Key.{num, Words}
use Rattle.key.proofs.Words.{num_lt}
use Rattle.key.proofs.Leading.{index_told, index_of_distance}
use Rattle.key.proofs.Key.index.Goals as goal

pub returns : goal.returns
returns c =
    let words : Words c.args.self = omega arith in
    index_told (num c.args.self) (num_lt c.args.self words) c.leading_zeros.result c.leading_zeros.ensures c.checked_sub.result c.checked_sub.ensures
    ∙ index_of_distance (num c.args.self)
