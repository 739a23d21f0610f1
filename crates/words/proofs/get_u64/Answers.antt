use Rattle.std.proofs.Common.{ap, arith}
use Rattle.model.specs.Bytes.{number}
use Rattle.laws.proofs.Parts.{part_all}
use Rattle.words.proofs.Words.{number_8}
use Rattle.words.proofs.get_u64.Goals as goal

pub returns : goal.returns
returns c =
    let s = c.args.s.now in
    omega (arith, c.from_be_bytes.ensures, number_8 s 0 (omega arith), ap number (part_all s 8 (omega arith)))
