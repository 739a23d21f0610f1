use Rattle.std.proofs.Common.{ap, ◌∙◌, arith}
use Rattle.key.specs.Answers.{option_of}
use Rattle.key.proofs.Steps.{first_told}
use Rattle.key.proofs.first_clear.Goals as goal

pub returns : goal.returns
returns c = ap option_of c.then_some.ensures ∙ first_told c.args.w c.args.k c.trailing_ones.result (omega arith) c.requires c.trailing_ones.ensures
