use Rattle.std.proofs.Common.{ap, ◌∙◌, arith}
use Rattle.model.specs.Bytes.{number, part}
use Rattle.laws.proofs.Parts.{part_all}
use Rattle.key.proofs.Bytes.{num_read}
use Rattle.key.proofs.Key.load.Goals as goal

pub returns : goal.returns
unfolding part
returns c =
    let s = c.args.s.now in
    num_read s 0 _ (omega arith) c.get_u64.ensures c.get_u64-2.ensures c.get_u64-3.ensures c.get_u64-4.ensures ∙ ap number (part_all s 32 (omega arith))
