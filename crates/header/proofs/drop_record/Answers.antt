use Rattle.std.proofs.Common.{refl, arith, rules}
use Rattle.words.proofs.Shift.{down_in}
use Rattle.header.proofs.Queue.{dropped_first}
use Rattle.header.proofs.drop_record.Goals as goal

pub returns : goal.returns
returns c =
    let r = c.requires in
    dropped_first c.args.s.now c.told-s (search rules) r.s_value c.args.n _ _ _ _ r.n_value r.n_lt_max_records refl refl
    (down_in c.args.s.now _ _ _ (omega arith) (omega arith) c.shift_down.ensures) c.put_zeros.ensures
