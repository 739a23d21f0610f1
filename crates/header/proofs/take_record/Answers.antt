use Rattle.std.proofs.Common.{List, [], ◌∷◌, ℕ, sym, ap, ◌∙◌, arith, rules}
use Rattle.model.specs.Layout.{record_in}
use Rattle.header.proofs.Queue.{none_left, at_most, oldest, oldest_formed}
use Rattle.header.proofs.take_record.Goals as goal

pub returns-then-n-eq0 : goal.returns-then-n-eq0
returns-then-n-eq0 c =
    let e = none_left c.args.s.now c.told-s (search rules) c.requires (omega arith) in
    record { result_value = sym e.0; s_after = e.1 }

pub load_record-oldest-requires : goal.load_record-oldest-requires
load_record-oldest-requires c = rw c.record.ensures (oldest_formed c.args.s.now c.told-s (search rules) c.requires (omega (arith, c.if-n-eq0.false)))

pub drop_record-requires-clause-n_lt_max_records : goal.drop_record-requires-clause-n_lt_max_records
drop_record-requires-clause-n_lt_max_records c =
    let m = at_most c.args.s.now c.told-s (search rules) c.requires in
    omega (arith, c.if-n-eq0.false)

pub returns : goal.returns
returns c =
    let o = oldest c.args.s.now c.told-s (search rules) c.requires (omega (arith, c.if-n-eq0.false)) in
    record { result_value = c.load_record-oldest.ensures ∙ ap (λ (bs : List ℕ). record_in bs ∷ []) c.record.ensures ∙ sym o; s_after = c.drop_record.ensures }
