use Rattle.std.proofs.Common.{◌+◌, ◌-◌, ◌*◌, ◌≤◌, sym, ap, length, drop, ◌∙◌, arith}
use Rattle.std.proofs.lemmas.Result.{err_from_is_err_and}
use Rattle.model.specs.Bytes.{part}
use Rattle.model.specs.Table.{num_buckets}
use Rattle.model.specs.Sizes.{node_size}
use Rattle.model.specs.Layout.{table_of}
use Rattle.model.specs.Saved.{all_nodes}
use Rattle.laws.proofs.Parts.{length_part}
use Rattle.on_key.proofs.Questions.{passed_table}
use Rattle.on_key.proofs.Ended.{size_told}
use Rattle.saved.proofs.Held.{counted}
use Rattle.saved.proofs.Output.{keys_fit, entries_fit, saved_put, refused_size, refused_early, refused_short, answered}
use Rattle.saved.proofs.write.Goals as goal

pub returns-in_err-asked_table : goal.returns-in_err-asked_table
returns-in_err-asked_table c =
    let w = rw c.in_ok-s.ensures.ok_part at c.as_array.ensures.cases in
    let p = err_from_is_err_and c.from_residual-in_err-asked_table.result c.from_residual-in_err-asked_table.ensures.1 in
    rw (← w.same, p.1, p.2) (refused_early c.args.out.now c.in_ok-s.s.now _ (sym c.in_err-asked_table.ensures))

pub invariant_of-table : goal.invariant_of-table
invariant_of-table c = record { formed = (passed_table _ (sym c.in_ok-asked_table.ensures)).formed }

pub returns-then-out-n : goal.returns-then-out-n
returns-then-out-n c =
    let w = rw c.in_ok-s.ensures.ok_part at c.as_array.ensures.cases in
    let n = counted (table_of c.in_ok-s.s.now).buckets c.total-n.ensures.value c.sizes-sizes.ensures in
    rw (← w.same) (refused_short c.args.out.now c.in_ok-s.s.now (sym c.in_ok-asked_table.ensures) (rw (← n) c.if-out-n.true))

pub returns-in_err-s : goal.returns-in_err-s
returns-in_err-s c =
    let v = c.in_err-s.ensures in
    let n = rw v.ok_part at c.as_array.ensures.cases in
    let p = err_from_is_err_and c.from_residual.result c.from_residual.ensures.1 in
    rw (p.1, p.2, size_told v.value v.ok_part) (refused_size c.args.out.now c.args.s.now n)

pub put_all-requires : goal.put_all-requires
put_all-requires c =
    let t = table_of c.in_ok-s.s.now in
    keys_fit t (counted t.buckets c.total-n.ensures.value c.sizes-sizes.ensures) c.split_at_mut-keys.ensures.front_len

pub put_all-requires-2 : goal.put_all-requires-2
unfolding part
put_all-requires-2 c =
    let rest = c.split_at_mut-keys.result.1.now in
    let t = table_of c.in_ok-s.s.now in
    entries_fit t (counted t.buckets c.total-n.ensures.value c.sizes-sizes.ensures)
    (length_part rest 0 (c.total-n.result * 15 - 0) (omega (arith, c.if-out-n.false, c.split_at_mut-keys.ensures.back_len, c.split_at_mut-front.ensures.back_len)) ∙ omega arith)

pub returns : goal.returns
returns c =
    let a = c.args in
    let s = c.in_ok-s.s.now in
    let w = rw c.in_ok-s.ensures.ok_part at c.as_array.ensures.cases in
    let n = counted (table_of s).buckets c.total-n.ensures.value c.sizes-sizes.ensures in
    let room : num_buckets + length (all_nodes (table_of s)) * node_size ≤ length a.out.now = rw (← n) c.if-out-n.false in
    rw (← w.same)
    (answered a.out.now s (sym c.in_ok-asked_table.ensures) room n
    (saved_put (table_of s) a.out.now n (omega arith) (c.split_at_mut-keys.ensures.back ∙ ap (drop (c.total-n.result * 32)) c.split_at_mut-front.ensures.back)
    (c.copy_from_slice.ensures.after ∙ c.sizes-sizes.ensures) c.put_all.ensures c.put_all-2.ensures))
