use Rattle.std.proofs.Common.{sym, rules}
use Rattle.model.specs.Bytes.{Bytes}
use Rattle.model.specs.Call.{Call}
use Rattle.on_key.proofs.Questions.{passed_table}
use Rattle.on_key.proofs.Ended.{refused_exit, refused_size}
use Rattle.loaded.proofs.Whole.{unfit_told, read_refused, read_unfit, read_held, read_blank, read_loaded}
use Rattle.loaded.proofs.read.Goals as goal
use Rattle.loaded.proofs.read.Goals.{In_ok-s}

-- what stands in the storage are bytes
known : (c : In_ok-s) → Bytes c.in_ok-s.s.now
known c i = search rules

pub returns-in_err-s : goal.returns-in_err-s
returns-in_err-s c =
    let v = c.in_err-s.ensures in
    refused_size _ (Call.read c.args.bytes.now) c.from_residual.result v.value v.ok_part (rw v.ok_part at c.as_mut_array.ensures.cases) c.from_residual.ensures.1

pub returns-in_err-asked_table : goal.returns-in_err-asked_table
returns-in_err-asked_table c =
    let w = rw c.in_ok-s.ensures.ok_part at c.as_mut_array.ensures.cases in
    rw (← w.same)
    (refused_exit _ _ _ c.from_residual-in_err-asked_table.ensures.1 (read_refused c.in_ok-s.s.now c.args.bytes.now _ (sym c.in_err-asked_table.ensures)))

pub invariant_of-fitting : goal.invariant_of-fitting
invariant_of-fitting c = record { formed = (passed_table c.in_ok-s.s.now (sym c.in_ok-asked_table.ensures)).formed }

pub returns-in_err-saved : goal.returns-in_err-saved
returns-in_err-saved c =
    let w = rw c.in_ok-s.ensures.ok_part at c.as_mut_array.ensures.cases in
    let v = c.in_err-saved.ensures in
    rw (← w.same)
    (refused_exit _ _ _ c.from_residual-in_err-saved.ensures.1
    (rw (unfit_told v.value v.ok_part) (read_unfit c.in_ok-s.s.now c.args.bytes.now (known (goal.at.returns-in_err-saved c).In_ok-s) (sym c.in_ok-asked_table.ensures) (rw v.ok_part at c.fitting.ensures))))

pub load_all-requires-clause-held : goal.load_all-requires-clause-held
load_all-requires-clause-held c =
    let f = rw c.in_ok-saved.ensures.ok_part at c.fitting.ensures in
    read_held c.in_ok-s.s.now c.args.bytes.now (known (goal.at.load_all-requires-clause-held c).In_ok-s) (sym c.in_ok-asked_table.ensures) (λ i. (c.type_inv.bytes i).fits) f.0 f.1

pub load_all-requires-clause-blank : goal.load_all-requires-clause-blank
load_all-requires-clause-blank c =
    let f = rw c.in_ok-saved.ensures.ok_part at c.fitting.ensures in
    read_blank c.in_ok-s.s.now c.args.bytes.now (known (goal.at.load_all-requires-clause-blank c).In_ok-s) (sym c.in_ok-asked_table.ensures) (λ i. (c.type_inv.bytes i).fits) f.0

pub returns : goal.returns
returns c =
    let w = rw c.in_ok-s.ensures.ok_part at c.as_mut_array.ensures.cases in
    let f = rw c.in_ok-saved.ensures.ok_part at c.fitting.ensures in
    rw (← w.same)
    (read_loaded c.in_ok-s.s.now c.args.bytes.now (known (goal.at.returns c).In_ok-s) (sym c.in_ok-asked_table.ensures) (λ i. (c.type_inv.bytes i).fits) f.0 f.1 c.in_ok-saved.saved.counted
    c.load_all.ensures)
