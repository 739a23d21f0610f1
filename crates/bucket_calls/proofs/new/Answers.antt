use Rattle.std.proofs.Common.{ap, length, ◌∙◌, ◌≡◌}
use Rattle.bucket_calls.specs.Lent.{lent_size}
use Rattle.bucket_calls.proofs.Outcome.{new_size, new_codes, new_made}
use Rattle.bucket_calls.proofs.new.Goals as goal

pub returns-in_err-s : goal.returns-in_err-s
returns-in_err-s c =
    let a = c.args in
    new_size a.pending_timeout a.max_incoming a.filter a.s.now c.in_err-s.ensures.value c.in_err-s.ensures.ok_part (rw c.in_err-s.ensures.ok_part at c.as_mut_array.ensures.cases)
    c.from_residual.result c.from_residual.ensures.1

pub returns-then-not-from-filter : goal.returns-then-not-from-filter
returns-then-not-from-filter c =
    let a = c.args in
    let w = rw c.in_ok-s.ensures.ok_part at c.as_mut_array.ensures.cases in
    let l : length c.in_ok-s.s.now ≡ lent_size = ap length w.same ∙ w.long in
    rw (← w.same) (new_codes a.pending_timeout a.max_incoming a.filter c.in_ok-s.s.now l (rw c.from.ensures at c.if-not-from-filter.true))

pub returns : goal.returns
returns c =
    let a = c.args in
    let w = rw c.in_ok-s.ensures.ok_part at c.as_mut_array.ensures.cases in
    let l : length c.in_ok-s.s.now ≡ lent_size = ap length w.same ∙ w.long in
    rw (← w.same)
    (new_made a.pending_timeout a.max_incoming a.filter c.in_ok-s.s.now l (rw c.from.ensures at c.if-not-from-filter.false) c.put_zeros.ensures c.put_u64.ensures)
