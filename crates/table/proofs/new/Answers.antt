use Rattle.std.proofs.Common.{ℕ, ◌≡◌, ◌<◌, ◌^◌, length, ap, ◌∙◌, arith}
use borrow.Author.Tests.{eq-eqb, ne_eqb}
use Rattle.model.specs.Sizes.{time_size, storage_size}
use Rattle.model.specs.Call.{Call}
use Rattle.model.specs.Step.{settings_of}
use Rattle.model.specs.Table.{empty_table}
use Rattle.model.specs.Layout.{bytes_of}
use Rattle.on_key.proofs.Ended.{refusal_told, refused_exit, refused_size}
use Rattle.table.proofs.Whole.{new_key, new_codes, new_made}
use Rattle.table.proofs.new.Goals as goal

pub returns-in_err-s : goal.returns-in_err-s
returns-in_err-s c =
    let a = c.args in
    refused_size _ (Call.new a.local_key.now a.pending_timeout a.max_incoming a.table_filter a.bucket_filter) _ c.in_err-s.ensures.value c.in_err-s.ensures.ok_part
    (rw c.in_err-s.ensures.ok_part at c.as_mut_array.ensures.cases) c.from_residual.ensures.1

pub returns-in_err-key : goal.returns-in_err-key
returns-in_err-key c =
    let a = c.args in
    let w = rw c.in_ok-s.ensures.ok_part at c.as_mut_array.ensures.cases in
    let l : length c.in_ok-s.s.now ≡ storage_size = ap length w.same ∙ w.long in
    let n = rw c.in_err-key.ensures.ok_part at c.as_array.ensures.cases in
    rw (← w.same)
    (refused_exit _ _ _ c.from_residual-in_err-key.ensures.1
    (rw (refusal_told c.in_err-key.ensures.value c.in_err-key.ensures.ok_part)
    (new_key c.in_ok-s.s.now a.local_key.now a.pending_timeout a.max_incoming a.table_filter a.bucket_filter (eq-eqb _ _ l) (ne_eqb _ _ n))))

pub returns-then-not-codes : goal.returns-then-not-codes
returns-then-not-codes c =
    let a = c.args in
    let w = rw c.in_ok-s.ensures.ok_part at c.as_mut_array.ensures.cases in
    let l : length c.in_ok-s.s.now ≡ storage_size = ap length w.same ∙ w.long in
    let k = rw c.in_ok-key.ensures.ok_part at c.as_array.ensures.cases in
    rw (← w.same)
    (new_codes c.in_ok-s.s.now a.local_key.now a.pending_timeout a.max_incoming a.table_filter a.bucket_filter (eq-eqb _ _ l) (eq-eqb _ _ k.long) (rw c.from.ensures at c.if-not-codes.true))

pub returns : goal.returns
returns c =
    let a = c.args in
    let w = rw c.in_ok-s.ensures.ok_part at c.as_mut_array.ensures.cases in
    let l : length c.in_ok-s.s.now ≡ storage_size = ap length w.same ∙ w.long in
    let k = rw c.in_ok-key.ensures.ok_part at c.as_array.ensures.cases in
    let word : a.pending_timeout < 256 ^ time_size = omega arith in
    rw (← w.same)
    (new_made c.in_ok-s.s.now a.local_key.now a.pending_timeout a.max_incoming a.table_filter a.bucket_filter (eq-eqb _ _ l) (eq-eqb _ _ k.long) (rw c.from.ensures at c.if-not-codes.false)
    l ((λ i. (c.type_inv.local_key i).fits), word) _
    (c.clear.ensures ∙ ap (λ (n : ℕ). bytes_of (empty_table (settings_of n a.pending_timeout a.max_incoming a.table_filter a.bucket_filter))) (rw k.same at c.from_bytes.ensures)))
