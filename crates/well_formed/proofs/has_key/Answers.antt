use Rattle.std.proofs.Common.{sym, ◌∙◌, arith}
use borrow.Author.Tests.{ne_eqb}
use Rattle.model.specs.Bytes.{part}
use Rattle.key.specs.Key.{Words}
use Rattle.well_formed.proofs.Places.{last_differs}
use Rattle.well_formed.proofs.has_key.Goals as goal

pub returns-else-get_u64-key : goal.returns-else-get_u64-key
unfolding part
returns-else-get_u64-key c =
    let a = c.args in
    let w : Words a.key = omega arith in
    ne_eqb _ _ c.if-get_u64-key.false ∙ sym (last_differs a.s.now _ a.key c.requires (λ i. (c.type_inv.s i).fits) w c.get_u64.ensures c.if-get_u64-key.false)
