use Rattle.std.proofs.Common.{sym, ◌∙◌}
use Rattle.loaded.proofs.Asked.{fits_nothing, fits_length, fits_by}
use Rattle.loaded.proofs.fitting.Goals as goal

pub returns-then-not-holds_nothing : goal.returns-then-not-holds_nothing
returns-then-not-holds_nothing c = fits_nothing c.args.table.s.now c.args.bytes.now (sym c.holds_nothing.ensures ∙ c.if-not-holds_nothing.true)

pub returns-in_err-saved : goal.returns-in_err-saved
returns-in_err-saved c =
    rw c.from_residual.ensures (fits_length c.args.table.s.now c.args.bytes.now (sym c.holds_nothing.ensures ∙ c.if-not-holds_nothing.false) c.in_err-saved.ensures)

pub returns-then-not-buckets_fit : goal.returns-then-not-buckets_fit
returns-then-not-buckets_fit c =
    let b = c.in_ok-saved.saved in
    let e = sym c.holds_nothing.ensures ∙ c.if-not-holds_nothing.false in
    sym (c.buckets_fit.ensures ∙ fits_by c.args.table.s.now c.args.bytes.now c.in_ok-saved.ensures b.counted b.sized c.local_key.ensures c.settings.ensures.settings e) ∙ c.if-not-buckets_fit.true

pub returns : goal.returns
returns c =
    let b = c.in_ok-saved.saved in
    let e = sym c.holds_nothing.ensures ∙ c.if-not-holds_nothing.false in (
      sym (c.buckets_fit.ensures ∙ fits_by c.args.table.s.now c.args.bytes.now c.in_ok-saved.ensures b.counted b.sized c.local_key.ensures c.settings.ensures.settings e) ∙ c.if-not-buckets_fit.false,
      c.in_ok-saved.ensures,
    )
