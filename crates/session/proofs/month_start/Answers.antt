use Rattle.std.proofs.Common.{◌-◌, arith, sym, ◌∙◌}
use Rattle.model.specs.Session.{leap}
use Rattle.session.proofs.Months.{start_early, start_plain, start_leap}
use Rattle.session.proofs.month_start.Goals as goal
use Rattle.session.proofs.month_start.Goals.{else-month-gt2-via-then-month-gt2+else-is_leap, else-month-gt2-via-else-month-gt2}

pub returns-then-is_leap : goal.returns-then-is_leap
returns-then-is_leap c = rw c.from.ensures (start_leap (leap c.args.year) (c.args.month - 1) (omega arith) (omega arith) (sym c.is_leap.ensures ∙ c.if-is_leap.true))

pub returns : goal.returns
returns c =
    rw c.from.ensures
    (elim c.else-month-gt2.branch [
      | else-month-gt2-via-then-month-gt2+else-is_leap w ↦ start_plain (leap c.args.year) (c.args.month - 1) (omega arith) (sym w.is_leap.ensures ∙ w.if-is_leap.false)
      | else-month-gt2-via-else-month-gt2 w ↦ start_early (leap c.args.year) (c.args.month - 1) (omega arith) (omega arith)
    ])
