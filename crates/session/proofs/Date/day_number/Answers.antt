use Rattle.std.proofs.Common.{◌-◌, arith}
use Rattle.model.specs.Session.{leap, day_number}
use Rattle.laws.proofs.Calendar.{date_parts, year_at_most}
use Rattle.session.specs.Hours.{date_of}
use Rattle.session.proofs.Months.{start_at_most, month_at_most}
use Rattle.session.proofs.Date.day_number.Goals as goal

pub overflow_add-in_year : goal.overflow_add-in_year
overflow_add-in_year c = let d = c.args.self in let p = date_parts (date_of d) c.requires in omega (arith, c.month_start.ensures, start_at_most (leap d.year) (d.month - 1) (omega arith), month_at_most (leap d.year) (d.month - 1) (omega arith))

pub overflow_add-result : goal.overflow_add-result
overflow_add-result c = let d = c.args.self in let p = date_parts (date_of d) c.requires in omega (arith, c.year_start.ensures, year_at_most (d.year - 2000), c.month_start.ensures, start_at_most (leap d.year) (d.month - 1) (omega arith), month_at_most (leap d.year) (d.month - 1) (omega arith))

pub returns : goal.returns
unfolding day_number
returns c = let d = c.args.self in let p = date_parts (date_of d) c.requires in omega (arith, c.year_start.ensures, c.month_start.ensures)
