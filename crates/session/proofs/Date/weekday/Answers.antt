use Rattle.std.proofs.Common.{arith}
use Rattle.session.specs.Hours.{date_of}
use Rattle.session.proofs.Months.{day_at_most}
use Rattle.session.proofs.Date.weekday.Goals as goal

pub overflow_add-n : goal.overflow_add-n
overflow_add-n c = omega (arith, c.day_number.ensures, day_at_most (date_of c.args.self) c.requires)
