use Rattle.std.proofs.Common.{arith, sym, ◌∙◌}
use Rattle.laws.proofs.Calendar.{year_at_most}
use Rattle.years.proofs.Next.{next_leap, next_plain}
use Rattle.years.proofs.next_start.Goals as goal

pub overflow_add-result : goal.overflow_add-result
overflow_add-result c = omega (arith, year_at_most c.args.n)

pub overflow_add-result-2 : goal.overflow_add-result-2
overflow_add-result-2 c = omega (arith, year_at_most c.args.n)

pub returns-then-is_leap : goal.returns-then-is_leap
returns-then-is_leap c = next_leap c.args.n c.requires.1 (sym c.is_leap.ensures ∙ c.if-is_leap.true)

pub returns : goal.returns
returns c = next_plain c.args.n c.requires.1 (sym c.is_leap.ensures ∙ c.if-is_leap.false)
