use Rattle.std.proofs.Common.{arith}
use Rattle.header.proofs.Header.{settings_in_range}
use Rattle.header.proofs.settings.Goals as goal

pub returns-clause-in_range : goal.returns-clause-in_range
returns-clause-in_range c h = let r = settings_in_range c.args.s.now h in (omega (arith, r.0, c.from.ensures), r.1)
