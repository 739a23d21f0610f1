use Rattle.std.proofs.Common.{ap}
use borrow.Author.Tests.{lt-ltb}
use Rattle.model.specs.Session.{year_start}
use Rattle.session.proofs.YearTable.{entry_at}
use Rattle.session.proofs.year_start.Goals as goal

pub returns : goal.returns
returns c = rw (entry_at, lt-ltb c.from.result 400 (rw c.from.ensures c.requires)) (ap year_start c.from.ensures)
