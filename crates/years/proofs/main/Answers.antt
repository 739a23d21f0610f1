use Rattle.std.proofs.Common.{rules}
use Rattle.model.specs.Session.{year_start}
use Rattle.years.proofs.main.Goals as goal

pub loop-n-init : goal.loop-n-init
unfolding year_start
loop-n-init c = search rules
