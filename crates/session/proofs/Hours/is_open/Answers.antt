use Rattle.session.specs.Hours.{hours_of}
use Rattle.session.proofs.Fits.{fits-date}
use Rattle.session.proofs.Hours.is_open.Goals as goal

pub weekday-requires : goal.weekday-requires
weekday-requires c = fits-date (hours_of c.args.self) c.requires
