use Rattle.std.proofs.Common.{ap, ◌∙◌}
use Rattle.model.specs.Session.{is_date}
use Rattle.session.specs.declared.Date.{Date}
use Rattle.session.specs.Hours.{date_of}
use Rattle.session.proofs.is_date.Goals as goal

pub returns : goal.returns
returns c = c.is_valid.ensures ∙ ap (λ (d : Date). is_date (date_of d)) c.from.ensures
