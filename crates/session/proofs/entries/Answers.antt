use Rattle.std.proofs.Common.{◌∙◌}
use Rattle.session.proofs.Threes.{chunks_are_entries}
use Rattle.session.proofs.entries.Goals as goal

pub returns : goal.returns
returns c = c.as_chunks.ensures.front ∙ chunks_are_entries c.args.numbers.now
