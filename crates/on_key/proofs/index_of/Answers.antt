use Rattle.std.proofs.Common.{ℕ, ap, ◌∙◌}
use Rattle.model.specs.Key.{bucket_index}
use Rattle.key.specs.Key.{num}
use Rattle.on_key.proofs.index_of.Goals as goal

pub returns : goal.returns
returns c = c.bucket_index.ensures ∙ ap (λ (k : ℕ). bucket_index k (num c.args.key)) c.local_key.ensures
