use Rattle.std.proofs.Common.{sym, ap, ◌∙◌}
use Rattle.laws.proofs.Index.{index_of, bucket_index_lem}
use Rattle.key.specs.Key.{num}
use Rattle.key.proofs.Leading.{index_of_distance}
use Rattle.key.proofs.Key.bucket_index.Goals as goal

pub returns : goal.returns
returns c =
    c.index.ensures
    ∙ sym (index_of_distance (num c.distance.result))
    ∙ ap index_of c.distance.ensures
    ∙ sym (bucket_index_lem (num c.args.self) (num c.args.other))
