use Rattle.std.proofs.Common.{refl, ◌∙◌, arith, rules}
use Rattle.std.proofs.lemmas.Iterator.{YieldsList-from_range}
use Rattle.std.proofs.lemmas.Iterator.Search.{all_from_yields_List}
use Rattle.model.specs.Table.{num_buckets}
use Rattle.well_formed.specs.Tests.{bucket_at_formed}
use Rattle.well_formed.proofs.Shown.{all_numbers}
use Rattle.well_formed.proofs.buckets_formed.Goals as goal

pub returns : goal.returns
unfolding bucket_at_formed
returns c =
    let t = bucket_at_formed c.args.s.now in
    all_from_yields_List t _ _ c.all.result c.all.ensures.ran (YieldsList-from_range 0 num_buckets num_buckets refl (omega arith)) (λ x b q k. search rules) ∙ all_numbers t num_buckets
