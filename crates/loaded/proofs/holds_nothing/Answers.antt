use Rattle.std.proofs.Common.{refl, ◌∙◌, arith, rules}
use Rattle.std.proofs.lemmas.Iterator.{YieldsList-from_range}
use Rattle.std.proofs.lemmas.Iterator.Search.{all_from_yields_List}
use Rattle.model.specs.Table.{num_buckets}
use Rattle.well_formed.proofs.Shown.{all_numbers}
use Rattle.loaded.proofs.Asked.{empty_at, holds_records, holds_all}
use Rattle.loaded.proofs.holds_nothing.Goals as goal

pub returns-then-s-ne0 : goal.returns-then-s-ne0
returns-then-s-ne0 c = holds_records c.args.table.s.now (search rules) c.args.table.formed c.if-s-ne0.true

pub returns : goal.returns
unfolding empty_at
returns c =
    let s = c.args.table.s.now in
    all_from_yields_List (empty_at s) _ _ c.all.result c.all.ensures.ran (YieldsList-from_range 0 num_buckets num_buckets refl (omega arith)) (λ x b q k. search rules)
    ∙ all_numbers (empty_at s) num_buckets
    ∙ holds_all s (search rules) c.args.table.formed c.if-s-ne0.false
