use Rattle.std.proofs.Common.{Bool, refl, sym, ◌∙◌, arith, rules}
use Rattle.std.proofs.lemmas.Iterator.{YieldsList-from_range}
use Rattle.std.proofs.lemmas.Iterator.Search.{any_from_yields_List}
use Rattle.model.specs.Node.{Node}
use Rattle.model.specs.Layout.{nodes_in}
use Rattle.well_formed.specs.Tests.{node_at}
use Rattle.loaded.specs.Load.{two_beside}
use Rattle.loaded.proofs.Crowded.{spread_in}
use Rattle.loaded.proofs.Nets.{any_listed, three_by}
use Rattle.loaded.proofs.three_of_a_net.Goals as goal

pub returns-then-not-is_crowded : goal.returns-then-not-is_crowded
returns-then-not-is_crowded c = sym (spread_in c.args.nodes.bucket.now (rw c.args.nodes.counts at (c.is_crowded.ensures c.if-not-is_crowded.true)))

pub returns : goal.returns
returns c =
    let bs = c.args.nodes.bucket.now in
    let passes : Node → Bool = λ n. two_beside n.value (nodes_in bs) in
    any_from_yields_List (λ j. passes (node_at bs j)) _ _ _ c.any.ensures.ran (YieldsList-from_range 0 c.args.nodes.count _ refl (omega arith)) (λ x b q k. search rules)
    ∙ any_listed passes bs c.args.nodes.counts
    ∙ sym (three_by (nodes_in bs))
