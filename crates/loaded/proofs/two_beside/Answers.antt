use Rattle.std.proofs.Common.{Bool, ◌&&◌, refl, ◌∙◌, arith, rules}
use Rattle.std.proofs.lemmas.Iterator.{YieldsList-from_range}
use Rattle.std.proofs.lemmas.Iterator.Search.{any_from_yields_List}
use Rattle.model.specs.Node.{Node}
use Rattle.model.specs.Filter.{counts}
use Rattle.model.specs.Layout.{nodes_in}
use Rattle.node.specs.Node.{value_of}
use Rattle.well_formed.specs.Tests.{node_at}
use Rattle.loaded.specs.Load.{third_of, two_beside}
use Rattle.loaded.proofs.Nets.{any_listed}
use Rattle.loaded.proofs.two_beside.Goals as goal

pub returns : goal.returns
unfolding two_beside
returns c =
    let a = c.args in
    let bs = a.nodes.bucket.now in
    let passes : Node → Bool = λ n. counts (value_of a.a) n.value && third_of (value_of a.a) n.value (nodes_in bs) in
    any_from_yields_List (λ j. passes (node_at bs j)) _ _ _ c.any.ensures.ran (YieldsList-from_range 0 c.args.nodes.count _ refl (omega arith)) (λ x b q k. search rules)
    ∙ any_listed passes bs c.args.nodes.counts
