use Rattle.std.proofs.Common.{rules, ◌∙◌}
use borrow.Author.Tests.{tests}
use Rattle.std.proofs.lemmas.Iterator.{YieldsList-from_slice}
use Rattle.std.proofs.lemmas.Iterator.Consumers.{YieldsList-from_filter, count_from_yields_List}
use Rattle.model.specs.Node.{connected_incoming}
use Rattle.node.specs.declared.Node.{Node}
use Rattle.node.specs.Node.{node_of}
use Rattle.laws.proofs.Lists.{filter_select}
use Rattle.places.proofs.incoming.Goals as goal

pub returns : goal.returns
returns c =
    count_from_yields_List c.filter.result _ c.count.ensures.ran
    (YieldsList-from_filter _ (λ (m : Node). connected_incoming (node_of m)) (YieldsList-from_slice c.args.nodes.now cc) c.filter.ensures.closure (λ x b q k. search (rules, tests)))
    ∙ filter_select connected_incoming node_of c.args.nodes.now
