use Rattle.std.proofs.Common.{rules, ◌∙◌, map}
use Rattle.std.proofs.lemmas.Iterator.{YieldsList-from_slice}
use Rattle.std.proofs.lemmas.Iterator.Consumers.{YieldsList-from_filter, count_from_yields_List}
use borrow.Author.Tests.{tests, eq-eqb, ne_eqb}
use Rattle.model.specs.Filter.{counts}
use Rattle.model.specs.Node as model
use Rattle.node.specs.declared.Node.{Node}
use Rattle.node.specs.Node.{node_of, value_of}
use Rattle.laws.proofs.Lists.{filter_select}
use Rattle.places.proofs.Laws.{passes_plain, passes_counted}
use Rattle.places.proofs.ip_filter.Goals as goal

pub returns-then-value-ne1 : goal.returns-then-value-ne1
returns-then-value-ne1 c =
    passes_plain c.args.value c.args.limit (map node_of c.args.nodes.now) (ne_eqb _ _ c.if-value-ne1.true)

pub returns : goal.returns
returns c =
    passes_counted c.args.value c.args.limit (map node_of c.args.nodes.now) (eq-eqb _ _ c.if-value-ne1.false) c.count-found.result
    (count_from_yields_List c.filter.result _ c.count-found.ensures.ran
    (YieldsList-from_filter _ (λ (m : Node). counts (value_of c.args.value) (node_of m).value) (YieldsList-from_slice c.args.nodes.now cc) c.filter.ensures.closure (λ x b q k. search (rules, tests)))
    ∙ filter_select (λ (m : model.Node). counts (value_of c.args.value) m.value) node_of c.args.nodes.now)
