use Rattle.std.proofs.Common.{rules, ◌∙◌, List, ℕ, ap, length, arith}
use Rattle.std.proofs.lemmas.Iterator.{YieldsList-from_slice}
use Rattle.std.proofs.lemmas.Iterator.Consumers.{YieldsList-from_filter, count_from_yields_List}
use Rattle.std.specs.List.{filter}
use Rattle.model.specs.Base.{select, tabulate}
use Rattle.model.specs.Layout.{node_in, nodes_in, place_in}
use Rattle.laws.proofs.Lists.{length_tabulate, map_tabulate, filter_select}
use Rattle.storage.proofs.Nodes.count.Goals as goal

pub returns-clause-value : goal.returns-clause-value
unfolding nodes_in
returns-clause-value g c =
    λ p h.
    let bs : List ℕ = c.args.self.bucket.now in
    count_from_yields_List c.filter.result _ c.count.ensures.ran
    (YieldsList-from_filter _ (λ (bytes : List ℕ). p (node_in bytes)) (YieldsList-from_slice c.places.result.now cc) c.filter.ensures.closure (λ x b q k. (search rules, h x.now b search rules)))
    ∙ (ap (λ (l : List (List ℕ)). length (filter (λ (bytes : List ℕ). p (node_in bytes)) l)) c.places.ensures
    ∙ filter_select p node_in (tabulate c.args.self.count (place_in bs))
    ∙ ap (λ (l : List _). length (select p l)) (map_tabulate node_in c.args.self.count (place_in bs) ∙ ap (λ (n : ℕ). tabulate n (λ i. node_in (place_in bs i))) c.args.self.counts))

pub returns-clause-few : goal.returns-clause-few
returns-clause-few g c =
    let e = ap length c.places.ensures ∙ length_tabulate c.args.self.count (place_in c.args.self.bucket.now) in
    let f = ap (λ i. length i.rest.now) c.filter.ensures.source in
    omega (arith, c.count.ensures.bound, f, c.iter.ensures.len, e, c.args.self.few)
