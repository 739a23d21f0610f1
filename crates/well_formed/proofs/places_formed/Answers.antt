use Rattle.std.proofs.Common.{rules, ◌∙◌, List, ℕ, Bool, ap, get_or}
use Rattle.std.proofs.lemmas.Iterator.{YieldsList-from_slice}
use Rattle.std.proofs.lemmas.Iterator.Consumers.{YieldsList-from_enumerate}
use Rattle.std.proofs.lemmas.Iterator.Search.{all_from_yields_List}
use Rattle.std.specs.List.{enumerate_from, list_all}
use Rattle.model.specs.Layout.{place_in}
use Rattle.well_formed.specs.Index.{has_index}
use Rattle.well_formed.specs.Tests.{place_formed}
use Rattle.well_formed.proofs.Shown.{all_shown, formed_by, formed_by_lem}
use Rattle.well_formed.proofs.places_formed.Goals as goal

pub returns : goal.returns
unfolding place_formed
returns c =
    let a = c.args in
    let bs : List ℕ = a.nodes.bucket.now in
    let first : ℕ = get_or bs 1 0 in
    let t : ℕ × List ℕ → Bool = formed_by (has_index a.index) first in
    all_from_yields_List t _ _ c.all.result c.all.ensures.ran (YieldsList-from_enumerate (YieldsList-from_slice c.places.result.now cc) (cc)) (λ x b q k. (search rules, search (rules, formed_by_lem)))
    ∙ ap (λ (l : List (List ℕ)). list_all t (enumerate_from 0 l)) c.places.ensures
    ∙ all_shown t a.nodes.count (place_in bs)
