use Rattle.std.proofs.Common.{rules}
use borrow.Author.Tests.{tests}
use Rattle.std.proofs.lemmas.Iterator.{YieldsList-from_slice}
use Rattle.std.proofs.lemmas.Iterator.Search.{position_from_yields_List}
use Rattle.model.specs.Base.{same}
use Rattle.key.specs.Key.{num}
use Rattle.node.specs.declared.Node.{Node}
use Rattle.places.proofs.Laws.{place_found}
use Rattle.places.proofs.position.Goals as goal

pub returns : goal.returns
returns c =
    place_found (λ (n : Node). same (num n.key) (num c.args.key)) c.args.nodes.now c.position.result
    (position_from_yields_List (λ (n : Node). same (num n.key) (num c.args.key)) _ _ c.position.result c.position.ensures.ran (YieldsList-from_slice c.args.nodes.now cc) (λ x b q k. search (rules, tests)))
