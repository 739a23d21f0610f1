use Rattle.std.proofs.Common.{ℕ, ap, ◌∙◌}
use Rattle.model.specs.Key.{distance}
use Rattle.model.specs.Visit.{visits}
use Rattle.key.specs.Key.{num}
use Rattle.listing.specs.Listed.{visit_order_by}
use Rattle.listing.proofs.order_of.Goals as goal

pub returns-in-Nodes : goal.returns-in-Nodes
unfolding visit_order_by
returns-in-Nodes c = rw c.in-Nodes.is

pub returns-in-Closest : goal.returns-in-Closest
unfolding visit_order_by
returns-in-Closest c =
    c.new.ensures ∙ ap visits (c.distance-distance.ensures ∙ ap (λ (x : ℕ). distance x (num c.in-Closest.target)) c.local_key.ensures) ∙ (rw c.in-Closest.is)
