use Rattle.std.proofs.Common.{rules, ◌≡◌, ◌-◌, [], ◌∷◌, ◌++◌, length, ap, ◌∙◌, arith}
use Rattle.node.specs.declared.Node.{Node}
use Rattle.node.specs.Node.{zero_node}
use Rattle.places.specs.Places.{remove_at}
use Rattle.places.proofs.Moves.{remove_turned}
use Rattle.places.proofs.remove_at.Goals as goal

pub returns : goal.returns
returns c =
    let len : length c.args.nodes ≡ 16 = search rules in
    remove_turned c.args.pos (16 - c.args.pos) 15 c.zero.result zero_node c.args.nodes c.rotate_left.new.self len (omega arith) (omega arith) c.rotate_left.ensures.after
    ∙ ap (λ (z : Node). remove_at c.args.pos c.args.nodes ++ (z ∷ [])) c.zero.ensures
