use Rattle.std.proofs.Common.{rules, ◌-◌, arith}
use Rattle.node.specs.Node.{zero_node}
use Rattle.places.proofs.Moves.{insert_turned}
use Rattle.places.proofs.insert_at.Goals as goal

pub returns : goal.returns
returns c = insert_turned c.args.pos (16 - c.args.pos) (15 - c.args.pos) 16 c.args.node zero_node c.args.nodes c.rotate_right.new.self (search rules) (omega arith) (omega arith) c.rotate_right.ensures.after
