use Rattle.std.proofs.Common.{ap, ◌∙◌}
use mir.Val.{bool_byte}
use Rattle.node.specs.Refusal.{failed_of}
use Rattle.on_key.proofs.Stored.{room_asked, has_room}
use Rattle.explain.proofs.Ends.{refused_exit, refused_queue, refused_hours, answered}
use Rattle.explain.proofs.ended.Goals as goal

pub returns-in_err-asked_queue : goal.returns-in_err-asked_queue
returns-in_err-asked_queue c =
    refused_exit _ _ c.from_residual.ensures.1
    (refused_queue _ _ _ _ _ (room_asked c.args.s.now c.args.applied (c.from.ensures ∙ ap bool_byte c.is_some.ensures) c.in_err-asked_queue.ensures))

pub returns-in_err-asked : goal.returns-in_err-asked
returns-in_err-asked c =
    refused_exit _ _ c.from_residual-in_err-asked.ensures.1
    (refused_hours _ _ _ _ (has_room _ (room_asked c.args.s.now c.args.applied (c.from.ensures ∙ ap bool_byte c.is_some.ensures) c.in_ok-asked_queue.ensures)) _
    (ap failed_of c.in_err-asked.was))

pub returns : goal.returns
returns c =
    answered _ _ _ _ (has_room _ (room_asked c.args.s.now c.args.applied (c.from.ensures ∙ ap bool_byte c.is_some.ensures) c.in_ok-asked_queue.ensures)) (ap failed_of c.in_ok-asked.was)
    c.put_line.ensures.next c.put_line.ensures.output
