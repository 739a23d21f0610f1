use Rattle.std.proofs.Common.{Bool, cond, sym, ap, ◌∙◌}
use mir.Val.{bool_byte}
use Rattle.std.proofs.lemmas.Result.{err_from_is_err_and}
use Rattle.bucket.specs.Bucket.{bucket_of}
use Rattle.bucket.specs.Calls.{records_of}
use Rattle.on_key.specs.Answers.{rewritten}
use Rattle.on_key.proofs.Stored.{room_asked, no_room, has_room}
use Rattle.on_key.proofs.finish.Goals as goal

pub returns-in_err-asked_queue : goal.returns-in_err-asked_queue
returns-in_err-asked_queue c =
    let a = c.args in
    let e = room_asked a.s.now a.applied (c.from.ensures ∙ ap bool_byte c.is_some.ensures) c.in_err-asked_queue.ensures in
    let p = err_from_is_err_and c.from_residual.result c.from_residual.ensures.1 in
    record {
      asked = rw (p.1, p.2) e;
      left = sym (ap (λ (t : Bool). cond t (rewritten a.s.now a.i (bucket_of a.b.now.bucket) (records_of a.applied)) a.s.now) (no_room _ e).0);
    }

pub write_back-requires-clause-room : goal.write_back-requires-clause-room
write_back-requires-clause-room c =
    has_room _ (room_asked c.args.s.now c.args.applied (c.from.ensures ∙ ap bool_byte c.is_some.ensures) c.in_ok-asked_queue.ensures)

pub returns : goal.returns
returns c =
    let a = c.args in
    let e = room_asked a.s.now a.applied (c.from.ensures ∙ ap bool_byte c.is_some.ensures) c.in_ok-asked_queue.ensures in
    record {
      asked = e;
      left = c.write_back.ensures ∙ sym (ap (λ (t : Bool). cond t (rewritten a.s.now a.i (bucket_of a.b.now.bucket) (records_of a.applied)) a.s.now) (has_room _ e));
    }
