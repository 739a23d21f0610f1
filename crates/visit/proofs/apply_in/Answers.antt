use Rattle.std.proofs.Common.{List, ◌∙◌}
use mathlib.Core.Path.{ap₂}
use Rattle.model.specs.Node.{EndedPending}
use Rattle.model.specs.Bucket.{Bucket}
use Rattle.on_key.specs.Answers.{rewritten}
use Rattle.visit.proofs.Passes.{due_here, visit_room, visit_written, visit_unwritten}
use Rattle.visit.proofs.apply_in.Goals as goal

pub write_back-requires-clause-room : goal.write_back-requires-clause-room
write_back-requires-clause-room c =
    visit_room c.args.s.now c.args.time c.args.i _ c.apply_at-step.ensures.records c.requires.s_len_bound

pub returns-then-is_due : goal.returns-then-is_due
returns-then-is_due c =
    let a = c.args in
    let x = c.apply_at-step.ensures in
    c.write_back.ensures ∙ ap₂ (λ (b : Bucket) (rs : List EndedPending). rewritten a.s.now a.i b rs) x.bucket.bucket x.records
    ∙ visit_written a.s.now a.time a.i

pub returns-else-is_due : goal.returns-else-is_due
returns-else-is_due c =
    let a = c.args in
    visit_unwritten a.s.now a.time a.i c.fits-s c.requires.ready c.requires.s_len_bound
    (due_here a.s.now a.time a.i c.bucket.ensures c.is_due.ensures c.if-is_due.false)
