use Rattle.std.proofs.Common.{◌≡◌, List, [], sym, ap, ◌∙◌, rules}
use Rattle.model.specs.Node.{EndedPending}
use Rattle.model.specs.Bucket.{Bucket, num_entries, apply_pending}
use Rattle.model.specs.Layout.{table_of}
use Rattle.on_key.proofs.Due.{not_due}
use Rattle.visit.proofs.Passes.{due_here}
use Rattle.visit.proofs.given_at.Goals as goal

pub returns-then-not-is_due : goal.returns-then-not-is_due
returns-then-not-is_due c =
    let a = c.args in
    let t = table_of a.s.now in
    let e : apply_pending t.settings.bucket a.time (t.buckets a.i) ≡ (t.buckets a.i, []) = not_due t.settings.bucket a.time (t.buckets a.i) (due_here a.s.now a.time a.i c.bucket.ensures c.is_due.ensures c.if-not-is_due.true) in
    record {
      count = c.from.ensures ∙ c.size_at.ensures ∙ ap (λ (r : Bucket × List EndedPending). num_entries r.0) (sym e);
      records = search rules;
      placed = search rules;
      one = search rules;
    }
