use Rattle.std.proofs.Common.{List, ℕ, sym, ap, ◌∙◌}
use Rattle.model.specs.Layout.{bucket_in, table_of}
use Rattle.on_key.specs.Answers.{is_due}
use Rattle.on_key.proofs.Due.{not_due}
use Rattle.on_key.proofs.apply_at.Goals as goal

pub returns : goal.returns
unfolding table_of
returns c =
    let t = table_of c.args.s.now in
    let d = c.if-is_due.ensures ∙ ap (λ (bs : List ℕ). is_due c.args.time (bucket_in bs).pending) c.bucket.ensures in
    let e = not_due t.settings.bucket c.args.time (t.buckets c.args.i) (sym d) in
    record { bucket = rw e c.load_bucket-bucket.ensures; records = rw e }
