use Rattle.std.proofs.Common.{ℕ, List, ap, ◌∙◌}
use Rattle.model.specs.Bytes.{splice}
use Rattle.model.specs.Sizes.{bucket_at}
use Rattle.model.specs.Layout.{bucket_bytes}
use Rattle.bucket.specs.Bucket.{bucket_of}
use Rattle.bucket.specs.Calls.{records_of}
use Rattle.on_key.proofs.Stored.{room, written_back}
use Rattle.on_key.proofs.write_back.Goals as goal

pub push_record-requires-clause-ended_len_bound : goal.push_record-requires-clause-ended_len_bound
push_record-requires-clause-ended_len_bound c = room c.args.s.now (records_of c.args.applied) c.requires.room

pub returns : goal.returns
returns c =
    c.store_bucket.ensures ∙ ap (λ (r : List ℕ). splice r (bucket_at c.args.i) (bucket_bytes (bucket_of c.args.b.now.bucket))) c.push_record.ensures
    ∙ written_back c.args.s.now (records_of c.args.applied) c.args.i (bucket_of c.args.b.now.bucket)
