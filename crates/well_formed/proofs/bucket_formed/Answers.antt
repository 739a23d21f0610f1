use Rattle.std.proofs.Common.{sym, ◌∙◌}
use Rattle.well_formed.specs.Index.{has_index}
use Rattle.well_formed.proofs.Buckets.{bucket_zero}
use Rattle.well_formed.proofs.bucket_formed.Goals as goal

pub returns-then-is_empty : goal.returns-then-is_empty
returns-then-is_empty c =
    let a = c.args in
    c.if-is_empty.true ∙ sym (bucket_zero (has_index a.index) a.max_incoming a.bucket.now c.told-bucket (c.is_empty.ensures c.if-is_empty.true))
