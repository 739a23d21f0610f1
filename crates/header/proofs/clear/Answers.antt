use Rattle.std.proofs.Common.{length}
use Rattle.key.specs.Key.{num}
use Rattle.header.proofs.New.{cleared}
use Rattle.header.proofs.clear.Goals as goal

pub returns : goal.returns
returns c =
    let a = c.args in
    let r = c.requires in
    cleared (length a.s.now) c.told-s (num a.local) a.pending_timeout a.max_incoming a.table_filter a.bucket_filter r.table_filter_value r.bucket_filter_value _ c.put_zeros.ensures
    c.store.ensures c.put_u64.ensures
