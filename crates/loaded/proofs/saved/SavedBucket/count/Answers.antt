use Rattle.std.proofs.Common.{arith}
use Rattle.loaded.proofs.Built.{bucket_within}
use Rattle.loaded.proofs.saved.SavedBucket.count.Goals as goal

pub returns-clause-within : goal.returns-clause-within
returns-clause-within c =
    let b = c.args.self in
    omega (arith, c.from.ensures, bucket_within b.saved.bytes.now b.saved.nodes b.saved.counted b.saved.sized b.from b.i b.below b.start)
