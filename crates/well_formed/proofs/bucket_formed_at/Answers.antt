use Rattle.std.proofs.Common.{arith, List, ℕ, sym, ap, subst, ◌∙◌, ◌≡◌, true}
use Rattle.model.specs.Bytes.{part}
use Rattle.model.specs.Sizes.{bucket_size, bucket_at}
use Rattle.model.specs.Formed.{are_zero, bucket_formed}
use Rattle.laws.proofs.Parts.{length_part}
use Rattle.key.specs.Key.{num}
use Rattle.well_formed.specs.Tests.{of_index}
use Rattle.well_formed.proofs.Buckets.{formed_at, formed_empty}
use Rattle.well_formed.proofs.bucket_formed_at.Goals as goal

pub returns-then-is_empty : goal.returns-then-is_empty
returns-then-is_empty c =
    let e = c.bucket-bucket.ensures in
    sym (formed_empty c.args.s.now c.args.i (length_part c.args.s.now (bucket_at c.args.i) bucket_size (omega arith))
    (subst (λ (s : List ℕ). are_zero s 0 810 ≡ true) e (c.is_empty.ensures c.if-is_empty.true)))

pub returns : goal.returns
unfolding part
returns c =
    c.parts_formed.ensures ∙ ap (bucket_formed (of_index (num c.load.result) c.args.i) c.from.result) c.bucket-bucket.ensures
    ∙ formed_at c.args.s.now c.args.i c.load.ensures c.from.ensures
