use Rattle.std.proofs.Common.{◌≡◌, sym, arith}
use Rattle.model.specs.Table.{num_buckets}
use Rattle.loaded.proofs.Built.{below_none, below_next}
use Rattle.loaded.proofs.Filled.{filling_none, filling_zero, filling_next, filling_all}
use Rattle.loaded.proofs.load_all.Goals as goal

pub loop-i-init : goal.loop-i-init
loop-i-init c = (sym (below_none _), filling_none _ _ c.requires.blank)

pub build-requires : goal.build-requires
build-requires c =
    let i = c.loop-i.i in
    record {
      bucket_value = rw c.bucket_range.ensures (filling_zero c.args.s.now c.args.saved.bytes.now i c.loop-i-test.true _ c.loop-i.invariant.1);
      i_bound = c.requires.held i c.loop-i-test.true;
    }

pub loop-i-preserved : goal.loop-i-preserved
loop-i-preserved c =
    let b = c.args.saved in
    let l = c.loop-i in (
      omega (arith, below_next b.bytes.now l.i, c.count.ensures.count),
      rw c.bucket_range.ensures (filling_next c.args.s.now b.bytes.now b.counted b.sized c.requires.held l.i c.loop-i-test.true _ l.invariant.1 c.build.ensures),
    )

pub returns : goal.returns
returns c =
    let e : c.loop-i.i ≡ num_buckets = omega arith in
    filling_all c.args.s.now c.args.saved.bytes.now _ (rw e at c.loop-i.invariant.1)
