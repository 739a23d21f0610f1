use Rattle.std.proofs.Common.{◌≡◌, true, false, sym, arith}
use Rattle.model.specs.Table.{num_buckets}
use Rattle.laws.proofs.Lists.{all_none, all_more, all_fails}
use Rattle.key.specs.Key.{num}
use Rattle.bucket.specs.Settings.{settings_of}
use Rattle.loaded.specs.Load.{bucket_fits}
use Rattle.loaded.proofs.Built.{below_none, below_next}
use Rattle.loaded.proofs.buckets_fit.Goals as goal

pub loop-i-init : goal.loop-i-init
loop-i-init c = (sym (below_none _), all_none _)

pub returns-then-not-bucket_fits : goal.returns-then-not-bucket_fits
returns-then-not-bucket_fits c =
    let a = c.args in
    let p = bucket_fits (num a.local) (settings_of a.settings) a.saved.bytes.now in
    let e : p c.loop-i.i ≡ false = cc in
    sym (all_fails num_buckets p c.loop-i.i c.loop-i-test.true e)

pub loop-i-preserved : goal.loop-i-preserved
loop-i-preserved c =
    let a = c.args in
    let l = c.loop-i in
    let e : bucket_fits (num a.local) (settings_of a.settings) a.saved.bytes.now l.i ≡ true = cc in
    (omega (arith, below_next a.saved.bytes.now l.i, c.count-from.ensures.count), rw (all_more, l.invariant.1) e)

pub returns : goal.returns
returns c =
    let e : c.loop-i.i ≡ num_buckets = omega arith in
    sym (rw e at c.loop-i.invariant.1)
