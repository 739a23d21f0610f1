use Rattle.std.proofs.Common.{◌≡◌, true}
use Rattle.model.specs.Base.{all_below}
use Rattle.model.specs.Saved.{sizes_below}
use Rattle.key.specs.Key.{num}
use Rattle.bucket.specs.Settings.{settings_of}
use Rattle.loaded.specs.Load.{bucket_fits}
use Rattle.loaded.proofs.buckets_fit.Given as goal

abbrev pub invariant-loop-i : goal.invariant-loop-i
invariant-loop-i l = (l.from ≡ sizes_below l.saved.bytes.now l.i) × (all_below l.i (bucket_fits (num l.local) (settings_of l.settings) l.saved.bytes.now) ≡ true)
