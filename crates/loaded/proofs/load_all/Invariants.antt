use Rattle.std.proofs.Common.{◌≡◌}
use Rattle.model.specs.Saved.{sizes_below}
use Rattle.loaded.proofs.Filled.{Filling}
use Rattle.loaded.proofs.load_all.Given as goal

abbrev pub invariant-loop-i : goal.invariant-loop-i
invariant-loop-i l = (l.from ≡ sizes_below l.saved.bytes.now l.i) × Filling l.fn.s l.saved.bytes.now l.i l.s
