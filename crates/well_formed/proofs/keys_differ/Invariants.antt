use Rattle.std.proofs.Common.{◌≡◌, ℕ, ◌<◌, length, get_or, true, false}
use Rattle.model.specs.Base.{all_below}
use Rattle.well_formed.specs.Tests.{differs}
use Rattle.well_formed.proofs.Places.{last_at}
use Rattle.well_formed.proofs.keys_differ.Given as goal

-- the last byte of each key before j is marked
abbrev pub invariant-loop-j : goal.invariant-loop-j
invariant-loop-j l =
    (length l.seen ≡ 256) × (l.ok ≡ all_below l.j (differs l.nodes.bucket.now)) × ((k : ℕ) → k < l.j → get_or l.seen (last_at l.nodes.bucket.now k) false ≡ true)
