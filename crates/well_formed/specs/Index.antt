-- The index of a bucket, which a bucket by itself has not.
use Rattle.std.specs.Prelude.{ℕ, Bool, true, Option, Some, None}
use Rattle.key.specs.Key.{num}
use Rattle.well_formed.specs.Tests.{of_index}
use Rattle.well_formed.specs.declared.index.Index.{Index}

-- the key is of the index, where one is given
abbrev pub has_index : Option Index → ℕ → Bool
has_index None = λ key. true
has_index (Some x) = of_index (num x.local) x.i
