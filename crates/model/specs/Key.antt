-- Keys and their distance (01, "key.rs (109 lines), filter.rs (97)"). A key is its 32 bytes' number, below 2 ^ 256.
use Rattle.std.specs.Prelude.{ℕ, suc, ◌-◌, ◌/◌, ◌%◌, ◌^◌, ◌≤◌, ◌<◌, Bool, cond, eqb}
use Rattle.std.proofs.Math.Option.{Option, none, some}
use Rattle.std.specs.Int.Bits.{bit_xor}
use Rattle.std.specs.Int.Count.{count_leading_zeros}

-- 01, "Rust forms that are recast": the XOR of two 32-byte keys, read big-endian
abbrev pub distance : ℕ → ℕ → ℕ
distance a b = bit_xor a b

-- 01, key.rs: 256 less the leading zero bits of the distance; none for distance 0
unfoldable pub log2_distance : ℕ → ℕ → Option ℕ
log2_distance a b = cond (eqb (distance a b) 0) none (some (256 - count_leading_zeros 256 (distance a b)))

abbrev pub less_one : Option ℕ → Option ℕ
less_one none = none
less_one (some n) = some (n - 1)

-- 01, key.rs: the bucket index is one less, 0 to 255
unfoldable pub bucket_index : ℕ → ℕ → Option ℕ
bucket_index local key = less_one (log2_distance local key)

-- bit i of a number
unfoldable pub test_bit : ℕ → ℕ → Bool
test_bit n i = eqb (n / 2 ^ i % 2) 1

-- 01, key.rs: the theory text's bucket i, distances from 2 ^ i up to 2 ^ (i + 1) - 1
pub record InBucket (i d : ℕ) : Type 0 where
  pub from : 2 ^ i ≤ d
  pub below : d < 2 ^ suc i
