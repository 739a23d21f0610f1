-- The number of a key.
use Rattle.std.specs.Prelude.{ℕ, ◌+◌, ◌*◌, ◌/◌, ◌%◌, ◌^◌, ◌<◌}
use Rattle.key.specs.declared.Key.{Key}

-- the number of the key's 32 bytes, big-endian (law: `num_bytes` of proofs/Bytes)
unfoldable pub num : Key → ℕ
num k = ((k.w0 * 2 ^ 64 + k.w1) * 2 ^ 64 + k.w2) * 2 ^ 64 + k.w3

-- the key of a number below 2 ^ 256
unfoldable pub key_of : ℕ → Key
key_of n = record { w0 = n / 2 ^ 64 / 2 ^ 64 / 2 ^ 64; w1 = n / 2 ^ 64 / 2 ^ 64 % 2 ^ 64; w2 = n / 2 ^ 64 % 2 ^ 64; w3 = n % 2 ^ 64 }

-- the key of a word
abbrev pub key_from : ℕ → Key
key_from k = record { w0 = 0; w1 = 0; w2 = 0; w3 = k }

-- each word is one: what Rattle knows of every key that a function is given
pub record Words (k : Key) : Type 0 where
  pub word0 : k.w0 < 2 ^ 64
  pub word1 : k.w1 < 2 ^ 64
  pub word2 : k.w2 < 2 ^ 64
  pub word3 : k.w3 < 2 ^ 64
