-- Numbers as bytes, big-endian, and the parts of a run of bytes.
use Rattle.std.specs.Prelude.{ℕ, zero, suc, ◌+◌, ◌*◌, ◌^◌, ◌/◌, ◌%◌, ◌<◌, List, [], ◌∷◌, ◌++◌, length, get_or, take, drop, replicate}

-- the number that the bytes are, the first the most significant
unfoldable pub number : List ℕ → ℕ
number [] = 0
number (b ∷ bs) = b * 256 ^ length bs + number bs

-- the last k bytes of the number x, the most significant first
unfoldable pub bytes : ℕ → ℕ → List ℕ
bytes zero x = []
bytes (suc k) x = bytes k (x / 256) ++ (x % 256 ∷ [])

-- the k bytes of s from index at on
unfoldable pub part : List ℕ → ℕ → ℕ → List ℕ
part s at k = take k (drop at s)

-- s with the bytes v in the place of those from index at on
unfoldable pub splice : List ℕ → ℕ → List ℕ → List ℕ
splice s at v = take at s ++ (v ++ drop (at + length v) s)

-- k bytes that are zero
abbrev pub zeros : ℕ → List ℕ
zeros k = replicate k 0

-- each element is a byte
abbrev pub Bytes : List ℕ → Type 0
Bytes s = (i : ℕ) → get_or s i 0 < 256
