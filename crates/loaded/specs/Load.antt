-- The parts in which the bytes are asked and loaded: question 9 of one bucket, and the storage that is left.
use Rattle.std.specs.Prelude.{ℕ, ◌+◌, ◌≤◌, ◌<◌, ◌≡◌, Bool, not, ◌&&◌, ◌||◌, List, length, get_or}
use Rattle.model.specs.Base.{any_of}
use Rattle.model.specs.Bytes.{part, zeros}
use Rattle.model.specs.Value.{Value}
use Rattle.model.specs.Node.{Node}
use Rattle.model.specs.Filter.{counts}
use Rattle.model.specs.Bucket.{BucketSettings, max_nodes_per_bucket}
use Rattle.model.specs.Table.{num_buckets}
use Rattle.model.specs.Sizes.{key_size, bucket_size, header_size, storage_size}
use Rattle.model.specs.Layout.{place_in, nodes_in, bucket_part}
use Rattle.model.specs.Formed.{bucket_formed}
use Rattle.model.specs.Saved.{loaded_bytes, three_of_aNet}
use Rattle.well_formed.specs.Tests.{of_index}

-- no size is greater than a bucket
abbrev pub Held : List ℕ → Type 0
Held bs = (i : ℕ) → i < num_buckets → get_or bs i 0 ≤ max_nodes_per_bucket

-- no three of the first k numbers are the same
abbrev pub NoThree : (ℕ → ℕ) → ℕ → Type 0
NoThree o k = (a b c : ℕ) → a < k → b < k → c < k → (a ≡ b → ⊥) → (a ≡ c → ⊥) → (b ≡ c → ⊥) → o a ≡ o b → o a ≡ o c → ⊥

-- the third octet of place j of a bucket
abbrev pub octet_at : List ℕ → ℕ → ℕ
octet_at bs j = get_or (place_in bs j) (key_size + 2 + 3) 0

-- a third value beside a and b, and two beside a
unfoldable pub third_of : Value → Value → List Node → Bool
third_of a b ns = any_of (λ (c : Node). counts a c.value && counts b c.value) ns

unfoldable pub two_beside : Value → List Node → Bool
two_beside a ns = any_of (λ (b : Node). counts a b.value && third_of a b.value ns) ns

-- 02, slip 6: question 9 of bucket i as loaded
unfoldable pub bucket_fits : (local : ℕ) → BucketSettings → List ℕ → ℕ → Bool
bucket_fits local s bs i =
    bucket_formed (of_index local i) s.max_incoming (loaded_bytes bs i) && (not s.filter || not (three_of_aNet (nodes_in (loaded_bytes bs i))))

-- storage whose buckets are all zero, as those of a table that holds nothing
pub record Blank (s : List ℕ) : Type 0 where
  pub size : length s ≡ storage_size
  pub buckets : (i : ℕ) → i < num_buckets → bucket_part s i ≡ zeros bucket_size

-- the storage s' that is left: the header of s, and the buckets as loaded
pub record LoadedFrom (s bs s' : List ℕ) : Type 0 where
  pub size : length s' ≡ storage_size
  pub header : part s' 0 header_size ≡ part s 0 header_size
  pub buckets : (i : ℕ) → i < num_buckets → bucket_part s' i ≡ loaded_bytes bs i
