-- The bytes of a bucket by itself: what a table stores of a bucket, then pending timeout, max_incoming, filter.
use Rattle.std.specs.Prelude.{ℕ, ◌≡◌, ◌+◌, Bool, true, ◌&&◌, List, [], ◌∷◌, ◌++◌, length, get_or, eqb, leb}
use Rattle.std.proofs.Math.Option.{Option}
use Rattle.model.specs.Bytes.{number, bytes, part}
use Rattle.model.specs.Bucket.{Bucket, BucketSettings, max_nodes_per_bucket, empty_bucket}
use Rattle.model.specs.Sizes.{time_size, bucket_size}
use Rattle.model.specs.Layout.{bucket_bytes, bucket_in}
use Rattle.model.specs.Question.{first_failed, deadline_fits}
use Rattle.bucket.specs.declared.settings.Settings.{Settings}
use Rattle.bucket.specs.Settings.{settings_of}
use Rattle.buckets.specs.Read.{sound_bytes}

abbrev pub lent_timeout_at : ℕ
lent_timeout_at = bucket_size

abbrev pub lent_max_incoming_at : ℕ
lent_max_incoming_at = lent_timeout_at + time_size

abbrev pub lent_filter_at : ℕ
lent_filter_at = lent_max_incoming_at + 1

abbrev pub lent_size : ℕ
lent_size = lent_filter_at + 1

-- the settings behind the bucket, with each code as it stands
abbrev pub read_settings : List ℕ → Settings
read_settings bs =
    record {
      pending_timeout = number (part bs lent_timeout_at time_size);
      max_incoming = get_or bs lent_max_incoming_at 0;
      filter = get_or bs lent_filter_at 0;
    }

unfoldable pub lent_settings : List ℕ → BucketSettings
lent_settings bs = settings_of (read_settings bs)

unfoldable pub lent_bucket : List ℕ → Bucket
lent_bucket bs = bucket_in (part bs 0 bucket_size)

-- 01, question 2, all but the index, with the settings' codes
unfoldable pub lent_formed : List ℕ → Bool
lent_formed bs =
    sound_bytes (get_or bs lent_max_incoming_at 0) (part bs 0 bucket_size) && (leb (get_or bs lent_max_incoming_at 0) max_nodes_per_bucket && leb (get_or bs lent_filter_at 0) 1)

-- an empty bucket
unfoldable pub empty_bytes : (pending_timeout max_incoming filter : ℕ) → List ℕ
empty_bytes timeout m f = bucket_bytes empty_bucket ++ (bytes time_size timeout ++ (m ∷ f ∷ []))

-- 01, questions 1 to 5 of a call on a bucket by itself
abbrev pub lent_five : List ℕ → Bool → Bool → Option ℕ → List (ℕ × Bool)
lent_five bs key codes now =
    (1, eqb (length bs) lent_size)
    ∷ (2, lent_formed bs)
    ∷ (3, key)
    ∷ (4, codes)
    ∷ (5, deadline_fits (lent_settings bs).pending_timeout now)
    ∷ []

abbrev pub failed_of_lent : List ℕ → Bool → Bool → Option ℕ → Option ℕ
failed_of_lent bs key codes now = first_failed (lent_five bs key codes now)

-- what is known where none of them fails
pub record Passed (bs : List ℕ) (now : Option ℕ) : Type 0 where
  pub size : length bs ≡ lent_size
  pub formed : lent_formed bs ≡ true
  pub in_time : deadline_fits (lent_settings bs).pending_timeout now ≡ true
