-- What question 2 of a bucket by itself tells.
use mathlib.Core.Path.{◌≡◌}
use mathlib.Core.Bool.{true}
use mathlib.Core.List.{List}
use Prim.Native.Nat.{ℕ, ◌≤◌}
use lib.Dec.{leb}
use lib.ListN.{get_or}
use borrow.Author.Tests.{leb-true}
use Rattle.model.specs.Bytes.{part}
use Rattle.model.specs.Bucket.{max_nodes_per_bucket}
use Rattle.model.specs.Sizes.{bucket_size}
use Rattle.model.specs.Layout.{bucket_in}
use Rattle.laws.proofs.Tests.{and_left, and_right}
use Rattle.bucket.specs.declared.KBucket.{KBucket}
use Rattle.bucket.specs.Bucket.{Becomes}
use Rattle.bucket.specs.declared.settings.Settings.{Settings}
use Rattle.bucket.specs.Settings.{settings_of}
use Rattle.buckets.specs.Read.{sound_bytes}
use Rattle.bucket_calls.specs.Lent.{lent_max_incoming_at, read_settings, lent_settings, lent_bucket, lent_formed}

-- what it tells of the bucket and of the settings
module _ (s : List ℕ) (h : lent_formed s ≡ true) where
  pub lent_sound : sound_bytes (read_settings s).max_incoming (part s 0 bucket_size) ≡ true
  unfolding lent_formed
  lent_sound = and_left _ _ h

  pub lent_codes : ((read_settings s).max_incoming ≤ max_nodes_per_bucket) × ((read_settings s).filter ≤ 1)
  unfolding lent_formed
  lent_codes =
      let c = and_right (sound_bytes (get_or s lent_max_incoming_at 0) (part s 0 bucket_size)) _ h in
      (leb-true _ _ (and_left _ _ c), leb-true _ _ (and_right (leb (get_or s lent_max_incoming_at 0) max_nodes_per_bucket) _ c))

-- the bucket that is loaded under the settings
pub lent_becomes : (s : List ℕ) (r : Settings) (b : KBucket) → r ≡ read_settings s → Becomes (settings_of r) (bucket_in (part s 0 bucket_size)) b
    → Becomes (lent_settings s) (lent_bucket s) b
unfolding lent_settings lent_bucket
lent_becomes s r b e h = rw e at h
