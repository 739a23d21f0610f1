-- A bucket without a pending in its bytes, and its nodes but one.
use Rattle.std.specs.Prelude.{ℕ, ◌≤◌, ◌≡◌, List, length, get_or}
use Rattle.std.proofs.Math.Option.{none}
use Rattle.model.specs.Node.{Node}
use Rattle.model.specs.Result.{BucketInsertResult, UpdateResult}
use Rattle.model.specs.Bucket.{Bucket, BucketSettings, max_nodes_per_bucket, nodes, take_out, reinsert, status_result, insert_full}
use Rattle.model.specs.Sizes.{bucket_size}
use Rattle.model.specs.Layout.{bucket_bytes, bucket_in}
use Rattle.model.specs.Fits.{Different}
use Rattle.places.specs.Places.{remove_at}
pub use Rattle.well_formed.specs.Tests.{place, Position}

-- what question 2 says of a bucket's bytes (law: `quiet_if` of proofs/Quiet), and there is no pending
pub record Quiet (bs : List ℕ) : Type 0 where
  pub size : length bs ≡ bucket_size
  pub exact : bs ≡ bucket_bytes (bucket_in bs)
  pub few : get_or bs 0 0 ≤ max_nodes_per_bucket
  pub first : get_or bs 1 0 ≤ get_or bs 0 0
  pub different : Different (nodes (bucket_in bs))
  pub pending : (bucket_in bs).pending ≡ none

-- the nodes of the bucket but the one at place `skip`; a place past them leaves out none
unfoldable pub others : List ℕ → ℕ → List Node
others bs skip = remove_at skip (nodes (bucket_in bs))

-- the answer of the step x on the bucket, and the bytes that it leaves
pub record Does {A : Type 0} (x : A × Bucket) (answer : A) (left : List ℕ) : Type 0 where
  pub answers : answer ≡ x.0
  pub leaves : left ≡ bucket_bytes x.1

-- the status step of a node that is held: m as it was, n as it is, of one key
abbrev pub restated : BucketSettings → Node → Node → Bucket → UpdateResult × Bucket
restated c m n b = let r = reinsert c n (take_out n.key b) in (status_result m n r.0, r.1)

-- the bucket is full
abbrev pub inserted_full : BucketSettings → ℕ → Node → Bucket → BucketInsertResult × Bucket
inserted_full c now n b = insert_full c now n b n.connected b.disconnected b.pending
