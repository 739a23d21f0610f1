-- The model's bucket that a KBucket stands for, how a bucket is stored in sixteen places, and question 2 of a bucket by itself.
use Rattle.std.specs.Prelude.{Some, None, ℕ, ◌≤◌, ◌<◌, ◌≡◌, Bool, true, false, cond, not, ◌&&◌, List, map, length, take, drop, get_or, eqb, leb}
use Rattle.std.specs.Prelude as code
use Rattle.std.proofs.Math.Option.{Option, none, some}
use Rattle.model.specs.Base.{same, every}
use Rattle.model.specs.Node as model
use Rattle.model.specs.Result.{FailureReason, UpdateResult}
use Rattle.model.specs.Bucket.{Bucket, BucketSettings, max_nodes_per_bucket, nodes, num_entries, get, holds, incoming_nodes, status_result}
use Rattle.key.specs.Key.{num, Words}
use Rattle.node.specs.declared.Node.{Node}
use Rattle.node.specs.Node.{node_of, node_codes, is_zero, stored_node, zero_node}
use Rattle.places.specs.Places.{padded, position, in_state, different}
use Rattle.bucket.specs.declared.PendingNode.{PendingNode}
use Rattle.bucket.specs.declared.KBucket.{KBucket}
use Rattle.bucket.specs.Settings as shared
use Rattle.bucket.specs.Settings.{stored_settings}

abbrev pub pending_of : code.Option PendingNode → Option model.PendingNode
pending_of None = none
pending_of (Some p) = some (record { node = node_of p.node; deadline = p.deadline })

-- the nodes in the places that are held
abbrev pub held_of : KBucket → List Node
held_of b = take b.count b.nodes

-- the number of the key at a place
abbrev pub key_at : KBucket → ℕ → ℕ
key_at b pos = num (get_or b.nodes pos zero_node).key

abbrev pub bucket_of : KBucket → Bucket
bucket_of b =
    record {
      disconnected = take b.first_connected_pos (map node_of (held_of b));
      connected = drop b.first_connected_pos (map node_of (held_of b));
      pending = pending_of b.pending;
    }

-- the first connected place, or none
abbrev pub first_connected : KBucket → Option ℕ
first_connected b = cond (eqb b.first_connected_pos b.count) none (some b.first_connected_pos)

abbrev pub settings_of : KBucket → BucketSettings
settings_of b = shared.settings_of b.settings

abbrev pub stored_pending : Option model.PendingNode → code.Option PendingNode
stored_pending none = None
stored_pending (some p) = Some (record { node = stored_node p.node; deadline = p.deadline })

-- the disconnected nodes, then the connected ones, then zero in the free places; with none connected the first connected place is the count
abbrev pub stored : BucketSettings → Bucket → KBucket
stored s b =
    record {
      nodes = padded (map stored_node (nodes b));
      count = num_entries b;
      first_connected_pos = length b.disconnected;
      pending = stored_pending b.pending;
      settings = stored_settings s;
    }

-- 01, question 2: a pending not held, codes as in 4
abbrev pub pending_sound : Bucket → code.Option PendingNode → Bool
pending_sound b None = true
pending_sound b (Some p) = not (holds (num p.node.key) b) && node_codes p.node

-- the same, of the nodes held, place by place
abbrev pub pending_fits : List Node → code.Option PendingNode → Bool
pending_fits ns None = true
pending_fits ns (Some p) = eqb (position (num p.node.key) ns) (length ns) && node_codes p.node

-- the words of a pending's key are words
abbrev pub PendingWords : code.Option PendingNode → Type 0
PendingWords None = Unit {0}
PendingWords (Some p) = Words p.node.key

-- 01, question 2, all but the index: at most 16 different keys, disconnected first, first connected place exact, codes as in 4, connected
-- incoming within max_incoming, the pending, unused places zero, the settings' codes
unfoldable pub sound : KBucket → Bool
sound b =
    leb b.count max_nodes_per_bucket
    && (leb b.first_connected_pos b.count
    && (different (map node_of (held_of b))
    && (every (in_state 0) (take b.first_connected_pos b.nodes)
    && (every (in_state 1) (drop b.first_connected_pos (held_of b))
    && (leb (length (incoming_nodes (map node_of (held_of b)))) b.settings.max_incoming
    && (pending_sound (bucket_of b) b.pending
    && (every is_zero (drop b.count (take max_nodes_per_bucket b.nodes)) && (leb b.settings.max_incoming max_nodes_per_bucket && leb b.settings.filter 1))))))))

-- a bucket that passes question 2, whose numbers fit their types: it is what is stored of the bucket that it stands for
pub record Sound (b : KBucket) : Type 0 where
  pub few : b.count ≤ max_nodes_per_bucket
  pub test : sound b ≡ true
  pub exact : b ≡ stored (settings_of b) (bucket_of b)

-- r stands for the bucket b, under the settings s
pub record Becomes (s : BucketSettings) (b : Bucket) (r : KBucket) : Type 0 where
  pub bucket : bucket_of r ≡ b
  pub settings : settings_of r ≡ s
  pub sound : Sound r

-- the answer of the step x, and the bucket that it leaves, under the settings s
pub record Does {A : Type 0} (s : BucketSettings) (x : A × Bucket) (answer : A) (r : KBucket) : Type 0 where
  pub result_value : answer ≡ x.0
  pub becomes : Becomes s x.1 r

-- applying a pending as a step: its records are the answer
abbrev pub records_first : Bucket × List model.EndedPending → List model.EndedPending × Bucket
records_first x = (x.1, x.0)

-- inserting a node again as a step: m as it was before, n as it is now
abbrev pub stated : model.Node → model.Node → Option FailureReason × Bucket → UpdateResult × Bucket
stated m n r = (status_result m n r.0, r.1)

-- where the node of key k is: at a place that is held; or nowhere
abbrev pub Finds : KBucket → ℕ → code.Option ℕ → Type 0
Finds b k None = get k (bucket_of b) ≡ none
Finds b k (Some pos) = (pos < b.count) × (key_at b pos ≡ k)

-- the pending, unless it is of this key
abbrev pub cleared_pending : ℕ → code.Option PendingNode → code.Option PendingNode
cleared_pending k None = None
cleared_pending k (Some p) = cond (same (num p.node.key) k) None (Some p)

-- another pending, and all else as it is
abbrev pub repending : code.Option PendingNode → KBucket → KBucket
repending p b =
    record {
      nodes = b.nodes;
      count = b.count;
      first_connected_pos = b.first_connected_pos;
      pending = p;
      settings = b.settings;
    }
