-- A table that its bytes can hold: well formed, as question 2 asks of its bytes, and with every number within its bytes' range. It
-- holds after an accepted `new` and is kept by every call that a host can make (FitsCall).
use Rattle.std.specs.Prelude.{ℕ, ◌^◌, ◌≤◌, ◌<◌, ◌≡◌, true, false, List, [], ◌∷◌, length}
use Rattle.std.proofs.Math.Option.{Option, none, some}
use Rattle.model.specs.Base.{same}
use Rattle.model.specs.Bytes.{Bytes}
use Rattle.model.specs.Key.{bucket_index}
use Rattle.model.specs.Value.{Address, Value}
use Rattle.model.specs.Node.{Node, PendingNode, EndedPending, evicted_in}
use Rattle.model.specs.Bucket.{Bucket, max_nodes_per_bucket, empty_bucket, nodes, num_entries, holds, incoming_nodes}
use Rattle.model.specs.Table.{Settings, Table, num_buckets, max_records}
use Rattle.model.specs.Sizes.{key_size, time_size, slot_size}
use Rattle.model.specs.Call.{ValueArgument, Listing, Call, KeyCall}

-- every element has a property
abbrev pub All : {A : Type 0} → (A → Type 0) → List A → Type 0
All P [] = Unit {0}
All P (x ∷ xs) = P x × All P xs

-- the thing, if there is one, has a property
abbrev pub Opt : {A : Type 0} → (A → Type 0) → Option A → Type 0
Opt P none = Unit {0}
Opt P (some a) = P a

-- no two of the nodes have one key
abbrev pub Different : List Node → Type 0
Different [] = Unit {0}
Different (n ∷ ns) = All (λ (m : Node). same m.key n.key ≡ false) ns × Different ns

-- every node of a bucket, held or pending, has the property P, and a pending's deadline the property D
pub record Each (P : Node → Type 0) (D : ℕ → Type 0) (b : Bucket) : Type 0 where
  pub held : All P (nodes b)
  pub pending : Opt (λ (p : PendingNode). P p.node × D p.deadline) b.pending

abbrev pub Any : ℕ → Type 0
Any d = Unit {0}

-- what question 2 asks of a bucket, all but the index
pub record Formed (max_incoming : ℕ) (b : Bucket) : Type 0 where
  pub at_most : num_entries b ≤ max_nodes_per_bucket
  pub different : Different (nodes b)
  pub disconnected_first : All (λ (n : Node). n.connected ≡ false) b.disconnected
  pub then_connected : All (λ (n : Node). n.connected ≡ true) b.connected
  pub incoming_within : length (incoming_nodes (nodes b)) ≤ max_incoming
  pub pending_apart : Opt (λ (p : PendingNode). holds p.node.key b ≡ false) b.pending

-- with what it asks of the keys' index
pub record FormedBucket (OfIndex : ℕ → Type 0) (max_incoming : ℕ) (b : Bucket) : Type 0 where
  pub formed : Formed max_incoming b
  pub of_the_index : Each (λ (n : Node). OfIndex n.key) Any b

-- what question 2 asks of bucket i
abbrev pub WellFormed : Settings → ℕ → Bucket → Type 0
WellFormed s i = FormedBucket (λ (k : ℕ). bucket_index s.local_key k ≡ some i) s.bucket.max_incoming

pub record FitsAddress (x : Address) : Type 0 where
  pub a : x.a < 256
  pub b : x.b < 256
  pub c : x.c < 256
  pub d : x.d < 256

pub record FitsValue (v : Value) : Type 0 where
  pub address : Opt FitsAddress v.address
  pub slot : v.slot < 256 ^ slot_size

pub record FitsNode (n : Node) : Type 0 where
  pub key : n.key < 256 ^ key_size
  pub value : FitsValue n.value

abbrev pub FitsDeadline : ℕ → Type 0
FitsDeadline d = d < 256 ^ time_size

abbrev pub FitsPending : PendingNode → Type 0
FitsPending p = FitsNode p.node × FitsDeadline p.deadline

pub record FitsRecord (r : EndedPending) : Type 0 where
  pub key : r.key < 256 ^ key_size
  pub evicted : Opt FitsNode (evicted_in r.ending)

abbrev pub FitsBucket : Bucket → Type 0
FitsBucket = Each FitsNode FitsDeadline

pub record FitsSettings (s : Settings) : Type 0 where
  pub local_key : s.local_key < 256 ^ key_size
  pub pending_timeout : s.bucket.pending_timeout < 256 ^ time_size
  pub max_incoming : s.bucket.max_incoming ≤ max_nodes_per_bucket

pub record Fits (t : Table) : Type 0 where
  pub settings : FitsSettings t.settings
  pub buckets : (i : ℕ) → FitsBucket (t.buckets i)
  pub well_formed : (i : ℕ) → WellFormed t.settings i (t.buckets i)
  pub past : (i : ℕ) → num_buckets ≤ i → t.buckets i ≡ empty_bucket
  pub records : All FitsRecord t.queue
  pub queue : length t.queue ≤ max_records

-- the arguments are what a host's parameters can hold: keys of bytes, octets of one byte, a slot and a timeout of eight
pub record FitsArgument (v : ValueArgument) : Type 0 where
  pub a : v.a < 256
  pub b : v.b < 256
  pub c : v.c < 256
  pub d : v.d < 256
  pub slot : v.slot < 256 ^ slot_size

abbrev pub FitsListing : Listing → Type 0
FitsListing Listing.iter = Unit {0}
FitsListing (Listing.nodes_by_distances ds) = Unit {0}
FitsListing (Listing.closest_keys x) = Bytes x
FitsListing (Listing.closest_values x) = Bytes x
FitsListing (Listing.closest_values_predicate x p) = Bytes x

abbrev pub FitsKeyCall : KeyCall → Type 0
FitsKeyCall (KeyCall.update_node_status st dr now) = Unit {0}
FitsKeyCall (KeyCall.update_node v st now) = FitsArgument v
FitsKeyCall (KeyCall.insert_or_update v st dr now hs) = FitsArgument v
FitsKeyCall (KeyCall.remove now) = Unit {0}
FitsKeyCall (KeyCall.entry now) = Unit {0}
FitsKeyCall (KeyCall.present_update st dr) = Unit {0}
FitsKeyCall (KeyCall.pending_update st dr) = Unit {0}
FitsKeyCall (KeyCall.absent_insert v st dr now hs) = FitsArgument v

abbrev pub FitsCall : Call → Type 0
FitsCall (Call.new k timeout m tf bf) = Bytes k × (timeout < 256 ^ time_size)
FitsCall (Call.on_key k c) = Bytes k × FitsKeyCall c
FitsCall (Call.list l n now out) = FitsListing l
FitsCall Call.take_applied_pending = Unit {0}
FitsCall (Call.read bs) = Bytes bs
