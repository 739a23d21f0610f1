-- The nodes of the positions, a bucket into which several of them are inserted, and what is checked of two answers.
use Rattle.std.specs.Prelude.{ℕ, zero, suc, Bool, false, List, [], ◌∷◌}
use Rattle.std.proofs.Math.Option.{Option}
use Rattle.model.specs.Base.{same}
use Rattle.model.specs.Key.{bucket_index}
use Rattle.model.specs.Node.{EndedPending}
use Rattle.model.specs.Result.{BucketInsertResult, Reply}
use Rattle.key.specs.Key.{num, key_from}
use Rattle.node.specs.declared.Value.{Value}
use Rattle.node.specs.declared.Node.{Node}
use Rattle.bucket.specs.declared.KBucket.{KBucket}
use Rattle.bucket.specs.Calls.{insert_call, new_call}

-- the index of the key whose highest word is w0 and whose lowest is w3, where the local key is zero
abbrev pub index_of : ℕ → ℕ → Option ℕ
index_of w0 w3 = bucket_index 0 (num (record { w0 = w0; w1 = 0; w2 = 0; w3 = w3 }))

-- no address, slot 0
abbrev pub plain : Value
plain = record { flag = 0; a = 0; b = 0; c = 0; d = 0; slot = 0 }

-- the address 10.0.0.d, slot 0
abbrev pub addressed : ℕ → Value
addressed d = record { flag = 1; a = 10; b = 0; c = 0; d = d; slot = 0 }

abbrev pub node_from : ℕ → Value → ℕ → ℕ → Node
node_from k v state direction = record { key = key_from k; value = v; status = record { state = state; direction = direction } }

-- an empty bucket with timeout 60,000
abbrev pub emptied : ℕ → ℕ → KBucket
emptied max_incoming filter = (new_call 60000 max_incoming filter).1

-- n outgoing nodes of one state inserted at time 0, with the keys from k on
unfoldable pub filled : ℕ → ℕ → ℕ → KBucket → KBucket
filled zero k state b = b
filled (suc n) k state b = filled n (suc k) state (insert_call b (node_from k plain state 0) 0).1

-- a pending that names the node of this key
abbrev pub names_key : ℕ → Reply BucketInsertResult → Bool
names_key k (Reply.Refused q) = false
names_key k (Reply.Answered BucketInsertResult.Inserted) = false
names_key k (Reply.Answered (BucketInsertResult.Pending d)) = same d k
names_key k (Reply.Answered BucketInsertResult.FailedFilter) = false
names_key k (Reply.Answered BucketInsertResult.TooManyIncoming) = false
names_key k (Reply.Answered BucketInsertResult.Full) = false
names_key k (Reply.Answered BucketInsertResult.NodeExists) = false

-- the pending of this key was ended: placed or dropped
abbrev pub applied_key : ℕ → Reply (List EndedPending) → Bool
applied_key k (Reply.Refused q) = false
applied_key k (Reply.Answered []) = false
applied_key k (Reply.Answered (r ∷ rs)) = same r.key k
