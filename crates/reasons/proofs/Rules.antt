-- The reason of a step on a bucket, by the tests on the way.
use Prim.Native.Nat.{ℕ, ◌≤◌, ◌<◌}
use mathlib.Core.Path.{◌≡◌, refl, sym, ap, ◌∙◌}
use mathlib.Core.Bool.{Bool, true, false, not, cond, ◌&&◌}
use mathlib.Core.Option.{Option, none, some}
use borrow.Author.Tests.{le-leb}
use Rattle.std.specs.Prelude as code
use Rattle.std.specs.Prelude.{Some, None}
use Rattle.std.specs.Option.{MatchOption}
use Rattle.std.specs.Bool.{then_some}
use Rattle.model.specs.Base.{same}
use Rattle.model.specs.Value.{Value, same_value}
use Rattle.model.specs.Node.{Node, with_status}
use Rattle.model.specs.Result.{is_failed}
use Rattle.model.specs.Bucket.{Bucket, BucketSettings, max_nodes_per_bucket, num_entries, get, holds, is_full, fails_bucket_filter, is_max_incoming, take_out, taken_out, update_status, update_value}
use Rattle.model.specs.Explain.{Reason, bucket_filter_reason, incoming_limit_reason, full_reason, insert_reason, reinsert_reason, if_pending_reason, status_reason_of, status_reason, value_reason_of, value_reason, update_node_reason, insert_or_update_reason, remove_reason}
use Rattle.laws.proofs.KeepFormed.{free_is_full}
use Rattle.laws.proofs.Tests.{split}
use Rattle.key.specs.Key.{num}
use Rattle.bucket.specs.declared.PendingNode.{PendingNode}
use Rattle.bucket.specs.Bucket.{pending_of}
use Rattle.explanation.specs.declared.Reason as declared
use Rattle.explanation.specs.declared.Reason.TheVariants as reason
use Rattle.explanation.specs.Explanation.{reason_of}

-- a reason or none, by a test
pub reason_if : (t : Bool) (r : declared.Reason) {x : Reason} → reason_of (Some r) ≡ x → reason_of (then_some t r) ≡ cond t x Reason.None
reason_if true r e = e
reason_if false r e = refl

-- a reason is not none
pub some_reason : (r : declared.Reason) → reason_of (Some r) ≡ Reason.None → ⊥
some_reason (reason.TableFilter t k v) e = cc e
some_reason (reason.BucketFilter b v) e = cc e
some_reason (reason.IncomingLimit b) e = cc e
some_reason reason.NewcomerDisconnected e = cc e
some_reason reason.AllConnected e = cc e
some_reason (reason.Pending k) e = cc e
some_reason reason.NoSuchKey e = cc e
some_reason reason.LocalKey e = cc e

-- the tests of a node that is put into the bucket

module _ (s : BucketSettings) (n : Node) (b : Bucket) where
  pub reinsert_filter : fails_bucket_filter s n.value b ≡ true → bucket_filter_reason n.value b ≡ reinsert_reason s n b
  unfolding reinsert_reason
  reinsert_filter e = rw e

  module _ (fine : fails_bucket_filter s n.value b ≡ false) where
    pub reinsert_many : is_max_incoming s n b ≡ true → incoming_limit_reason b ≡ reinsert_reason s n b
    unfolding reinsert_reason
    reinsert_many e = rw (fine, e)

    pub reinsert_placed : is_max_incoming s n b ≡ false → Reason.None ≡ reinsert_reason s n b
    unfolding reinsert_reason
    reinsert_placed e = rw (fine, e)

-- an insert is asked the same, and then whether the bucket is full

module _ (s : BucketSettings) (n : Node) (b : Bucket) where
  pub insert_full_lem : Reason.None ≡ reinsert_reason s n b → max_nodes_per_bucket ≤ num_entries b → full_reason n.connected b.disconnected b.pending ≡ insert_reason s n b
  unfolding reinsert_reason insert_reason is_full
  insert_full_lem e h =
      split (fails_bucket_filter s n.value b) (λ f. absurd (cc (rw f at e)))
      (λ f. split (is_max_incoming s n b) (λ m. absurd (cc (rw (f, m) at e))) (λ m. rw (f, m, le-leb max_nodes_per_bucket (num_entries b) h)))

  pub insert_tested : {x : Reason} → x ≡ reinsert_reason s n b → (x ≡ Reason.None → num_entries b < max_nodes_per_bucket) → x ≡ insert_reason s n b
  unfolding reinsert_reason insert_reason
  insert_tested e h =
      split (fails_bucket_filter s n.value b) (λ f. e ∙ rw f)
      (λ f. split (is_max_incoming s n b) (λ m. e ∙ rw (f, m)) (λ m. e ∙ rw (f, m, free_is_full b (h (e ∙ rw (f, m))))))

-- a key that is not held, by whether it is pending
pub not_pending : (k : ℕ) (p : code.Option PendingNode) (t : Bool) {P : PendingNode → Type 0} → MatchOption p (t ≡ false) P → ((q : PendingNode) → P q → t ≡ same (num q.node.key) k)
    → cond (not t) Reason.NoSuchKey Reason.None ≡ if_pending_reason k (pending_of p)
not_pending k None t h f = rw h
not_pending k (Some q) t h f = rw (← f q h) (cond_not t)
  where
    cond_not : (t : Bool) → cond (not t) Reason.NoSuchKey Reason.None ≡ cond t Reason.None Reason.NoSuchKey
    cond_not true = refl
    cond_not false = refl

-- the status step

module _ (s : BucketSettings) (k : ℕ) (u : Bool) (d : Option Bool) (b : Bucket) where
  pub status_held : (n : Node) → get k b ≡ some n → reinsert_reason s (with_status u d n) (taken_out k u b) ≡ status_reason s k u d b
  unfolding status_reason
  status_held n e = ap (status_reason_of s k u d b) (sym e)

  pub status_absent : get k b ≡ none → if_pending_reason k b.pending ≡ status_reason s k u d b
  unfolding status_reason
  status_absent e = ap (status_reason_of s k u d b) (sym e)

-- the value step

module _ (s : BucketSettings) (k : ℕ) (v : Value) (b : Bucket) where
  pub value_absent : get k b ≡ none → if_pending_reason k b.pending ≡ value_reason s k v b
  unfolding value_reason
  value_absent e = ap (value_reason_of s k v b) (sym e)

  pub value_tested : (n : Node) → get k b ≡ some n → (x : Bool) → x ≡ (not (same_value n.value v) && fails_bucket_filter s v (take_out k b))
      → cond x (bucket_filter_reason v (take_out k b)) Reason.None ≡ value_reason s k v b
  unfolding value_reason
  value_tested n e x f =
      split (same_value n.value v) (λ q. rw (f, e, q))
      (λ q. split (fails_bucket_filter s v (take_out k b)) (λ r. rw (f, e, q, r)) (λ r. rw (f, e, q, r)))

-- the two steps of update_node and of insert_or_update

module _ (s : BucketSettings) (k : ℕ) (v : Value) (u : Option Bool) (b : Bucket) where
  pub node_failed : is_failed (update_value s k v b).0 ≡ true → value_reason s k v b ≡ update_node_reason s k v u b
  unfolding update_node_reason
  node_failed e = rw e

  module _ (e : is_failed (update_value s k v b).0 ≡ false) where
    pub node_valued : u ≡ none → Reason.None ≡ update_node_reason s k v u b
    unfolding update_node_reason
    node_valued f = rw (e, f)

    pub node_both : (w : Bool) → u ≡ some w → status_reason s k w none (update_value s k v b).1 ≡ update_node_reason s k v u b
    unfolding update_node_reason
    node_both w f = rw (e, f)

module _ (s : BucketSettings) (n : Node) (b : Bucket) where
  pub inserts : holds n.key b ≡ false → insert_reason s n b ≡ insert_or_update_reason s n b
  unfolding insert_or_update_reason
  inserts e = rw e

  module _ (held : holds n.key b ≡ true) where
    pub updates_failed : is_failed (update_status s n.key n.connected (some n.incoming) b).0 ≡ true
        → status_reason s n.key n.connected (some n.incoming) b ≡ insert_or_update_reason s n b
    unfolding insert_or_update_reason
    updates_failed e = rw (held, e)

    pub updates : is_failed (update_status s n.key n.connected (some n.incoming) b).0 ≡ false
        → value_reason s n.key n.value (update_status s n.key n.connected (some n.incoming) b).1 ≡ insert_or_update_reason s n b
    unfolding insert_or_update_reason
    updates e = rw (held, e)

pub removes : (k : ℕ) (b : Bucket) (x : Bool) → x ≡ holds k b → cond (not x) Reason.NoSuchKey Reason.None ≡ remove_reason k b
unfolding remove_reason
removes k b true e = rw (← e)
removes k b false e = rw (← e)
