-- The reason is true (02, slip 1): the keys that it names, and the fact behind each reason of an insert.
use Prim.Native.Nat.{ℕ, zero, suc, ◌≤◌}
use native.Mathlib.Omega.{arith}
use mathlib.Core.Path.{◌≡◌, refl, ap, ◌∙◌}
use mathlib.Core.Bool.{Bool, true, false}
use mathlib.Core.List.{List, [], ◌∷◌}
use mathlib.Core.Option.{Option, none, some}
use lib.ListN.{length, take, length-map}
use lib.Seq.{length-take-le}
use lib.Dec.{leb}
use borrow.Author.Tests.{leb-true}
use Rattle.model.specs.Base.{select, first, is_some, same}
use Rattle.model.specs.Bytes.{number}
use Rattle.model.specs.Value.{Value, same_value, has_address}
use Rattle.model.specs.Node.{Node, PendingNode, connected_incoming, with_status}
use Rattle.model.specs.Filter.{counts, counted, ip_filter_fails, max_nodes_per_subnet_table, max_nodes_per_subnet_bucket}
use Rattle.model.specs.Result.{is_failed}
use Rattle.model.specs.Bucket.{Bucket, BucketSettings, nodes, get, holds, is_full, fails_bucket_filter, incoming_nodes, is_max_incoming, take_out, taken_out, update_status, update_value}
use Rattle.model.specs.Table.{Table, other_nodes, filter_runs, fails_table_filter, index_in}
use Rattle.model.specs.Call.{KeyCall, is_one, optional, value_of}
use Rattle.model.specs.Listing.{applied}
use Rattle.model.specs.Step.{node_of}
use Rattle.model.specs.Fits.{All, Formed, Fits}
use Rattle.model.specs.Explain.{Reason, keys_of, filter_keys, full_reason, insert_reason, reinsert_reason, if_pending_reason, status_reason_of, status_reason, value_reason_of, value_reason, then_status_reason, update_node_reason, insert_or_update_reason, remove_reason, bucket_reason, key_reason, reason}
use Rattle.laws.proofs.Tests.{cases, and_left, and_right}
use Rattle.laws.proofs.All.{all_take, all_pass}
use Rattle.laws.proofs.KeepLists.{incoming_omit}
use Rattle.laws.proofs.KeepFormed.{nodes_take_out, apply_pending_formed, update_value_formed}

-- Nodes picked from others.

-- some of the nodes, in their order
pub data Within : List Node → List Node → Type 0 where
  nil : Within [] []
  skip : {n : Node} {xs ys : List Node} → Within xs ys → Within xs (n ∷ ys)
  keep : {n : Node} {xs ys : List Node} → Within xs ys → Within (n ∷ xs) (n ∷ ys)

within_nil : (ns : List Node) → Within [] ns
within_nil [] = Within.nil
within_nil (n ∷ ns) = Within.skip (within_nil ns)

within_select : (p : Node → Bool) (ns : List Node) → Within (select p ns) ns
within_select p [] = Within.nil
within_select p (n ∷ ns) =
    cases (λ (l : List Node). Within l (n ∷ ns)) (p n) (λ e. Within.keep (within_select p ns)) (λ e. Within.skip (within_select p ns))

within_take : (m : ℕ) {xs ys : List Node} → Within xs ys → Within (take m xs) ys
within_take zero {xs} {ys} w = within_nil ys
within_take (suc m) Within.nil = Within.nil
within_take (suc m) (Within.skip w) = Within.skip (within_take (suc m) w)
within_take (suc m) (Within.keep w) = Within.keep (within_take m w)

-- the keys are those of some of the nodes, in their order, each of which has the property
pub record Named (P : Node → Type 0) (ns : List Node) (ks : List ℕ) : Type 0 where
  pub who : List Node
  pub keys : ks ≡ keys_of who
  pub each : All P who
  pub order : Within who ns

-- a filter names some of those that count, in their order
pub filter_names : (limit : ℕ) (v : Value) (ns : List Node) → Named (λ (n : Node). counts v n.value ≡ true) ns (filter_keys limit v ns)
unfolding filter_keys
filter_names limit v ns =
    record {
      who = take limit (counted v ns);
      keys = refl;
      each = all_take (λ (n : Node). counts v n.value ≡ true) limit (counted v ns) (all_pass (λ (n : Node). counts v n.value) ns);
      order = within_take limit (within_select (λ (n : Node). counts v n.value) ns);
    }

-- where it fails, exactly as many as its limit
pub filter_number : (limit : ℕ) (v : Value) (ns : List Node) → ip_filter_fails limit v ns ≡ true → length (filter_keys limit v ns) ≡ limit
unfolding filter_keys ip_filter_fails
filter_number limit v ns h =
    length-map (take limit (counted v ns)) (λ (n : Node). n.key)
    ∙ length-take-le limit (counted v ns) (leb-true limit (length (counted v ns)) (and_right (has_address v) (leb limit (length (counted v ns))) h))

-- The fact behind the reason of an insert of the node n.

pub record ByFilter (limit : ℕ) (v : Value) (ns : List Node) (ks : List ℕ) : Type 0 where
  pub limited : length ks ≡ limit
  pub named : Named (λ (n : Node). counts v n.value ≡ true) ns ks

pub record ByIncoming (s : BucketSettings) (n : Node) (b : Bucket) (ks : List ℕ) : Type 0 where
  pub newcomer : connected_incoming n ≡ true
  pub all : ks ≡ keys_of (incoming_nodes (nodes b))
  pub enough : s.max_incoming ≤ length ks

-- 02: for Full the fact that the newcomer is disconnected, else that all are connected, else the pending
pub record ByDisconnected (n : Node) (b : Bucket) : Type 0 where
  pub full : is_full b ≡ true
  pub newcomer : n.connected ≡ false

pub record ByConnected (n : Node) (b : Bucket) : Type 0 where
  pub full : is_full b ≡ true
  pub newcomer : n.connected ≡ true
  pub held : b.disconnected ≡ []

pub record ByPending (n : Node) (b : Bucket) (k : ℕ) : Type 0 where
  pub full : is_full b ≡ true
  pub newcomer : n.connected ≡ true
  pub held : is_some (first b.disconnected) ≡ true
  pub pending : PendingNode
  pub waits : b.pending ≡ some pending
  pub key : pending.node.key ≡ k

abbrev pub Why : BucketSettings → Node → Bucket → Reason → Type 0
Why s n b Reason.None = Unit {0}
Why s n b (Reason.TableFilter ks) = ⊥
Why s n b (Reason.BucketFilter ks) = ByFilter max_nodes_per_subnet_bucket n.value (nodes b) ks
Why s n b (Reason.IncomingLimit ks) = ByIncoming s n b ks
Why s n b Reason.NewcomerDisconnected = ByDisconnected n b
Why s n b Reason.AllConnected = ByConnected n b
Why s n b (Reason.Pending k) = ByPending n b k
Why s n b Reason.NoSuchKey = ⊥
Why s n b Reason.LocalKey = ⊥

by_filter : (s : BucketSettings) (v : Value) (b : Bucket) → fails_bucket_filter s v b ≡ true
    → ByFilter max_nodes_per_subnet_bucket v (nodes b) (filter_keys max_nodes_per_subnet_bucket v (nodes b))
unfolding fails_bucket_filter
by_filter s v b h =
    record {
      limited = filter_number max_nodes_per_subnet_bucket v (nodes b) (and_right s.filter (ip_filter_fails max_nodes_per_subnet_bucket v (nodes b)) h);
      named = filter_names max_nodes_per_subnet_bucket v (nodes b);
    }

by_incoming : (s : BucketSettings) (n : Node) (b : Bucket) → is_max_incoming s n b ≡ true → ByIncoming s n b (keys_of (incoming_nodes (nodes b)))
unfolding is_max_incoming
by_incoming s n b h =
    record {
      newcomer = and_left (connected_incoming n) (leb s.max_incoming (length (incoming_nodes (nodes b)))) h;
      all = refl;
      enough =
          rw (length-map (incoming_nodes (nodes b)) (λ (m : Node). m.key))
          (leb-true s.max_incoming (length (incoming_nodes (nodes b))) (and_right (connected_incoming n) (leb s.max_incoming (length (incoming_nodes (nodes b)))) h));
    }

by_full : (s : BucketSettings) (n : Node) (b : Bucket) → is_full b ≡ true → (u : Bool) (ds : List Node) (p : Option PendingNode) → n.connected ≡ u → b.disconnected ≡ ds → b.pending ≡ p
    → Why s n b (full_reason u ds p)
by_full s n b f false ds p e g h = record { full = f; newcomer = e }
by_full s n b f true [] p e g h = record { full = f; newcomer = e; held = g }
by_full s n b f true (d ∷ ds) none e g h = tt
by_full s n b f true (d ∷ ds) (some p) e g h =
    record { full = f; newcomer = e; held = ap (λ (l : List Node). is_some (first l)) g; pending = p; waits = h; key = refl }

pub insert_why : (s : BucketSettings) (n : Node) (b : Bucket) → Why s n b (insert_reason s n b)
unfolding insert_reason
insert_why s n b =
    cases (Why s n b) (fails_bucket_filter s n.value b) (λ e. by_filter s n.value b e)
    (λ _. cases (Why s n b) (is_max_incoming s n b) (λ e. by_incoming s n b e)
    (λ _. cases (Why s n b) (is_full b) (λ f. by_full s n b f n.connected b.disconnected b.pending refl refl refl) (λ _. tt)))

-- a status step: the node taken out and changed is the newcomer
pub reinsert_why : (s : BucketSettings) (n : Node) (b : Bucket) → Why s n b (reinsert_reason s n b)
unfolding reinsert_reason
reinsert_why s n b =
    cases (Why s n b) (fails_bucket_filter s n.value b) (λ e. by_filter s n.value b e)
    (λ _. cases (Why s n b) (is_max_incoming s n b) (λ e. by_incoming s n b e) (λ _. tt))

-- How many keys a reason names.

-- m: max_incoming
abbrev pub Names : ℕ → Reason → Type 0
Names m Reason.None = Unit {0}
Names m (Reason.TableFilter ks) = length ks ≡ max_nodes_per_subnet_table
Names m (Reason.BucketFilter ks) = length ks ≡ max_nodes_per_subnet_bucket
Names m (Reason.IncomingLimit ks) = length ks ≡ m
Names m Reason.NewcomerDisconnected = Unit {0}
Names m Reason.AllConnected = Unit {0}
Names m (Reason.Pending k) = Unit {0}
Names m Reason.NoSuchKey = Unit {0}
Names m Reason.LocalKey = Unit {0}

-- an insert into a bucket with at most max_incoming connected incoming nodes
why_names : (s : BucketSettings) (n : Node) (b : Bucket) (r : Reason) → length (incoming_nodes (nodes b)) ≤ s.max_incoming → Why s n b r → Names s.max_incoming r
why_names s n b Reason.None l h = tt
why_names s n b (Reason.TableFilter ks) l h = absurd h
why_names s n b (Reason.BucketFilter ks) l h = h.limited
why_names s n b (Reason.IncomingLimit ks) l h =
    let e : length ks ≡ length (incoming_nodes (nodes b)) = ap length h.all ∙ length-map (incoming_nodes (nodes b)) (λ (m : Node). m.key) in
    let g = h.enough in
    omega arith
why_names s n b Reason.NewcomerDisconnected l h = tt
why_names s n b Reason.AllConnected l h = tt
why_names s n b (Reason.Pending k) l h = tt
why_names s n b Reason.NoSuchKey l h = absurd h
why_names s n b Reason.LocalKey l h = absurd h

module _ (s : BucketSettings) where
  insert_number : (n : Node) (b : Bucket) → Formed s.max_incoming b → Names s.max_incoming (insert_reason s n b)
  insert_number n b w = why_names s n b (insert_reason s n b) w.incoming_within (insert_why s n b)

  absent_number : (k : ℕ) (p : Option PendingNode) → Names s.max_incoming (if_pending_reason k p)
  absent_number k none = tt
  absent_number k (some p) = cases (Names s.max_incoming) (same p.node.key k) (λ _. tt) (λ _. tt)

  taken_within : (k : ℕ) (b : Bucket) → Formed s.max_incoming b → length (incoming_nodes (nodes (take_out k b))) ≤ s.max_incoming
  taken_within k b w =
      let e = ap (λ (l : List Node). length (incoming_nodes l)) (nodes_take_out k b) in
      let l = incoming_omit k (nodes b) in
      let h = w.incoming_within in
      omega arith

  status_of_number : (k : ℕ) (u : Bool) (d : Option Bool) (b : Bucket) (o : Option Node) → Formed s.max_incoming b → Names s.max_incoming (status_reason_of s k u d b o)
  status_of_number k u d b none w = absent_number k b.pending
  status_of_number k u d b (some n) w =
      why_names s (with_status u d n) (taken_out k u b) (reinsert_reason s (with_status u d n) (taken_out k u b)) (taken_within k b w)
      (reinsert_why s (with_status u d n) (taken_out k u b))

  status_number : (k : ℕ) (u : Bool) (d : Option Bool) (b : Bucket) → Formed s.max_incoming b → Names s.max_incoming (status_reason s k u d b)
  unfolding status_reason
  status_number k u d b w = status_of_number k u d b (get k b) w

  value_of_number : (k : ℕ) (v : Value) (b : Bucket) (o : Option Node) → Names s.max_incoming (value_reason_of s k v b o)
  value_of_number k v b none = absent_number k b.pending
  value_of_number k v b (some n) =
      cases (Names s.max_incoming) (same_value n.value v) (λ _. tt)
      (λ _. cases (Names s.max_incoming) (fails_bucket_filter s v (take_out k b)) (λ e. (by_filter s v (take_out k b) e).limited) (λ _. tt))

  value_number : (k : ℕ) (v : Value) (b : Bucket) → Names s.max_incoming (value_reason s k v b)
  unfolding value_reason
  value_number k v b = value_of_number k v b (get k b)

  then_number : (k : ℕ) (u : Option Bool) (b : Bucket) → Formed s.max_incoming b → Names s.max_incoming (then_status_reason s k u b)
  then_number k none b w = tt
  then_number k (some u) b w = status_number k u none b w

  update_node_number : (k : ℕ) (v : Value) (u : Option Bool) (b : Bucket) → Formed s.max_incoming b → Names s.max_incoming (update_node_reason s k v u b)
  unfolding update_node_reason
  update_node_number k v u b w =
      cases (Names s.max_incoming) (is_failed (update_value s k v b).0) (λ _. value_number k v b)
      (λ _. then_number k u (update_value s k v b).1 (update_value_formed s k v b w))

  insert_or_update_number : (n : Node) (b : Bucket) → Formed s.max_incoming b → Names s.max_incoming (insert_or_update_reason s n b)
  unfolding insert_or_update_reason
  insert_or_update_number n b w =
      cases (Names s.max_incoming) (holds n.key b)
      (λ _. cases (Names s.max_incoming) (is_failed (update_status s n.key n.connected (some n.incoming) b).0)
      (λ _. status_number n.key n.connected (some n.incoming) b w)
      (λ _. value_number n.key n.value (update_status s n.key n.connected (some n.incoming) b).1))
      (λ _. insert_number n b w)

  remove_number : (k : ℕ) (b : Bucket) → Names s.max_incoming (remove_reason k b)
  unfolding remove_reason
  remove_number k b = cases (Names s.max_incoming) (holds k b) (λ _. tt) (λ _. tt)

-- the table filter
table_number : (t : Table) (i k : ℕ) (v : Value) → fails_table_filter t i k v ≡ true
    → length (filter_keys max_nodes_per_subnet_table v (other_nodes k t.buckets)) ≡ max_nodes_per_subnet_table
unfolding fails_table_filter
table_number t i k v h =
    let ns = other_nodes k t.buckets in
    filter_number max_nodes_per_subnet_table v ns (and_right (filter_runs t i k v) (ip_filter_fails max_nodes_per_subnet_table v ns) h)

module _ (t : Table) (fits : Fits t) where
  applied_formed : (now i : ℕ) → Formed t.settings.bucket.max_incoming (applied now t i)
  applied_formed now i = apply_pending_formed t.settings.bucket now (t.buckets i) (fits.well_formed i).formed

  number_at : (c : KeyCall) (k : List ℕ) (i : ℕ) → Names t.settings.bucket.max_incoming (bucket_reason c k t i)
  number_at (KeyCall.update_node_status st dr now) k i =
      status_number t.settings.bucket (number k) (is_one st) (optional dr) (applied now t i) (applied_formed now i)
  number_at (KeyCall.update_node v st now) k i =
      cases (Names t.settings.bucket.max_incoming) (fails_table_filter t i (number k) (value_of v)) (λ e. table_number t i (number k) (value_of v) e)
      (λ _. update_node_number t.settings.bucket (number k) (value_of v) (optional st) (applied now t i) (applied_formed now i))
  number_at (KeyCall.insert_or_update v st dr now hs) k i =
      cases (Names t.settings.bucket.max_incoming) (fails_table_filter t i (number k) (value_of v)) (λ e. table_number t i (number k) (value_of v) e)
      (λ _. insert_or_update_number t.settings.bucket (node_of k v st dr) (applied now t i) (applied_formed now i))
  number_at (KeyCall.remove now) k i = remove_number t.settings.bucket (number k) (applied now t i)
  number_at (KeyCall.entry now) k i = tt
  number_at (KeyCall.present_update st dr) k i =
      status_number t.settings.bucket (number k) (is_one st) (optional dr) (t.buckets i) (fits.well_formed i).formed
  number_at (KeyCall.pending_update st dr) k i = tt
  number_at (KeyCall.absent_insert v st dr now hs) k i =
      insert_number t.settings.bucket (node_of k v st dr) (t.buckets i) (fits.well_formed i).formed

  number_of : (c : KeyCall) (k : List ℕ) (o : Option ℕ) → Names t.settings.bucket.max_incoming (key_reason (bucket_reason c k t) o)
  number_of c k none = tt
  number_of c k (some i) = number_at c k i

  -- 02: a filter names as many as its limit; the incoming limit as many as max_incoming
  pub reason_names : (c : KeyCall) (k : List ℕ) → Names t.settings.bucket.max_incoming (reason c k t)
  unfolding reason
  reason_names c k = number_of c k (index_in t (number k))
