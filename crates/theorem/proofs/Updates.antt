-- The status step and the value step keep a bucket in agreement with the log.
use Prim.Native.Nat.{ℕ, ◌≤◌, ◌<◌}
use mathlib.Core.Path.{◌≡◌, refl, sym, ap, ◌∙◌, subst, subst⁻¹, fun_ext}
use mathlib.Core.Bool.{Bool, true, false, cond, ◌&&◌}
use mathlib.Core.Option.{Option, none, some}
use native.Mathlib.Omega.{arith}
use Rattle.model.specs.Base.{same, at, is_some}
use Rattle.model.specs.Value.{Value, same_value}
use Rattle.model.specs.Node.{Node, PendingNode, with_status, with_value, same_status, promotes}
use Rattle.model.specs.Result.{FailureReason, UpdateResult, is_failed}
use Rattle.model.specs.Bucket.{Bucket, BucketSettings, max_nodes_per_bucket, nodes, num_entries, get, fails_bucket_filter, is_max_incoming, with_pending, placed, take_out, reinsert, status_result, is_first, update_if_pending, update_status_of, update_status, revalue, update_value_of, update_value}
use Rattle.laws.proofs.Tests.{same_self, same_true, cases, split}
use Rattle.laws.proofs.Values.{same_value_true}
use Rattle.table_log.specs.Log.{Log, node_of, group}
use Rattle.theorem.proofs.Fold.{mem, depart, place, give}
use Rattle.theorem.proofs.Keys.{mem_without, without_twice}
use Rattle.theorem.proofs.Groups.{collect_revalue}
use Rattle.theorem.proofs.Agree.{chosen, PendingAgrees, Agree, Only, Only_refl, get_agree, agree_take_out, agree_with_pending, Gives, agree_given, held_not_pending, pending_gives}
use Rattle.theorem.proofs.Ops.{node_give, node_other, gives, agree_placed}
use Rattle.laws.proofs.KeepLists.{length_revalue}
use Rattle.laws.proofs.KeepFormed.{count_take_out_held}

-- the pending is of this key
abbrev pub IsPending : ℕ → Option PendingNode → Type 0
IsPending k none = ⊥
IsPending k (some p) = same p.node.key k ≡ true

-- A step on a held key. gone: any log that differs at k only; a failed step agrees with the departure of k from it. stays: the log
-- after a step that did not fail.
abbrev pub StepOk : (ℕ → Option ℕ) → ℕ → ℕ → Log → Log → UpdateResult × Bucket → Type 0
StepOk ix i k gone stays r = cond (is_failed r.0) (Agree ix (depart k gone) i r.1) (Agree ix stays i r.1)

-- a step on a key that is not held: a failed one changes nothing, another one changes the pending
abbrev pub FreeOk : (ℕ → Option ℕ) → ℕ → ℕ → Log → Bucket → UpdateResult × Bucket → Type 0
FreeOk ix i k stays b r = cond (is_failed r.0) (r.1 ≡ b) (Agree ix stays i r.1 × IsPending k r.1.pending)

-- a status step that places the node does not fail
pub placed_not_failed : (m n : Node) → is_failed (status_result m n none) ≡ false
placed_not_failed m n =
    cases (λ (r : UpdateResult). is_failed r ≡ false) (same_status m n) (λ _. refl)
    (λ _. cases (λ (r : UpdateResult). is_failed r ≡ false) (promotes m n) (λ _. refl) (λ _. refl))

only_give : (k : ℕ) (u d : Option Bool) (v : Option Value) (l : Log) → Only k (depart k l) (give k u d v l)
only_give k u d v l = record { same_nodes = λ x e. node_other k x u d v l e; same_held = sym (without_twice k l.held) }

give_same : (k : ℕ) (v : Value) (l : Log) → l.value k ≡ v → l ≡ give k none none (some v) l
give_same k v l e = λ j. record { settings = l.settings; held = l.held; connected = l.connected; incoming = l.incoming; value = fun_ext {f = l.value} {g = at k v l.value} go j }
  where
    go : (x : ℕ) → l.value x ≡ cond (same x k) v (l.value x)
    go x = split (same x k) (λ q. rw (q, same_true x k q) e) (λ q. rw q)

module _ (ix : ℕ → Option ℕ) where
  pub held_get : (l : Log) (i k : ℕ) (b : Bucket) → Agree ix l i b → ix k ≡ some i → mem k l.held ≡ true → get k b ≡ some (node_of l k)
  held_get l i k b a h m = get_agree ix l i k b a h ∙ rw m

  pub free_get : (l : Log) (i k : ℕ) (b : Bucket) → Agree ix l i b → ix k ≡ some i → mem k l.held ≡ false → get k b ≡ none
  free_get l i k b a h m = get_agree ix l i k b a h ∙ rw m

  -- the node taken out; t: the pending is cleared
  agree_leave : (l gone : Log) (i k : ℕ) (b : Bucket) (t : Bool) → Agree ix l i b → mem k l.held ≡ true → Only k l gone
      → Agree ix (depart k gone) i (with_pending (cond t none b.pending) (take_out k b))
  agree_leave l gone i k b t a m o =
      let z : Agree ix (depart k gone) i (take_out k b) = agree_take_out ix l gone i k b a o (held_not_pending ix l i k b.pending a.pend m) in
      agree_with_pending ix (depart k gone) i (take_out k b) (cond t none b.pending) z (cases (PendingAgrees ix (depart k gone) i) t (λ _. tt) (λ _. z.pend))

  -- the pending with another status or value
  pub pending_changed : (f : Node → Node) (l l' : Log) (i k : ℕ) (b : Bucket) (p : PendingNode) → Agree ix l i b → ix k ≡ some i → mem k l.held ≡ false
      → Gives k l l' → f (node_of l k) ≡ node_of l' k → same p.node.key k ≡ true → PendingAgrees ix l i (some p)
      → Agree ix l' i (with_pending (some (record { node = f p.node; deadline = p.deadline })) b) × (same (f p.node).key k ≡ true)
  pending_changed f l l' i k b p a h m g q e w =
      subst⁻¹ (λ (n : Node). Agree ix l' i (with_pending (some (record { node = n; deadline = p.deadline })) b) × (same n.key k ≡ true))
      (ap f (w.2 ∙ ap (node_of l) (same_true p.node.key k e)) ∙ q)
      (agree_given ix l l' i k b a g m (some (record { node = node_of l' k; deadline = p.deadline })) (h, ap (mem k) g.all_held ∙ m, refl), same_self k)

  update_if_pending_ok : (f : Node → Node) (l l' : Log) (i k : ℕ) (b : Bucket) → Agree ix l i b → ix k ≡ some i → mem k l.held ≡ false
      → Gives k l l' → f (node_of l k) ≡ node_of l' k → (p : Option PendingNode) → PendingAgrees ix l i p → FreeOk ix i k l' b (update_if_pending k f b p)
  update_if_pending_ok f l l' i k b a h m g q none w = refl
  update_if_pending_ok f l l' i k b a h m g q (some p) w =
      cases (FreeOk ix i k l' b) (same p.node.key k) (λ e. pending_changed f l l' i k b p a h m g q e w) (λ e. refl)

  update_if_pending_works : (f : Node → Node) (k : ℕ) (b : Bucket) (p : Option PendingNode) → IsPending k p → is_failed (update_if_pending k f b p).0 ≡ false
  update_if_pending_works f k b none w = absurd w
  update_if_pending_works f k b (some p) w = rw w

  module _ (s : BucketSettings) where
    reinsert_ok : (l gone stays : Log) (i : ℕ) (m n : Node) (b : Bucket) → Agree ix l i b → Agree ix (depart n.key gone) i b → ix n.key ≡ some i
        → mem n.key l.held ≡ false → num_entries b < max_nodes_per_bucket → Only n.key l stays → node_of stays n.key ≡ n
        → StepOk ix i n.key gone (place n.key stays) (status_result m n (reinsert s n b).0, (reinsert s n b).1)
    unfolding reinsert
    reinsert_ok l gone stays i m n b a g h e c o q =
        let P : Option FailureReason × Bucket → Type 0 = λ (r : Option FailureReason × Bucket). StepOk ix i n.key gone (place n.key stays) (status_result m n r.0, r.1) in
        cases P (fails_bucket_filter s n.value b) (λ _. g)
        (λ _. cases P (is_max_incoming s n b) (λ _. g)
        (λ _. subst⁻¹ (λ (t : Bool). cond t (Agree ix (depart n.key gone) i (placed n b)) (Agree ix (place n.key stays) i (placed n b))) (placed_not_failed m n)
        (agree_placed ix l stays i n b a h e c o q)))

    -- the status step
    pub status_held : (l gone : Log) (i k : ℕ) (u : Bool) (d : Option Bool) (b : Bucket) → Agree ix l i b → ix k ≡ some i → mem k l.held ≡ true → Only k l gone
        → StepOk ix i k gone (place k (give k (some u) d none l)) (update_status s k u d b)
    unfolding update_status
    status_held l gone i k u d b a h m o =
        let t : Bool = u && is_first k (nodes b) in
        let e : get k b ≡ some (node_of l k) = held_get l i k b a h m in
        let c : num_entries (take_out k b) < num_entries b = count_take_out_held k b (ap is_some e) in
        let r : num_entries b ≤ max_nodes_per_bucket = a.room in
        subst⁻¹ (λ (x : Option Node). StepOk ix i k gone (place k (give k (some u) d none l)) (update_status_of s k u d b x)) e
        (reinsert_ok (depart k l) gone (give k (some u) d none l) i (node_of l k) (with_status u d (node_of l k)) (with_pending (cond t none b.pending) (take_out k b))
        (agree_leave l l i k b t a m (Only_refl k l)) (agree_leave l gone i k b t a m o) h (mem_without k l.held) (omega arith)
        (only_give k (some u) d none l) (node_give k (some u) d none l))

    pub status_free : (l : Log) (i k : ℕ) (u : Bool) (d : Option Bool) (b : Bucket) → Agree ix l i b → ix k ≡ some i → mem k l.held ≡ false
        → FreeOk ix i k (give k (some u) d none l) b (update_status s k u d b)
    unfolding update_status
    status_free l i k u d b a h m =
        subst⁻¹ (λ (x : Option Node). FreeOk ix i k (give k (some u) d none l) b (update_status_of s k u d b x)) (free_get l i k b a h m)
        (update_if_pending_ok (with_status u d) l (give k (some u) d none l) i k b a h m (gives k (some u) d none l) (sym (node_give k (some u) d none l)) b.pending a.pend)

    -- on the pending's key it does not fail
    pub status_pending : (l : Log) (i k : ℕ) (u : Bool) (d : Option Bool) (b : Bucket) → Agree ix l i b → ix k ≡ some i → mem k l.held ≡ false → IsPending k b.pending
        → is_failed (update_status s k u d b).0 ≡ false
    unfolding update_status
    status_pending l i k u d b a h m w =
        subst⁻¹ (λ (x : Option Node). is_failed (update_status_of s k u d b x).0 ≡ false) (free_get l i k b a h m) (update_if_pending_works (with_status u d) k b b.pending w)

    -- the value step
    pub value_free : (l : Log) (i k : ℕ) (v : Value) (b : Bucket) → Agree ix l i b → ix k ≡ some i → mem k l.held ≡ false
        → FreeOk ix i k (give k none none (some v) l) b (update_value s k v b)
    unfolding update_value
    value_free l i k v b a h m =
        subst⁻¹ (λ (x : Option Node). FreeOk ix i k (give k none none (some v) l) b (update_value_of s k v b x)) (free_get l i k b a h m)
        (update_if_pending_ok (with_value v) l (give k none none (some v) l) i k b a h m (gives k none none (some v) l) (sym (node_give k none none (some v) l)) b.pending a.pend)

    pub value_held : (l gone : Log) (i k : ℕ) (v : Value) (b : Bucket) → Agree ix l i b → ix k ≡ some i → mem k l.held ≡ true → Only k l gone
        → StepOk ix i k gone (give k none none (some v) l) (update_value s k v b)
    unfolding update_value group
    value_held l gone i k v b a h m o =
        let P : UpdateResult × Bucket → Type 0 = StepOk ix i k gone (give k none none (some v) l) in
        let nw = held_not_pending ix l i k b.pending a.pend m in
        subst⁻¹ (λ (x : Option Node). P (update_value_of s k v b x)) (held_get l i k b a h m)
        (cases P (same_value (l.value k) v)
        (λ e. subst (λ (x : Log). Agree ix x i b) (give_same k v l (same_value_true (l.value k) v e)) a)
        (λ _. cases P (fails_bucket_filter s v (take_out k b)) (λ _. agree_take_out ix l gone i k b a o nw)
        (λ _. record {
          disc = ap (revalue k v) a.disc ∙ sym (collect_revalue (chosen ix i false (node_of l)) (node_of l) (node_of (give k none none (some v) l)) k v (λ x. refl) (node_give k none none (some v) l) (λ x e. node_other k x none none (some v) l e) l.held);
          conn = ap (revalue k v) a.conn ∙ sym (collect_revalue (chosen ix i true (node_of l)) (node_of l) (node_of (give k none none (some v) l)) k v (λ x. refl) (node_give k none none (some v) l) (λ x e. node_other k x none none (some v) l e) l.held);
          pend = pending_gives ix l (give k none none (some v) l) i k b.pending (gives k none none (some v) l) nw a.pend;
          room = let r = a.room in let x = length_revalue k v b.disconnected in let y = length_revalue k v b.connected in omega arith;
        })))
