-- With the bucket filter on, a bucket holds at most two different values of a /24 (specs/Claim, TwoOfANet).
use Prim.Native.Nat.{ℕ, ◌≤◌, ◌<◌}
use mathlib.Core.Path.{◌≡◌, refl, sym, ap, ◌∙◌, subst⁻¹}
use mathlib.Core.Bool.{Bool, true, false, cond, not, ◌&&◌}
use mathlib.Core.List.{List, [], ◌∷◌, ◌++◌, reverse}
use mathlib.Core.Option.{Option, none, some}
use mathlib.Core.Logic.{◌⊎◌, inl, inr, ⊎_elim}
use native.Mathlib.Omega.{arith}
use lib.ListN.{length}
use lib.Dec.{leb}
use borrow.Author.Tests.{leb-false, not-true}
use Rattle.model.specs.Base.{same, is_some, any_of}
use Rattle.model.specs.Value.{Address, Value, same_value, shares_net, has_address}
use Rattle.model.specs.Node.{Node, PendingNode, EndedPending, with_status, with_value}
use Rattle.model.specs.Filter.{counts, counted, ip_filter_fails, max_nodes_per_subnet_bucket}
use Rattle.model.specs.Result.{FailureReason, BucketInsertResult, UpdateResult, is_inserted}
use Rattle.model.specs.Bucket.{Bucket, BucketSettings, nodes, is_full, get, holds, fails_bucket_filter, is_max_incoming, with_pending, only, put, omit, take_out, insert_full, insert, apply_full, apply_due, apply_if_due, apply_pending, reinsert, is_first, update_if_pending, update_status_of, update_status, revalue, update_value_of, update_value, update_pending, remove}
use Rattle.laws.proofs.Tests.{clash, cases, split, and_left, and_right, or_first, or_second, or_rest}
use Rattle.laws.proofs.Values.{same_value_true, same_value_self, shares_net_sym, shares_net_trans}
use Rattle.model.specs.Table.{Settings, Table, Answer, num_buckets}
use Rattle.model.specs.Layout.{nodes_in}
use Rattle.model.specs.Saved.{three_of_aNet, loaded_bytes, loaded_bucket}
use Rattle.laws.proofs.Lists.{lt_or_le}
use Rattle.laws.proofs.BucketBack.{nodes_in_lem}
use Rattle.laws.proofs.Loaded.{Loads, loaded_at, loaded_past}
use Rattle.model.specs.Call.{Call}
use Rattle.model.specs.Step.{step}
use Rattle.table_log.specs.Log.{log_of}
use Rattle.table_log.specs.Claim.{table_after, entries, HasValue, TwoOfANet}
use Rattle.theorem.proofs.Run.{settings}
use Rattle.theorem.proofs.Kept.{Keeps, reached_keeps}

-- the nodes whose values count against v
more_counted : (v : Value) (n : Node) (ns : List Node) → length (counted v ns) ≤ length (counted v (n ∷ ns))
more_counted v n ns = split (counts v n.value) (λ e. rw e (omega arith)) (λ e. rw e (omega arith))

one_counted : (v w : Value) (ns : List Node) → counts v w ≡ true → HasValue w ns → 1 ≤ length (counted v ns)
one_counted v w [] r h = absurd h
one_counted v w (n ∷ ns) r (inl e) = rw (ap (counts v) e ∙ r) (omega arith)
one_counted v w (n ∷ ns) r (inr h) = let z = one_counted v w ns r h in let y = more_counted v n ns in omega arith

two_counted : (v w x : Value) (ns : List Node) → counts v w ≡ true → counts v x ≡ true → (w ≡ x → ⊥) → HasValue w ns → HasValue x ns → 2 ≤ length (counted v ns)
two_counted v w x [] r q d h g = absurd h
two_counted v w x (n ∷ ns) r q d (inl e) (inl f) = absurd (d (sym e ∙ f))
two_counted v w x (n ∷ ns) r q d (inl e) (inr g) = let z = one_counted v x ns q g in rw (ap (counts v) e ∙ r) (omega arith)
two_counted v w x (n ∷ ns) r q d (inr h) (inl f) = let z = one_counted v w ns r h in rw (ap (counts v) f ∙ q) (omega arith)
two_counted v w x (n ∷ ns) r q d (inr h) (inr g) = let z = two_counted v w x ns r q d h g in let y = more_counted v n ns in omega arith

counts_of : (v w : Value) → shares_net v.address w.address ≡ true → same_value w v ≡ false → counts v w ≡ true
unfolding counts
counts_of v w e d = rw (e, d)

shares_some : (x y : Option Address) → shares_net x y ≡ true → is_some x ≡ true
shares_some none y e = clash e refl
shares_some (some x) y e = refl

few : (v : Value) (ns : List Node) → ip_filter_fails max_nodes_per_subnet_bucket v ns ≡ false → has_address v ≡ true → length (counted v ns) < 2
unfolding ip_filter_fails
few v ns e h = leb-false 2 (length (counted v ns)) (rw h at e)

-- where v passes the filter, of v and two values of its /24 two are equal
passed_two : (v w x : Value) (ns : List Node) → ip_filter_fails max_nodes_per_subnet_bucket v ns ≡ false → shares_net v.address w.address ≡ true → shares_net v.address x.address ≡ true
    → HasValue w ns → HasValue x ns → (v ≡ w) ⊎ ((v ≡ x) ⊎ (w ≡ x))
passed_two v w x ns f nw nx hw hx =
    split (same_value w v) (λ e. inl (sym (same_value_true w v e)))
    (λ d. split (same_value x v) (λ e. inr (inl (sym (same_value_true x v e))))
    (λ c. split (same_value w x) (λ e. inr (inr (same_value_true w x e)))
    (λ b. absurd (
    let z = two_counted v w x ns (counts_of v w nw d) (counts_of v x nx c) (λ p. clash (ap (λ (y : Value). same_value y x) p ∙ same_value_self x) b) hw hx in
    let y = few v ns f (shares_some v.address w.address nw) in omega arith))))

-- a list whose values are v, which passes the filter, and those of a list with two of a /24
two_more : (v : Value) (ns ns' : List Node) → TwoOfANet ns → ip_filter_fails max_nodes_per_subnet_bucket v ns ≡ false → ((w : Value) → HasValue w ns' → (v ≡ w) ⊎ HasValue w ns) → TwoOfANet ns'
two_more v ns ns' s f c a b d ha hb hd nab nbd = go (c a ha) (c b hb) (c d hd)
  where
    shares : (w : Value) → v ≡ w → (x : Value) → shares_net w.address x.address ≡ true → shares_net v.address x.address ≡ true
    shares w p x e = ap (λ (y : Value). shares_net y.address x.address) p ∙ e

    ba : shares_net b.address a.address ≡ true
    ba = shares_net_sym a.address b.address nab

    ad : shares_net a.address d.address ≡ true
    ad = shares_net_trans a.address b.address d.address nab nbd

    db : shares_net d.address b.address ≡ true
    db = shares_net_sym b.address d.address nbd

    da : shares_net d.address a.address ≡ true
    da = shares_net_sym a.address d.address ad

    go : (v ≡ a) ⊎ HasValue a ns → (v ≡ b) ⊎ HasValue b ns → (v ≡ d) ⊎ HasValue d ns → (a ≡ b) ⊎ ((b ≡ d) ⊎ (a ≡ d))
    go (inl p) (inl q) z = inl (sym p ∙ q)
    go (inl p) (inr y) (inl q) = inr (inr (sym p ∙ q))
    go (inl p) (inr y) (inr z) =
        ⊎_elim (λ q. inl (sym p ∙ q)) (⊎_elim (λ q. inr (inr (sym p ∙ q))) (λ q. inr (inl q))) (passed_two v b d ns f (shares a p b nab) (shares a p d ad) y z)
    go (inr x) (inl p) (inl q) = inr (inl (sym p ∙ q))
    go (inr x) (inl p) (inr z) =
        ⊎_elim (λ q. inl (sym q ∙ p)) (⊎_elim (λ q. inr (inl (sym p ∙ q))) (λ q. inr (inr q))) (passed_two v a d ns f (shares b p a ba) (shares b p d nbd) x z)
    go (inr x) (inr y) (inl p) =
        ⊎_elim (λ q. inr (inr (sym q ∙ p))) (⊎_elim (λ q. inr (inl (sym q ∙ p))) (λ q. inl q)) (passed_two v a b ns f (shares d p a da) (shares d p b db) x y)
    go (inr x) (inr y) (inr z) = s a b d x y z nab nbd

two_fewer : (ns ns' : List Node) → TwoOfANet ns → ((v : Value) → HasValue v ns' → HasValue v ns) → TwoOfANet ns'
two_fewer ns ns' s c a b d ha hb hd nab nbd = s a b d (c a ha) (c b hb) (c d hd) nab nbd

-- values of the lists that the operations make
value_append : (v : Value) (xs ys : List Node) → HasValue v (xs ++ ys) → HasValue v xs ⊎ HasValue v ys
value_append v [] ys h = inr h
value_append v (n ∷ xs) ys (inl e) = inl (inl e)
value_append v (n ∷ xs) ys (inr h) = ⊎_elim (λ z. inl (inr z)) (λ z. inr z) (value_append v xs ys h)

value_left : (v : Value) (xs ys : List Node) → HasValue v xs → HasValue v (xs ++ ys)
value_left v [] ys h = absurd h
value_left v (n ∷ xs) ys (inl e) = inl e
value_left v (n ∷ xs) ys (inr h) = inr (value_left v xs ys h)

value_right : (v : Value) (xs ys : List Node) → HasValue v ys → HasValue v (xs ++ ys)
value_right v [] ys h = h
value_right v (n ∷ xs) ys h = inr (value_right v xs ys h)

-- of both parts of a bucket: a value of the new part is x, or of the old part
value_parts : (x v : Value) (xs ys xs' ys' : List Node) → (HasValue v xs' → (x ≡ v) ⊎ HasValue v xs) → (HasValue v ys' → (x ≡ v) ⊎ HasValue v ys)
    → HasValue v (xs' ++ ys') → (x ≡ v) ⊎ HasValue v (xs ++ ys)
value_parts x v xs ys xs' ys' f g h =
    ⊎_elim (λ z. ⊎_elim (λ e. inl e) (λ y. inr (value_left v xs ys y)) (f z)) (λ z. ⊎_elim (λ e. inl e) (λ y. inr (value_right v xs ys y)) (g z)) (value_append v xs' ys' h)

value_omit : (v : Value) (k : ℕ) (ns : List Node) → HasValue v (omit k ns) → HasValue v ns
value_omit v k [] h = h
value_omit v k (n ∷ ns) h =
    split (same n.key k) (λ e. inr (value_omit v k ns (rw e at h)))
    (λ e. let g : (n.value ≡ v) ⊎ HasValue v (omit k ns) = rw e at h in ⊎_elim (λ p. inl p) (λ z. inr (value_omit v k ns z)) g)

value_take_out : (v : Value) (k : ℕ) (b : Bucket) → HasValue v (nodes (take_out k b)) → HasValue v (nodes b)
value_take_out v k b h =
    ⊎_elim (λ z. value_left v b.disconnected b.connected (value_omit v k b.disconnected z))
    (λ z. value_right v b.disconnected b.connected (value_omit v k b.connected z)) (value_append v (omit k b.disconnected) (omit k b.connected) h)

value_only : (v : Value) (ns : List Node) (t : Bool) (n : Node) → HasValue v (ns ++ only t n) → (n.value ≡ v) ⊎ HasValue v ns
value_only v ns t n h = ⊎_elim (λ z. inr z) (λ z. inl (go t z)) (value_append v ns (only t n) h)
  where
    go : (t : Bool) → HasValue v (only t n) → n.value ≡ v
    go true (inl e) = e
    go true (inr h) = absurd h
    go false h = absurd h

value_put : (v : Value) (n : Node) (b : Bucket) → HasValue v (nodes (put n b)) → (n.value ≡ v) ⊎ HasValue v (nodes b)
value_put v n b h =
    value_parts n.value v b.disconnected b.connected (b.disconnected ++ only (not n.connected) n) (b.connected ++ only n.connected n)
    (value_only v b.disconnected (not n.connected) n) (value_only v b.connected n.connected n) h

value_revalue : (w : Value) (k : ℕ) (v : Value) (ns : List Node) → HasValue w (revalue k v ns) → (v ≡ w) ⊎ HasValue w (omit k ns)
value_revalue w k v [] h = absurd h
value_revalue w k v (n ∷ ns) h =
    cases (λ (ms : List Node). (v ≡ w) ⊎ HasValue w ms) (same n.key k)
    (λ e. let g : (v ≡ w) ⊎ HasValue w (revalue k v ns) = rw e at h in ⊎_elim (λ p. inl p) (value_revalue w k v ns) g)
    (λ e. let g : (n.value ≡ w) ⊎ HasValue w (revalue k v ns) = rw e at h in
    ⊎_elim (λ p. inr (inl p)) (λ z. ⊎_elim (λ p. inl p) (λ y. inr (inr y)) (value_revalue w k v ns z)) g)

-- the bucket's operations
abbrev pub Spread : BucketSettings → Bucket → Type 0
Spread s b = s.filter ≡ true → TwoOfANet (nodes b)

module _ (s : BucketSettings) where
  passes : (v : Value) (b : Bucket) → fails_bucket_filter s v b ≡ false → s.filter ≡ true → ip_filter_fails max_nodes_per_subnet_bucket v (nodes b) ≡ false
  unfolding fails_bucket_filter
  passes v b e on = rw on at e

  take_out_spread : (k : ℕ) (b : Bucket) → Spread s b → Spread s (take_out k b)
  take_out_spread k b f on = two_fewer (nodes b) (nodes (take_out k b)) (f on) (λ v. value_take_out v k b)

  put_spread : (n : Node) (b : Bucket) → Spread s b → fails_bucket_filter s n.value b ≡ false → Spread s (put n b)
  put_spread n b f e on = two_more n.value (nodes b) (nodes (put n b)) (f on) (passes n.value b e on) (λ w. value_put w n b)

  reinsert_spread : (n : Node) (b : Bucket) → Spread s b → Spread s (reinsert s n b).1
  unfolding reinsert
  reinsert_spread n b f =
      let P : Option FailureReason × Bucket → Type 0 = λ r. Spread s r.1 in
      cases P (fails_bucket_filter s n.value b) (λ _. f) (λ e. cases P (is_max_incoming s n b) (λ _. f) (λ _. put_spread n b f e))

  update_if_pending_spread : (k : ℕ) (f : Node → Node) (b : Bucket) → Spread s b → (p : Option PendingNode) → Spread s (update_if_pending k f b p).1
  update_if_pending_spread k f b g none = g
  update_if_pending_spread k f b g (some p) = cases (λ (r : UpdateResult × Bucket). Spread s r.1) (same p.node.key k) (λ _. g) (λ _. g)

  update_status_of_spread : (k : ℕ) (u : Bool) (d : Option Bool) (b : Bucket) → Spread s b → (o : Option Node) → Spread s (update_status_of s k u d b o).1
  update_status_of_spread k u d b f none = update_if_pending_spread k (with_status u d) b f b.pending
  update_status_of_spread k u d b f (some n) =
      reinsert_spread (with_status u d n) (with_pending (cond (u && is_first k (nodes b)) none b.pending) (take_out k b)) (take_out_spread k b f)

  pub status_spread : (k : ℕ) (u : Bool) (d : Option Bool) (b : Bucket) → Spread s b → Spread s (update_status s k u d b).1
  unfolding update_status
  status_spread k u d b f = update_status_of_spread k u d b f (get k b)

  update_value_of_spread : (k : ℕ) (v : Value) (b : Bucket) → Spread s b → (o : Option Node) → Spread s (update_value_of s k v b o).1
  update_value_of_spread k v b f none = update_if_pending_spread k (with_value v) b f b.pending
  update_value_of_spread k v b f (some n) =
      let P : UpdateResult × Bucket → Type 0 = λ r. Spread s r.1 in
      cases P (same_value n.value v) (λ _. f)
      (λ _. cases P (fails_bucket_filter s v (take_out k b)) (λ _. take_out_spread k b f)
      (λ e on. two_more v (nodes (take_out k b)) (revalue k v b.disconnected ++ revalue k v b.connected) (take_out_spread k b f on) (passes v (take_out k b) e on)
      (λ w. value_parts v w (omit k b.disconnected) (omit k b.connected) (revalue k v b.disconnected) (revalue k v b.connected)
      (value_revalue w k v b.disconnected) (value_revalue w k v b.connected))))

  pub value_spread : (k : ℕ) (v : Value) (b : Bucket) → Spread s b → Spread s (update_value s k v b).1
  unfolding update_value
  value_spread k v b f = update_value_of_spread k v b f (get k b)

  pub update_pending_spread : (u d : Bool) (b : Bucket) → Spread s b → Spread s (update_pending u d b)
  unfolding update_pending
  update_pending_spread u d b f = f

  -- the tests were made with the evicted node still there
  apply_full_spread : (n : Node) (b : Bucket) → Spread s b → (ds : List Node) → b.disconnected ≡ ds → Spread s (apply_full s n b ds).0
  apply_full_spread n b f [] q = f
  apply_full_spread n b f (d ∷ ds) q =
      let P : Bucket × List EndedPending → Type 0 = λ r. Spread s r.0 in
      cases P (fails_bucket_filter s n.value b) (λ _. f)
      (λ e. cases P (is_max_incoming s n b) (λ _. f)
      (λ _ on. two_fewer (nodes (put n b)) ((ds ++ only (not n.connected) n) ++ (b.connected ++ only n.connected n))
      (put_spread n b f e on)
      (λ v h. subst⁻¹ (λ (x : List Node). HasValue v ((x ++ only (not n.connected) n) ++ (b.connected ++ only n.connected n))) q (inr h))))

  module _ (now : ℕ) where
    insert_full_spread : (n : Node) (b : Bucket) → Spread s b → (u : Bool) (ds : List Node) (p : Option PendingNode) → Spread s (insert_full s now n b u ds p).1
    insert_full_spread n b f false ds p = f
    insert_full_spread n b f true [] p = f
    insert_full_spread n b f true (d ∷ ds) none = f
    insert_full_spread n b f true (d ∷ ds) (some p) = f

    pub insert_spread : (n : Node) (b : Bucket) → Spread s b → Spread s (insert s now n b).1
    unfolding insert
    insert_spread n b f =
        let P : BucketInsertResult × Bucket → Type 0 = λ r. Spread s r.1 in
        cases P (holds n.key b) (λ _. f)
        (λ _. cases P (fails_bucket_filter s n.value b) (λ _. f)
        (λ e. cases P (is_max_incoming s n b) (λ _. f)
        (λ _. cases P (is_full b) (λ _. insert_full_spread n b f n.connected b.disconnected b.pending) (λ _. put_spread n b f e))))

    apply_due_spread : (n : Node) (b : Bucket) → Spread s b → Spread s (apply_due s now n b).0
    unfolding apply_due
    apply_due_spread n b f =
        let P : Bucket × List EndedPending → Type 0 = λ r. Spread s r.0 in
        cases P (is_full b) (λ _. apply_full_spread n b f b.disconnected refl) (λ _. cases (Spread s) (is_inserted (insert s now n b).0) (λ _. insert_spread n b f) (λ _. f))

    apply_if_due_spread : (b : Bucket) → Spread s b → (p : Option PendingNode) → Spread s (apply_if_due s now b p).0
    apply_if_due_spread b f none = f
    apply_if_due_spread b f (some p) =
        cases (λ (r : Bucket × List EndedPending). Spread s r.0) (leb p.deadline now) (λ _. apply_due_spread p.node (with_pending none b) f) (λ _. f)

    pub apply_spread : (b : Bucket) → Spread s b → Spread s (apply_pending s now b).0
    unfolding apply_pending
    apply_spread b f = apply_if_due_spread b f b.pending

    pub remove_spread : (k : ℕ) (b : Bucket) → Spread s b → Spread s (remove s now k b).1
    unfolding remove
    remove_spread k b f = cases (λ (r : Bool × Bucket). Spread s r.1) (holds k b) (λ _. apply_spread (take_out k b) (take_out_spread k b f)) (λ _. f)

-- ---- what question 9 asks: no three different values of one /24

counts_net : (v w : Value) → counts v w ≡ true → shares_net v.address w.address ≡ true
unfolding counts
counts_net v w e = and_left (shares_net v.address w.address) (not (same_value w v)) e

counts_other : (v w : Value) → counts v w ≡ true → v ≡ w → ⊥
unfolding counts
counts_other v w e p =
    clash (ap (same_value w) p ∙ same_value_self w) (not-true (same_value w v) (and_right (shares_net v.address w.address) (not (same_value w v)) e))

-- some node's value passes a test
any_value : (p : Value → Bool) (v : Value) (ns : List Node) → HasValue v ns → p v ≡ true → any_of (λ (n : Node). p n.value) ns ≡ true
any_value p v [] h e = absurd h
any_value p v (n ∷ ns) (inl q) e = or_first (p n.value) _ (ap p q ∙ e)
any_value p v (n ∷ ns) (inr h) e = or_second (p n.value) _ (any_value p v ns h e)

value_any : {A : Type 0} (p : Value → Bool) (ns : List Node) → any_of (λ (n : Node). p n.value) ns ≡ true → ((v : Value) → HasValue v ns → p v ≡ true → A) → A
value_any p [] e k = clash e refl
value_any p (n ∷ ns) e k =
    split (p n.value) (λ q. k n.value (inl refl) q) (λ q. value_any p ns (or_rest (p n.value) _ e q) (λ v h r. k v (inr h) r))

module _ (ns : List Node) where
  abbrev third : Value → Value → Value → Bool
  third u v w = counts u w && counts v w

  abbrev second : Value → Value → Bool
  second u v = counts u v && any_of (λ (n : Node). third u v n.value) ns

  abbrev first : Value → Bool
  first u = any_of (λ (n : Node). second u n.value) ns

  pub two_of : three_of_aNet ns ≡ false → TwoOfANet ns
  unfolding three_of_aNet
  two_of e u v w hu hv hw nuv nvw =
      split (same_value v u) (λ q. inl (sym (same_value_true v u q)))
      (λ a. split (same_value w v) (λ q. inr (inl (sym (same_value_true w v q))))
      (λ b. split (same_value w u) (λ q. inr (inr (sym (same_value_true w u q))))
      (λ c.
      let uw : counts u w ≡ true = counts_of u w (shares_net_trans u.address v.address w.address nuv nvw) c in
      let third-there = any_value (third u v) w ns hw (rw (uw, counts_of v w nvw b)) in
      let second-there = any_value (second u) v ns hv (rw (counts_of u v nuv a, third-there)) in
      clash (any_value first u ns hu second-there) e)))

  pub no_three : TwoOfANet ns → three_of_aNet ns ≡ false
  unfolding three_of_aNet
  no_three s = split (three_of_aNet ns) (λ e. absurd (go e)) (λ e. e)
    where
      go : any_of (λ (n : Node). first n.value) ns ≡ true → ⊥
      go e =
          value_any first ns e
          (λ u hu f. value_any (second u) ns f
          (λ v hv g.
          let uv : counts u v ≡ true = and_left (counts u v) _ g in
          value_any (third u v) ns (and_right (counts u v) _ g)
          (λ w hw h.
          let uw : counts u w ≡ true = and_left (counts u w) (counts v w) h in
          let vw : counts v w ≡ true = and_right (counts u w) (counts v w) h in
          ⊎_elim (counts_other u v uv) (⊎_elim (counts_other v w vw) (counts_other u w uw)) (s u v w hu hv hw (counts_net u v uv) (counts_net v w vw)))))

load_spread : (bs : List ℕ) (t : Table) → Loads bs t → (j : ℕ) → Spread t.settings.bucket (loaded_bucket bs j)
load_spread bs t g j on =
    ⊎_elim
    (λ l. subst⁻¹ TwoOfANet (ap nodes (loaded_at bs j l) ∙ nodes_in_lem (loaded_bytes bs j)) (two_of (nodes_in (loaded_bytes bs j)) (g.nets on j l)))
    (λ l. subst⁻¹ (λ (b : Bucket). TwoOfANet (nodes b)) (loaded_past bs j l) (λ u v w hu. absurd hu))
    (lt_or_le j num_buckets)

-- in every bucket after every list of calls that follows an accepted `new`
spread_kept : Keeps Spread
spread_kept = record {
  empty = λ s on u v w hu hv hw nuv nvw. absurd hu;
  insert = insert_spread;
  apply = apply_spread;
  status = status_spread;
  value = value_spread;
  pending = update_pending_spread;
  remove = remove_spread;
  load = load_spread;
}

pub two_of_a_net : (k : List ℕ) (timeout m tf bf : ℕ) (t : Table) (cs : List Call) → (step (Call.new k timeout m tf bf) t).answer ≡ Answer.New → (i : ℕ)
    → (log_of (reverse (entries (Call.new k timeout m tf bf ∷ cs) t))).settings.bucket.filter ≡ true → TwoOfANet (nodes ((table_after (Call.new k timeout m tf bf ∷ cs) t).buckets i))
two_of_a_net k timeout m tf bf t cs e i on =
    reached_keeps Spread spread_kept k timeout m tf bf t cs e i (ap (λ (s : Settings). s.bucket.filter) (settings k timeout m tf bf t cs e) ∙ on)
