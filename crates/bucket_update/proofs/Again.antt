-- The status's step and the value's step on a held node, in either order: where neither fails they are the node put again.
use Prim.Native.Nat.{ℕ}
use mathlib.Core.Path.{◌≡◌, refl, sym, ap, ◌∙◌, subst}
use mathlib.Core.Bool.{Bool, true, false, true≢false, cond, not, ◌&&◌}
use mathlib.Core.List.{List, [], ◌∷◌, ◌++◌}
use mathlib.Core.Option.{Option, none, some}
use Rattle.model.specs.Base.{same, is_some}
use Rattle.model.specs.Value.{Value, same_value}
use Rattle.model.specs.Node.{Node, PendingNode, with_status, with_value, same_status, promotes}
use Rattle.model.specs.Result.{FailureReason, UpdateResult, InsertResult, is_failed}
use Rattle.model.specs.Bucket.{Bucket, BucketSettings, nodes, find, get, holds, fails_bucket_filter, is_max_incoming, with_pending, cleared, only, placed, omit, take_out, reinsert, status_result, is_first, taken_out, update_status, revalue, update_value}
use Rattle.model.specs.Table.{Answer, both_updates, update_node_in, insert_updates, insert_or_update_in}
use Rattle.laws.proofs.Tests.{same_self, split, cases}
use Rattle.laws.proofs.Values.{same_value_true}
use Rattle.laws.proofs.All.{all_left, all_right}
use Rattle.laws.proofs.KeepLists.{Without, get_nodes, holds_without}
use Rattle.laws.proofs.KeepFormed.{nodes_put, nodes_revalue, take_out_without}
use Rattle.bucket.proofs.Steps.{filter_off}
use Rattle.bucket.proofs.Rules.{reinsert_filter, reinsert_many, reinsert_placed, status_held, value_same, value_fails, value_changes}
use Rattle.bucket_update.specs.Again.{put_again, value_result}
use Rattle.bucket_update.proofs.Rules.{insert_failed, insert_both, node_failed, node_both}

same_lists : {ds ds' cs cs' : List Node} {p p' : Option PendingNode} → ds ≡ ds' → cs ≡ cs' → p ≡ p'
    → ◌≡◌ {A = Bucket} (record { disconnected = ds; connected = cs; pending = p }) (record { disconnected = ds'; connected = cs'; pending = p' })
same_lists e₁ e₂ e₃ = cc

-- A node that was placed: it is found, and its value is changed in its place.

find_behind : (n : Node) (xs ys : List Node) → Without n.key xs → find n.key (xs ++ (n ∷ ys)) ≡ some n
find_behind n [] ys h = rw (same_self n.key)
find_behind n (x ∷ xs) ys h = rw h.0 (find_behind n xs ys h.1)

get_placed : (n : Node) (b : Bucket) → holds n.key b ≡ false → get n.key (placed n b) ≡ some n
get_placed n b h =
    get_nodes n.key (placed n b)
    ∙ nodes_put (λ (ns : List Node). find n.key ns ≡ some n) n (with_pending (cleared n.key b.pending) b)
    (λ xs ys e. find_behind n xs ys (all_left (λ (m : Node). same m.key n.key ≡ false) xs ys (subst (Without n.key) (sym e) (holds_without n.key b h))))

revalue_end : (n : Node) (v : Value) (t : Bool) (ns : List Node) → Without n.key ns → revalue n.key v (ns ++ only t n) ≡ ns ++ only t (with_value v n)
revalue_end n v true [] h = rw (same_self n.key)
revalue_end n v false [] h = refl
revalue_end n v t (x ∷ xs) h = rw h.0 (ap (λ (l : List Node). x ∷ l) (revalue_end n v t xs h.1))

abbrev revalued : ℕ → Value → Bucket → Bucket
revalued k v b = record { disconnected = revalue k v b.disconnected; connected = revalue k v b.connected; pending = b.pending }

revalue_placed : (n : Node) (v : Value) (b : Bucket) → holds n.key b ≡ false → revalued n.key v (placed n b) ≡ placed (with_value v n) b
revalue_placed n v b h =
    let w = holds_without n.key b h in
    same_lists (revalue_end n v (not n.connected) b.disconnected (all_left (λ (m : Node). same m.key n.key ≡ false) b.disconnected b.connected w))
    (revalue_end n v n.connected b.connected (all_right (λ (m : Node). same m.key n.key ≡ false) b.disconnected b.connected w)) refl

omit_end : (n : Node) (t : Bool) (ns : List Node) → Without n.key ns → omit n.key (ns ++ only t n) ≡ ns
omit_end n true [] h = rw (same_self n.key)
omit_end n false [] h = refl
omit_end n t (x ∷ xs) h = rw h.0 (ap (λ (l : List Node). x ∷ l) (omit_end n t xs h.1))

take_out_placed : (n : Node) (b : Bucket) → holds n.key b ≡ false → take_out n.key (placed n b) ≡ with_pending (cleared n.key b.pending) b
take_out_placed n b h =
    let w = holds_without n.key b h in
    same_lists (omit_end n (not n.connected) b.disconnected (all_left (λ (m : Node). same m.key n.key ≡ false) b.disconnected b.connected w))
    (omit_end n n.connected b.connected (all_right (λ (m : Node). same m.key n.key ≡ false) b.disconnected b.connected w)) refl

-- Each step by itself.

again_status : (s : BucketSettings) (b : Bucket) (m : Node) → get m.key b ≡ some m → (u : Bool) (d : Option Bool)
    → update_status s m.key u d b ≡ (status_result m (with_status u d m) (put_again s (with_status u d m) b).0, (put_again s (with_status u d m) b).1)
again_status s b m at u d = status_held s m.key u d b m (put_again s (with_status u d m) b).0 (put_again s (with_status u d m) b).1 at refl

status_fine : (t p : Bool) → is_failed (cond t UpdateResult.NotModified (cond p UpdateResult.UpdatedAndPromoted UpdateResult.Updated)) ≡ false
status_fine true p = refl
status_fine false true = refl
status_fine false false = refl

failed_both : (t : Bool) (r : FailureReason) → insert_updates (cond t UpdateResult.NotModified UpdateResult.Updated) (UpdateResult.Failed r) ≡ InsertResult.Failed r
failed_both true r = refl
failed_both false r = refl

-- the filter reads the nodes alone
filter_nodes : (s : BucketSettings) (v : Value) (o : Option PendingNode) (b : Bucket) → fails_bucket_filter s v (with_pending o b) ≡ fails_bucket_filter s v b
unfolding fails_bucket_filter
filter_nodes s v o b = refl

module _ (s : BucketSettings) (n : Node) (v : Value) (b : Bucket) (h : holds n.key b ≡ false) where
  filter_placed : fails_bucket_filter s v (take_out n.key (placed n b)) ≡ fails_bucket_filter s v b
  filter_placed = ap (fails_bucket_filter s v) (take_out_placed n b h) ∙ filter_nodes s v (cleared n.key b.pending) b

  value_placed : fails_bucket_filter s v b ≡ false → update_value s n.key v (placed n b) ≡ (value_result n.value v, placed (with_value v n) b)
  value_placed f =
      let at = get_placed n b h in
      split (same_value n.value v)
      (λ e.
      value_same s n.key v (placed n b) n at e
      ∙ ap (λ (w : Value). (UpdateResult.NotModified, placed (with_value w n) b)) (same_value_true n.value v e)
      ∙ ap (λ (t : Bool). (cond t UpdateResult.NotModified UpdateResult.Updated, placed (with_value v n) b)) (sym e))
      (λ e.
      value_changes s n.key v (placed n b) n at e (filter_placed ∙ f)
      ∙ ap (λ (m : Bucket). (UpdateResult.Updated, m)) (revalue_placed n v b h)
      ∙ ap (λ (t : Bool). (cond t UpdateResult.NotModified UpdateResult.Updated, placed (with_value v n) b)) (sym e))

  value_refused : fails_bucket_filter s n.value b ≡ false → fails_bucket_filter s v b ≡ true
      → update_value s n.key v (placed n b) ≡ (UpdateResult.Failed FailureReason.BucketFilter, with_pending (cleared n.key b.pending) b)
  value_refused f g =
      let new : same_value n.value v ≡ false =
      split (same_value n.value v) (λ e. absurd (true≢false (sym g ∙ ap (λ (w : Value). fails_bucket_filter s w b) (sym (same_value_true n.value v e)) ∙ f))) (λ e. e) in
      value_fails s n.key v (placed n b) n (get_placed n b h) new (filter_placed ∙ g)
      ∙ ap (λ (m : Bucket). (UpdateResult.Failed FailureReason.BucketFilter, m)) (take_out_placed n b h)

-- insert_or_update of a held node m that becomes n: b is the bucket with m taken out
abbrev pub held_steps : BucketSettings → Node → Node → Bucket → Answer × Bucket
held_steps s m n b =
    cond (fails_bucket_filter s m.value b) (Answer.InsertOrUpdate (InsertResult.Failed FailureReason.TooManyIncoming), b)
    (cond (is_max_incoming s n b) (Answer.InsertOrUpdate (InsertResult.Failed FailureReason.TooManyIncoming), b)
    (cond (fails_bucket_filter s n.value b) (Answer.InsertOrUpdate (InsertResult.Failed FailureReason.BucketFilter), with_pending (cleared n.key b.pending) b)
    (Answer.InsertOrUpdate (insert_updates (value_result m.value n.value) (status_result m n none)), placed n b)))

module _ (s : BucketSettings) (now : ℕ) (b : Bucket) (m : Node) (at : get m.key b ≡ some m) (u d : Bool) (v : Value) where
  abbrev stated : Node
  stated = with_status u (some d) m

  abbrev new : Node
  new = with_value v stated

  abbrev left : Bucket
  left = taken_out m.key u b

  same_maximum : is_max_incoming s stated left ≡ is_max_incoming s new left
  unfolding is_max_incoming
  same_maximum = refl

  step_is : (o : Option FailureReason) (x : Bucket) → reinsert s stated left ≡ (o, x) → update_status s m.key u (some d) b ≡ (status_result m stated o, x)
  step_is o x e = status_held s m.key u (some d) b m o x at e

  held : holds m.key b ≡ true
  held = ap is_some at

  failed : (r : FailureReason) → reinsert s stated left ≡ (some r, left)
      → insert_or_update_in s false now new b ≡ (Answer.InsertOrUpdate (InsertResult.Failed FailureReason.TooManyIncoming), left)
  failed r e =
      let x = step_is (some r) left e in
      insert_failed s false now new b refl held (ap (λ (y : UpdateResult × Bucket). is_failed y.0) x)
      ∙ ap (λ (y : UpdateResult × Bucket). (Answer.InsertOrUpdate (InsertResult.Failed FailureReason.TooManyIncoming), y.1)) x

  passed : reinsert s stated left ≡ (none, placed stated left) → (a : UpdateResult) (x : Bucket) → update_value s m.key v (placed stated left) ≡ (a, x)
      → insert_or_update_in s false now new b ≡ (Answer.InsertOrUpdate (insert_updates a (status_result m new none)), x)
  passed e a x f =
      let y = step_is none (placed stated left) e in
      insert_both s false now new b refl held (ap (λ (z : UpdateResult × Bucket). is_failed z.0) y ∙ status_fine (same_status m stated) (promotes m stated))
      ∙ ap (λ (z : UpdateResult × Bucket). (Answer.InsertOrUpdate (insert_updates (update_value s m.key v z.1).0 z.0), (update_value s m.key v z.1).1)) y
      ∙ ap (λ (z : UpdateResult × Bucket). (Answer.InsertOrUpdate (insert_updates z.0 (status_result m stated none)), z.1)) f

  restated_steps : insert_or_update_in s false now new b ≡ held_steps s m new left
  restated_steps =
      let absent = take_out_without m.key b in
      split (fails_bucket_filter s m.value left)
      (λ f. failed FailureReason.BucketFilter (reinsert_filter s stated left f) ∙ rw f)
      (λ f.
      split (is_max_incoming s new left)
      (λ g. failed FailureReason.TooManyIncoming (reinsert_many s stated left f (same_maximum ∙ g)) ∙ rw (f, g))
      (λ g.
      let e = reinsert_placed s stated left f (same_maximum ∙ g) in
      split (fails_bucket_filter s v left)
      (λ h. passed e _ _ (value_refused s stated v left absent f h) ∙ rw (f, g, h))
      (λ h. passed e _ _ (value_placed s stated v left absent h) ∙ rw (f, g, h))))

module _ (s : BucketSettings) (now : ℕ) (b : Bucket) (m n : Node) (at : get n.key b ≡ some m) (own : m.key ≡ n.key) where
  pub insert_steps : insert_or_update_in s false now n b ≡ held_steps s m n (taken_out n.key n.connected b)
  insert_steps =
      subst (λ (x : Node). insert_or_update_in s false now x b ≡ held_steps s m x (taken_out x.key x.connected b))
      (ap (λ (k : ℕ). record { key = k; value = n.value; connected = n.connected; incoming = n.incoming }) own)
      (restated_steps s now b m (subst (λ (k : ℕ). get k b ≡ some m) (sym own) at) n.connected n.incoming n.value)

  -- where the bucket filter is off
  module _ (off : s.filter ≡ false) where
    abbrev rest : Bucket
    rest = taken_out n.key n.connected b

    abbrev again : Option FailureReason × Bucket → Answer × Bucket
    again r = (Answer.InsertOrUpdate (insert_updates (value_result m.value n.value) (status_result m n r.0)), r.1)

    pub insert_again : insert_or_update_in s false now n b ≡ again (put_again s n b)
    insert_again =
        let f = filter_off s m.value rest off in
        let h = filter_off s n.value rest off in
        insert_steps
        ∙ split (is_max_incoming s n rest)
        (λ g.
        rw (f, g)
        (ap (λ (r : InsertResult). (Answer.InsertOrUpdate r, rest)) (sym (failed_both (same_value m.value n.value) FailureReason.TooManyIncoming))
        ∙ ap again (sym (reinsert_many s n rest h g))))
        (λ g. rw (f, g, h) (ap again (sym (reinsert_placed s n rest h g))))

-- A value in the place of a key: the node is found with it, and the step that takes the node out sees no difference.

first_revalue : (k : ℕ) (v : Value) (ns : List Node) → is_first k (revalue k v ns) ≡ is_first k ns
first_revalue k v [] = refl
first_revalue k v (n ∷ ns) = cases (λ (x : Node). same x.key k ≡ same n.key k) (same n.key k) (λ _. refl) (λ _. refl)

omit_revalue : (k : ℕ) (v : Value) (ns : List Node) → omit k (revalue k v ns) ≡ omit k ns
omit_revalue k v [] = refl
omit_revalue k v (n ∷ ns) =
    split (same n.key k)
    (λ e. rw (e, e) (omit_revalue k v ns))
    (λ e. rw (e, e) (ap (λ (l : List Node). n ∷ l) (omit_revalue k v ns)))

find_revalue : (k : ℕ) (v : Value) (m : Node) (ns : List Node) → find k ns ≡ some m → find k (revalue k v ns) ≡ some (with_value v m)
find_revalue k v m [] h = cc
find_revalue k v m (n ∷ ns) h =
    split (same n.key k)
    (λ e. let g : some n ≡ some m = rw e at h in let f : n ≡ m = cc in rw (e, e) (ap (λ (x : Node). some (with_value v x)) f))
    (λ e. rw (e, e) (find_revalue k v m ns (rw e at h)))

get_revalue : (k : ℕ) (v : Value) (m : Node) (b : Bucket) → get k b ≡ some m → get k (revalued k v b) ≡ some (with_value v m)
get_revalue k v m b h =
    get_nodes k (revalued k v b) ∙ ap (find k) (sym (nodes_revalue k v b)) ∙ find_revalue k v m (nodes b) (sym (get_nodes k b) ∙ h)

without_revalue : (k : ℕ) (u : Bool) (v : Value) (b : Bucket) → taken_out k u (revalued k v b) ≡ taken_out k u b
without_revalue k u v b =
    let f : is_first k (nodes (revalued k v b)) ≡ is_first k (nodes b) = ap (is_first k) (sym (nodes_revalue k v b)) ∙ first_revalue k v (nodes b) in
    same_lists (omit_revalue k v b.disconnected) (omit_revalue k v b.connected) (ap (λ (t : Bool). cond (u && t) none b.pending) f)

status_valued : (m n : Node) (v : Value) (o : Option FailureReason) → status_result (with_value v m) n o ≡ status_result m n o
status_valued m n v none = refl
status_valued m n v (some r) = refl

-- update_node of a held node m, where a state is given, by the node's own key
module _ (s : BucketSettings) (now : ℕ) (b : Bucket) (m : Node) (at : get m.key b ≡ some m) (u : Bool) (v : Value) where
  abbrev valued : Node
  valued = with_status u none (with_value v m)

  abbrev steps : UpdateResult × Bucket → Answer × Bucket
  steps r = let x = update_status s m.key u none r.1 in (Answer.Update (both_updates r.0 x.0), x.1)

  abbrev left_by : UpdateResult → Node → Bucket → Answer × Bucket
  left_by r n y = let x = reinsert s n y in (Answer.Update (both_updates r (status_result m n x.0)), x.1)

  abbrev answered : Bool → Answer × Bucket
  answered t = left_by (cond t UpdateResult.NotModified UpdateResult.Updated) valued (taken_out m.key u b)

  own_again : fails_bucket_filter s v (take_out m.key b) ≡ false → update_node_in s false now m.key v (some u) b ≡ left_by (value_result m.value v) valued (taken_out m.key u b)
  own_again f =
      split (same_value m.value v)
      (λ e.
      let x = value_same s m.key v b m at e in
      node_both s false now m.key v (some u) b refl (ap (λ (r : UpdateResult × Bucket). is_failed r.0) x) u refl
      ∙ ap steps x
      ∙ ap (λ (r : UpdateResult × Bucket). (Answer.Update (both_updates UpdateResult.NotModified r.0), r.1)) (again_status s b m at u none)
      ∙ ap (λ (w : Value). left_by UpdateResult.NotModified (with_status u none (with_value w m)) (taken_out m.key u b)) (same_value_true m.value v e)
      ∙ ap answered (sym e))
      (λ e.
      let x = value_changes s m.key v b m at e f in
      let again' = put_again s valued (revalued m.key v b) in
      node_both s false now m.key v (some u) b refl (ap (λ (r : UpdateResult × Bucket). is_failed r.0) x) u refl
      ∙ ap steps x
      ∙ ap (λ (r : UpdateResult × Bucket). (Answer.Update (both_updates UpdateResult.Updated r.0), r.1))
      (again_status s (revalued m.key v b) (with_value v m) (get_revalue m.key v m b at) u none)
      ∙ ap (λ (r : UpdateResult). (Answer.Update (both_updates UpdateResult.Updated r), again'.1)) (status_valued m valued v again'.0)
      ∙ ap (left_by UpdateResult.Updated valued) (without_revalue m.key u v b)
      ∙ ap answered (sym e))

  own_refused : taken_out m.key u b ≡ take_out m.key b → fails_bucket_filter s v (take_out m.key b) ≡ true
      → update_node_in s false now m.key v (some u) b ≡ (Answer.Update (UpdateResult.Failed FailureReason.BucketFilter), take_out m.key b)
  own_refused p f =
      split (same_value m.value v)
      (λ e.
      let x = value_same s m.key v b m at e in
      let g : fails_bucket_filter s m.value (take_out m.key b) ≡ true = ap (λ (w : Value). fails_bucket_filter s w (take_out m.key b)) (same_value_true m.value v e) ∙ f in
      node_both s false now m.key v (some u) b refl (ap (λ (r : UpdateResult × Bucket). is_failed r.0) x) u refl
      ∙ ap steps x
      ∙ ap (λ (r : UpdateResult × Bucket). (Answer.Update (both_updates UpdateResult.NotModified r.0), r.1))
      (status_held s m.key u none b m (some FailureReason.BucketFilter) (take_out m.key b) at
      (ap (reinsert s (with_status u none m)) p ∙ reinsert_filter s (with_status u none m) (take_out m.key b) g)))
      (λ e.
      let x = value_fails s m.key v b m at e f in
      node_failed s false now m.key v (some u) b refl (ap (λ (r : UpdateResult × Bucket). is_failed r.0) x)
      ∙ ap (λ (r : UpdateResult × Bucket). (Answer.Update r.0, r.1)) x)

-- by the key and the state that the call names
module _ (s : BucketSettings) (now : ℕ) (b : Bucket) (m : Node) (k : ℕ) (at : get k b ≡ some m) (own : m.key ≡ k) (o : Option Bool) (u : Bool) (given : o ≡ some u) (v : Value) where
  abbrev becomes : Node
  becomes = with_status u none (with_value v m)

  abbrev updates : Option FailureReason × Bucket → Answer × Bucket
  updates x = (Answer.Update (both_updates (value_result m.value v) (status_result m becomes x.0)), x.1)

  own_at : get m.key b ≡ some m
  own_at = subst (λ (i : ℕ). get i b ≡ some m) (sym own) at

  by_key : {x : Answer × Bucket} → update_node_in s false now m.key v (some u) b ≡ x → update_node_in s false now k v o b ≡ x
  by_key {x} e = subst (λ (i : ℕ). update_node_in s false now i v o b ≡ x) own (ap (λ (d : Option Bool). update_node_in s false now m.key v d b) given ∙ e)

  pub node_again : fails_bucket_filter s v (take_out m.key b) ≡ false → update_node_in s false now k v o b ≡ updates (put_again s becomes b)
  node_again f = by_key (own_again s now b m own_at u v f)

  -- a value that the filter refuses fails in either step
  pub node_refused : taken_out m.key u b ≡ take_out m.key b → fails_bucket_filter s v (take_out m.key b) ≡ true
      → update_node_in s false now k v o b ≡ (Answer.Update (UpdateResult.Failed FailureReason.BucketFilter), take_out m.key b)
  node_refused p f = by_key (own_refused s now b m own_at u v p f)
