-- The steps that the bucket's rules are made of, by value: the tests, a node placed, a node taken out, another pending.
use Rattle.std.specs.Prelude as code
use Rattle.std.proofs.Common.{Some, None}
use Prim.Native.Nat.{ℕ, zero, suc, ◌+◌, ◌-◌, ◌≤◌, ◌<◌}
use native.Mathlib.Nat.{not-suc-le-zero}
use native.Mathlib.Numerals.{add-one}
use native.Mathlib.Omega.{arith}
use mathlib.Core.Path.{◌≡◌, refl, sym, ap, ◌∙◌, subst}
use mathlib.Core.Bool.{Bool, true, false, cond, not, ◌&&◌}
use mathlib.Core.List.{List, [], ◌∷◌, ◌++◌, map, append-nil}
use mathlib.Core.Option.{Option, none, some}
use lib.ListN.{length, take, get_or, length-map, length-append, set, length-set, replicate, get_or-map, get_or-append}
use lib.Seq.{get_or-take, set-append_left}
use lib.Dec.{eqb, leb, ltb}
use mir.Val.{bool_byte}
use borrow.Author.Tests.{eqb-false, le-leb, leb-true}
use Rattle.model.specs.Base.{same, is_some}
use Rattle.model.specs.Value as value
use Rattle.model.specs.Node as model
use Rattle.model.specs.Filter.{ip_filter_fails, max_nodes_per_subnet_bucket}
use Rattle.model.specs.Bucket.{Bucket, BucketSettings, max_nodes_per_bucket, nodes, num_entries, is_full, get, holds, fails_bucket_filter, incoming_nodes, is_max_incoming, with_pending, cleared, only, placed, take_out, omit, is_first, revalue}
use Rattle.model.specs.Fits.{Opt, Formed}
use Rattle.model.specs.Bucket as rules
use Rattle.laws.proofs.KeepLists.{get_nodes, length_revalue}
use Rattle.laws.proofs.Lists.{get_d_any}
use Rattle.laws.proofs.KeepFormed.{count_nodes, count_put, placed_formed, take_out_formed, nodes_take_out, nodes_revalue, with_pending_formed}
use Rattle.key.specs.Key.{num, Words}
use Rattle.node.specs.declared.Value.{Value}
use Rattle.node.specs.declared.Node.{Node}
use Rattle.node.specs.Node.{value_of, node_of, value_codes, node_codes, revalued, stored_node, zero_node}
use Rattle.node.proofs.Stored.{stored_node_of, stored_revalued}
use Rattle.places.specs.Places.{position, insert_at, remove_at, padded}
use Rattle.places.proofs.Moves.{remove_at_length}
use Rattle.places.proofs.Padded.{padded_insert, padded_remove}
use Rattle.places.proofs.Model.{before_map, map_insert_at, map_remove_at, map_set, revalue_at, place, find_held, find_absent, first_is, own_place, found_key, omit_at, omit_front, put_connected, put_disconnected}
use Rattle.bucket.specs.declared.PendingNode.{PendingNode}
use Rattle.bucket.specs.declared.KBucket.{KBucket}
use Rattle.bucket.specs.Bucket.{pending_of, held_of, key_at, bucket_of, settings_of, stored_pending, stored, Sound, Becomes, Does, records_first, cleared_pending, repending}
use Rattle.bucket.proofs.Rules.{Open}
use Rattle.bucket.proofs.Stored.{same_parts}
use Rattle.bucket.proofs.Sound.{nodes_of, count_of, first_of, places_of, pending_of_lem, kept_settings, held_count, first≤count, maximum_of, formed_of, becomes}

-- other nodes, places and pending, under the settings of b
abbrev pub renewed : List Node → ℕ → ℕ → code.Option PendingNode → KBucket → KBucket
renewed ns count first p b =
    record { nodes = ns; count = count; first_connected_pos = first; pending = p; settings = b.settings }

-- what a step answers and leaves, where the model's rule is known to be that pair
pub done : {A : Type 0} {s : BucketSettings} {x : A × Bucket} {a : A} {m : Bucket} {r : KBucket} → x ≡ (a, m) → Becomes s m r → Does s x a r
done e b = rw e (record { result_value = refl; becomes = b })

-- the same where the step's answer is known by a rule y that the model's rule comes down to
pub by_rule : {A : Type 0} {s : BucketSettings} {x y : A × Bucket} {a : A} {r : KBucket} → x ≡ y → Does s y a r → Does s x a r
by_rule {A} {s} {x} {y} {a} {r} e h = subst (λ (z : A × Bucket). Does s z a r) (sym e) h

-- the same of applying a pending
pub by_apply : {s : BucketSettings} {x y : Bucket × List model.EndedPending} {rs : List model.EndedPending} {r : KBucket} → x ≡ y
    → Does s (records_first y) rs r → Does s (records_first x) rs r
by_apply e h = by_rule (ap records_first e) h

-- The place of a key.

pub place_of : (k : ℕ) (b : KBucket) → place k (nodes (bucket_of b)) ≡ position k (held_of b)
place_of k b = ap (place k) (nodes_of b) ∙ before_map (λ (n : model.Node). same n.key k) node_of (held_of b)

pub nodes_count : (b : KBucket) → Sound b → length (nodes (bucket_of b)) ≡ b.count
nodes_count b s = ap length (nodes_of b) ∙ length-map (held_of b) node_of ∙ held_count b s

-- The filter and the maximum.

not-not : (t : Bool) → not (not t) ≡ t
not-not true = refl
not-not false = refl

pub filter_off : (s : BucketSettings) (v : value.Value) (m : Bucket) → s.filter ≡ false → fails_bucket_filter s v m ≡ false
unfolding fails_bucket_filter
filter_off s v m e = rw e

module _ (b : KBucket) (v : Value) where
  pub filter_on : eqb b.settings.filter 1 ≡ true → (t : Bool) → t ≡ not (ip_filter_fails max_nodes_per_subnet_bucket (value_of v) (map node_of (held_of b)))
      → not t ≡ fails_bucket_filter (settings_of b) (value_of v) (bucket_of b)
  unfolding fails_bucket_filter
  filter_on e t q =
      ap not q ∙ not-not (ip_filter_fails max_nodes_per_subnet_bucket (value_of v) (map node_of (held_of b)))
      ∙ ap (ip_filter_fails max_nodes_per_subnet_bucket (value_of v)) (sym (nodes_of b)) ∙ rw e

module _ (b : KBucket) (n : model.Node) where
  pub incoming_not : (n.connected && n.incoming) ≡ false → false ≡ is_max_incoming (settings_of b) n (bucket_of b)
  unfolding is_max_incoming
  incoming_not e = rw e

  pub incoming_counts : (n.connected && n.incoming) ≡ true → (k : ℕ) → k ≡ length (incoming_nodes (map node_of (held_of b)))
      → leb b.settings.max_incoming k ≡ is_max_incoming (settings_of b) n (bucket_of b)
  unfolding is_max_incoming
  incoming_counts e k q = rw e (ap (leb b.settings.max_incoming) (q ∙ ap (λ (ns : List model.Node). length (incoming_nodes ns)) (sym (nodes_of b))))

-- Another pending.

pub pending_becomes : (b : KBucket) → Sound b → (p : code.Option PendingNode) (q : Option model.PendingNode) → p ≡ stored_pending q
    → Opt (λ (x : model.PendingNode). holds x.node.key (bucket_of b) ≡ false) q → Becomes (settings_of b) (with_pending q (bucket_of b)) (repending p b)
pending_becomes b s p q e h =
    becomes (settings_of b) (with_pending q (bucket_of b)) (repending p b)
    (ap (repending p) s.exact ∙ ap (λ (x : code.Option PendingNode). repending x (stored (settings_of b) (bucket_of b))) e)
    (with_pending_formed b.settings.max_incoming q (bucket_of b) (formed_of b s) h) (maximum_of b s)

cleared_by : (p : PendingNode) (t : Bool) → Some p ≡ stored_pending (pending_of (Some p)) → cond t None (Some p) ≡ stored_pending (cond t none (pending_of (Some p)))
cleared_by p true e = refl
cleared_by p false e = e

cleared_stored : (k : ℕ) (p : code.Option PendingNode) → p ≡ stored_pending (pending_of p) → cleared_pending k p ≡ stored_pending (cleared k (pending_of p))
cleared_stored k None e = refl
cleared_stored k (Some p) e = cleared_by p (same (num p.node.key) k) e

-- A node placed.

module _ (b : KBucket) (s : Sound b) (room : b.count < max_nodes_per_bucket) (n : Node) (w : Words n.key) (c : node_codes n ≡ true)
    (new : holds (num n.key) (bucket_of b) ≡ false) (low : is_max_incoming (settings_of b) (node_of n) (bucket_of b) ≡ false)
    (ns : List Node) (p : code.Option PendingNode) (ep : p ≡ cleared_pending (num n.key) b.pending) where
  put_nodes : (pos : ℕ) → pos ≤ b.count → nodes (placed (node_of n) (bucket_of b)) ≡ insert_at pos (node_of n) (nodes (bucket_of b))
      → ns ≡ take max_nodes_per_bucket (insert_at pos n b.nodes) → ns ≡ padded (map stored_node (nodes (placed (node_of n) (bucket_of b))))
  put_nodes pos h e q =
      let xs = map stored_node (nodes (bucket_of b)) in
      let long : length xs ≡ b.count = length-map (nodes (bucket_of b)) stored_node ∙ nodes_count b s in
      q ∙ ap (λ (l : List Node). take max_nodes_per_bucket (insert_at pos n l)) (places_of b s)
      ∙ padded_insert xs pos n (omega arith) (omega arith)
      ∙ ap padded
      (ap (λ (x : Node). insert_at pos x xs) (sym (stored_node_of n w c)) ∙ sym (map_insert_at stored_node pos (node_of n) (nodes (bucket_of b)))
      ∙ ap (map stored_node) (sym e))

  more : b.count + 1 ≡ num_entries (placed (node_of n) (bucket_of b))
  more =
      add-one b.count ∙ ap suc (count_of b s)
      ∙ sym (count_put (node_of n) (with_pending (cleared (num n.key) (bucket_of b).pending) (bucket_of b)))

  left : p ≡ stored_pending (cleared (num n.key) (pending_of b.pending))
  left = ep ∙ cleared_stored (num n.key) b.pending (pending_of_lem b s)

  keeps : Formed b.settings.max_incoming (placed (node_of n) (bucket_of b))
  keeps = placed_formed (settings_of b) (node_of n) (bucket_of b) (formed_of b s) new (subst (λ (k : ℕ). k < max_nodes_per_bucket) (count_of b s) room) low

  pub placed_connected : (node_of n).connected ≡ true → ns ≡ take max_nodes_per_bucket (insert_at b.count n b.nodes)
      → Becomes (settings_of b) (placed (node_of n) (bucket_of b))
      (renewed ns (b.count + 1) b.first_connected_pos p b)
  placed_connected on q =
      let e : nodes (placed (node_of n) (bucket_of b)) ≡ insert_at b.count (node_of n) (nodes (bucket_of b)) =
      put_connected (node_of n) (with_pending (cleared (num n.key) (bucket_of b).pending) (bucket_of b)) on
      ∙ ap (λ (k : ℕ). insert_at k (node_of n) (nodes (bucket_of b))) (nodes_count b s) in
      let f : length ((bucket_of b).disconnected ++ only (not (node_of n).connected) (node_of n)) ≡ length (bucket_of b).disconnected =
      ap (λ (t : Bool). length ((bucket_of b).disconnected ++ only (not t) (node_of n))) on ∙ ap length (append-nil (bucket_of b).disconnected) in
      becomes (settings_of b) (placed (node_of n) (bucket_of b)) _
      (same_parts (put_nodes b.count (omega arith) e q) more (first_of b s ∙ sym f) left (kept_settings b s)) keeps (maximum_of b s)

  pub placed_disconnected : (node_of n).connected ≡ false → ns ≡ take max_nodes_per_bucket (insert_at b.first_connected_pos n b.nodes)
      → Becomes (settings_of b) (placed (node_of n) (bucket_of b))
      (renewed ns (b.count + 1) (b.first_connected_pos + 1) p b)
  placed_disconnected off q =
      let e : nodes (placed (node_of n) (bucket_of b)) ≡ insert_at b.first_connected_pos (node_of n) (nodes (bucket_of b)) =
      put_disconnected (node_of n) (with_pending (cleared (num n.key) (bucket_of b).pending) (bucket_of b)) off
      ∙ ap (λ (k : ℕ). insert_at k (node_of n) (nodes (bucket_of b))) (sym (first_of b s)) in
      let f : length ((bucket_of b).disconnected ++ only (not (node_of n).connected) (node_of n)) ≡ length (bucket_of b).disconnected + 1 =
      ap (λ (t : Bool). length ((bucket_of b).disconnected ++ only (not t) (node_of n))) off ∙ length-append (bucket_of b).disconnected (node_of n ∷ []) in
      becomes (settings_of b) (placed (node_of n) (bucket_of b)) _
      (same_parts (put_nodes b.first_connected_pos (first≤count b s) e q) more (ap (λ (k : ℕ). k + 1) (first_of b s) ∙ sym f) left (kept_settings b s)) keeps (maximum_of b s)

-- A node taken out.

module _ (b : KBucket) (s : Sound b) (k : ℕ) (pos : ℕ) (e : pos ≡ position k (held_of b)) (h : pos < b.count) where
  at_place : place k (nodes (bucket_of b)) ≡ pos
  at_place = place_of k b ∙ sym e

  within : place k (nodes (bucket_of b)) < length (nodes (bucket_of b))
  within = omega (arith, at_place, nodes_count b s)

  pub out_nodes : nodes (take_out k (bucket_of b)) ≡ remove_at pos (nodes (bucket_of b))
  out_nodes =
      sym (nodes_take_out k (bucket_of b)) ∙ omit_at k (nodes (bucket_of b)) (formed_of b s).different within
      ∙ ap (λ (i : ℕ). remove_at i (nodes (bucket_of b))) at_place

  pub taken_out : (ns : List Node) → ns ≡ remove_at pos b.nodes ++ (zero_node ∷ [])
      → Becomes (settings_of b) (take_out k (bucket_of b))
      (renewed ns (b.count - 1) (b.first_connected_pos - bool_byte (ltb pos b.first_connected_pos)) b.pending b)
  taken_out ns q =
      let xs = map stored_node (nodes (bucket_of b)) in
      let long : length xs ≡ b.count = length-map (nodes (bucket_of b)) stored_node ∙ nodes_count b s in
      let few = s.few in
      let short : length (remove_at pos (nodes (bucket_of b))) + 1 ≡ length (nodes (bucket_of b)) = remove_at_length pos (nodes (bucket_of b)) (omega (arith, nodes_count b s)) in
      let many : num_entries (take_out k (bucket_of b)) ≡ length (remove_at pos (nodes (bucket_of b))) = count_nodes (take_out k (bucket_of b)) ∙ ap length out_nodes in
      let at_nodes : ns ≡ padded (map stored_node (nodes (take_out k (bucket_of b)))) =
      q ∙ ap (λ (l : List Node). remove_at pos l ++ (zero_node ∷ [])) (places_of b s) ∙ padded_remove xs pos (omega arith) (omega arith)
      ∙ ap padded (sym (map_remove_at stored_node pos (nodes (bucket_of b))) ∙ ap (map stored_node) (sym out_nodes)) in
      let front : b.first_connected_pos - bool_byte (ltb pos b.first_connected_pos) ≡ length (omit k (bucket_of b).disconnected) =
      ap (λ (f : ℕ). f - bool_byte (ltb pos f)) (first_of b s)
      ∙ ap (λ (i : ℕ). length (bucket_of b).disconnected - bool_byte (ltb i (length (bucket_of b).disconnected))) (sym at_place)
      ∙ sym (omit_front k (bucket_of b).disconnected (bucket_of b).connected (formed_of b s).different) in
      becomes (settings_of b) (take_out k (bucket_of b)) _
      (same_parts at_nodes (omega (arith, nodes_count b s)) front (pending_of_lem b s) (kept_settings b s))
      (take_out_formed b.settings.max_incoming k (bucket_of b) (formed_of b s)) (maximum_of b s)

-- The node at a place.

module _ (b : KBucket) (s : Sound b) (pos : ℕ) (h : pos < b.count) where
  inside : pos < length (nodes (bucket_of b))
  inside = omega (arith, nodes_count b s)

  -- the model's node at the place
  pub node_at : get_or (nodes (bucket_of b)) pos (node_of zero_node) ≡ node_of (get_or b.nodes pos zero_node)
  node_at =
      ap (λ (ns : List model.Node). get_or ns pos (node_of zero_node)) (nodes_of b) ∙ get_or-map node_of (held_of b) pos zero_node
      ∙ ap node_of (get_or-take b.count b.nodes pos zero_node h)

  pub place_at : pos ≡ position (key_at b pos) (held_of b)
  place_at =
      sym (own_place (nodes (bucket_of b)) pos (node_of zero_node) (formed_of b s).different inside)
      ∙ ap (λ (n : model.Node). place n.key (nodes (bucket_of b))) node_at ∙ place_of (key_at b pos) b

  pub get_at : get (key_at b pos) (bucket_of b) ≡ some (node_of (get_or b.nodes pos zero_node))
  get_at =
      let e : place (key_at b pos) (nodes (bucket_of b)) ≡ pos = place_of (key_at b pos) b ∙ sym place_at in
      get_nodes (key_at b pos) (bucket_of b)
      ∙ find_held (key_at b pos) (nodes (bucket_of b)) (node_of zero_node) (omega (arith, inside, e))
      ∙ ap some (ap (λ (i : ℕ). get_or (nodes (bucket_of b)) i (node_of zero_node)) e ∙ node_at)

  pub holds_at : holds (key_at b pos) (bucket_of b) ≡ true
  holds_at = ap is_some get_at

  pub first_at : is_first (key_at b pos) (nodes (bucket_of b)) ≡ eqb pos 0
  first_at =
      let e : place (key_at b pos) (nodes (bucket_of b)) ≡ pos = place_of (key_at b pos) b ∙ sym place_at in
      first_is (key_at b pos) (nodes (bucket_of b)) (omega (arith, inside, e)) ∙ ap (λ (i : ℕ). eqb i 0) e

  -- what is stored there
  pub stored_at : get_or b.nodes pos zero_node ≡ stored_node (node_of (get_or b.nodes pos zero_node))
  stored_at =
      let xs = map stored_node (nodes (bucket_of b)) in
      let long : length xs ≡ b.count = length-map (nodes (bucket_of b)) stored_node ∙ nodes_count b s in
      ap (λ (ns : List Node). get_or ns pos zero_node) (places_of b s) ∙ get_or-append xs _ zero_node pos (omega arith)
      ∙ get_d_any xs pos zero_node (stored_node (node_of zero_node)) (omega arith)
      ∙ get_or-map stored_node (nodes (bucket_of b)) pos (node_of zero_node) ∙ ap stored_node node_at

-- a key that was found is the key at its place
pub found_at : (b : KBucket) → Sound b → (k pos : ℕ) → pos ≡ position k (held_of b) → pos < b.count → key_at b pos ≡ k
found_at b s k pos e h =
    let q : place k (nodes (bucket_of b)) ≡ pos = place_of k b ∙ sym e in
    ap (λ (n : model.Node). n.key) (sym (node_at b s pos h)) ∙ ap (λ (i : ℕ). (get_or (nodes (bucket_of b)) i (node_of zero_node)).key) (sym q)
    ∙ found_key k (nodes (bucket_of b)) (node_of zero_node) (omega (arith, nodes_count b s, q))

pub absent_at : (b : KBucket) → Sound b → (k pos : ℕ) → pos ≡ position k (held_of b) → b.count ≤ pos → get k (bucket_of b) ≡ none
absent_at b s k pos e h =
    get_nodes k (bucket_of b) ∙ find_absent k (nodes (bucket_of b)) (omega (arith, nodes_count b s, place_of k b))

-- From one bucket to the next.

module _ {s : BucketSettings} {m : Bucket} {b : KBucket} (x : Becomes s m b) where
  pub told : {A : Type 0} (F : BucketSettings → Bucket → A) → F (settings_of b) (bucket_of b) ≡ F s m
  told F = ap (λ (t : BucketSettings). F t (bucket_of b)) x.settings ∙ ap (F s) x.bucket

  pub then_becomes : {r : KBucket} (F : BucketSettings → Bucket → Bucket) → Becomes (settings_of b) (F (settings_of b) (bucket_of b)) r → Becomes s (F s m) r
  then_becomes {r} F y = subst (λ (t : BucketSettings). Becomes t (F s m) r) x.settings (subst (λ (n : Bucket). Becomes (settings_of b) n r) (told F) y)

  -- a step on that bucket
  pub then_does : {A : Type 0} {a : A} {r : KBucket} (F : BucketSettings → Bucket → A × Bucket) → Does (settings_of b) (F (settings_of b) (bucket_of b)) a r → Does s (F s m) a r
  then_does {A} {a} {r} F d =
      record { result_value = d.result_value ∙ told (λ (t : BucketSettings) (n : Bucket). (F t n).0); becomes = then_becomes (λ (t : BucketSettings) (n : Bucket). (F t n).1) d.becomes }

-- the bucket that a node which was taken out is put into again, by the test whether its pending goes
pub put_into : (b : KBucket) → Sound b → (pos : ℕ) → pos < b.count → (u : Bool) {t : Bool} → (u && eqb pos 0) ≡ t → {r : KBucket}
    → Becomes (settings_of b) (with_pending (cond t none (bucket_of b).pending) (take_out (key_at b pos) (bucket_of b))) r
    → Becomes (settings_of b) (rules.taken_out (key_at b pos) u (bucket_of b)) r
put_into b s pos h u {t} e {r} x =
    let F : Bool → Type 0 = λ go. Becomes (settings_of b) (with_pending (cond go none (bucket_of b).pending) (take_out (key_at b pos) (bucket_of b))) r in
    subst (λ (i : Bool). F (u && i)) (sym (first_at b s pos h)) (subst F (sym e) x)

-- the disconnected nodes of a bucket, by the first connected place
pub none_disconnected : (b : KBucket) → Sound b → b.first_connected_pos ≡ 0 → (bucket_of b).disconnected ≡ []
none_disconnected b s e = ap (λ (f : ℕ). take f (map node_of (held_of b))) e

head_first : {A : Type 0} (f : ℕ) (xs : List A) (d : A) → 0 < f → 0 < length xs → (rest : List A) × (take f xs ≡ get_or xs 0 d ∷ rest)
head_first zero xs d h k = absurd (not-suc-le-zero h)
head_first (suc f) [] d h k = absurd (not-suc-le-zero k)
head_first (suc f) (x ∷ xs) d h k = (take f xs, refl)

pub some_disconnected : (b : KBucket) → Sound b → 0 < b.first_connected_pos
    → (rest : List model.Node) × ((bucket_of b).disconnected ≡ node_of (get_or b.nodes 0 zero_node) ∷ rest)
some_disconnected b s h =
    let f = first≤count b s in
    let long : length (map node_of (held_of b)) ≡ b.count = length-map (held_of b) node_of ∙ held_count b s in
    let x = head_first b.first_connected_pos (map node_of (held_of b)) (node_of zero_node) h (omega arith) in (
      x.0,
      x.1 ∙ ap (λ (n : model.Node). n ∷ x.0)
          (get_or-map node_of (held_of b) 0 zero_node ∙ ap node_of (get_or-take b.count b.nodes 0 zero_node (omega arith))),
    )

-- with 16 held and place 0 not connected, the first of them
pub first_of_full : (b : KBucket) → Sound b → (leb max_nodes_per_bucket b.count && eqb b.first_connected_pos 0) ≡ false → max_nodes_per_bucket ≤ b.count
    → (rest : List model.Node) × ((bucket_of b).disconnected ≡ node_of (get_or b.nodes 0 zero_node) ∷ rest)
first_of_full b s e h =
    let z : eqb b.first_connected_pos 0 ≡ false = rw (le-leb max_nodes_per_bucket b.count h) at e in
    some_disconnected b s (positive b.first_connected_pos (eqb-false b.first_connected_pos 0 z))
  where
    positive : (x : ℕ) → (x ≡ 0 → ⊥) → 0 < x
    positive x n = omega arith

pub open_of : (b : KBucket) → Sound b → (leb max_nodes_per_bucket b.count && eqb b.first_connected_pos 0) ≡ false → Open (bucket_of b)
unfolding is_full
open_of b s e t =
    let x = first_of_full b s e (leb-true max_nodes_per_bucket b.count (ap (leb max_nodes_per_bucket) (count_of b s) ∙ t)) in
    (node_of (get_or b.nodes 0 zero_node), x.0, x.1)

-- A value in the place of a key.

padded_set : (xs : List Node) (pos : ℕ) (x : Node) → pos < length xs → set (padded xs) pos x ≡ padded (set xs pos x)
padded_set xs pos x h = set-append_left xs _ pos x h ∙ ap (λ (k : ℕ). set xs pos x ++ replicate (max_nodes_per_bucket - k) zero_node) (sym (length-set xs pos x))

module _ (b : KBucket) (s : Sound b) (pos : ℕ) (h : pos < b.count) (v : Value) (c : value_codes v ≡ true) (x : Node) (q : x ≡ revalued v (get_or b.nodes pos zero_node)) where
  abbrev pub changed : Bucket
  changed =
      record {
        disconnected = revalue (key_at b pos) (value_of v) (bucket_of b).disconnected;
        connected = revalue (key_at b pos) (value_of v) (bucket_of b).connected;
        pending = (bucket_of b).pending;
      }

  pub revalued_becomes : Formed b.settings.max_incoming changed
      → Becomes (settings_of b) changed
      (renewed (set b.nodes pos x) b.count b.first_connected_pos b.pending b)
  revalued_becomes w =
      let k = key_at b pos in
      let ns = nodes (bucket_of b) in
      let xs = map stored_node ns in
      let long : length xs ≡ b.count = length-map ns stored_node ∙ nodes_count b s in
      let old : Node = get_or b.nodes pos zero_node in
      let y : model.Node = model.with_value (value_of v) (node_of old) in
      let at : place k ns ≡ pos = place_of k b ∙ sym (place_at b s pos h) in
      let new : x ≡ stored_node y = q ∙ stored_revalued v old (stored_at b s pos h) c in
      let list : revalue k (value_of v) ns ≡ set ns pos y =
      revalue_at k (value_of v) ns (node_of zero_node) (formed_of b s).different (omega (arith, at, nodes_count b s))
      ∙ ap (λ (i : ℕ). set ns i (model.with_value (value_of v) (get_or ns i (node_of zero_node)))) at
      ∙ ap (λ (n : model.Node). set ns pos (model.with_value (value_of v) n)) (node_at b s pos h) in
      let at_nodes : set b.nodes pos x ≡ padded (map stored_node (nodes changed)) =
      ap (λ (l : List Node). set l pos x) (places_of b s) ∙ padded_set xs pos x (omega arith)
      ∙ ap padded (ap (set xs pos) new ∙ sym (map_set stored_node ns pos y) ∙ ap (map stored_node) (sym list ∙ nodes_revalue k (value_of v) (bucket_of b))) in
      let l₁ = length_revalue k (value_of v) (bucket_of b).disconnected in
      let l₂ = length_revalue k (value_of v) (bucket_of b).connected in
      becomes (settings_of b) changed _
      (same_parts at_nodes (count_of b s ∙ omega arith) (first_of b s ∙ sym l₁) (pending_of_lem b s) (kept_settings b s)) w (maximum_of b s)
