-- The model's steps on a bucket without a pending: the tests on its bytes, and what each step answers and leaves.
use mathlib.Core.Path.{◌≡◌, refl, sym, ap, ◌∙◌}
use mathlib.Core.Bool.{Bool, true, false, ◌&&◌}
use mathlib.Core.List.{List, [], ◌∷◌, ◌++◌}
use mathlib.Core.Option.{Option, none, some}
use Rattle.std.specs.Prelude as code
use Prim.Native.Nat.{ℕ, suc, ◌+◌, ◌≤◌, ◌<◌}
use native.Mathlib.Nat.{not-suc-le-zero}
use native.Mathlib.Omega.{arith}
use lib.Dec.{eqb, leb}
use lib.ListN.{length, get_or, take, drop, set}
use lib.Seq.{split_at, set_split, length-take-le}
use borrow.Author.Tests.{eq-eqb, ne_eqb, lt-ltb}
use borrow.Rule.Slice.PartMut.{put_mid}
use Rattle.model.specs.Base.{is_some}
use Rattle.model.specs.Bytes.{part, splice}
use Rattle.model.specs.Node.{Node, PendingNode, connected_incoming, with_status, with_value}
use Rattle.model.specs.Value as model-value
use Rattle.model.specs.Value.{same_value}
use Rattle.model.specs.Filter.{counted, ip_filter_fails, max_nodes_per_subnet_bucket}
use Rattle.model.specs.Result.{FailureReason, UpdateResult, BucketInsertResult}
use Rattle.model.specs.Bucket.{Bucket, BucketSettings, max_nodes_per_bucket, nodes, get, holds, incoming_nodes, is_max_incoming, fails_bucket_filter, with_pending, cleared, put, placed, take_out, taken_out, is_first, apply_pending, apply_if_due, reinsert, status_result, update_status, update_value, revalue, insert, remove}
use Rattle.model.specs.Call.{is_one}
use Rattle.model.specs.Sizes.{key_size, value_size, pending_at, place_at, pending_size}
use Rattle.model.specs.Layout.{value_bytes, pending_bytes, bucket_bytes, node_in, place_in, bucket_in}
use Rattle.model.specs.Formed as formed
use Rattle.model.specs.Formed.{key_in}
use Rattle.laws.proofs.Tests.{cases}
use Rattle.laws.proofs.Lists.{get_d_tabulate}
use Rattle.laws.proofs.NodeBytes.{length_value}
use Rattle.laws.proofs.NodeFormed.{node_codes_lem}
use Rattle.laws.proofs.BucketBytes.{length_pending, place_there}
use Rattle.laws.proofs.BucketBack.{count_in}
use Rattle.laws.proofs.KeepLists.{get_nodes, length_revalue}
use Rattle.laws.proofs.KeepFormed.{nodes_revalue}
use Rattle.laws.proofs.Shifts.{bytes_value, bytes_pending}
use Rattle.words.proofs.Words.{put_mid_splice}
use Rattle.key.specs.Key.{num}
use Rattle.node.specs.declared.Value.{Value}
use Rattle.node.specs.declared.Node as declared
use Rattle.node.specs.Node.{value_of, node_of, node_codes, stored_node}
use Rattle.node.specs.Node as node
use Rattle.node.specs.Status.{optional_of}
use Rattle.node.proofs.Stored.{node_of_restated}
use Rattle.storage.specs.Read.{read_value, read_node}
use Rattle.storage.proofs.Bytes.{value_of_read, node_of_read}
use Rattle.well_formed.specs.Tests.{node_at, nodes_here}
use Rattle.buckets.proofs.Loaded.{stored_read}
use Rattle.places.proofs.Model.{held_is, find_held, find_absent, found_key, revalue_at, own_place}
use Rattle.bucket.proofs.Rules.{remove_held, remove_absent, reinsert_filter, reinsert_many, reinsert_placed, status_held, status_absent, value_absent, value_same, value_fails, value_changes, insert_exists, insert_filter, insert_many, insert_placed, insert_full_lem, full_disconnected, full_connected, full_becomes_pending}
use Rattle.held.specs.Held.{Quiet, Does, place, others, restated, inserted_full}
use Rattle.held.proofs.Quiet.{many, first_is, nodes_are}
use Rattle.held.proofs.Places.{remove_at_past}
use Rattle.held.proofs.Moves.{out_nodes}

-- the tests, as the code runs them

module _ (x : ℕ) (v : Value) (ns : List Node) where
  pub filter_counts : x ≡ 1 → v.flag ≡ 1 → {n : ℕ} → n ≡ length (counted (value_of v) ns)
      → leb max_nodes_per_subnet_bucket n ≡ (eqb x 1 && ip_filter_fails max_nodes_per_subnet_bucket (value_of v) ns)
  unfolding ip_filter_fails
  filter_counts e f g = ap (leb max_nodes_per_subnet_bucket) g ∙ rw (eq-eqb x 1 e, eq-eqb v.flag 1 f)

  pub filter_no_address : x ≡ 1 → (v.flag ≡ 1 → ⊥) → false ≡ (eqb x 1 && ip_filter_fails max_nodes_per_subnet_bucket (value_of v) ns)
  unfolding ip_filter_fails
  filter_no_address e f = rw (eq-eqb x 1 e, ne_eqb v.flag 1 f)

  pub filter_off : (x ≡ 1 → ⊥) → false ≡ (eqb x 1 && ip_filter_fails max_nodes_per_subnet_bucket (value_of v) ns)
  filter_off e = rw (ne_eqb x 1 e)

-- the tests are the model's, of a bucket that has these nodes

module _ (c : BucketSettings) (m : Bucket) {ns : List Node} (e : nodes m ≡ ns) where
  maximum_is : (n : Node) {x : Bool} → x ≡ (connected_incoming n && leb c.max_incoming (length (incoming_nodes ns))) → is_max_incoming c n m ≡ x
  unfolding is_max_incoming
  maximum_is n f = ap (λ (l : List Node). connected_incoming n && leb c.max_incoming (length (incoming_nodes l))) e ∙ sym f

  filter_is : (v : model-value.Value) {r : Bool} → r ≡ (c.filter && ip_filter_fails max_nodes_per_subnet_bucket v ns) → fails_bucket_filter c v m ≡ r
  unfolding fails_bucket_filter
  filter_is v f = ap (λ (l : List Node). c.filter && ip_filter_fails max_nodes_per_subnet_bucket v l) e ∙ sym f

-- a step that is known to answer a and to leave m

pub does : {A : Type 0} {x : A × Bucket} {a : A} {m : Bucket} {t : List ℕ} → x ≡ (a, m) → t ≡ bucket_bytes m → Does x a t
does e h = record { answers = ap (λ y. y.0) (sym e); leaves = h ∙ ap (λ y. bucket_bytes y.1) (sym e) }

pub does_as : {A : Type 0} {x y : A × Bucket} {a : A} {t : List ℕ} → x ≡ y → Does y a t → Does x a t
does_as e d = record { answers = d.answers ∙ ap (λ z. z.0) (sym e); leaves = d.leaves ∙ ap (λ z. bucket_bytes z.1) (sym e) }

-- where there is no pending none is cleared

module _ (m : Bucket) (e : m.pending ≡ none) where
  pub cleared_none : (k : ℕ) → with_pending (cleared k m.pending) m ≡ m
  cleared_none k = ap (λ (o : Option PendingNode). with_pending (cleared k o) m) e ∙ sym (ap (λ (o : Option PendingNode). with_pending o m) e)

  pub placed_none : (n : Node) → placed n m ≡ put n m
  placed_none n = ap (put n) (cleared_none n.key)

  pub taken_none : (k : ℕ) (u : Bool) → taken_out k u m ≡ take_out k m
  taken_none k u = ap (λ (o : Option PendingNode). with_pending o (take_out k m)) (cases (λ (o : Option PendingNode). o ≡ m.pending) (u && is_first k (nodes m)) (λ _. sym e) (λ _. refl))

head_is : {A : Type 0} (xs ys : List A) (d : A) → 0 < length xs → (rest : List A) × (xs ≡ get_or (xs ++ ys) 0 d ∷ rest)
head_is [] ys d h = absurd (not-suc-le-zero h)
head_is (x ∷ xs) ys d h = (xs, refl)

none_left : {A : Type 0} (xs : List A) → length xs ≡ 0 → xs ≡ []
none_left [] h = refl
none_left (x ∷ xs) h = absurd (not-suc-le-zero (le h))
  where
    le : suc (length xs) ≡ 0 → suc (length xs) ≤ 0
    le e = omega arith

module _ {u : List ℕ} (q : Quiet u) where
  abbrev b : Bucket
  b = bucket_in u

  -- the node at a place, as it is read
  module _ (pos : ℕ) (h : pos < get_or u 0 0) where
    place_is : get_or (nodes b) pos (node_in []) ≡ node_in (place_in u pos)
    unfolding nodes_here node_at
    place_is = ap (λ (ns : List Node). get_or ns pos (node_in [])) (sym (nodes_are u)) ∙ get_d_tabulate (get_or u 0 0) (node_at u) pos (node_in []) h

    module _ {old : declared.Node} (eo : old ≡ read_node (place_in u pos)) where
      old_is : node_of old ≡ get_or (nodes b) pos (node_in [])
      old_is = ap node_of eo ∙ node_of_read (place_in u pos) ∙ sym place_is

      pub own_key : place (node_of old).key (nodes b) ≡ pos
      own_key = ap (λ (n : Node). place n.key (nodes b)) old_is ∙ own_place (nodes b) pos (node_in []) q.different (omega (arith, many q))

      codes_old : formed.node_codes (place_in u pos) ≡ true
      codes_old =
          ap formed.node_codes (ap (λ (x : List ℕ). place_in x pos) q.exact ∙ place_there b pos (node_in []) (omega (arith, count_in u)))
          ∙ node_codes_lem (get_or (nodes b) pos (node_in []))

      pub own_stored : old ≡ stored_node (node_of old)
      own_stored = eo ∙ sym (stored_read (place_in u pos) codes_old) ∙ ap stored_node (sym (ap node_of eo ∙ node_of_read (place_in u pos)))

      pub get_old : (k : ℕ) → place k (nodes b) ≡ pos → get k b ≡ some (node_of old)
      get_old k ep =
          get_nodes k b ∙ find_held k (nodes b) (node_in []) (omega (arith, ep, many q))
          ∙ ap some (ap (λ (i : ℕ). get_or (nodes b) i (node_in [])) ep ∙ sym old_is)

      pub key_old : (k : ℕ) → place k (nodes b) ≡ pos → (node_of old).key ≡ k
      key_old k ep =
          ap (λ (n : Node). n.key) old_is ∙ ap (λ (i : ℕ). (get_or (nodes b) i (node_in [])).key) (sym ep)
          ∙ found_key k (nodes b) (node_in []) (omega (arith, ep, many q))

      -- with another status
      module _ (state : ℕ) (direction : code.Option ℕ) {new : declared.Node} (en : new ≡ node.restated state direction old) where
        pub same_place : place (num new.key) (nodes b) ≡ pos
        same_place = ap (λ (n : declared.Node). place (num n.key) (nodes b)) en ∙ own_key

        new_is : node_of new ≡ with_status (is_one state) (optional_of direction) (node_of old)
        new_is = ap node_of en ∙ node_of_restated state direction old

        module _ (c : BucketSettings) (k : ℕ) (ep : place k (nodes b) ≡ pos) where
          status_is : update_status c k (is_one state) (optional_of direction) b ≡ restated c (node_of old) (node_of new) b
          status_is =
              let n : Node = with_status (is_one state) (optional_of direction) (node_of old) in
              let new_key : num new.key ≡ k = ap (λ (n : Node). n.key) new_is ∙ key_old k ep in
              let r : reinsert c n (taken_out k (is_one state) b) ≡ reinsert c (node_of new) (take_out (num new.key) b) =
              ap (reinsert c n) (taken_none b q.pending k (is_one state)) ∙ ap (λ (i : ℕ). reinsert c n (take_out i b)) (sym new_key)
              ∙ ap (λ (x : Node). reinsert c x (take_out (num new.key) b)) (sym new_is) in
              status_held c k (is_one state) (optional_of direction) b (node_of old) (reinsert c (node_of new) (take_out (num new.key) b)).0
              (reinsert c (node_of new) (take_out (num new.key) b)).1 (get_old k ep) r
              ∙ ap (λ (x : Node). (status_result (node_of old) x (reinsert c (node_of new) (take_out (num new.key) b)).0, (reinsert c (node_of new) (take_out (num new.key) b)).1)) (sym new_is)

          pub status_does : {a : UpdateResult} {t : List ℕ} → Does (restated c (node_of old) (node_of new) b) a t → Does (update_status c k (is_one state) (optional_of direction) b) a t
          status_does d = does_as status_is d

  -- a key that is held, and one that is not

  module _ (k : ℕ) where
    pub held_holds : place k (nodes b) < get_or u 0 0 → holds k b ≡ true
    held_holds h = ap is_some (get_nodes k b) ∙ held_is k (nodes b) ∙ lt-ltb (place k (nodes b)) (length (nodes b)) (omega (arith, many q))

    module _ (h : get_or u 0 0 ≤ place k (nodes b)) where
      absent_get : get k b ≡ none
      absent_get = get_nodes k b ∙ find_absent k (nodes b) (omega (arith, many q))

      pub absent_holds : holds k b ≡ false
      absent_holds = ap is_some absent_get

    module _ (c : BucketSettings) where
      -- remove
      pub removes : (time : ℕ) → place k (nodes b) < get_or u 0 0 → {t : List ℕ} → t ≡ bucket_bytes (take_out k b) → Does (remove c time k b) true t
      unfolding apply_pending
      removes time h e =
          let a : (apply_if_due c time (take_out k b) b.pending).0 ≡ take_out k b = ap (λ (o : Option PendingNode). (apply_if_due c time (take_out k b) o).0) q.pending in
          does (remove_held c time k b (held_holds h) ∙ ap (λ (m : Bucket). (true, m)) a) e

      pub removes_none : (time : ℕ) → get_or u 0 0 ≤ place k (nodes b) → Does (remove c time k b) false u
      removes_none time h = does (remove_absent c time k b (absent_holds h)) q.exact

      -- update_status and update_value of a key that is not held
      pub status_none : (s : Bool) (d : Option Bool) → get_or u 0 0 ≤ place k (nodes b) → Does (update_status c k s d b) (UpdateResult.Failed FailureReason.KeyNonExistent) u
      status_none s d h = does (status_absent c k s d b (absent_get h) ∙ rw q.pending) q.exact

      pub value_none : (v : model-value.Value) → get_or u 0 0 ≤ place k (nodes b) → Does (update_value c k v b) (UpdateResult.Failed FailureReason.KeyNonExistent) u
      value_none v h = does (value_absent c k v b (absent_get h) ∙ rw q.pending) q.exact

  -- a key at a place: the tests, with its node taken out

  module _ (c : BucketSettings) (k pos : ℕ) (ep : place k (nodes b) ≡ pos) (h : pos < get_or u 0 0) where
    others_left : nodes (take_out k b) ≡ others u pos
    unfolding others
    others_left = out_nodes q refl refl k pos ep h

    pub fails_left : (v : model-value.Value) {r : Bool} → r ≡ (c.filter && ip_filter_fails max_nodes_per_subnet_bucket v (others u pos)) → fails_bucket_filter c v (take_out k b) ≡ r
    fails_left v e = filter_is c (take_out k b) others_left v e

    pub max_left : (n : Node) {x : Bool} → x ≡ (connected_incoming n && leb c.max_incoming (length (incoming_nodes (others u pos)))) → is_max_incoming c n (take_out k b) ≡ x
    max_left n e = maximum_is c (take_out k b) others_left n e

  -- the status step of a node n at its place

  module _ (c : BucketSettings) (m n : Node) (pos : ℕ) (ep : place n.key (nodes b) ≡ pos) (h : pos < get_or u 0 0) where
    abbrev left : Bucket
    left = take_out n.key b

    by : {o : Option FailureReason} {x : Bucket} → reinsert c n left ≡ (o, x) → restated c m n b ≡ (status_result m n o, x)
    by e = ap (λ y. (status_result m n y.0, y.1)) e

    module _ {r : Bool} (er : r ≡ (c.filter && ip_filter_fails max_nodes_per_subnet_bucket n.value (others u pos))) where
      fails_is : fails_bucket_filter c n.value left ≡ r
      fails_is = fails_left c n.key pos ep h n.value er

      pub step_filter : r ≡ true → {t : List ℕ} → t ≡ bucket_bytes left → Does (restated c m n b) (UpdateResult.Failed FailureReason.BucketFilter) t
      step_filter e f = does (by (reinsert_filter c n left (fails_is ∙ e))) f

      module _ (fine : r ≡ false) {x : Bool} (ex : x ≡ (connected_incoming n && leb c.max_incoming (length (incoming_nodes (others u pos))))) where
        max_is : is_max_incoming c n left ≡ x
        max_is = max_left c n.key pos ep h n ex

        pub step_many : x ≡ true → {t : List ℕ} → t ≡ bucket_bytes left → Does (restated c m n b) (UpdateResult.Failed FailureReason.TooManyIncoming) t
        step_many e f = does (by (reinsert_many c n left (fails_is ∙ fine) (max_is ∙ e))) f

        pub step_placed : x ≡ false → {a : UpdateResult} → a ≡ status_result m n none → {t : List ℕ} → t ≡ bucket_bytes (put n left) → Does (restated c m n b) a t
        step_placed e g f =
            let d : Does (restated c m n b) (status_result m n none) _ =
            does (by (reinsert_placed c n left (fails_is ∙ fine) (max_is ∙ e) ∙ ap (λ (y : Bucket). (none, y)) (placed_none left q.pending n))) f in
            record { answers = g ∙ d.answers; leaves = d.leaves }

  -- the value step at a place

  module _ (c : BucketSettings) (k pos : ℕ) (ep : place k (nodes b) ≡ pos) (h : pos < get_or u 0 0) (v : Value) where
    abbrev was : Node
    was = get_or (nodes b) pos (node_in [])

    get_was : get k b ≡ some was
    get_was = get_nodes k b ∙ find_held k (nodes b) (node_in []) (omega (arith, ep, many q)) ∙ ap some (ap (λ (i : ℕ). get_or (nodes b) i (node_in [])) ep)

    module _ {old : Value} (eo : old ≡ read_value (part (place_in u pos) (key_size + 2) value_size)) {r : Bool} (er : r ≡ same_value (value_of old) (value_of v)) where
      was_value : was.value ≡ value_of old
      unfolding node_in
      was_value =
          ap (λ (n : Node). n.value) (place_is pos h)
          ∙ sym (ap value_of eo ∙ value_of_read (part (place_in u pos) (key_size + 2) value_size))

      is_same : same_value was.value (value_of v) ≡ r
      is_same = ap (λ (x : model-value.Value). same_value x (value_of v)) was_value ∙ sym er

      pub value_kept : r ≡ true → Does (update_value c k (value_of v) b) UpdateResult.NotModified u
      value_kept e = does (value_same c k (value_of v) b was get_was (is_same ∙ e)) q.exact

      module _ (new : r ≡ false) {x : Bool} (ex : x ≡ (c.filter && ip_filter_fails max_nodes_per_subnet_bucket (value_of v) (others u pos))) where
        value_filter : fails_bucket_filter c (value_of v) (take_out k b) ≡ x
        value_filter = fails_left c k pos ep h (value_of v) ex

        pub value_out : x ≡ true → {t : List ℕ} → t ≡ bucket_bytes (take_out k b) → Does (update_value c k (value_of v) b) (UpdateResult.Failed FailureReason.BucketFilter) t
        value_out e f = does (value_fails c k (value_of v) b was get_was (is_same ∙ new) (value_filter ∙ e)) f

        pub value_set : x ≡ false → {i j : ℕ} → i ≡ place_at pos + (key_size + 2) → j ≡ value_size → {w : List ℕ} → w ≡ value_bytes (value_of v)
            → Does (update_value c k (value_of v) b) UpdateResult.Updated (put_mid i j u w)
        value_set e {i} {j} ei ej f =
            let x : model-value.Value = value_of v in
            let b' : Bucket = record { disconnected = revalue k x b.disconnected; connected = revalue k x b.connected; pending = b.pending } in
            let ns : List Node = nodes b in
            let low : pos < length ns = omega (arith, many q) in
            let g : nodes b' ≡ take pos ns ++ (with_value x was ∷ drop (suc pos) ns) =
            sym (nodes_revalue k x b) ∙ revalue_at k x ns (node_in []) q.different (omega (arith, ep, many q))
            ∙ ap (λ (i : ℕ). set ns i (with_value x (get_or ns i (node_in [])))) ep ∙ set_split ns pos (with_value x was) low in
            does (value_changes c k x b was get_was (is_same ∙ new) (value_filter ∙ e))
            (put_mid_splice u i j f (length_value x ∙ sym ej) ∙ ap (λ (i : ℕ). splice u i (value_bytes x)) ei ∙ ap (λ (s : List ℕ). splice s (place_at pos + (key_size + 2)) (value_bytes x)) q.exact
            ∙ bytes_value b b' refl (omega (arith, q.few, count_in u)) (take pos ns) (drop (suc pos) ns) was x pos (length-take-le pos ns (omega (arith, many q)))
            (split_at ns pos (node_in []) low) g (length_revalue k x b.disconnected))

  -- insert

  module _ (c : BucketSettings) (n : Node) (time : ℕ) where
    pub insert_held : place n.key (nodes b) < get_or u 0 0 → Does (insert c time n b) BucketInsertResult.NodeExists u
    insert_held h = does (insert_exists c time n b (held_holds n.key h)) q.exact

    module _ (h : get_or u 0 0 ≤ place n.key (nodes b)) {count : ℕ} (ec : count ≡ get_or u 0 0) where
      new_holds : holds n.key b ≡ false
      new_holds = absent_holds n.key h

      others_all : nodes b ≡ others u count
      unfolding others
      others_all = sym (remove_at_past count (nodes b) (omega (arith, many q, ec)))

      module _ {r : Bool} (er : r ≡ (c.filter && ip_filter_fails max_nodes_per_subnet_bucket n.value (others u count))) where
        fails_all : fails_bucket_filter c n.value b ≡ r
        fails_all = filter_is c b others_all n.value er

        pub inserts_filter : r ≡ true → Does (insert c time n b) BucketInsertResult.FailedFilter u
        inserts_filter e = does (insert_filter c time n b new_holds (fails_all ∙ e)) q.exact

        module _ (fine : r ≡ false) {x : Bool} (ex : x ≡ (connected_incoming n && leb c.max_incoming (length (incoming_nodes (others u count))))) where
          max_all : is_max_incoming c n b ≡ x
          max_all = maximum_is c b others_all n ex

          pub inserts_many : x ≡ true → Does (insert c time n b) BucketInsertResult.TooManyIncoming u
          inserts_many e = does (insert_many c time n b new_holds (fails_all ∙ fine) (max_all ∙ e)) q.exact

          pub inserts_placed : x ≡ false → count < max_nodes_per_bucket → {t : List ℕ} → t ≡ bucket_bytes (put n b) → Does (insert c time n b) BucketInsertResult.Inserted t
          inserts_placed e l f =
              does (insert_placed c time n b new_holds (fails_all ∙ fine) (max_all ∙ e) (omega (arith, count_in u, ec)) ∙ ap (λ (y : Bucket). (BucketInsertResult.Inserted, y)) (placed_none b q.pending n)) f

          pub inserts_full : x ≡ false → max_nodes_per_bucket ≤ count → {a : BucketInsertResult} {t : List ℕ} → Does (inserted_full c time n b) a t → Does (insert c time n b) a t
          inserts_full e l d = does_as (insert_full_lem c time n b new_holds (fails_all ∙ fine) (max_all ∙ e) (omega (arith, count_in u, ec))) d

    -- a full bucket

    pub full_off : n.connected ≡ false → Does (inserted_full c time n b) BucketInsertResult.Full u
    full_off e = does (full_disconnected c time n b e) q.exact

    pub full_none : n.connected ≡ true → get_or u 1 0 ≡ 0 → Does (inserted_full c time n b) BucketInsertResult.Full u
    full_none e z = does (full_connected c time n b e (none_left b.disconnected (first_is q ∙ z))) q.exact

    pub full_waits : n.connected ≡ true → 0 < get_or u 1 0 → {key : ℕ} → key ≡ key_in (place_in u 0)
        → {w : List ℕ} → w ≡ pending_bytes (some (record { node = n; deadline = time + c.pending_timeout }))
        → Does (inserted_full c time n b) (BucketInsertResult.Pending key) (put_mid pending_at pending_size u w)
    unfolding node_in
    full_waits e h {key} ek f =
        let p : PendingNode = record { node = n; deadline = time + c.pending_timeout } in
        let x = head_is b.disconnected b.connected (node_in []) (omega (arith, first_is q)) in
        let y : Node = get_or (nodes b) 0 (node_in []) in
        let k : y.key ≡ key =
        ap (λ (n : Node). n.key) (place_is 0 (omega (arith, q.first))) ∙ sym ek in
        does (full_becomes_pending c time n b y x.0 e x.1 q.pending ∙ ap (λ (i : ℕ). (BucketInsertResult.Pending i, with_pending (some p) b)) k)
        (put_mid_splice u pending_at pending_size f (length_pending (some p)) ∙ ap (λ (s : List ℕ). splice s pending_at (pending_bytes (some p))) q.exact
        ∙ bytes_pending b (some p) (omega (arith, q.few, count_in u)))
