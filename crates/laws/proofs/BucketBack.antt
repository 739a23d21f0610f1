-- A bucket's bytes that pass question 2 are those of the bucket that is read of them, which is well formed and fits.
use mathlib.Core.Path.{◌≡◌, refl, sym, ap, ◌∙◌}
use mathlib.Core.Bool.{Bool, true, false, not, ◌&&◌}
use mathlib.Core.List.{List, [], ◌∷◌}
use Prim.Native.Nat.{ℕ, ◌+◌, ◌*◌, ◌-◌, ◌≤◌, ◌<◌}
use native.Mathlib.Omega.{arith}
use lib.ListN.{length, get_or, length-drop, take-append-drop}
use lib.Seq.{length-take-le, get_or-take, get_or-drop}
use lib.Dec.{eqb}
use borrow.Author.Tests.{eqb-true, lt-ltb, le-ltb, not-true}
use Rattle.model.specs.Base.{same, joined}
use Rattle.model.specs.Bytes.{part, Bytes}
use Rattle.model.specs.Node.{Node, PendingNode}
use Rattle.model.specs.Bucket.{max_nodes_per_bucket, nodes, num_entries, holds}
use Rattle.model.specs.Sizes.{time_size, node_size, place_at, pending_at, pending_size, bucket_size}
use Rattle.model.specs.Layout.{node_bytes, pending_bytes, bucket_bytes, node_in, place_in, nodes_in, pending_in, bucket_in}
use Rattle.model.specs.Formed.{are_zero, node_codes, key_in, not_held, pending_formed, bucket_formed}
use Rattle.model.specs.Fits.{All, Opt, FormedBucket, FitsNode, FitsPending, FitsBucket}
use Rattle.laws.proofs.Tests.{same_sym, split, cases}
use Rattle.laws.proofs.Lists.{all_gives, conj_gives, length_tabulate, get_d_tabulate}
use Rattle.laws.proofs.Parts.{part_all, part_append, part_cons, length_part, joined_slots, slot_before}
use Rattle.laws.proofs.Bytes.{number_back, number_fits, Bytes_part}
use Rattle.laws.proofs.Zeros.{part_are_zero}
use Rattle.laws.proofs.NodeFormed.{node_back, node_fits}
use Rattle.laws.proofs.BucketBytes.{length_nodes}
use Rattle.laws.proofs.BucketFormed.{Checked, checked, Different_if, none_holds}
use Rattle.laws.proofs.All.{all_by_get_or, all_tabulate, opt_map}

-- what is read of any bytes
module _ (s : List ℕ) where
  pub length_nodes_in : length (nodes_in s) ≡ get_or s 0 0
  unfolding nodes_in
  length_nodes_in = length_tabulate (get_or s 0 0) (λ j. node_in (place_in s j))

  pub nodes_in_lem : nodes (bucket_in s) ≡ nodes_in s
  unfolding bucket_in
  nodes_in_lem = take-append-drop (get_or s 1 0) (nodes_in s)

  pub count_in : num_entries (bucket_in s) ≡ get_or s 0 0
  count_in = sym (length_nodes (bucket_in s)) ∙ ap length nodes_in_lem ∙ length_nodes_in

  pub first_in : get_or s 1 0 ≤ get_or s 0 0 → length (bucket_in s).disconnected ≡ get_or s 1 0
  unfolding bucket_in
  first_in h = length-take-le (get_or s 1 0) (nodes_in s) (rw length_nodes_in h)

  pub pending_of_lem : (bucket_in s).pending ≡ pending_in s
  unfolding bucket_in
  pending_of_lem = refl

  -- the pending, where there is one
  pending_some : (p : ℕ → Bool) → pending_formed p s ≡ true → eqb (get_or s pending_at 0) 1 ≡ true
      → (p (key_in (part s (pending_at + 1) node_size)) ≡ true)
      × (not_held s (get_or s 0 0) (key_in (part s (pending_at + 1) node_size)) ≡ true)
      × (node_codes (part s (pending_at + 1) node_size) ≡ true)
  unfolding pending_formed
  pending_some p c e =
      let w : List ℕ = part s (pending_at + 1) node_size in
      let x : Bool = p (key_in w) in
      let y : Bool = not_held s (get_or s 0 0) (key_in w) in
      let z : Bool = node_codes w in
      let d : (x && (y && z)) ≡ true = rw (eqb-true (get_or s pending_at 0) 1 e) at c in
      let t = conj_gives x (y ∷ z ∷ []) d in
      (t.0, t.1.0, t.1.1.0)

-- what question 2 says of the bucket that is read, be the list of bytes or of larger numbers
module _ (s : List ℕ) (p : ℕ → Bool) (m : ℕ) (c : bucket_formed p m s ≡ true) where
  abbrev held : ℕ
  held = get_or s 0 0

  abbrev first_at : ℕ
  first_at = get_or s 1 0

  passed : Checked p m s
  passed = checked p m s c

  -- the node of place j
  node_of : (j : ℕ) (d : Node) → j < held → get_or (nodes_in s) j d ≡ node_in (place_in s j)
  unfolding nodes_in
  node_of j d i = get_d_tabulate held (λ x. node_in (place_in s x)) j d i

  differs : (j i : ℕ) → j < held → i < j → same (key_in (place_in s j)) (key_in (place_in s i)) ≡ false
  unfolding not_held
  differs j i a b =
      same_sym (key_in (place_in s j)) (key_in (place_in s i))
      ∙ not-true (same (key_in (place_in s i)) (key_in (place_in s j))) (all_gives j (λ x. not (same (key_in (place_in s x)) (key_in (place_in s j)))) i b (passed.different j a))

  disconnected_of : All (λ (x : Node). x.connected ≡ false) (bucket_in s).disconnected
  unfolding bucket_in node_in
  disconnected_of =
      all_by_get_or _ (bucket_in s).disconnected (node_in [])
      (λ j i.
      let b : j < first_at = rw (first_in s passed.first) at i in
      let a : j < held = omega (arith, passed.first) in
      rw (get_or-take first_at (nodes_in s) j (node_in []) b, node_of j (node_in []) a, passed.states j a, lt-ltb j first_at b))

  connected_of : All (λ (x : Node). x.connected ≡ true) (bucket_in s).connected
  unfolding bucket_in node_in
  connected_of =
      all_by_get_or _ (bucket_in s).connected (node_in [])
      (λ j i.
      let a : first_at + j < held = omega (arith, length_nodes_in s, length-drop first_at (nodes_in s), i) in
      rw (get_or-drop first_at (nodes_in s) j (node_in []), node_of (first_at + j) (node_in []) a, passed.states (first_at + j) a, le-ltb (first_at + j) first_at (omega arith)))

  pending_good : Opt (λ (q : PendingNode). (p q.node.key ≡ true) × (holds q.node.key (bucket_in s) ≡ false)) (pending_in s)
  unfolding node_in nodes_in not_held
  pending_good =
      cases (Opt (λ (q : PendingNode). (p q.node.key ≡ true) × (holds q.node.key (bucket_in s) ≡ false))) (eqb (get_or s pending_at 0) 1)
      (λ e.
      let key : ℕ = key_in (part s (pending_at + 1) node_size) in
      let t = pending_some s p passed.pending e in (
        t.0,
        none_holds key (bucket_in s)
            (rw (nodes_in_lem s)
            (all_tabulate (λ (x : Node). same x.key key ≡ false) held (λ j. node_in (place_in s j))
            (λ j i. not-true (same (key_in (place_in s j)) key) (all_gives held (λ x. not (same (key_in (place_in s x)) key)) j i t.1)))),
      ))
      (λ e. tt)

  pub bucket_good : FormedBucket (λ (k : ℕ). p k ≡ true) m (bucket_in s)
  unfolding nodes_in node_in
  bucket_good =
      record {
        formed =
            record {
              at_most = rw (count_in s) passed.at_most;
              different =
                  rw (nodes_in_lem s)
                  (Different_if (nodes_in s) (node_in [])
                  (λ j a i b.
                  let y : j < held = rw (length_nodes_in s) at a in
                  let z : i < held = omega arith in
                  rw (node_of j (node_in []) y, node_of i (node_in []) z) (differs j i y b)));
              disconnected_first = disconnected_of;
              then_connected = connected_of;
              incoming_within = rw (nodes_in_lem s) passed.incoming_within;
              pending_apart = rw (pending_of_lem s) (opt_map _ _ (λ (q : PendingNode) e. e.1) (pending_in s) pending_good);
            };
        of_the_index =
            record {
              held = rw (nodes_in_lem s) (all_tabulate (λ (x : Node). p x.key ≡ true) held (λ j. node_in (place_in s j)) passed.of_the_index);
              pending = rw (pending_of_lem s) (opt_map _ _ (λ (q : PendingNode) e. (e.0, tt)) (pending_in s) pending_good);
            };
      }

module _ (s : List ℕ) (l : length s ≡ bucket_size) (h : Bytes s) where
  pub pending_back : (p : ℕ → Bool) → pending_formed p s ≡ true → pending_bytes (pending_in s) ≡ part s pending_at pending_size
  unfolding pending_formed
  pending_back p c =
      let x : ℕ = get_or s pending_at 0 in
      let w : List ℕ = part s (pending_at + 1) node_size in
      let n : length w ≡ node_size = length_part s (pending_at + 1) node_size (omega arith) in
      split (eqb x 0)
      (λ e.
      let z : are_zero s (pending_at + 1) (node_size + time_size) ≡ true = rw e at c in
      rw (part_cons s pending_at (node_size + time_size) (omega arith), eqb-true x 0 e, part_are_zero s (pending_at + 1) (node_size + time_size) (omega arith) z))
      (λ e.
      let f : eqb x 1 ≡ true = (conj_gives (eqb x 1) (p (key_in w) ∷ not_held s (get_or s 0 0) (key_in w) ∷ node_codes w ∷ []) (rw e at c)).0 in
      rw (
        part_cons s pending_at (node_size + time_size) (omega arith),
        f,
        eqb-true x 1 f,
        part_append s (pending_at + 1) node_size time_size,
        node_back w n (Bytes_part s (pending_at + 1) node_size h) (pending_some s p c f).2,
        number_back s (pending_at + 1 + node_size) time_size (omega arith) h,
      ))

  module _ (p : ℕ → Bool) (m : ℕ) (c : bucket_formed p m s ≡ true) where
    abbrev count : ℕ
    count = get_or s 0 0

    ok : Checked p m s
    ok = checked p m s c

    within : (j : ℕ) → j < count → place_at j + node_size ≤ length s
    within j i = omega (arith, slot_before j count node_size i, ok.at_most)

    place_length : (j : ℕ) → j < count → length (place_in s j) ≡ node_size
    place_length j i = length_part s (place_at j) node_size (within j i)

    held_back : joined node_bytes (nodes_in s) ≡ part s 2 (count * node_size)
    unfolding nodes_in
    held_back =
        joined_slots node_bytes (λ j. node_in (place_in s j)) s 2 node_size count
        (λ j i. node_back (place_in s j) (place_length j i) (Bytes_part s (place_at j) node_size h) (ok.codes j i))

    pub bucket_back : bucket_bytes (bucket_in s) ≡ s
    unfolding bucket_bytes
    bucket_back =
        let u : ℕ = (max_nodes_per_bucket - count) * node_size in
        let a : count ≤ max_nodes_per_bucket = ok.at_most in
        let e : part s 2 (max_nodes_per_bucket * node_size + pending_size) ≡ part s 2 (count * node_size + (u + pending_size)) = ap (part s 2) (omega arith) in
        let b : place_at count + u ≡ pending_at = omega arith in
        rw (
          count_in s,
          first_in s ok.first,
          nodes_in_lem s,
          held_back,
          pending_of_lem s,
          pending_back p ok.pending,
          ← part_are_zero s (place_at count) u (omega arith) ok.unused,
        )
        (sym (sym (part_all s bucket_size (omega arith))
        ∙ rw (
          part_cons s 0 (1 + max_nodes_per_bucket * node_size + pending_size) (omega arith),
          part_cons s 1 (max_nodes_per_bucket * node_size + pending_size) (omega arith),
          e,
          part_append s 2 (count * node_size) (u + pending_size),
          part_append s (place_at count) u pending_size,
          b,
        )))

    pub bucket_fits : FitsBucket (bucket_in s)
    unfolding nodes_in
    bucket_fits =
        record {
          held =
              rw (nodes_in_lem s)
              (all_tabulate FitsNode count (λ j. node_in (place_in s j)) (λ j i. node_fits (place_in s j) (place_length j i) (Bytes_part s (place_at j) node_size h)));
          pending =
              rw (pending_of_lem s)
              (cases (Opt FitsPending) (eqb (get_or s pending_at 0) 1)
              (λ e. (
                node_fits (part s (pending_at + 1) node_size) (length_part s (pending_at + 1) node_size (omega arith)) (Bytes_part s (pending_at + 1) node_size h),
                number_fits s (pending_at + 1 + node_size) time_size (omega arith) h,
              ))
              (λ e. tt));
        }
