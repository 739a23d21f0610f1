-- Question 2 of a bucket's bytes: the test place by place, and that what is written of a well-formed bucket passes it.
use mathlib.Core.Path.{◌≡◌, refl, sym, ap, ◌∙◌}
use mathlib.Core.Bool.{Bool, true, false, ◌||◌}
use mathlib.Core.List.{List, [], ◌∷◌, ◌++◌}
use mathlib.Core.Option.{Option, none, some}
use mathlib.Core.Logic.{⊎_elim}
use Prim.Native.Nat.{ℕ, zero, suc, ◌+◌, ◌*◌, ◌-◌, ◌≤◌, ◌<◌}
use native.Mathlib.Omega.{arith}
use native.Mathlib.Nat.{not-suc-le-zero, le_of_suc-le-suc}
use lib.ListN.{length, get_or, length-replicate, get_or-append}
use lib.Seq.{get_or-append-add}
use lib.Dec.{eqb, leb}
use borrow.Author.Tests.{eq-eqb, eqb-true, leb-true, le-leb, lt-ltb, le-ltb}
use Rattle.model.specs.Base.{same, all_below, joined, is_some}
use Rattle.model.specs.Bytes.{bytes, part, zeros}
use Rattle.model.specs.Node.{Node, PendingNode}
use Rattle.model.specs.Bucket.{Bucket, max_nodes_per_bucket, nodes, num_entries, find, or_else, holds, incoming_nodes}
use Rattle.model.specs.Sizes.{key_size, node_size, time_size, pending_at, pending_size}
use Rattle.model.specs.Layout.{flag_byte, node_bytes, pending_bytes, bucket_bytes, node_in, place_in, nodes_in}
use Rattle.model.specs.Formed.{are_zero, node_codes, key_in, state_at, not_held, pending_formed, bucket_formed}
use Rattle.model.specs.Fits.{All, Opt, Different, FormedBucket, FitsNode, FitsPending, FitsBucket}
use Rattle.laws.proofs.Tests.{clash, same_sym, split, or_left, or_right}
use Rattle.laws.proofs.Lists.{lt_or_le, all_gives, all_if, conj_gives, conj_if}
use Rattle.laws.proofs.Parts.{part_right, part_between, part_front, part_all, get_or_right}
use Rattle.laws.proofs.Zeros.{are_zero_part}
use Rattle.laws.proofs.NodeBytes.{length_node, node_key, node_state}
use Rattle.laws.proofs.NodeFormed.{node_codes_lem}
use Rattle.laws.proofs.BucketBytes.{length_nodes, places_bytes, length_places, length_held, bucket_cut, place_there, nodes_there}
use Rattle.laws.proofs.All.{all_append, all_left, all_right, all_get_d, all_by_get_or, opt_map, opt_both}

-- what question 2 asks of a bucket's bytes, place by place
pub record Checked (of_index : ℕ → Bool) (max_incoming : ℕ) (s : List ℕ) : Type 0 where
  pub at_most : get_or s 0 0 ≤ max_nodes_per_bucket
  pub different : (j : ℕ) → j < get_or s 0 0 → not_held s j (key_in (place_in s j)) ≡ true
  pub of_the_index : (j : ℕ) → j < get_or s 0 0 → of_index (key_in (place_in s j)) ≡ true
  pub states : (j : ℕ) → j < get_or s 0 0 → get_or (place_in s j) key_size 0 ≡ state_at (get_or s 1 0) j
  pub first : get_or s 1 0 ≤ get_or s 0 0
  pub incoming_within : length (incoming_nodes (nodes_in s)) ≤ max_incoming
  pub pending : pending_formed of_index s ≡ true
  pub codes : (j : ℕ) → j < get_or s 0 0 → node_codes (place_in s j) ≡ true
  pub unused : are_zero s (2 + get_or s 0 0 * node_size) ((max_nodes_per_bucket - get_or s 0 0) * node_size) ≡ true

module _ (of_index : ℕ → Bool) (m : ℕ) (s : List ℕ) where
  abbrev tests : List Bool
  tests =
      all_below (get_or s 0 0) (λ j. not_held s j (key_in (place_in s j)))
      ∷ all_below (get_or s 0 0) (λ j. of_index (key_in (place_in s j)))
      ∷ all_below (get_or s 0 0) (λ j. eqb (get_or (place_in s j) key_size 0) (state_at (get_or s 1 0) j))
      ∷ leb (get_or s 1 0) (get_or s 0 0)
      ∷ leb (length (incoming_nodes (nodes_in s))) m
      ∷ pending_formed of_index s
      ∷ all_below (get_or s 0 0) (λ j. node_codes (place_in s j))
      ∷ are_zero s (2 + get_or s 0 0 * node_size) ((max_nodes_per_bucket - get_or s 0 0) * node_size)
      ∷ []

  pub checked : bucket_formed of_index m s ≡ true → Checked of_index m s
  unfolding bucket_formed
  checked h =
      let n : ℕ = get_or s 0 0 in
      let t = conj_gives (leb n max_nodes_per_bucket) tests h in
      record {
        at_most = leb-true n max_nodes_per_bucket t.0;
        different = λ j l. all_gives n (λ k. not_held s k (key_in (place_in s k))) j l t.1.0;
        of_the_index = λ j l. all_gives n (λ k. of_index (key_in (place_in s k))) j l t.1.1.0;
        states = λ j l. eqb-true _ _ (all_gives n (λ k. eqb (get_or (place_in s k) key_size 0) (state_at (get_or s 1 0) k)) j l t.1.1.1.0);
        first = leb-true (get_or s 1 0) n t.1.1.1.1.0;
        incoming_within = leb-true (length (incoming_nodes (nodes_in s))) m t.1.1.1.1.1.0;
        pending = t.1.1.1.1.1.1.0;
        codes = λ j l. all_gives n (λ k. node_codes (place_in s k)) j l t.1.1.1.1.1.1.1.0;
        unused = t.1.1.1.1.1.1.1.1.0;
      }

  pub checked_if : Checked of_index m s → bucket_formed of_index m s ≡ true
  unfolding bucket_formed
  checked_if c =
      let n : ℕ = get_or s 0 0 in
      conj_if (leb n max_nodes_per_bucket) tests (
        le-leb n max_nodes_per_bucket c.at_most,
        (
          all_if n _ c.different,
          (
            all_if n _ c.of_the_index,
            (
              all_if n _ (λ j l. eq-eqb _ _ (c.states j l)),
              (
                le-leb (get_or s 1 0) n c.first,
                (
                  le-leb (length (incoming_nodes (nodes_in s))) m c.incoming_within,
                  (
                    c.pending,
                    (
                      all_if n _ c.codes,
                      (c.unused, tt),
                    ),
                  ),
                ),
              ),
            ),
          ),
        ),
      )

-- keys that are held, and keys that differ

pub find_none : (k : ℕ) (ns : List Node) → is_some (find k ns) ≡ false → All (λ (n : Node). same n.key k ≡ false) ns
find_none k [] h = tt
find_none k (n ∷ ns) h = split (same n.key k) (λ e. clash refl (rw e at h)) (λ e. (e, find_none k ns (rw e at h)))

pub none_find : (k : ℕ) (ns : List Node) → All (λ (n : Node). same n.key k ≡ false) ns → is_some (find k ns) ≡ false
none_find k [] a = refl
none_find k (n ∷ ns) a = rw a.0 (none_find k ns a.1)

is_some_or_else : (a b : Option Node) → is_some (or_else a b) ≡ (is_some a || is_some b)
is_some_or_else none b = refl
is_some_or_else (some n) b = refl

pub holds_none : (k : ℕ) (b : Bucket) → holds k b ≡ false → All (λ (n : Node). same n.key k ≡ false) (nodes b)
holds_none k b h =
    let x : Bool = is_some (find k b.disconnected) in
    let y : Bool = is_some (find k b.connected) in
    let o : (x || y) ≡ false = sym (is_some_or_else (find k b.disconnected) (find k b.connected)) ∙ h in
    all_append _ b.disconnected b.connected (find_none k b.disconnected (or_left x y o)) (find_none k b.connected (or_right x y o))

pub none_holds : (k : ℕ) (b : Bucket) → All (λ (n : Node). same n.key k ≡ false) (nodes b) → holds k b ≡ false
none_holds k b a =
    is_some_or_else (find k b.disconnected) (find k b.connected)
    ∙ rw (none_find k b.disconnected (all_left _ b.disconnected b.connected a), none_find k b.connected (all_right _ b.disconnected b.connected a))

-- of two places the later has another key
pub Different_get_or : (ns : List Node) (d : Node) → Different ns → (j : ℕ) → j < length ns → (i : ℕ) → i < j → same (get_or ns j d).key (get_or ns i d).key ≡ false
Different_get_or [] d h j l i m = absurd (not-suc-le-zero l)
Different_get_or (n ∷ ns) d h zero l i m = absurd (not-suc-le-zero m)
Different_get_or (n ∷ ns) d h (suc j) l zero m = all_get_d (λ (x : Node). same x.key n.key ≡ false) ns j d h.0 (le_of_suc-le-suc l)
Different_get_or (n ∷ ns) d h (suc j) l (suc i) m = Different_get_or ns d h.1 j (le_of_suc-le-suc l) i (le_of_suc-le-suc m)

pub Different_if : (ns : List Node) (d : Node) → ((j : ℕ) → j < length ns → (i : ℕ) → i < j → same (get_or ns j d).key (get_or ns i d).key ≡ false) → Different ns
Different_if [] d h = tt
Different_if (n ∷ ns) d h = (
  all_by_get_or (λ (x : Node). same x.key n.key ≡ false) ns d (λ j l. h (suc j) (omega arith) 0 (omega arith)),
  Different_if ns d (λ j l i m. h (suc j) (omega arith) (suc i) (omega arith)),
)

-- what is written

pending_formed_lem : (p : ℕ → Bool) (o : Option PendingNode) (a : List ℕ) → length a ≡ pending_at → Opt FitsPending o
    → Opt (λ (q : PendingNode). (p q.node.key ≡ true) × (not_held (a ++ pending_bytes o) (get_or (a ++ pending_bytes o) 0 0) q.node.key ≡ true)) o
    → pending_formed p (a ++ pending_bytes o) ≡ true
unfolding pending_formed part
pending_formed_lem p none a e f h =
    rw (get_or_right a (zeros pending_size) pending_at 0 e)
    (are_zero_part (a ++ zeros pending_size) (pending_at + 1) (node_size + time_size)
    (part_right a (zeros pending_size) pending_at 1 (node_size + time_size) e ∙ part_all (zeros (node_size + time_size)) (node_size + time_size) (omega (arith, length-replicate {A = ℕ} (node_size + time_size) 0))))
pending_formed_lem p (some q) a e f h =
    let ns : List ℕ = node_bytes q.node in
    let d : List ℕ = bytes time_size q.deadline in
    let n : length ns ≡ node_size = length_node q.node in
    let g : part (a ++ (1 ∷ (ns ++ d))) (pending_at + 1) node_size ≡ ns = part_right a (1 ∷ (ns ++ d)) pending_at 1 node_size e ∙ part_front ns d node_size n in
    rw (get_or_right a (1 ∷ (ns ++ d)) pending_at 0 e, g, node_key q.node f.0, h.0, h.1, node_codes_lem q.node)

module _ (p : ℕ → Bool) (m : ℕ) (b : Bucket) (g : FormedBucket (λ (k : ℕ). p k ≡ true) m b) (f : FitsBucket b) where
  abbrev written : List ℕ
  written = bucket_bytes b

  abbrev place : ℕ → Node
  place j = get_or (nodes b) j (node_in [])

  fits_at : (j : ℕ) → j < num_entries b → FitsNode (place j)
  fits_at j l = all_get_d FitsNode (nodes b) j (node_in []) f.held (rw length_nodes l)

  key_at : (j : ℕ) → j < num_entries b → key_in (place_in written j) ≡ (place j).key
  key_at j l = ap key_in (place_there b j (node_in []) l) ∙ node_key (place j) (fits_at j l)

  not_held_lem : (k key : ℕ) → k ≤ num_entries b → ((j : ℕ) → j < k → same (place j).key key ≡ false) → not_held written k key ≡ true
  unfolding not_held
  not_held_lem k key l h = all_if k _ (λ j i. rw (key_at j (omega arith), h j i))

  pub state_at_lem : (j : ℕ) → j < num_entries b → flag_byte (place j).connected ≡ state_at (length b.disconnected) j
  state_at_lem j l = ⊎_elim before behind (lt_or_le j n)
    where
      n : ℕ
      n = length b.disconnected

      before : j < n → flag_byte (place j).connected ≡ state_at n j
      before i =
          rw (
            lt-ltb j n i,
            get_or-append b.disconnected b.connected (node_in []) j i,
            all_get_d (λ (x : Node). x.connected ≡ false) b.disconnected j (node_in []) g.formed.disconnected_first i,
          )

      behind : n ≤ j → flag_byte (place j).connected ≡ state_at n j
      behind i =
          let e : place j ≡ get_or b.connected (j - n) (node_in []) =
          ap (λ (x : ℕ). get_or (nodes b) x (node_in [])) (omega arith) ∙ get_or-append-add b.disconnected b.connected (j - n) (node_in []) in
          rw (le-ltb j n i, e, all_get_d (λ (x : Node). x.connected ≡ true) b.connected (j - n) (node_in []) g.formed.then_connected (omega arith))

  pending_passes : pending_formed p written ≡ true
  pending_passes =
      rw (bucket_cut b)
      (pending_formed_lem p b.pending (places_bytes b) (length_places b g.formed.at_most) f.pending
      (opt_map _ _
      (λ q h. (h.0.0, rw (bucket_cut b) at (not_held_lem (num_entries b) q.node.key (omega arith) (λ j l. all_get_d (λ (n : Node). same n.key q.node.key ≡ false) (nodes b) j (node_in []) (holds_none q.node.key b h.1) (rw length_nodes l)))))
      b.pending (opt_both _ _ b.pending g.of_the_index.pending g.formed.pending_apart)))

  unused_zero : are_zero written (2 + num_entries b * node_size) ((max_nodes_per_bucket - num_entries b) * node_size) ≡ true
  unfolding bucket_bytes
  unused_zero =
      let k : ℕ = (max_nodes_per_bucket - num_entries b) * node_size in
      let ns : List ℕ = joined node_bytes (nodes b) in
      let q : List ℕ = pending_bytes b.pending in
      are_zero_part written (2 + num_entries b * node_size) k
      (part_right (num_entries b ∷ length b.disconnected ∷ []) (ns ++ (zeros k ++ q)) 2 (num_entries b * node_size) k refl
      ∙ part_between ns (zeros k) q (num_entries b * node_size) k (length_held b) (length-replicate {A = ℕ} k 0))

  bucket_checked : Checked p m written
  unfolding bucket_bytes
  bucket_checked =
      record {
        at_most = g.formed.at_most;
        different = λ j l. rw (key_at j l) (not_held_lem j (place j).key (omega arith) (λ i k. same_sym (place i).key (place j).key ∙ Different_get_or (nodes b) (node_in []) g.formed.different j (rw length_nodes l) i k));
        of_the_index = λ j l. rw (key_at j l) (all_get_d (λ (n : Node). p n.key ≡ true) (nodes b) j (node_in []) g.of_the_index.held (rw length_nodes l));
        states = λ j l. ap (λ (x : List ℕ). get_or x key_size 0) (place_there b j (node_in []) l) ∙ node_state (place j) ∙ state_at_lem j l;
        first = omega arith;
        incoming_within = rw (nodes_there b f) g.formed.incoming_within;
        pending = pending_passes;
        codes = λ j l. rw (place_there b j (node_in []) l) (node_codes_lem (place j));
        unused = unused_zero;
      }

  pub bucket_formed_lem : bucket_formed p m (bucket_bytes b) ≡ true
  bucket_formed_lem = checked_if p m (bucket_bytes b) bucket_checked
