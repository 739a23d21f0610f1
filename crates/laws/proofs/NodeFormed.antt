-- The codes of a node's and of a record's bytes: what is written has them in range, and bytes that have are those of what is read.
use mathlib.Core.Path.{◌≡◌, refl, sym, ◌∙◌, subst⁻¹}
use mathlib.Core.Bool.{Bool, true, false, ◌&&◌, ◌||◌}
use mathlib.Core.List.{List, [], ◌∷◌, ◌++◌}
use mathlib.Core.Option.{Option, none, some}
use Prim.Native.Nat.{ℕ, ◌+◌, ◌≤◌}
use native.Mathlib.Omega.{arith}
use lib.ListN.{length, get_or, length-replicate}
use lib.Dec.{eqb, leb}
use borrow.Author.Tests.{eqb-true, eqb-false, leb-true}
use Rattle.model.specs.Base.{all_below}
use Rattle.model.specs.Bytes.{bytes, part, zeros, Bytes}
use Rattle.model.specs.Value.{Address}
use Rattle.model.specs.Node.{Node, Ending, EndedPending, evicted_in}
use Rattle.model.specs.Sizes.{key_size, slot_size, value_size, node_size, record_size}
use Rattle.model.specs.Layout.{flag_byte, address_bytes, value_bytes, node_bytes, evicting_kind, last_kind, ending_kind, evicted_bytes, record_bytes, address_in, value_in, node_in, ending_of, ending_in, record_in}
use Rattle.model.specs.Formed.{are_zero, node_codes, record_formed}
use Rattle.model.specs.Fits.{Opt, FitsAddress, FitsValue, FitsNode, FitsRecord}
use Rattle.laws.proofs.Tests.{cases, split, and_left, and_right, or_rest}
use Rattle.laws.proofs.Parts.{part_right, part_all, part_append, part_cons, length_part, get_d_part, get_or_right}
use Rattle.laws.proofs.Bytes.{length_bytes, number_back, number_fits, Bytes_part}
use Rattle.laws.proofs.Zeros.{zero_gives, part_are_zero, are_zero_part, are_zero_within}
use Rattle.laws.proofs.NodeBytes.{length_node}

-- what is written

pub flag_code : (b : Bool) → leb (flag_byte b) 1 ≡ true
flag_code true = refl
flag_code false = refl

codes_of : (a : Option Address) (k : List ℕ) (u d : Bool) (r : List ℕ) → length k ≡ key_size → node_codes (k ++ (flag_byte u ∷ flag_byte d ∷ (address_bytes a ++ r))) ≡ true
unfolding node_codes are_zero all_below
codes_of none k u d r e =
    let w : List ℕ = flag_byte u ∷ flag_byte d ∷ (zeros 5 ++ r) in
    rw (
      get_or_right k w key_size 0 e,
      get_or_right k w key_size 1 e,
      get_or_right k w key_size 2 e,
      get_or_right k w key_size 3 e,
      get_or_right k w key_size 4 e,
      get_or_right k w key_size 5 e,
      get_or_right k w key_size 6 e,
      flag_code u,
      flag_code d,
    )
codes_of (some x) k u d r e =
    let w : List ℕ = flag_byte u ∷ flag_byte d ∷ (address_bytes (some x) ++ r) in
    rw (get_or_right k w key_size 0 e, get_or_right k w key_size 1 e, get_or_right k w key_size 2 e, flag_code u, flag_code d)

pub node_codes_lem : (n : Node) → node_codes (node_bytes n) ≡ true
unfolding node_bytes value_bytes
node_codes_lem n = codes_of n.value.address (bytes key_size n.key) n.connected n.incoming (bytes slot_size n.value.slot) (length_bytes key_size n.key)

-- a kind with no node behind it
plain_formed : (k : ℕ) (a : List ℕ) → length a ≡ key_size → eqb k evicting_kind ≡ false → leb k last_kind ≡ true → record_formed (a ++ (k ∷ zeros node_size)) ≡ true
unfolding record_formed part
plain_formed k a e h l =
    rw (get_or_right a (k ∷ zeros node_size) key_size 0 e, h, l)
    (are_zero_part (a ++ (k ∷ zeros node_size)) (key_size + 1) node_size (part_right a (k ∷ zeros node_size) key_size 1 node_size e ∙ part_all (zeros node_size) node_size (omega (arith, length-replicate {A = ℕ} node_size 0))))

ending_formed : (x : Ending) (a : List ℕ) → length a ≡ key_size → record_formed (a ++ (ending_kind x ∷ evicted_bytes (evicted_in x))) ≡ true
unfolding record_formed part
ending_formed (Ending.Placed none) a e = plain_formed 0 a e refl refl
ending_formed (Ending.Placed (some n)) a e =
    rw (
      get_or_right a (evicting_kind ∷ node_bytes n) key_size 0 e,
      part_right a (evicting_kind ∷ node_bytes n) key_size 1 node_size e,
      part_all (node_bytes n) node_size (omega (arith, length_node n)),
    )
    (node_codes_lem n)
ending_formed Ending.FirstConnected a e = plain_formed 2 a e refl refl
ending_formed Ending.BucketFilter a e = plain_formed 3 a e refl refl
ending_formed Ending.TooManyIncoming a e = plain_formed 4 a e refl refl
ending_formed Ending.Inserted a e = plain_formed 5 a e refl refl
ending_formed Ending.FirstConfirmed a e = plain_formed 6 a e refl refl

pub record_formed_lem : (r : EndedPending) → record_formed (record_bytes r) ≡ true
unfolding record_bytes
record_formed_lem r = ending_formed r.ending (bytes key_size r.key) (length_bytes key_size r.key)

-- what is read

pub flag_back : (x : ℕ) → leb x 1 ≡ true → flag_byte (eqb x 1) ≡ x
flag_back x h = split (eqb x 1) (λ e. rw e (sym (eqb-true x 1 e))) (λ e. rw e (zero_of (leb-true x 1 h) (eqb-false x 1 e)))
  where
    zero_of : x ≤ 1 → (x ≡ 1 → ⊥) → 0 ≡ x
    zero_of l n = omega arith

pub address_back : (s : List ℕ) → leb (get_or s 0 0) 1 ≡ true → (eqb (get_or s 0 0) 1 || are_zero s 1 4) ≡ true
    → address_bytes (address_in s) ≡ get_or s 0 0 ∷ get_or s 1 0 ∷ get_or s 2 0 ∷ get_or s 3 0 ∷ get_or s 4 0 ∷ []
address_back s h z =
    split (eqb (get_or s 0 0) 1)
    (λ e. rw (e, eqb-true (get_or s 0 0) 1 e))
    (λ e.
    let o : are_zero s 1 4 ≡ true = or_rest (eqb (get_or s 0 0) 1) (are_zero s 1 4) z e in
    let f : 0 ≡ get_or s 0 0 = rw e at (flag_back (get_or s 0 0) h) in
    rw (e, ← f, zero_gives s 1 4 o 0 (omega arith), zero_gives s 1 4 o 1 (omega arith), zero_gives s 1 4 o 2 (omega arith), zero_gives s 1 4 o 3 (omega arith)))

module _ (s : List ℕ) (l : length s ≡ value_size) (h : Bytes s) where
  pub value_back : leb (get_or s 0 0) 1 ≡ true → (eqb (get_or s 0 0) 1 || are_zero s 1 4) ≡ true → value_bytes (value_in s) ≡ s
  unfolding value_in value_bytes
  value_back c z =
      rw (address_back s c z, number_back s 5 slot_size (omega arith) h)
      (sym (sym (part_all s value_size (omega arith))
      ∙ rw (
        part_cons s 0 (4 + slot_size) (omega arith),
        part_cons s 1 (3 + slot_size) (omega arith),
        part_cons s 2 (2 + slot_size) (omega arith),
        part_cons s 3 (1 + slot_size) (omega arith),
        part_cons s 4 slot_size (omega arith),
      )))

  pub value_fits : FitsValue (value_in s)
  unfolding value_in
  value_fits =
      record {
        address = cases (Opt FitsAddress) (eqb (get_or s 0 0) 1) (λ e. record { a = h 1; b = h 2; c = h 3; d = h 4 }) (λ e. tt);
        slot = number_fits s 5 slot_size (omega arith) h;
      }

module _ (s : List ℕ) (l : length s ≡ node_size) (h : Bytes s) where
  pub node_back : node_codes s ≡ true → node_bytes (node_in s) ≡ s
  unfolding node_codes node_in node_bytes
  node_back c =
      let p : List ℕ = part s (key_size + 2) value_size in
      let b1 : Bool = leb (get_or s key_size 0) 1 in
      let b2 : Bool = leb (get_or s (key_size + 1) 0) 1 in
      let b3 : Bool = leb (get_or s (key_size + 2) 0) 1 in
      let b4 : Bool = eqb (get_or s (key_size + 2) 0) 1 || are_zero s (key_size + 3) 4 in
      let r1 : (b2 && (b3 && b4)) ≡ true = and_right b1 (b2 && (b3 && b4)) c in
      let r2 : (b3 && b4) ≡ true = and_right b2 (b3 && b4) r1 in
      let g : get_or p 0 0 ≡ get_or s (key_size + 2) 0 = get_d_part s (key_size + 2) value_size 0 (omega arith) in
      let v : value_bytes (value_in p) ≡ p =
      value_back p (length_part s (key_size + 2) value_size (omega arith)) (Bytes_part s (key_size + 2) value_size h) (rw g (and_left b3 b4 r2)) (rw (g, are_zero_within s (key_size + 2) value_size 1 4 (omega arith)) (and_right b3 b4 r2)) in
      rw (number_back s 0 key_size (omega arith) h, flag_back (get_or s key_size 0) (and_left b1 (b2 && (b3 && b4)) c), flag_back (get_or s (key_size + 1) 0) (and_left b2 (b3 && b4) r1), v)
      (sym (sym (part_all s node_size (omega arith))
      ∙ rw (part_append s 0 key_size (2 + value_size), part_cons s key_size (1 + value_size) (omega arith), part_cons s (key_size + 1) value_size (omega arith))))

  pub node_fits : FitsNode (node_in s)
  unfolding node_in
  node_fits =
      record {
        key = number_fits s 0 key_size (omega arith) h;
        value = value_fits (part s (key_size + 2) value_size) (length_part s (key_size + 2) value_size (omega arith)) (Bytes_part s (key_size + 2) value_size h);
      }

-- the kinds with no node behind them
kind_back : (x : ℕ) → leb x last_kind ≡ true → eqb x evicting_kind ≡ false → ending_kind (ending_of x) ≡ x
kind_back x l e =
    split (eqb x 2) (λ n. rw n (sym (eqb-true x 2 n)))
    (λ n2. split (eqb x 3) (λ n. rw (n2, n) (sym (eqb-true x 3 n)))
    (λ n3. split (eqb x 4) (λ n. rw (n2, n3, n) (sym (eqb-true x 4 n)))
    (λ n4. split (eqb x 5) (λ n. rw (n2, n3, n4, n) (sym (eqb-true x 5 n)))
    (λ n5. split (eqb x 6) (λ n. rw (n2, n3, n4, n5, n) (sym (eqb-true x 6 n)))
    (λ n6.
    rw (n2, n3, n4, n5, n6)
    (zero_of (leb-true x last_kind l) (eqb-false x evicting_kind e) (eqb-false x 2 n2) (eqb-false x 3 n3) (eqb-false x 4 n4) (eqb-false x 5 n5) (eqb-false x 6 n6)))))))
  where
    zero_of : x ≤ last_kind → (x ≡ evicting_kind → ⊥) → (x ≡ 2 → ⊥) → (x ≡ 3 → ⊥) → (x ≡ 4 → ⊥) → (x ≡ 5 → ⊥) → (x ≡ 6 → ⊥) → 0 ≡ x
    zero_of m n1 n2 n3 n4 n5 n6 = omega arith

none_evicted : (x : ℕ) → evicted_in (ending_of x) ≡ none
none_evicted x =
    let N : Ending → Type 0 = λ e. evicted_in e ≡ none in
    cases N (eqb x 2) (λ _. refl)
    (λ _. cases N (eqb x 3) (λ _. refl)
    (λ _. cases N (eqb x 4) (λ _. refl) (λ _. cases N (eqb x 5) (λ _. refl) (λ _. cases N (eqb x 6) (λ _. refl) (λ _. refl)))))

module _ (s : List ℕ) (l : length s ≡ record_size) (h : Bytes s) where
  ending_back : record_formed s ≡ true → ending_kind (ending_in s) ∷ evicted_bytes (evicted_in (ending_in s)) ≡ part s key_size (1 + node_size)
  unfolding record_formed
  ending_back c =
      let p : List ℕ = part s (key_size + 1) node_size in
      let x : ℕ = get_or s key_size 0 in
      split (eqb x evicting_kind)
      (λ e.
      let d : node_codes p ≡ true = rw e at c in
      rw (part_cons s key_size node_size (omega arith), e, eqb-true x evicting_kind e, node_back p (length_part s (key_size + 1) node_size (omega arith)) (Bytes_part s (key_size + 1) node_size h) d))
      (λ e.
      let d : (leb x last_kind && are_zero s (key_size + 1) node_size) ≡ true = rw e at c in
      let z : are_zero s (key_size + 1) node_size ≡ true = and_right (leb x last_kind) (are_zero s (key_size + 1) node_size) d in
      rw (part_cons s key_size node_size (omega arith), e, kind_back x (and_left (leb x last_kind) (are_zero s (key_size + 1) node_size) d) e, none_evicted x, part_are_zero s (key_size + 1) node_size (omega arith) z))

  pub record_back : record_formed s ≡ true → record_bytes (record_in s) ≡ s
  unfolding record_in record_bytes
  record_back c =
      rw (number_back s 0 key_size (omega arith) h, ending_back c, ← part_append s 0 key_size (1 + node_size)) (part_all s record_size (omega arith))

  pub record_fits : FitsRecord (record_in s)
  unfolding record_in
  record_fits =
      record {
        key = number_fits s 0 key_size (omega arith) h;
        evicted =
            cases (λ (x : Ending). Opt FitsNode (evicted_in x)) (eqb (get_or s key_size 0) evicting_kind)
            (λ e. node_fits (part s (key_size + 1) node_size) (length_part s (key_size + 1) node_size (omega arith)) (Bytes_part s (key_size + 1) node_size h))
            (λ e. subst⁻¹ (Opt FitsNode) (none_evicted (get_or s key_size 0)) tt);
      }
