-- Question 2 of one place: the tests of a bucket's bytes, by the bytes of the storage that the bucket stands in.
use mathlib.Core.Path.{◌≡◌, sym, ap, ◌∙◌}
use mathlib.Core.Bool.{Bool, true, false, not, ◌&&◌}
use mathlib.Core.List.{List, [], ◌∷◌}
use Prim.Native.Nat.{ℕ, ◌+◌, ◌*◌, ◌^◌, ◌≤◌, ◌<◌}
use native.Mathlib.Omega.{arith}
use lib.Dec.{eqb}
use lib.ListN.{length, get_or, set}
use lib.Seq.{get_or-set_same, get_or-set_other}
use borrow.Author.Tests.{eqb-true, eqb-false, ne_eqb}
use Rattle.model.specs.Base.{same, select}
use Rattle.model.specs.Bytes.{number, part, Bytes}
use Rattle.model.specs.Node.{connected_incoming}
use Rattle.model.specs.Bucket.{max_nodes_per_bucket, incoming_nodes}
use Rattle.model.specs.Sizes.{key_size, time_size, node_size, place_at, pending_at, bucket_size}
use Rattle.model.specs.Layout.{nodes_in, place_in}
use Rattle.model.specs.Formed.{are_zero, key_in, not_held, pending_formed}
use Rattle.laws.proofs.Tests.{cases, split, same_not}
use Rattle.laws.proofs.Lists.{all_if}
use Rattle.laws.proofs.Parts.{part_append, get_d_part, length_part}
use Rattle.laws.proofs.Bytes.{number_append, number_fits, number_one_more}
use Rattle.laws.proofs.BucketBack.{length_nodes_in}
use Rattle.key.specs.declared.Key.{Key}
use Rattle.key.specs.Key.{num, Words}
use Rattle.node.specs.declared.Node as declared
use Rattle.node.specs.Node.{node_codes}
use Rattle.key.proofs.Words.{lows, num_key_of}
use Rattle.storage.specs.Read.{read_node}
use Rattle.storage.proofs.Bytes.{codes_read}
use Rattle.well_formed.specs.Tests.{differs}

-- keys

-- keys that differ in the last word differ
pub last_differs : (s : List ℕ) (w : ℕ) (key : Key) → key_size ≤ length s → Bytes s → Words key → w ≡ number (part s 24 8) → (w ≡ key.w3 → ⊥)
    → same (key_in s) (num key) ≡ false
unfolding num
last_differs s w key l b k e h =
    let n : key_in s ≡ number (part s 0 24) * 2 ^ 64 + w =
    ap number (part_append s 0 24 8) ∙ number_append (part s 0 24) (part s 24 8) ∙ rw (length_part s 24 8 (omega arith), e) in
    let f : w < 2 ^ 64 = rw e (number_fits s 24 8 (omega arith) b) in
    same_not (key_in s) (num key) (λ q. h (lows (number (part s 0 24)) ((key.w0 * 2 ^ 64 + key.w1) * 2 ^ 64 + key.w2) f k.word3 (sym n ∙ q)))

-- places

-- the last byte of the key of place k
abbrev pub last_at : List ℕ → ℕ → ℕ
last_at bs k = get_or (place_in bs k) 31 0

pub last_is : (bs : List ℕ) (k : ℕ) → last_at bs k ≡ get_or bs (place_at k + 31) 0
last_is bs k = get_d_part bs (place_at k) node_size 31 (omega arith)

-- a place's key differs from those before it where its last byte differs from theirs
pub last_bytes_differ : (bs : List ℕ) (j : ℕ) → length bs ≡ bucket_size → Bytes bs → j < max_nodes_per_bucket → ((k : ℕ) → k < j → last_at bs k ≡ last_at bs j → ⊥)
    → differs bs j ≡ true
unfolding differs not_held
last_bytes_differ bs j l b h d = all_if j _ (λ k i. ap not (same_not _ _ (λ q. d k i (lows k i q))))
  where
    key_last : (k : ℕ) → k < max_nodes_per_bucket → key_in (place_in bs k) ≡ number (part (place_in bs k) 0 31) * 256 + last_at bs k
    key_last k i = number_one_more (place_in bs k) 0 31 (omega (arith, length_part bs (place_at k) node_size (omega arith)))

    lows : (k : ℕ) → k < j → key_in (place_in bs k) ≡ key_in (place_in bs j) → last_at bs k ≡ last_at bs j
    lows k i q = omega (arith, key_last k (omega arith), key_last j h, q, last_is bs k, last_is bs j, b (place_at k + 31), b (place_at j + 31))

-- what is marked stays marked where one more is
pub marked_more : (seen : List Bool) (f : ℕ → ℕ) (j : ℕ) → f j < length seen → ((k : ℕ) → k < j → get_or seen (f k) false ≡ true)
    → (k : ℕ) → k < j + 1 → get_or (set seen (f j) true) (f k) false ≡ true
marked_more seen f j l m k h =
    split (eqb (f k) (f j))
    (λ e. rw (eqb-true (f k) (f j) e) (get_or-set_same seen (f j) true false l))
    (λ e. get_or-set_other seen (f j) (f k) true false (eqb-false (f k) (f j) e) ∙ m k (below e))
  where
    below : eqb (f k) (f j) ≡ false → k < j
    below e = let d : k ≡ j → ⊥ = λ q. eqb-false (f k) (f j) e (ap f q) in omega arith

-- how many are connected and incoming

select_at_most : {A : Type 0} (p : A → Bool) (l : List A) → length (select p l) ≤ length l
select_at_most p [] = omega arith
select_at_most p (x ∷ l) =
    let h : length (select p l) ≤ length l = select_at_most p l in
    cases (λ (k : List _). length k ≤ length (x ∷ l)) (p x) (λ _. omega arith) (λ _. omega arith)

-- no more are than are held
pub incoming_at_most : (bs : List ℕ) → length (incoming_nodes (nodes_in bs)) ≤ get_or bs 0 0
incoming_at_most bs = omega (arith, select_at_most connected_incoming (nodes_in bs), length_nodes_in bs)

-- the pending

module _ (p : ℕ → Bool) (bs : List ℕ) where
  pub pending_none : get_or bs pending_at 0 ≡ 0 → pending_formed p bs ≡ are_zero bs (pending_at + 1) (node_size + time_size)
  unfolding pending_formed
  pending_none e = rw e

  pub pending_some : (get_or bs pending_at 0 ≡ 0 → ⊥) → (n : declared.Node) → n ≡ read_node (part bs (pending_at + 1) node_size) → pending_formed p bs
      ≡ (eqb (get_or bs pending_at 0) 1 && (p (num n.key) && (not_held bs (get_or bs 0 0) (num n.key) && node_codes n)))
  unfolding pending_formed read_node
  pending_some e n q = rw (ne_eqb (get_or bs pending_at 0) 0 e, q, codes_read, num_key_of)
