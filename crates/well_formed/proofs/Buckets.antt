-- Question 2 of a whole bucket, of a record and of the header, by cases as the code goes.
use mathlib.Core.Path.{◌≡◌, refl, sym, ap, ◌∙◌}
use mathlib.Core.Bool.{Bool, true, false, ◌&&◌, and-true, and-false, and_assoc}
use mathlib.Core.List.{List}
use Prim.Native.Nat.{ℕ, zero, suc, ◌+◌, ◌*◌, ◌-◌, ◌≤◌, ◌<◌}
use native.Mathlib.Omega.{arith}
use lib.Dec.{eqb, leb}
use lib.ListN.{length, get_or}
use borrow.Author.Tests.{ne_eqb, le-leb, lt-leb}
use Rattle.model.specs.Base.{all_below}
use Rattle.model.specs.Bytes.{part}
use Rattle.model.specs.Bucket.{max_nodes_per_bucket, incoming_nodes, empty_bucket}
use Rattle.model.specs.Table.{num_buckets, max_records}
use Rattle.model.specs.Sizes.{key_size, node_size, record_size, place_at, bucket_size, max_incoming_at, table_filter_at, bucket_filter_at, record_count_at, padding_at, padding_size, record_at}
use Rattle.model.specs.Layout.{evicting_kind, last_kind, nodes_in, place_in, bucket_part}
use Rattle.model.specs.Formed as model
use Rattle.model.specs.Formed.{are_zero, key_in, state_at, pending_formed, bucket_formed, bucket_formed_at, record_formed, header_formed, formed}
use Rattle.laws.proofs.Parts.{part_all}
use Rattle.laws.proofs.Zeros.{part_are_zero}
use Rattle.laws.proofs.BucketBytes.{bytes_empty}
use Rattle.laws.proofs.BucketFormed.{bucket_formed_lem}
use Rattle.laws.proofs.KeepFormed.{empty_formed}
use Rattle.laws.proofs.Keep.{empty_fits}
use Rattle.node.specs.declared.Node as declared
use Rattle.node.specs.Node.{node_codes}
use Rattle.storage.specs.Read.{read_node}
use Rattle.storage.proofs.Bytes.{codes_read}
use Rattle.well_formed.specs.Tests.{of_index, differs, place_formed, record_at_formed, bucket_at_formed}

-- tests

and_cross : (a b c d : Bool) → ((a && b) && (c && d)) ≡ ((a && c) && (b && d))
and_cross true true c d = refl
and_cross true false c d = sym (and-false c)
and_cross false b c d = refl

-- two tests of every number
pub all_and : (k : ℕ) (f g : ℕ → Bool) → all_below k (λ j. f j && g j) ≡ (all_below k f && all_below k g)
unfolding all_below
all_and zero f g = refl
all_and (suc k) f g = rw (all_and k f g) (and_cross (all_below k f) (all_below k g) (f k) (g k))

-- a bucket's tests in the order of question 2, and as the code groups them
regroup : (d i s f n p c z : Bool) → (d && (i && (s && (f && (n && (p && (c && z))))))) ≡ (((d && ((c && i) && s)) && z) && (f && (n && p)))
regroup true i s f n p true true = simp (and_assoc, and-true)
regroup true i s f n p true false = simp and-false
regroup true i s f n p false z = simp and-false
regroup false i s f n p c z = refl

-- a bucket

module _ (p : ℕ → Bool) (m : ℕ) (bs : List ℕ) where
  -- zero bytes are an empty bucket
  pub bucket_zero : length bs ≡ bucket_size → are_zero bs 0 bucket_size ≡ true → bucket_formed p m bs ≡ true
  bucket_zero l z =
      rw (sym (part_all bs bucket_size (omega arith)) ∙ part_are_zero bs 0 bucket_size (omega arith) z, ← bytes_empty)
      (bucket_formed_lem p m empty_bucket (record { formed = empty_formed m; of_the_index = record { held = tt; pending = tt } }) empty_fits)

  module _ (n f : ℕ) (en : n ≡ get_or bs 0 0) (ef : f ≡ get_or bs 1 0) where
    pub bucket_many : max_nodes_per_bucket < n → bucket_formed p m bs ≡ false
    unfolding bucket_formed
    bucket_many h = rw (← en, lt-leb n max_nodes_per_bucket h)

    pub bucket_held : n ≤ max_nodes_per_bucket → bucket_formed p m bs
        ≡ (((all_below n (differs bs) && all_below n (place_formed p f bs)) && are_zero bs (place_at n) ((max_nodes_per_bucket - n) * node_size))
        && (leb f n && (leb (length (incoming_nodes (nodes_in bs))) m && pending_formed p bs)))
    unfolding bucket_formed differs place_formed
    bucket_held h =
        let c : Bool = all_below n (λ j. model.node_codes (place_in bs j)) in
        let i : Bool = all_below n (λ j. p (key_in (place_in bs j))) in
        let t : Bool = all_below n (λ j. eqb (get_or (place_in bs j) key_size 0) (state_at f j)) in
        let e : all_below n (λ j. (model.node_codes (place_in bs j) && p (key_in (place_in bs j))) && eqb (get_or (place_in bs j) key_size 0) (state_at f j)) ≡ ((c && i) && t) =
        all_and n (λ j. model.node_codes (place_in bs j) && p (key_in (place_in bs j))) (λ j. eqb (get_or (place_in bs j) key_size 0) (state_at f j))
        ∙ ap (λ (x : Bool). x && t) (all_and n (λ j. model.node_codes (place_in bs j)) (λ j. p (key_in (place_in bs j)))) in
        rw (e, ← en, ← ef, le-leb n max_nodes_per_bucket h)
        (regroup (all_below n (differs bs)) i t (leb f n) (leb (length (incoming_nodes (nodes_in bs))) m) (pending_formed p bs) c (are_zero bs (place_at n) ((max_nodes_per_bucket - n) * node_size)))

-- a record

module _ (bs : List ℕ) where
  pub record_plain : (get_or bs key_size 0 ≡ evicting_kind → ⊥) → record_formed bs ≡ (leb (get_or bs key_size 0) last_kind && are_zero bs (key_size + 1) node_size)
  unfolding record_formed
  record_plain e = rw (ne_eqb (get_or bs key_size 0) evicting_kind e)

  pub record_evicting : get_or bs key_size 0 ≡ evicting_kind → (n : declared.Node) → n ≡ read_node (part bs (key_size + 1) node_size) → record_formed bs ≡ node_codes n
  unfolding record_formed
  record_evicting e n q = rw (e, q, codes_read)

-- the header

module _ (s : List ℕ) (n : ℕ) (en : n ≡ get_or s record_count_at 0) where
  pub header_many : max_records < n → header_formed s ≡ false
  unfolding header_formed
  header_many h = rw (← en, lt-leb n max_records h) (simp and-false)

  pub header_records : n ≤ max_records → header_formed s
      ≡ ((leb (get_or s max_incoming_at 0) max_nodes_per_bucket && (leb (get_or s table_filter_at 0) 1 && leb (get_or s bucket_filter_at 0) 1))
      && (are_zero s padding_at padding_size && (all_below n (record_at_formed s) && are_zero s (record_at n) ((max_records - n) * record_size))))
  unfolding header_formed record_at_formed
  header_records h = rw (← en, le-leb n max_records h) (simp and_assoc)

-- a bucket of the storage, by the local key and max_incoming as they were read
pub formed_at : (s : List ℕ) (i : ℕ) {local m : ℕ} → local ≡ key_in s → m ≡ get_or s max_incoming_at 0 → bucket_formed (of_index local i) m (bucket_part s i) ≡ bucket_formed_at s i
unfolding of_index
formed_at s i {local} {m} e f =
    ap (λ (l : ℕ). bucket_formed (of_index l i) m (bucket_part s i)) e ∙ ap (λ (n : ℕ). bucket_formed (of_index (key_in s) i) n (bucket_part s i)) f

-- an empty bucket of the storage
pub formed_empty : (s : List ℕ) (i : ℕ) → length (bucket_part s i) ≡ bucket_size → are_zero (bucket_part s i) 0 bucket_size ≡ true → bucket_formed_at s i ≡ true
formed_empty s i l z = sym (formed_at s i refl refl) ∙ bucket_zero (of_index (key_in s) i) (get_or s max_incoming_at 0) (bucket_part s i) l z

-- the table

pub formed_is : (s : List ℕ) → formed s ≡ (header_formed s && all_below num_buckets (bucket_at_formed s))
unfolding formed bucket_at_formed
formed_is s = refl
