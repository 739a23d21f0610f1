-- What the reader makes of bytes that pass question 9 (02, slip 6): buckets that fit and are well formed.
use mathlib.Core.Path.{◌≡◌, refl, ap, ◌∙◌, subst}
use mathlib.Core.Bool.{Bool, true, false, cond, not, ◌&&◌, ◌||◌}
use mathlib.Core.List.{List, [], ◌∷◌, ◌++◌}
use mathlib.Core.Logic.{⊎_elim}
use mathlib.Core.Option.{Option, none, some}
use Prim.Native.Nat.{ℕ, zero, suc, ◌+◌, ◌*◌, ◌-◌, ◌≤◌, ◌<◌}
use native.Mathlib.Omega.{arith}
use lib.ListN.{length, get_or, length-append, length-replicate, get_or-replicate}
use lib.Dec.{eqb}
use borrow.Author.Tests.{eqb-true, lt-ltb, le-ltb, not-true}
use Rattle.model.specs.Base.{is_some, joined, tabulate, all_below}
use Rattle.model.specs.Bytes.{part, zeros, Bytes}
use Rattle.model.specs.Key.{bucket_index}
use Rattle.model.specs.Node.{PendingNode}
use Rattle.model.specs.Bucket.{max_nodes_per_bucket, empty_bucket, num_entries}
use Rattle.model.specs.Table.{Table, num_buckets}
use Rattle.model.specs.Sizes.{key_size, node_size, pending_at, pending_size, bucket_size}
use Rattle.model.specs.Layout.{nodes_in, bucket_in}
use Rattle.model.specs.Saved.{saved_entry_size, sizes_below, saved_count, saved_node, disconnected_from, loaded_bytes, loaded_bucket, holds_nothing, length_fits, loaded_formed, three_of_aNet, load_fits}
use Rattle.model.specs.Fits.{WellFormed, FitsBucket}
use Rattle.laws.proofs.Tests.{cases, clash, and_left, and_right, or_rest}
use Rattle.laws.proofs.Lists.{lt_or_le, length_tabulate, length_joined, all_gives, conj_gives}
use Rattle.laws.proofs.Parts.{length_part, get_or_right, slot_before}
use Rattle.laws.proofs.Bytes.{Bytes_part, Bytes_append, Bytes_cons, Bytes_joined, Bytes_zeros}
use Rattle.laws.proofs.All.{all_tabulate}
use Rattle.laws.proofs.BucketFormed.{checked}
use Rattle.laws.proofs.BucketBack.{pending_of_lem, bucket_good, bucket_fits}
use Rattle.laws.proofs.Keep.{empty_fits, empty_well_formed}
use Rattle.laws.proofs.TableBytes.{formed_map, index_at}

-- what question 9 says
pub record Loads (bs : List ℕ) (t : Table) : Type 0 where
  pub nothing : holds_nothing t ≡ true
  pub size : length bs ≡ num_buckets + saved_count bs * node_size
  pub formed : (i : ℕ) → i < num_buckets → loaded_formed bs t i ≡ true
  pub nets : t.settings.bucket.filter ≡ true → (i : ℕ) → i < num_buckets → three_of_aNet (nodes_in (loaded_bytes bs i)) ≡ false

pub loads : (bs : List ℕ) (t : Table) → load_fits bs t ≡ true → Loads bs t
unfolding load_fits
loads bs t h =
    let filter : Bool = t.settings.bucket.filter in
    let spread : ℕ → Bool = λ i. not (three_of_aNet (nodes_in (loaded_bytes bs i))) in
    let g = conj_gives (holds_nothing t) (length_fits bs ∷ all_below num_buckets (loaded_formed bs t) ∷ (not filter || all_below num_buckets spread) ∷ []) h in
    record {
      nothing = g.0;
      size = eqb-true (length bs) (num_buckets + saved_count bs * node_size) g.1.0;
      formed = λ i l. all_gives num_buckets (loaded_formed bs t) i l g.1.1.0;
      nets = λ e i l. not-true _ (all_gives num_buckets spread i l (or_rest (not filter) (all_below num_buckets spread) g.1.1.1.0 (ap not e)));
    }

-- the sizes

pub below_more : (bs : List ℕ) (i k n : ℕ) → i + k ≡ n → sizes_below bs i ≤ sizes_below bs n
unfolding sizes_below
below_more bs i zero n e =
    let q : i ≡ n = omega arith in
    subst (λ (m : ℕ). sizes_below bs i ≤ sizes_below bs m) q (omega arith)
below_more bs i (suc k) zero e = absurd (omega arith)
below_more bs i (suc k) (suc n) e = omega (arith, below_more bs i k n (omega arith))

place_under : (bs : List ℕ) (i j n : ℕ) → i < n → j < get_or bs i 0 → sizes_below bs i + j < sizes_below bs n
unfolding sizes_below
place_under bs i j n l m = omega (arith, below_more bs (suc i) (n - suc i) n (omega arith))

-- a node of bucket i is one of all
pub place_below : (bs : List ℕ) (i j : ℕ) → i < num_buckets → j < get_or bs i 0 → sizes_below bs i + j < saved_count bs
place_below bs i j l m = place_under bs i j num_buckets l m

-- a node's bytes

pub Bytes_saved_node : (bs : List ℕ) (j : ℕ) → Bytes bs → Bytes (saved_node bs j)
unfolding saved_node
Bytes_saved_node bs j h =
    let k : ℕ = num_buckets + j * key_size in
    let e : ℕ = num_buckets + saved_count bs * key_size + j * saved_entry_size in
    Bytes_append (part bs k key_size) (part bs e saved_entry_size) (Bytes_part bs k key_size h) (Bytes_part bs e saved_entry_size h)

module _ (bs : List ℕ) (l : length bs ≡ num_buckets + saved_count bs * node_size) where
  pub length_key : (j : ℕ) → j < saved_count bs → length (part bs (num_buckets + j * key_size) key_size) ≡ key_size
  length_key j m = length_part bs (num_buckets + j * key_size) key_size (omega (arith, slot_before j (saved_count bs) key_size m))

  pub length_entry : (j : ℕ) → j < saved_count bs
      → length (part bs (num_buckets + saved_count bs * key_size + j * saved_entry_size) saved_entry_size) ≡ saved_entry_size
  length_entry j m =
      length_part bs (num_buckets + saved_count bs * key_size + j * saved_entry_size) saved_entry_size
      (omega (arith, slot_before j (saved_count bs) saved_entry_size m))

  pub length_saved_node : (j : ℕ) → j < saved_count bs → length (saved_node bs j) ≡ node_size
  unfolding saved_node
  length_saved_node j m =
      length-append (part bs (num_buckets + j * key_size) key_size) (part bs (num_buckets + saved_count bs * key_size + j * saved_entry_size) saved_entry_size)
      ∙ rw (length_key j m, length_entry j m)

-- a bucket's bytes

pub disconnected_most : (bs : List ℕ) (j k : ℕ) → disconnected_from bs j k ≤ k
unfolding disconnected_from
disconnected_most bs j zero = omega arith
disconnected_most bs j (suc k) =
    cases (λ (n : ℕ). n ≤ suc k) (eqb (get_or (saved_node bs j) key_size 0) 0) (λ _. omega (arith, disconnected_most bs (suc j) k)) (λ _. omega arith)

pub Bytes_loaded : (bs : List ℕ) (i : ℕ) → Bytes bs → Bytes (loaded_bytes bs i)
unfolding loaded_bytes
Bytes_loaded bs i h =
    let size : ℕ = get_or bs i 0 in
    let from : ℕ = sizes_below bs i in
    let js : List ℕ = tabulate size (λ j. from + j) in
    let unused : ℕ = (max_nodes_per_bucket - size) * node_size + pending_size in
    let f : ℕ = disconnected_from bs from size in
    let ns : List ℕ = joined (saved_node bs) js in
    Bytes_cons size (f ∷ (ns ++ zeros unused)) (h i)
    (Bytes_cons f (ns ++ zeros unused) (omega (arith, h i, disconnected_most bs from size))
    (Bytes_append ns (zeros unused)
    (Bytes_joined (saved_node bs) js (all_tabulate (λ (j : ℕ). Bytes (saved_node bs j)) size (λ j. from + j) (λ j m. Bytes_saved_node bs (from + j) h)))
    (Bytes_zeros unused)))

pub size_loaded : (bs : List ℕ) (i : ℕ) → get_or (loaded_bytes bs i) 0 0 ≡ get_or bs i 0
unfolding loaded_bytes
size_loaded bs i = refl

pub length_held : (bs : List ℕ) (i : ℕ) → length bs ≡ num_buckets + saved_count bs * node_size → i < num_buckets
    → length (joined (saved_node bs) (tabulate (get_or bs i 0) (λ j. sizes_below bs i + j))) ≡ get_or bs i 0 * node_size
length_held bs i l m =
    let size : ℕ = get_or bs i 0 in
    let js : List ℕ = tabulate size (λ j. sizes_below bs i + j) in
    length_joined (saved_node bs) node_size js
    (all_tabulate (λ (j : ℕ). length (saved_node bs j) ≡ node_size) size (λ j. sizes_below bs i + j) (λ j k. length_saved_node bs l _ (place_below bs i j m k)))
    ∙ rw length_tabulate

pub length_loaded : (bs : List ℕ) (i : ℕ) → length bs ≡ num_buckets + saved_count bs * node_size → i < num_buckets → get_or bs i 0 ≤ max_nodes_per_bucket
    → length (loaded_bytes bs i) ≡ bucket_size
unfolding loaded_bytes
length_loaded bs i l m n =
    rw (length-append (joined (saved_node bs) (tabulate (get_or bs i 0) (λ j. sizes_below bs i + j))), length_held bs i l m, length-replicate) (omega arith)

-- the loaded table

pub loaded_at : (bs : List ℕ) (i : ℕ) → i < num_buckets → loaded_bucket bs i ≡ bucket_in (loaded_bytes bs i)
unfolding loaded_bucket
loaded_at bs i l = ap (λ (b : Bool). cond b (bucket_in (loaded_bytes bs i)) empty_bucket) (lt-ltb i num_buckets l)

pub loaded_past : (bs : List ℕ) (i : ℕ) → num_buckets ≤ i → loaded_bucket bs i ≡ empty_bucket
unfolding loaded_bucket
loaded_past bs i l = ap (λ (b : Bool). cond b (bucket_in (loaded_bytes bs i)) empty_bucket) (le-ltb i num_buckets l)

module _ (bs : List ℕ) (t : Table) (g : Loads bs t) where
  pub size_most : (i : ℕ) → i < num_buckets → get_or bs i 0 ≤ max_nodes_per_bucket
  size_most i l = rw (size_loaded bs i) at (checked _ _ (loaded_bytes bs i) (g.formed i l)).at_most

  pub loaded_length : (i : ℕ) → i < num_buckets → length (loaded_bytes bs i) ≡ bucket_size
  loaded_length i l = length_loaded bs i g.size l (size_most i l)

  pub loaded_well_formed : (i : ℕ) → WellFormed t.settings i (loaded_bucket bs i)
  loaded_well_formed i =
      ⊎_elim
      (λ l.
      rw (loaded_at bs i l)
      (formed_map _ _ _ _ (λ k e. index_at (bucket_index t.settings.local_key k) i e) (bucket_good (loaded_bytes bs i) _ _ (g.formed i l))))
      (λ l. rw (loaded_past bs i l) (empty_well_formed t.settings i))
      (lt_or_le i num_buckets)

  pub loaded_fits : Bytes bs → (i : ℕ) → FitsBucket (loaded_bucket bs i)
  loaded_fits h i =
      ⊎_elim
      (λ l. rw (loaded_at bs i l) (bucket_fits (loaded_bytes bs i) (loaded_length i l) (Bytes_loaded bs i h) _ _ (g.formed i l)))
      (λ l. rw (loaded_past bs i l) empty_fits)
      (lt_or_le i num_buckets)

  -- no pending is loaded
  loaded_last : (i : ℕ) → i < num_buckets → get_or (loaded_bytes bs i) pending_at 0 ≡ 0
  unfolding loaded_bytes
  loaded_last i l =
      let size : ℕ = get_or bs i 0 in
      let js : List ℕ = tabulate size (λ j. sizes_below bs i + j) in
      let ns : List ℕ = joined (saved_node bs) js in
      let u : ℕ = (max_nodes_per_bucket - size) * node_size in
      let n : length ns ≡ size * node_size = length_held bs i g.size l in
      let e : 752 ≡ size * node_size + u = omega (arith, size_most i l) in
      ap (λ (k : ℕ). get_or (ns ++ zeros (u + pending_size)) k 0) e ∙ get_or_right ns (zeros (u + pending_size)) (size * node_size) u n
      ∙ get_or-replicate {A = ℕ} (u + pending_size) u 0 0 (omega arith)

  pub loaded_pending : (i : ℕ) → (loaded_bucket bs i).pending ≡ none
  loaded_pending i =
      ⊎_elim
      (λ l. rw (loaded_at bs i l, pending_of_lem (loaded_bytes bs i), loaded_last i l))
      (λ l. rw (loaded_past bs i l))
      (lt_or_le i num_buckets)

-- storage that holds nothing
pub nothing_at : (t : Table) → holds_nothing t ≡ true → (i : ℕ) → i < num_buckets → (num_entries (t.buckets i) ≡ 0) × ((t.buckets i).pending ≡ none)
unfolding holds_nothing
nothing_at t h i l =
    let places : ℕ → Bool = λ j. eqb (num_entries (t.buckets j)) 0 in
    let pendings : ℕ → Bool = λ j. not (is_some (t.buckets j).pending) in
    let e : (places i && pendings i) ≡ true =
    all_gives num_buckets (λ j. places j && pendings j) i l (and_right (eqb (length t.queue) 0) (all_below num_buckets (λ j. places j && pendings j)) h) in
    (eqb-true (num_entries (t.buckets i)) 0 (and_left (places i) (pendings i) e), empty (t.buckets i).pending (and_right (places i) (pendings i) e))
  where
    empty : (o : Option PendingNode) → not (is_some o) ≡ true → o ≡ none
    empty none q = refl
    empty (some p) q = clash q refl
