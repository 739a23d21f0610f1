-- What the writer puts out of a table, read again (02, slip 6): the same nodes in the same places, without the pendings; the reader takes it.
use mathlib.Core.Path.{◌≡◌, refl, sym, ap, ap₂, ◌∙◌}
use mathlib.Core.Bool.{Bool, true, false, not, ◌||◌}
use mathlib.Core.List.{List, [], ◌∷◌, ◌++◌}
use mathlib.Core.Option.{none}
use mathlib.Core.Logic.{⊎_elim}
use Prim.Native.Nat.{ℕ, zero, suc, ◌+◌, ◌*◌, ◌-◌, ◌≤◌, ◌<◌}
use native.Mathlib.Nat.{add-zero, eq-or-lt_of_le, not-suc-le-zero}
use native.Mathlib.Omega.{arith}
use lib.ListN.{length, get_or, length-append, get_or-append, replicate-append-replicate}
use lib.Seq.{get_or-append-add}
use borrow.Author.Tests.{eq-eqb, lt-ltb, le-ltb}
use Rattle.model.specs.Base.{joined, tabulate, all_below}
use Rattle.model.specs.Bytes.{part, Bytes}
use Rattle.model.specs.Key.{bucket_index}
use Rattle.model.specs.Node.{Node}
use Rattle.model.specs.Bucket.{Bucket, max_nodes_per_bucket, nodes, num_entries, with_pending}
use Rattle.model.specs.Table.{Settings, Table, num_buckets, empty_table, held_nodes}
use Rattle.model.specs.Sizes.{key_size, node_size, pending_size}
use Rattle.model.specs.Layout.{flag_byte, value_bytes, node_bytes, bucket_bytes, node_in, nodes_in, bucket_in}
use Rattle.model.specs.Formed.{is_at, state_at, bucket_formed}
use Rattle.model.specs.Fits.{All, FormedBucket, FitsNode, FitsDeadline, FitsBucket, Fits}
use Rattle.model.specs.Saved.{all_nodes, key_bytes, saved_entry, saved, saved_entry_size, sizes_below, saved_count, saved_node, disconnected_from, loaded_bytes, loaded_bucket, holds_nothing, length_fits, loaded_formed, three_of_aNet, load_fits}
use Rattle.laws.proofs.Tests.{split}
use Rattle.laws.proofs.Lists.{lt_or_le, length_tabulate, get_d_tabulate, tabulate_is, joined_tabulate, length_joined, all_if, conj_if}
use Rattle.laws.proofs.Parts.{part_left, part_right, part_joined, slot_before}
use Rattle.laws.proofs.Bytes.{length_bytes, Bytes_append, Bytes_bytes, Bytes_joined, Bytes_all}
use Rattle.laws.proofs.All.{all_any, all_map, all_tabulate, all_held}
use Rattle.laws.proofs.NodeBytes.{length_value, Bytes_flag, Bytes_value, node_state}
use Rattle.laws.proofs.BucketBytes.{length_nodes, nodes_there, bucket_there}
use Rattle.laws.proofs.BucketFormed.{state_at_lem, bucket_formed_lem}
use Rattle.laws.proofs.KeepEach.{with_pending_each}
use Rattle.laws.proofs.KeepFormed.{with_pending_formed}
use Rattle.laws.proofs.TableBytes.{at_index, formed_map}
use Rattle.laws.proofs.Loaded.{Loads, loaded_at, loaded_past}

-- the held nodes of all buckets: those of bucket i stand behind those of the buckets below it

module _ (bs : ℕ → Bucket) where
  pub held_within : (n i : ℕ) → i < n → length (held_nodes i bs) + num_entries (bs i) ≤ length (held_nodes n bs)
  unfolding held_nodes
  held_within zero i l = absurd (not-suc-le-zero l)
  held_within (suc n) i l =
      let m : i ≤ n = omega arith in
      rw (length-append (held_nodes n bs) (nodes (bs n)), length_nodes (bs n))
      (⊎_elim (λ e. rw e (omega arith)) (λ k. omega (arith, held_within n i k)) (eq-or-lt_of_le m))

  pub held_place : (n i j : ℕ) (d : Node) → i < n → j < num_entries (bs i)
      → get_or (held_nodes n bs) (length (held_nodes i bs) + j) d ≡ get_or (nodes (bs i)) j d
  unfolding held_nodes
  held_place zero i j d l m = absurd (not-suc-le-zero l)
  held_place (suc n) i j d l m =
      let q : i ≤ n = omega arith in
      ⊎_elim
      (λ e. rw (← e) (get_or-append-add (held_nodes i bs) (nodes (bs i)) j d))
      (λ k.
      get_or-append (held_nodes n bs) (nodes (bs n)) d (length (held_nodes i bs) + j) (omega (arith, held_within n i k)) ∙ held_place n i j d k m)
      (eq-or-lt_of_le q)

-- the parts of what is written

length_key_bytes : (n : Node) → length (key_bytes n) ≡ key_size
length_key_bytes n = length_bytes key_size n.key

pub length_saved_entry : (n : Node) → length (saved_entry n) ≡ saved_entry_size
length_saved_entry n = rw (length_value n.value)

Bytes_saved_entry : (n : Node) → FitsNode n → Bytes (saved_entry n)
Bytes_saved_entry n f =
    Bytes_flag n.connected (flag_byte n.incoming ∷ value_bytes n.value)
    (Bytes_flag n.incoming (value_bytes n.value) (Bytes_value n.value f.value))

module _ (t : Table) where
  abbrev sizes : List ℕ
  sizes = tabulate num_buckets (λ i. num_entries (t.buckets i))

  abbrev keys : List ℕ
  keys = joined key_bytes (all_nodes t)

  abbrev entries : List ℕ
  entries = joined saved_entry (all_nodes t)

  length_sizes : length sizes ≡ num_buckets
  length_sizes = length_tabulate num_buckets (λ i. num_entries (t.buckets i))

  length_keys : length keys ≡ length (all_nodes t) * key_size
  length_keys = length_joined key_bytes key_size (all_nodes t) (all_any _ (all_nodes t) length_key_bytes)

  length_entries : length entries ≡ length (all_nodes t) * saved_entry_size
  length_entries = length_joined saved_entry saved_entry_size (all_nodes t) (all_any _ (all_nodes t) length_saved_entry)

  pub length_saved : length (saved t) ≡ num_buckets + length (all_nodes t) * node_size
  unfolding saved
  length_saved =
      rw (length-append sizes (keys ++ entries), length-append keys entries, length_sizes, length_keys, length_entries) (omega arith)

  -- the sizes

  pub sizes_there : (i : ℕ) → i < num_buckets → get_or (saved t) i 0 ≡ num_entries (t.buckets i)
  unfolding saved
  sizes_there i l =
      get_or-append sizes (keys ++ entries) 0 i (rw length_sizes l) ∙ get_d_tabulate num_buckets (λ j. num_entries (t.buckets j)) i 0 l

  pub below_there : (i : ℕ) → i ≤ num_buckets → sizes_below (saved t) i ≡ length (held_nodes i t.buckets)
  unfolding sizes_below held_nodes
  below_there zero l = refl
  below_there (suc i) l =
      rw (length-append (held_nodes i t.buckets) (nodes (t.buckets i)), length_nodes (t.buckets i), below_there i (omega arith), sizes_there i (omega arith))

  pub count_there : saved_count (saved t) ≡ length (all_nodes t)
  count_there = below_there num_buckets (omega arith)

  -- the nodes

  key_there : (j : ℕ) (d : Node) → j < length (all_nodes t) → part (saved t) (num_buckets + j * key_size) key_size ≡ key_bytes (get_or (all_nodes t) j d)
  unfolding saved
  key_there j d l =
      part_right sizes (keys ++ entries) num_buckets (j * key_size) key_size length_sizes
      ∙ part_left keys entries (j * key_size) key_size (omega (arith, length_keys, slot_before j (length (all_nodes t)) key_size l))
      ∙ part_joined key_bytes key_size (all_nodes t) (all_any _ (all_nodes t) length_key_bytes) j d l

  entry_at : (j : ℕ) (d : Node) → j < length (all_nodes t)
      → part (saved t) (num_buckets + (length (all_nodes t) * key_size + j * saved_entry_size)) saved_entry_size ≡ saved_entry (get_or (all_nodes t) j d)
  unfolding saved
  entry_at j d l =
      part_right sizes (keys ++ entries) num_buckets (length (all_nodes t) * key_size + j * saved_entry_size) saved_entry_size length_sizes
      ∙ part_right keys entries (length (all_nodes t) * key_size) (j * saved_entry_size) saved_entry_size length_keys
      ∙ part_joined saved_entry saved_entry_size (all_nodes t) (all_any _ (all_nodes t) length_saved_entry) j d l

  entry_there : (j : ℕ) (d : Node) → j < length (all_nodes t)
      → part (saved t) (num_buckets + saved_count (saved t) * key_size + j * saved_entry_size) saved_entry_size ≡ saved_entry (get_or (all_nodes t) j d)
  entry_there j d l = ap (λ (k : ℕ). part (saved t) k saved_entry_size) (omega (arith, count_there)) ∙ entry_at j d l

  -- a node's key and entry together are its bytes in a bucket
  pub node_there : (j : ℕ) (d : Node) → j < length (all_nodes t) → saved_node (saved t) j ≡ node_bytes (get_or (all_nodes t) j d)
  unfolding saved_node node_bytes
  node_there j d l = ap₂ (λ x y. x ++ y) (key_there j d l) (entry_there j d l)

  -- the j-th node of bucket i
  pub saved_place : (i j : ℕ) (d : Node) → i < num_buckets → j < num_entries (t.buckets i)
      → saved_node (saved t) (sizes_below (saved t) i + j) ≡ node_bytes (get_or (nodes (t.buckets i)) j d)
  saved_place i j d l m =
      ap (λ (k : ℕ). saved_node (saved t) (k + j)) (below_there i (omega arith))
      ∙ node_there (length (held_nodes i t.buckets) + j) d (omega (arith, held_within t.buckets num_buckets i l))
      ∙ ap node_bytes (held_place t.buckets num_buckets i j d l m)

-- the first connected place, from the states place by place

state_suc : (f m : ℕ) → state_at (suc f) (suc m) ≡ state_at f m
state_suc f m =
    ⊎_elim
    (λ l. rw (lt-ltb m f l, lt-ltb (suc m) (suc f) (omega arith)))
    (λ l. rw (le-ltb m f l, le-ltb (suc m) (suc f) (omega arith)))
    (lt_or_le m f)

pub first_connected : (bs : List ℕ) (j k f : ℕ) → f ≤ k → ((m : ℕ) → m < k → get_or (saved_node bs (j + m)) key_size 0 ≡ state_at f m)
    → disconnected_from bs j k ≡ f
unfolding disconnected_from
first_connected bs j zero f l h = omega arith
first_connected bs j (suc k) zero l h =
    let state : ℕ → ℕ = λ i. get_or (saved_node bs i) key_size 0 in
    let e : state j ≡ 1 = ap state (sym (add-zero j)) ∙ h 0 (omega arith) in
    rw e
first_connected bs j (suc k) (suc f) l h =
    let state : ℕ → ℕ = λ i. get_or (saved_node bs i) key_size 0 in
    let e : state j ≡ 0 = ap state (sym (add-zero j)) ∙ h 0 (omega arith) ∙ rw (lt-ltb 0 (suc f) (omega arith)) in
    rw e (ap suc (first_connected bs (suc j) k f (omega arith) (λ m n. ap state (omega arith) ∙ h (suc m) (omega arith) ∙ state_suc f m)))

-- bucket i without its pending
abbrev pub kept : Table → ℕ → Bucket
kept t i = with_pending none (t.buckets i)

-- a table that fits

module _ (t : Table) (f : Fits t) where
  abbrev held : List Node
  held = all_nodes t

  held_fit : All FitsNode held
  held_fit = all_held FitsNode num_buckets t.buckets (λ i l. (f.buckets i).held)

  pub Bytes_saved : Bytes (saved t)
  unfolding saved
  Bytes_saved =
      Bytes_append (sizes t) (keys t ++ entries t)
      (Bytes_all (sizes t)
      (all_tabulate (λ (b : ℕ). b < 256) num_buckets (λ i. num_entries (t.buckets i)) (λ i l. omega (arith, (f.well_formed i).formed.at_most))))
      (Bytes_append (keys t) (entries t)
      (Bytes_joined key_bytes held (all_any (λ (n : Node). Bytes (key_bytes n)) held (λ n. Bytes_bytes key_size n.key)))
      (Bytes_joined saved_entry held (all_map FitsNode (λ (n : Node). Bytes (saved_entry n)) Bytes_saved_entry held held_fit)))

  kept_fits : (i : ℕ) → FitsBucket (kept t i)
  kept_fits i = with_pending_each FitsNode FitsDeadline none (t.buckets i) (f.buckets i) tt

  kept_formed : (i : ℕ) → FormedBucket (λ (k : ℕ). is_at (bucket_index t.settings.local_key k) i ≡ true) t.settings.bucket.max_incoming (kept t i)
  kept_formed i =
      formed_map _ _ _ _ (λ k e. at_index (bucket_index t.settings.local_key k) i e)
      (record {
        formed = with_pending_formed t.settings.bucket.max_incoming none (t.buckets i) (f.well_formed i).formed tt;
        of_the_index = with_pending_each _ _ none (t.buckets i) (f.well_formed i).of_the_index tt;
      })

  module _ (i : ℕ) (l : i < num_buckets) where
    first_there : disconnected_from (saved t) (sizes_below (saved t) i) (num_entries (t.buckets i)) ≡ length (t.buckets i).disconnected
    first_there =
        first_connected (saved t) (sizes_below (saved t) i) (num_entries (t.buckets i)) (length (t.buckets i).disconnected) (omega arith)
        (λ j m.
        ap (λ (x : List ℕ). get_or x key_size 0) (saved_place t i j (node_in []) l m)
        ∙ node_state (get_or (nodes (t.buckets i)) j (node_in []))
        ∙ state_at_lem _ _ (kept t i) (kept_formed i) (kept_fits i) j m)

    places_there : joined (saved_node (saved t)) (tabulate (num_entries (t.buckets i)) (λ j. sizes_below (saved t) i + j))
        ≡ joined node_bytes (nodes (t.buckets i))
    places_there =
        joined_tabulate (saved_node (saved t)) node_bytes (num_entries (t.buckets i))
        (λ j. sizes_below (saved t) i + j) (λ j. get_or (nodes (t.buckets i)) j (node_in []))
        (λ j m. saved_place t i j (node_in []) l m)
        ∙ ap (joined node_bytes) (tabulate_is (nodes (t.buckets i)) (node_in []) (num_entries (t.buckets i)) _ (length_nodes (t.buckets i)) (λ j m. refl))

    pub loaded_there : loaded_bytes (saved t) i ≡ bucket_bytes (kept t i)
    unfolding loaded_bytes bucket_bytes
    loaded_there =
        rw (
          sizes_there t i l,
          first_there,
          places_there,
          replicate-append-replicate {A = ℕ} ((max_nodes_per_bucket - num_entries (t.buckets i)) * node_size) pending_size 0,
        )

    pub nodes_in_there : nodes_in (loaded_bytes (saved t) i) ≡ nodes (t.buckets i)
    nodes_in_there = ap nodes_in loaded_there ∙ nodes_there (kept t i) (kept_fits i)

  -- the same places
  pub bucket_loaded : (i : ℕ) → loaded_bucket (saved t) i ≡ kept t i
  bucket_loaded i =
      ⊎_elim
      (λ l. loaded_at (saved t) i l ∙ ap bucket_in (loaded_there i l) ∙ bucket_there (kept t i) (f.well_formed i).formed.at_most (kept_fits i))
      (λ l. loaded_past (saved t) i l ∙ sym (ap (with_pending none) (f.past i l)))
      (lt_or_le i num_buckets)

  pub same_places : (i : ℕ) → nodes (loaded_bucket (saved t) i) ≡ nodes (t.buckets i)
  same_places i = ap nodes (bucket_loaded i)

-- question 9

pub loads_if : (bs : List ℕ) (t : Table) → Loads bs t → load_fits bs t ≡ true
unfolding load_fits
loads_if bs t h =
    let filter : Bool = t.settings.bucket.filter in
    let spread : ℕ → Bool = λ i. not (three_of_aNet (nodes_in (loaded_bytes bs i))) in
    let nets : (not filter || all_below num_buckets spread) ≡ true =
    split filter (λ e. rw e (all_if num_buckets spread (λ i l. ap not (h.nets e i l)))) (λ e. rw e) in
    conj_if (holds_nothing t) (length_fits bs ∷ all_below num_buckets (loaded_formed bs t) ∷ (not filter || all_below num_buckets spread) ∷ [])
    (h.nothing, (eq-eqb (length bs) (num_buckets + saved_count bs * node_size) h.size, (all_if num_buckets (loaded_formed bs t) h.formed, (nets, tt))))

-- storage of the same settings that holds nothing takes what was written, where no bucket has three values of a /24 that the filter refuses
pub load_accepts : (t t₀ : Table) → Fits t
    → (t.settings.bucket.filter ≡ true → (i : ℕ) → i < num_buckets → three_of_aNet (nodes (t.buckets i)) ≡ false)
    → holds_nothing t₀ ≡ true → t₀.settings ≡ t.settings → load_fits (saved t) t₀ ≡ true
load_accepts t t₀ f nets h e =
    loads_if (saved t) t₀
    (record {
      nothing = h;
      size = length_saved t ∙ ap (λ (n : ℕ). num_buckets + n * node_size) (sym (count_there t));
      formed =
          λ i l. ap (λ (s : Settings). bucket_formed (λ k. is_at (bucket_index s.local_key k) i) s.bucket.max_incoming (loaded_bytes (saved t) i)) e
          ∙ rw (loaded_there t f i l) (bucket_formed_lem _ _ (kept t i) (kept_formed t f i) (kept_fits t f i));
      nets = λ p i l. ap three_of_aNet (nodes_in_there t f i l) ∙ nets (ap (λ (s : Settings). s.bucket.filter) (sym e) ∙ p) i l;
    })

pub empty_holds_nothing : (s : Settings) → holds_nothing (empty_table s) ≡ true
unfolding holds_nothing
empty_holds_nothing s = all_if num_buckets _ (λ i l. refl)
