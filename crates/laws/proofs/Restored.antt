-- 02, slip 7: a storage is its header and its buckets, so that what a call has written so far is determined by these.
use Prim.Native.Nat.{ℕ, ◌+◌, ◌*◌, ◌≤◌, ◌<◌}
use native.Mathlib.Omega.{arith}
use mathlib.Core.Path.{◌≡◌, refl, sym, ap, ap₂, ◌∙◌}
use mathlib.Core.Bool.{false}
use mathlib.Core.List.{List, [], ◌∷◌, ◌++◌}
use mathlib.Core.Logic.{◌⊎◌, inl, inr}
use lib.ListN.{length}
use Rattle.model.specs.Base.{same, joined, tabulate}
use Rattle.model.specs.Bytes.{part}
use Rattle.model.specs.Bucket.{max_nodes_per_bucket, num_entries}
use Rattle.model.specs.Table.{Table, num_buckets, max_records}
use Rattle.model.specs.Sizes.{bucket_size, header_size, bucket_at, storage_size}
use Rattle.model.specs.Layout.{header_bytes, bucket_bytes, bucket_part}
use Rattle.model.specs.StepBytes.{restore}
use Rattle.model.specs.Fits.{All}
use Rattle.laws.proofs.Tests.{same_true, same_false, split}
use Rattle.laws.proofs.Parts.{part_all, part_append, length_splice, part_splice_same, part_splice_before, part_splice_after, joined_slots, slot_same, slot_other, slot_before}
use Rattle.laws.proofs.BucketBytes.{length_bucket}
use Rattle.laws.proofs.HeaderBytes.{length_header}
use Rattle.laws.proofs.All.{all_map}
use Rattle.laws.proofs.Frame.{Untouched}
use Rattle.laws.proofs.Touched.{Below}

-- a storage by its parts

pub whole : (a : List ℕ) → length a ≡ storage_size → a ≡ part a 0 header_size ++ joined (bucket_part a) (tabulate num_buckets (λ i. i))
whole a l =
    sym (part_all a storage_size (omega arith))
    ∙ part_append a 0 header_size (num_buckets * bucket_size)
    ∙ ap (λ (r : List ℕ). part a 0 header_size ++ r) (sym (joined_slots (bucket_part a) (λ i. i) a header_size bucket_size num_buckets (λ i m. refl)))

pub storage_ext : (a b : List ℕ) → length a ≡ storage_size → length b ≡ storage_size → part a 0 header_size ≡ part b 0 header_size
    → ((i : ℕ) → i < num_buckets → bucket_part a i ≡ bucket_part b i) → a ≡ b
storage_ext a b l m e h =
    whole a l
    ∙ ap₂ (λ (x y : List ℕ). x ++ y) e
    (joined_slots (bucket_part a) (λ i. i) b header_size bucket_size num_buckets (λ i n. h i n) ∙ sym (joined_slots (bucket_part b) (λ i. i) b header_size bucket_size num_buckets (λ i n. refl)))
    ∙ sym (whole b m)

-- s is s₀ with settings, queue and the buckets named as the table t has them
pub record Restored (s₀ : List ℕ) (is : List ℕ) (t : Table) (s : List ℕ) : Type 0 where
  pub size : length s ≡ storage_size
  pub header : part s 0 header_size ≡ header_bytes t
  pub written : All (λ (i : ℕ). bucket_part s i ≡ bucket_bytes (t.buckets i)) is
  pub others : (i : ℕ) → i < num_buckets → Untouched i is → bucket_part s i ≡ bucket_part s₀ i

-- i is among them, and so has the property, or it is none of them
pub among : (P : ℕ → Type 0) (i : ℕ) (is : List ℕ) → All P is → (P i) ⊎ (Untouched i is)
among P i [] a = inr tt
among P i (j ∷ is) a =
    split (same i j) (λ e. inl (rw (same_true i j e) a.0))
    (λ e. go e (among P i is a.1))
  where
    go : same i j ≡ false → (P i) ⊎ (Untouched i is) → (P i) ⊎ (Untouched i (j ∷ is))
    go e (inl p) = inl p
    go e (inr q) = inr (e, q)

-- there is but one
pub restored_once : (s₀ is : List ℕ) (t : Table) (s s' : List ℕ) → Restored s₀ is t s → Restored s₀ is t s' → s ≡ s'
restored_once s₀ is t s s' r r' =
    storage_ext s s' r.size r'.size (r.header ∙ sym r'.header)
    (λ i m. go i m (among (λ (j : ℕ). bucket_part s j ≡ bucket_bytes (t.buckets j)) i is r.written) (among (λ (j : ℕ). bucket_part s' j ≡ bucket_bytes (t.buckets j)) i is r'.written))
  where
    go : (i : ℕ) → i < num_buckets → (bucket_part s i ≡ bucket_bytes (t.buckets i)) ⊎ (Untouched i is)
        → (bucket_part s' i ≡ bucket_bytes (t.buckets i)) ⊎ (Untouched i is) → bucket_part s i ≡ bucket_part s' i
    go i m (inl p) (inl q) = p ∙ sym q
    go i m (inr p) q = r.others i m p ∙ sym (r'.others i m p)
    go i m (inl p) (inr q) = r.others i m q ∙ sym (r'.others i m q)

-- the buckets named have a bucket's length as bytes
abbrev pub Short : Table → List ℕ → Type 0
Short t = All (λ (i : ℕ). num_entries (t.buckets i) ≤ max_nodes_per_bucket)

-- and `restore` gives it
module _ (s : List ℕ) (l : length s ≡ storage_size) (t : Table) (q : length t.queue ≤ max_records) where
  header_length : length (header_bytes t) ≡ header_size
  header_length = length_header t q

  within : (i : ℕ) → i < num_buckets → bucket_at i + bucket_size ≤ storage_size
  within i h = omega (arith, slot_before i num_buckets bucket_size h)

  pub length_restore : (is : List ℕ) → Below is → Short t is → length (restore s is t) ≡ storage_size
  unfolding restore
  length_restore [] a c = length_splice s 0 (header_bytes t) (omega (arith, header_length)) ∙ l
  length_restore (i ∷ is) a c =
      let r = length_restore is a.1 c.1 in
      length_splice (restore s is t) (bucket_at i) (bucket_bytes (t.buckets i)) (omega (arith, length_bucket (t.buckets i) c.0, within i a.0)) ∙ r

  header_restore : (is : List ℕ) → Below is → Short t is → part (restore s is t) 0 header_size ≡ header_bytes t
  unfolding restore
  header_restore [] a c = rw header_length at (part_splice_same s 0 (header_bytes t) (omega (arith, header_length)))
  header_restore (i ∷ is) a c =
      part_splice_before (restore s is t) (bucket_at i) (bucket_bytes (t.buckets i)) 0 header_size (omega arith)
      (omega (arith, length_restore is a.1 c.1, within i a.0))
      ∙ header_restore is a.1 c.1

  -- bucket j has room in what is there before it is written
  room : (j : ℕ) (is : List ℕ) → j < num_buckets → Below is → Short t is → bucket_at j + bucket_size ≤ length (restore s is t)
  room j is m a c = omega (arith, length_restore is a c, within j m)

  written_restore : (is : List ℕ) → Below is → Short t is → All (λ (i : ℕ). bucket_part (restore s is t) i ≡ bucket_bytes (t.buckets i)) is
  unfolding restore
  written_restore [] a c = tt
  written_restore (j ∷ is) a c =
      let r : List ℕ = restore s is t in
      let v : List ℕ = bucket_bytes (t.buckets j) in
      let b : length v ≡ bucket_size = length_bucket (t.buckets j) c.0 in
      let n : bucket_at j + bucket_size ≤ length r = room j is a.0 a.1 c.1 in
      let w = slot_same r header_size bucket_size j v b n in (
        w,
        all_map (λ (i : ℕ). bucket_part r i ≡ bucket_bytes (t.buckets i)) _
            (λ i p. split (same i j) (λ e. let f : i ≡ j = same_true i j e in rw f w) (λ e. slot_other r header_size bucket_size i j v b n (same_false i j e) ∙ p))
            is (written_restore is a.1 c.1),
      )

  others_restore : (i : ℕ) → (is : List ℕ) → Below is → Short t is → Untouched i is → bucket_part (restore s is t) i ≡ bucket_part s i
  unfolding restore
  others_restore i [] a c u = part_splice_after s 0 (header_bytes t) (bucket_at i) bucket_size (omega (arith, header_length)) (omega (arith, header_length))
  others_restore i (j ∷ is) a c u =
      slot_other (restore s is t) header_size bucket_size i j (bucket_bytes (t.buckets j)) (length_bucket (t.buckets j) c.0) (room j is a.0 a.1 c.1) (same_false i j u.0)
      ∙ others_restore i is a.1 c.1 u.1

  pub restore_restored : (is : List ℕ) → Below is → Short t is → Restored s is t (restore s is t)
  restore_restored is a c =
      record { size = length_restore is a c; header = header_restore is a c; written = written_restore is a c; others = λ i m u. others_restore i is a c u }

  -- so that whatever has kept it is `restore`'s
  pub restored_is : (is : List ℕ) → Below is → Short t is → (s' : List ℕ) → Restored s is t s' → s' ≡ restore s is t
  restored_is is a c s' r = restored_once s is t s' (restore s is t) r (restore_restored is a c)
