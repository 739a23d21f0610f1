-- The buckets of the bytes, put into blank storage one after the other.
use mathlib.Core.Path.{◌≡◌, refl, sym, ap, ◌∙◌}
use mathlib.Core.List.{List}
use mathlib.Core.Logic.{⊎_elim}
use Prim.Native.Nat.{ℕ, ◌+◌, ◌*◌, ◌-◌, ◌≤◌, ◌<◌}
use native.Mathlib.Nat.{eq-or-lt_of_le}
use native.Mathlib.Omega.{arith}
use lib.ListN.{length, take, drop}
use borrow.Rule.Slice.PartMut.{put_mid}
use Rattle.model.specs.Bytes.{part, zeros}
use Rattle.model.specs.Table.{num_buckets}
use Rattle.model.specs.Sizes.{node_size, bucket_size, header_size, bucket_at, storage_size}
use Rattle.model.specs.Layout.{bucket_part}
use Rattle.model.specs.Saved.{saved_count, loaded_bytes}
use Rattle.laws.proofs.Parts.{sliced, length_splice, part_splice_before, slot_same, slot_other, slot_before}
use Rattle.words.proofs.Words.{put_mid_splice}
use Rattle.laws.proofs.Loaded.{length_loaded}
use Rattle.loaded.specs.Load.{Held, Blank, LoadedFrom}

-- the storage s' with the buckets below i as loaded; the others are still blank
pub record Filling (s bs : List ℕ) (i : ℕ) (s' : List ℕ) : Type 0 where
  pub size : length s' ≡ storage_size
  pub header : part s' 0 header_size ≡ part s 0 header_size
  pub built : (k : ℕ) → k < i → bucket_part s' k ≡ loaded_bytes bs k
  pub blank : (k : ℕ) → i ≤ k → k < num_buckets → bucket_part s' k ≡ zeros bucket_size

module _ (s bs : List ℕ) where
  pub filling_none : Blank s → Filling s bs 0 s
  filling_none b = record { size = b.size; header = refl; built = λ k l. absurd (omega (arith, l)); blank = λ k l m. b.buckets k m }

  -- where the next bucket goes
  pub filling_zero : (i : ℕ) → i < num_buckets → (s' : List ℕ) → Filling s bs i s' → take (bucket_at i + bucket_size - bucket_at i) (drop (bucket_at i) s') ≡ zeros bucket_size
  filling_zero i l s' f = sliced s' (bucket_at i) bucket_size ∙ f.blank i (omega arith) l

  pub filling_next : {nodes : ℕ} → nodes ≡ saved_count bs → length bs ≡ num_buckets + nodes * node_size → Held bs → (i : ℕ) → i < num_buckets → (s' : List ℕ) {w : List ℕ}
      → Filling s bs i s' → w ≡ loaded_bytes bs i → Filling s bs (i + 1) (put_mid (bucket_at i) (bucket_at i + bucket_size - bucket_at i) s' w)
  filling_next n z h i l s' {w} f g =
      let v : List ℕ = loaded_bytes bs i in
      let lv : length v ≡ bucket_size = length_loaded bs i (rw (← n) z) l (h i l) in
      let d : bucket_at i + bucket_size - bucket_at i ≡ bucket_size = omega arith in
      let e = put_mid_splice s' (bucket_at i) _ g (lv ∙ sym d) in
      let q : bucket_at i + bucket_size ≤ length s' = omega (arith, f.size, slot_before i num_buckets bucket_size l) in
      let s'' : List ℕ = put_mid (bucket_at i) (bucket_at i + bucket_size - bucket_at i) s' w in
      let other : (k : ℕ) → (k ≡ i → ⊥) → bucket_part s'' k ≡ bucket_part s' k =
      λ k d. rw e (slot_other s' header_size bucket_size k i v lv q d) in
      record {
        size = ap length e ∙ length_splice s' (bucket_at i) v (omega (arith, lv, q)) ∙ f.size;
        header = rw e (part_splice_before s' (bucket_at i) v 0 header_size (omega arith) (omega (arith, q))) ∙ f.header;
        built =
            λ k m. ⊎_elim
            (λ (d : k ≡ i). rw (d, e) (slot_same s' header_size bucket_size i v lv q))
            (λ (d : k < i). other k (λ c. omega (arith, c, d)) ∙ f.built k d)
            (eq-or-lt_of_le (omega (arith, m)));
        blank = λ k m b. other k (λ c. omega (arith, c, m)) ∙ f.blank k (omega (arith, m)) b;
      }

  pub filling_all : (s' : List ℕ) → Filling s bs num_buckets s' → LoadedFrom s bs s'
  filling_all s' f = record { size = f.size; header = f.header; buckets = f.built }
