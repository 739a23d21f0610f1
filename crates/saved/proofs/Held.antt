-- The nodes of a bucket by its bytes, and the nodes of all buckets, bucket by bucket, with the sum of their sizes.
use mathlib.Core.Path.{◌≡◌, refl, sym, ap, ap₂, ◌∙◌}
use mathlib.Core.Bool.{true}
use mathlib.Core.List.{List, [], ◌++◌}
use Prim.Native.Nat.{ℕ, zero, suc, ◌+◌, ◌*◌, ◌≤◌, ◌<◌}
use native.Mathlib.Nat.{add-mul, mul-le-mul_right}
use native.Mathlib.Numerals.{add-one}
use native.Mathlib.Omega.{arith}
use lib.ListN.{length, get_or, length-append}
pub use Rattle.std.proofs.iter.runs.Sources.{sums}
use Rattle.std.specs.Prelude.{sum}
use Rattle.std.proofs.lemmas.List.Sums.{sum_by_push}
use Rattle.model.specs.Base.{tabulate}
use Rattle.model.specs.Bucket.{Bucket, nodes, num_entries}
use Rattle.model.specs.Table.{num_buckets, held_nodes}
use Rattle.model.specs.Layout.{nodes_in, bucket_part, table_of}
use Rattle.model.specs.Formed.{header_formed, bucket_formed_at, formed}
use Rattle.laws.proofs.Tests.{and_right}
use Rattle.laws.proofs.Lists.{all_gives}
use Rattle.laws.proofs.BucketBytes.{length_nodes}
use Rattle.laws.proofs.BucketBack.{count_in, nodes_in_lem}
use Rattle.laws.proofs.Saved.{held_within}

-- every bucket of formed storage
module _ (s : List ℕ) (i : ℕ) where
  pub formed_at : formed s ≡ true → i < num_buckets → bucket_formed_at s i ≡ true
  unfolding formed
  formed_at f m = all_gives num_buckets (bucket_formed_at s) i m (and_right (header_formed s) _ f)

  pub count_at : {n : ℕ} {bs : List ℕ} → n ≡ get_or bs 0 0 → bs ≡ bucket_part s i → n ≡ num_entries ((table_of s).buckets i)
  unfolding table_of
  count_at e f = e ∙ ap (λ (b : List ℕ). get_or b 0 0) f ∙ sym (count_in (bucket_part s i))

  pub nodes_at : nodes ((table_of s).buckets i) ≡ nodes_in (bucket_part s i)
  unfolding table_of
  nodes_at = nodes_in_lem (bucket_part s i)

-- bucket by bucket

module _ (bs : ℕ → Bucket) where
  pub held_none : held_nodes 0 bs ≡ []
  unfolding held_nodes
  held_none = refl

  pub held_next : (i : ℕ) → held_nodes (i + 1) bs ≡ held_nodes i bs ++ nodes (bs i)
  unfolding held_nodes
  held_next i = rw add-one

  pub length_next : (i : ℕ) → length (held_nodes (i + 1) bs) ≡ length (held_nodes i bs) + length (nodes (bs i))
  length_next i = ap length (held_next i) ∙ length-append (held_nodes i bs) (nodes (bs i))

  total_held : (n : ℕ) → sum (tabulate n (λ i. num_entries (bs i))) ≡ length (held_nodes n bs)
  unfolding tabulate held_nodes
  total_held zero = refl
  total_held (suc n) =
      sum_by_push (λ x. x) (tabulate n (λ i. num_entries (bs i))) (num_entries (bs n))
      ∙ omega (arith, total_held n, length_nodes (bs n), length-append (held_nodes n bs) (nodes (bs n)))

  pub counted : {n : ℕ} {sizes : List ℕ} → n ≡ sum sizes → sizes ≡ tabulate num_buckets (λ i. num_entries (bs i)) → n ≡ length (held_nodes num_buckets bs)
  counted e f = e ∙ ap sum f ∙ total_held num_buckets

  -- with w bytes of each node, those of bucket i end within those of all

  pub bucket_size_is : (i w : ℕ) {n size : ℕ} → n ≡ num_entries (bs i) → size ≡ w → n * size ≡ length (nodes (bs i)) * w
  bucket_size_is i w e f = ap₂ (λ (a b : ℕ). a * b) (e ∙ sym (length_nodes (bs i))) f

  pub bucket_fits : (i w l : ℕ) {at k : ℕ} → i < num_buckets → at ≡ length (held_nodes i bs) * w → k ≡ length (nodes (bs i)) * w → l ≡ length (held_nodes num_buckets bs) * w → at + k ≤ l
  bucket_fits i w l h e f g =
      let m : length (held_nodes i bs) + length (nodes (bs i)) ≤ length (held_nodes num_buckets bs) = omega (arith, held_within bs num_buckets i h, length_nodes (bs i)) in
      omega (arith, e, f, g, mul-le-mul_right w m, add-mul (length (held_nodes i bs)) (length (nodes (bs i))) w)

  pub next_at : (i w : ℕ) {at k : ℕ} → at ≡ length (held_nodes i bs) * w → k ≡ length (nodes (bs i)) * w → at + k ≡ length (held_nodes (i + 1) bs) * w
  next_at i w e f = omega (arith, e, f, add-mul (length (held_nodes i bs)) (length (nodes (bs i))) w) ∙ ap (λ (n : ℕ). n * w) (sym (length_next i))
