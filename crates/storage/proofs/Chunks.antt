-- The places of a bucket, cut in one piece.
use mathlib.Core.Path.{◌≡◌, refl, ap, ◌∙◌}
use mathlib.Core.List.{List, []}
use Prim.Native.Nat.{ℕ, zero, suc, ◌*◌, ◌≤◌, ◌<◌}
use native.Mathlib.Nat.{le_of_suc-le-suc, suc-mul, not-suc-le-zero}
use native.Mathlib.Omega.{arith}
use lib.ListN.{length, get_or, take, drop}
use lib.Seq.{take-suc}
use Rattle.std.proofs.lemmas.List.{drop-drop}
use Rattle.std.specs.Simd.{first_chunks}
use Rattle.model.specs.Base.{tabulate}
use Rattle.model.specs.Bytes.{part}
use Rattle.model.specs.Sizes.{node_size}
use Rattle.model.specs.Layout.{place_in}
use Rattle.laws.proofs.Parts.{part_part}
use Rattle.laws.proofs.Lists.{tabulate_ext}

chunk_at : (n k i : ℕ) (s d : List ℕ) → i < k → get_or (first_chunks n k s) i d ≡ part s (i * n) n
unfolding part
chunk_at n zero i s d h = absurd (not-suc-le-zero h)
chunk_at n (suc k) zero s d h = let e : 0 ≡ 0 * n = omega arith in ap (λ (j : ℕ). take n (drop j s)) e
chunk_at n (suc k) (suc i) s d h =
    chunk_at n k i (drop n s) d (le_of_suc-le-suc h) ∙ ap (take n) (drop-drop (i * n) n s ∙ ap (λ (j : ℕ). drop j s) (omega (arith, suc-mul i n)))

length_chunks : (n k : ℕ) (s : List ℕ) → length (first_chunks n k s) ≡ k
length_chunks n zero s = refl
length_chunks n (suc k) s = ap suc (length_chunks n k (drop n s))

-- the first c of k chunks
chunks : (n k c : ℕ) (s : List ℕ) → c ≤ k → take c (first_chunks n k s) ≡ tabulate c (λ i. part s (i * n) n)
unfolding tabulate
chunks n k zero s h = refl
chunks n k (suc c) s h =
    take-suc (first_chunks n k s) c [] (omega (arith, length_chunks n k s))
    ∙ rw (chunks n k c s (omega arith), chunk_at n k c s [] (omega arith))

-- the places of a bucket
pub places : (bs : List ℕ) (c : ℕ) → c ≤ 16 → take c (first_chunks node_size 16 (part bs 2 752)) ≡ tabulate c (place_in bs)
places bs c h =
    chunks node_size 16 c (part bs 2 752) h
    ∙ tabulate_ext c (λ i. part (part bs 2 752) (i * node_size) node_size) (place_in bs) (λ i l. part_part bs 2 752 (i * node_size) node_size (omega arith))
