-- The tests of the places one after another.
use mathlib.Core.Path.{◌≡◌, refl, sym, ap, ap₂, ◌∙◌}
use mathlib.Core.Bool.{Bool, ◌&&◌, and_assoc, and-true}
use mathlib.Core.List.{List, [], ◌∷◌, ◌++◌, map}
use Prim.Native.Nat.{ℕ, zero, suc, ◌+◌}
use native.Mathlib.Nat.{zero-add}
use native.Mathlib.Numerals.{add-one}
use native.Mathlib.Omega.{arith}
use lib.Dec.{eqb}
use lib.ListN.{length, get_or}
use Rattle.std.specs.List.{enumerate_from, list_all, range_with_len}
use Rattle.std.proofs.lemmas.List.Folds.{list_all-append, list_all-map}
use Rattle.std.proofs.lemmas.List.FromFn.{map-range_with_len_more}
use Rattle.model.specs.Base.{tabulate, all_below}
use Rattle.model.specs.Sizes.{key_size}
use Rattle.model.specs.Formed.{key_in, state_at}
use Rattle.model.specs.Formed as model
use Rattle.laws.proofs.Lists.{length_tabulate}
use Rattle.key.specs.Key.{num}
use Rattle.key.proofs.Words.{num_key_of}
use Rattle.node.specs.declared.Node as declared
use Rattle.node.specs.Node.{node_codes}
use Rattle.storage.specs.Read.{read_node}
use Rattle.storage.proofs.Bytes.{codes_read}

module _ {A : Type 0} (t : ℕ × A → Bool) where
  all_snoc : (n : ℕ) (xs : List A) (y : A) → list_all t (enumerate_from n (xs ++ (y ∷ []))) ≡ (list_all t (enumerate_from n xs) && t (n + length xs, y))
  all_snoc n [] y = let e : n ≡ n + 0 = omega arith in and-true _ ∙ ap (λ (k : ℕ). t (k, y)) e
  all_snoc n (x ∷ xs) y =
      let e : n + 1 + length xs ≡ n + suc (length xs) = omega arith in
      ap (λ b. t (n, x) && b) (all_snoc (n + 1) xs y ∙ ap (λ (k : ℕ). list_all t (enumerate_from (n + 1) xs) && t (k, y)) e)
      ∙ sym (and_assoc (t (n, x)) _ _)

  pub all_shown : (k : ℕ) (f : ℕ → A) → list_all t (enumerate_from 0 (tabulate k f)) ≡ all_below k (λ j. t (j, f j))
  unfolding tabulate all_below
  all_shown zero f = refl
  all_shown (suc k) f = let e : 0 + length (tabulate k f) ≡ k = omega (arith, length_tabulate k f) in all_snoc 0 (tabulate k f) (f k) ∙ rw (all_shown k f, e)

-- what `all` answers of the numbers below n
pub all_numbers : (p : ℕ → Bool) (n : ℕ) → list_all p (range_with_len 0 n) ≡ all_below n p
unfolding all_below
all_numbers p zero = refl
all_numbers p (suc n) =
    let same : ℕ → ℕ = λ j. j in
    ap (λ (k : ℕ). list_all p (range_with_len 0 k)) (sym (add-one n))
    ∙ sym (list_all-map p same (range_with_len 0 (n + 1)))
    ∙ ap (list_all p) (map-range_with_len_more same 0 n n (zero-add n))
    ∙ list_all-append p (map same (range_with_len 0 n)) (n ∷ [])
    ∙ ap₂ (λ (a b : Bool). a && b) (list_all-map p same (range_with_len 0 n) ∙ all_numbers p n) (and-true (p n))

-- the test of the place with these bytes
abbrev pub formed_by : (ℕ → Bool) → ℕ → ℕ × List ℕ → Bool
formed_by index first p = (model.node_codes p.1 && index (key_in p.1)) && eqb (get_or p.1 key_size 0) (state_at first p.0)

pub formed_by_lem : (bs : List ℕ) (j : ℕ) (p : ℕ → Bool) (first : ℕ) (n : declared.Node) → n ≡ read_node bs
    → formed_by p first (j, bs) ≡ ((node_codes n && p (num n.key)) && eqb n.status.state (state_at first j))
unfolding read_node
formed_by_lem bs j p first n e = rw (e, codes_read, num_key_of)
