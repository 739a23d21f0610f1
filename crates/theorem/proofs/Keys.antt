-- Laws of the lists of keys.
use Prim.Native.Nat.{ℕ}
use mathlib.Core.Path.{◌≡◌, refl, sym, ap, ◌∙◌}
use mathlib.Core.Bool.{Bool, false, ◌||◌}
use mathlib.Core.List.{List, [], ◌∷◌, ◌++◌, append-nil}
use Rattle.model.specs.Base.{same}
use Rattle.laws.proofs.Tests.{same_self, same_true, same_false, same_not, same_sym, cases, split, or_left, or_right}
use Rattle.table_log.specs.Log.{without}
use Rattle.theorem.proofs.Fold.{mem}

-- no key stands twice
abbrev pub Distinct : List ℕ → Type 0
Distinct [] = Unit {0}
Distinct (x ∷ xs) = (mem x xs ≡ false) × Distinct xs

pub mem_append : (k : ℕ) (xs ys : List ℕ) → mem k (xs ++ ys) ≡ (mem k xs || mem k ys)
mem_append k [] ys = refl
mem_append k (x ∷ xs) ys = split (same x k) (λ e. rw e) (λ e. rw e (mem_append k xs ys))

pub mem_without : (k : ℕ) (xs : List ℕ) → mem k (without k xs) ≡ false
mem_without k [] = refl
mem_without k (x ∷ xs) = cases (λ (ys : List ℕ). mem k ys ≡ false) (same x k) (λ e. mem_without k xs) (λ e. rw e (mem_without k xs))

pub mem_without_other : (k j : ℕ) (xs : List ℕ) → same j k ≡ false → mem j (without k xs) ≡ mem j xs
mem_without_other k j [] h = refl
mem_without_other k j (x ∷ xs) h =
    cases (λ (ys : List ℕ). mem j ys ≡ (same x j || mem j xs)) (same x k)
    (λ e. rw (same_not x j (λ p. same_false j k h (sym p ∙ same_true x k e))) (mem_without_other k j xs h))
    (λ e. ap (λ (t : Bool). same x j || t) (mem_without_other k j xs h))

pub mem_false_without : (k j : ℕ) (xs : List ℕ) → mem j xs ≡ false → mem j (without k xs) ≡ false
mem_false_without k j xs h = split (same j k) (λ e. rw (same_true j k e) (mem_without k xs)) (λ e. mem_without_other k j xs e ∙ h)

pub without_absent : (k : ℕ) (xs : List ℕ) → mem k xs ≡ false → without k xs ≡ xs
without_absent k [] h = refl
without_absent k (x ∷ xs) h = rw (or_left (same x k) (mem k xs) h) (ap (λ (ys : List ℕ). x ∷ ys) (without_absent k xs (or_right (same x k) (mem k xs) h)))

pub without_append : (k : ℕ) (xs ys : List ℕ) → without k (xs ++ ys) ≡ without k xs ++ without k ys
without_append k [] ys = refl
without_append k (x ∷ xs) ys = split (same x k) (λ e. rw e (without_append k xs ys)) (λ e. rw e (ap (λ (zs : List ℕ). x ∷ zs) (without_append k xs ys)))

pub without_twice : (k : ℕ) (xs : List ℕ) → without k (without k xs) ≡ without k xs
without_twice k xs = without_absent k (without k xs) (mem_without k xs)

-- a BucketInsertResult.Inserted key, taken take_out again
pub without_placed : (k : ℕ) (xs : List ℕ) → without k (without k xs ++ (k ∷ [])) ≡ without k xs
without_placed k xs = without_append k (without k xs) (k ∷ []) ∙ rw (same_self k) (append-nil _ ∙ without_twice k xs)

pub distinct_without : (k : ℕ) (xs : List ℕ) → Distinct xs → Distinct (without k xs)
distinct_without k [] d = tt
distinct_without k (x ∷ xs) d = cases Distinct (same x k) (λ e. distinct_without k xs d.1) (λ e. (mem_false_without k x xs d.0, distinct_without k xs d.1))

pub distinct_last : (k : ℕ) (xs : List ℕ) → Distinct xs → mem k xs ≡ false → Distinct (xs ++ (k ∷ []))
distinct_last k [] d h = (refl, tt)
distinct_last k (x ∷ xs) d h =
    (mem_append x xs (k ∷ []) ∙ rw (d.0, same_sym k x, or_left (same x k) (mem k xs) h), distinct_last k xs d.1 (or_right (same x k) (mem k xs) h))

pub distinct_placed : (k : ℕ) (xs : List ℕ) → Distinct xs → Distinct (without k xs ++ (k ∷ []))
distinct_placed k xs d = distinct_last k (without k xs) (distinct_without k xs d) (mem_without k xs)
