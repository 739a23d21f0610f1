-- Laws of `All`, a property of every element, and of `Opt`, a property of what there is.
use Prim.Native.Nat.{ℕ, zero, suc, ◌<◌}
use native.Mathlib.Omega.{arith}
use native.Mathlib.Nat.{not-suc-le-zero, le_of_suc-le-suc}
use mathlib.Core.Path.{◌≡◌}
use mathlib.Core.Bool.{Bool, true}
use mathlib.Core.List.{List, [], ◌∷◌, ◌++◌}
use mathlib.Core.Option.{Option, none, some}
use lib.ListN.{length, get_or, take}
use Rattle.model.specs.Base.{select, tabulate}
use Rattle.model.specs.Node.{Node}
use Rattle.model.specs.Bucket.{Bucket, nodes}
use Rattle.model.specs.Table.{held_nodes}
use Rattle.model.specs.Fits.{All, Opt}
use Rattle.laws.proofs.Tests.{cases}

pub all_append : {A : Type 0} (P : A → Type 0) (xs ys : List A) → All P xs → All P ys → All P (xs ++ ys)
all_append P [] ys p q = q
all_append P (x ∷ xs) ys p q = (p.0, all_append P xs ys p.1 q)

pub all_left : {A : Type 0} (P : A → Type 0) (xs ys : List A) → All P (xs ++ ys) → All P xs
all_left P [] ys h = tt
all_left P (x ∷ xs) ys h = (h.0, all_left P xs ys h.1)

pub all_right : {A : Type 0} (P : A → Type 0) (xs ys : List A) → All P (xs ++ ys) → All P ys
all_right P [] ys h = h
all_right P (x ∷ xs) ys h = all_right P xs ys h.1

-- one more element, anywhere
pub all_insert : {A : Type 0} (P : A → Type 0) (a : A) (xs ys : List A) → P a → All P (xs ++ ys) → All P (xs ++ (a ∷ ys))
all_insert P a [] ys p h = (p, h)
all_insert P a (x ∷ xs) ys p h = (h.0, all_insert P a xs ys p h.1)

pub all_any : {A : Type 0} (P : A → Type 0) (xs : List A) → ((x : A) → P x) → All P xs
all_any P [] h = tt
all_any P (x ∷ xs) h = (h x, all_any P xs h)

pub all_map : {A : Type 0} (P Q : A → Type 0) → ((x : A) → P x → Q x) → (xs : List A) → All P xs → All Q xs
all_map P Q f [] p = tt
all_map P Q f (x ∷ xs) p = (f x p.0, all_map P Q f xs p.1)

-- two properties together give a third
pub all_zip : {A : Type 0} (P Q R : A → Type 0) → ((x : A) → P x → Q x → R x) → (xs : List A) → All P xs → All Q xs → All R xs
all_zip P Q R f [] p q = tt
all_zip P Q R f (x ∷ xs) p q = (f x p.0 q.0, all_zip P Q R f xs p.1 q.1)

-- by index
pub all_get_d : {A : Type 0} (P : A → Type 0) (xs : List A) (i : ℕ) (d : A) → All P xs → i < length xs → P (get_or xs i d)
all_get_d P [] i d a l = absurd (not-suc-le-zero l)
all_get_d P (x ∷ xs) zero d a l = a.0
all_get_d P (x ∷ xs) (suc i) d a l = all_get_d P xs i d a.1 (le_of_suc-le-suc l)

pub all_by_get_or : {A : Type 0} (P : A → Type 0) (xs : List A) (d : A) → ((i : ℕ) → i < length xs → P (get_or xs i d)) → All P xs
all_by_get_or P [] d h = tt
all_by_get_or P (x ∷ xs) d h = (h 0 (omega arith), all_by_get_or P xs d (λ i l. h (suc i) (omega arith)))

pub all_tabulate : {A : Type 0} (P : A → Type 0) (k : ℕ) (f : ℕ → A) → ((i : ℕ) → i < k → P (f i)) → All P (tabulate k f)
unfolding tabulate
all_tabulate P zero f h = tt
all_tabulate P (suc k) f h = all_append P (tabulate k f) (f k ∷ []) (all_tabulate P k f (λ i l. h i (omega arith))) (h k (omega arith), tt)

-- of all held nodes
pub all_held : (P : Node → Type 0) (n : ℕ) (bs : ℕ → Bucket) → ((i : ℕ) → i < n → All P (nodes (bs i))) → All P (held_nodes n bs)
unfolding held_nodes
all_held P zero bs h = tt
all_held P (suc n) bs h = all_append P (held_nodes n bs) (nodes (bs n)) (all_held P n bs (λ i l. h i (omega arith))) (h n (omega arith))

pub opt_map : {A : Type 0} (P Q : A → Type 0) → ((a : A) → P a → Q a) → (o : Option A) → Opt P o → Opt Q o
opt_map P Q f none h = tt
opt_map P Q f (some a) h = f a h

pub opt_both : {A : Type 0} (P Q : A → Type 0) (o : Option A) → Opt P o → Opt Q o → Opt (λ (a : A). P a × Q a) o
opt_both P Q none h k = tt
opt_both P Q (some a) h k = (h, k)

pub all_take : {A : Type 0} (P : A → Type 0) (m : ℕ) (xs : List A) → All P xs → All P (take m xs)
all_take P zero xs h = tt
all_take P (suc m) [] h = tt
all_take P (suc m) (x ∷ xs) h = (h.0, all_take P m xs h.1)

-- the elements that pass a test keep what they have, and pass it
pub all_select : {A : Type 0} (P : A → Type 0) (p : A → Bool) (xs : List A) → All P xs → All P (select p xs)
all_select P p [] h = tt
all_select P p (x ∷ xs) h = cases (All P) (p x) (λ _. (h.0, all_select P p xs h.1)) (λ _. all_select P p xs h.1)

pub all_pass : {A : Type 0} (p : A → Bool) (xs : List A) → All (λ (x : A). p x ≡ true) (select p xs)
all_pass p [] = tt
all_pass {A} p (x ∷ xs) = cases (All (λ (y : A). p y ≡ true)) (p x) (λ e. (e, all_pass p xs)) (λ _. all_pass p xs)
