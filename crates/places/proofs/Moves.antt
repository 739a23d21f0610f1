-- Putting an element in and taking one out: what a part that is turned by one place and a store make of a list.
use mathlib.Core.Path.{◌≡◌, sym, ap, ap₂, ◌∙◌}
use mathlib.Core.List.{List, [], ◌∷◌, ◌++◌, append-nil}
use Prim.Native.Nat.{ℕ, suc, ◌+◌, ◌-◌, ◌≤◌, ◌<◌}
use native.Mathlib.Omega.{arith}
use borrow.Rule.Slice.PartMut.{mid_of, put_mid}
use lib.ListN.{length, take, drop, get_or, set, length-append, length-take, length-drop, drop_of_length-le}
use lib.Seq.{drop-cons, set_at, length-take-le, take_all, take-append-add}
use Rattle.std.proofs.lemmas.Slice.{put_mid-rotated}
use Rattle.places.specs.Places.{insert_at, remove_at}

pub insert_at_length : {A : Type 0} (pos : ℕ) (x : A) (xs : List A) → pos ≤ length xs → length (insert_at pos x xs) ≡ length xs + 1
insert_at_length pos x xs h = simp (length-append, length-take, length-drop) (omega arith)

pub remove_at_length : {A : Type 0} (pos : ℕ) (xs : List A) → pos < length xs → length (remove_at pos xs) + 1 ≡ length xs
remove_at_length pos xs h = simp (length-append, length-take, length-drop) (omega arith)

-- after `xs[pos..].rotate_right(1)`, which makes ys of the part, and a store of x at pos
pub insert_turned : {A : Type 0} (pos k j n : ℕ) (x d : A) (xs ys : List A) → length xs ≡ n → n ≡ pos + k → k ≡ suc j
    → ys ≡ drop (length (mid_of pos k xs) - 1) (mid_of pos k xs) ++ take (length (mid_of pos k xs) - 1) (mid_of pos k xs)
    → set (put_mid pos k xs ys) pos x ≡ take n (insert_at pos x xs)
insert_turned {A} pos k j n x d xs ys len all kj e =
    let m : List A = drop pos xs in
    let long : length m ≡ k = omega (arith, length-drop pos xs) in
    let part : mid_of pos k xs ≡ m = take_all k m (omega arith) in
    let short : length (mid_of pos k xs) - 1 ≡ j = omega (arith, ap length part) in
    let last : drop j m ≡ get_or m j d ∷ [] = drop-cons m j d (omega arith) ∙ ap (λ (r : List A). get_or m j d ∷ r) (drop_of_length-le m {i = suc j} (omega arith)) in
    let turned : ys ≡ get_or m j d ∷ take j m = e ∙ ap₂ (λ (i : ℕ) (l : List A). drop i l ++ take i l) short part ∙ ap (λ (l : List A). l ++ take j m) last in
    let spread : put_mid pos k xs ys ≡ take pos xs ++ (get_or m j d ∷ take j m) =
    ap (λ (l : List A). take pos xs ++ l) (ap₂ (λ (u v : List A). u ++ v) turned (drop_of_length-le m {i = k} (omega arith)) ∙ append-nil _) in
    let front : length (take pos xs) ≡ pos = length-take-le pos xs (omega arith) in
    let places : n ≡ length (take pos xs) + suc j = omega arith in
    ap (λ (l : List A). set l pos x) spread ∙ set_at (take pos xs) _ _ _ pos front
    ∙ sym (ap (λ (i : ℕ). take i (insert_at pos x xs)) places ∙ take-append-add (take pos xs) (x ∷ m) (suc j))

-- after `xs[pos..].rotate_left(1)`, which makes ys of the part, and a store of x in the last place
pub remove_turned : {A : Type 0} (pos k n : ℕ) (x d : A) (xs ys : List A) → length xs ≡ n + 1 → pos < length xs → length xs ≤ pos + k
    → ys ≡ drop 1 (mid_of pos k xs) ++ take 1 (mid_of pos k xs)
    → set (put_mid pos k xs ys) n x ≡ remove_at pos xs ++ (x ∷ [])
remove_turned {A} pos k n x d xs ys len low all e =
    ap (λ (l : List A). set l n x) (put_mid-rotated pos k xs ys d low all e)
    ∙ set_at (remove_at pos xs) _ _ _ n (omega (arith, remove_at_length pos xs low))
