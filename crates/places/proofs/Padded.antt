-- Sixteen places that hold the nodes xs and zero nodes behind them: what is put in and taken out there is put in and taken out of xs.
use mathlib.Core.Path.{◌≡◌, refl, sym, ap, ◌∙◌}
use mathlib.Core.List.{List, [], ◌∷◌, ◌++◌, append_assoc}
use Prim.Native.Nat.{ℕ, zero, suc, ◌+◌, ◌-◌, ◌≤◌, ◌<◌}
use native.Mathlib.Nat.{le_of_suc-le-suc, not-suc-le-zero}
use native.Mathlib.Omega.{arith}
use lib.ListN.{length, take, replicate, length-append, length-replicate, replicate-append-replicate}
use lib.Seq.{take-append-le, drop-append-le, take-append-add, take_at}
use Rattle.node.specs.declared.Node.{Node}
use Rattle.node.specs.Node.{zero_node}
use Rattle.places.specs.Places.{insert_at, remove_at, padded}
use Rattle.places.proofs.Moves.{insert_at_length, remove_at_length}

take_replicate : {A : Type 0} (k m : ℕ) (a : A) → k ≤ m → take k (replicate m a) ≡ replicate k a
take_replicate zero m a h = refl
take_replicate (suc k) zero a h = absurd (not-suc-le-zero h)
take_replicate (suc k) (suc m) a h = ap (λ (r : List _). a ∷ r) (take_replicate k m a (le_of_suc-le-suc h))

pub padded_length : (xs : List Node) → length xs ≤ 16 → length (padded xs) ≡ 16
padded_length xs h = simp (length-append, length-replicate) (omega arith)

pub padded_held : (xs : List Node) (n : ℕ) → length xs ≡ n → take n (padded xs) ≡ xs
padded_held xs n e = take_at xs (replicate (16 - length xs) zero_node) n e

cut : (xs : List Node) (m : ℕ) → length xs ≤ 16 → 16 - length xs ≤ m → take 16 (xs ++ replicate m zero_node) ≡ padded xs
cut xs m h k =
    let e : length xs + (16 - length xs) ≡ 16 = omega arith in
    ap (λ (n : ℕ). take n (xs ++ replicate m zero_node)) (sym e)
    ∙ take-append-add xs (replicate m zero_node) (16 - length xs)
    ∙ ap (λ (r : List Node). xs ++ r) (take_replicate (16 - length xs) m zero_node k)

pub padded_insert : (xs : List Node) (pos : ℕ) (x : Node) → length xs < 16 → pos ≤ length xs
    → take 16 (insert_at pos x (padded xs)) ≡ padded (insert_at pos x xs)
padded_insert xs pos x h k =
    let zs = replicate (16 - length xs) zero_node in
    let long : length (insert_at pos x xs) ≡ length xs + 1 = insert_at_length pos x xs k in
    let e : insert_at pos x (padded xs) ≡ insert_at pos x xs ++ zs =
    rw (take-append-le pos xs zs k, drop-append-le pos xs zs k, append_assoc) in
    ap (take 16) e ∙ cut (insert_at pos x xs) (16 - length xs) (omega arith) (omega arith)

pub padded_remove : (xs : List Node) (pos : ℕ) → length xs ≤ 16 → pos < length xs
    → remove_at pos (padded xs) ++ (zero_node ∷ []) ≡ padded (remove_at pos xs)
padded_remove xs pos h k =
    let zs = replicate (16 - length xs) zero_node in
    let short : length (remove_at pos xs) + 1 ≡ length xs = remove_at_length pos xs k in
    let e : remove_at pos (padded xs) ≡ remove_at pos xs ++ zs =
    rw (take-append-le pos xs zs (omega arith), drop-append-le (suc pos) xs zs (omega arith), append_assoc) in
    let one : zs ++ (zero_node ∷ []) ≡ replicate (16 - length (remove_at pos xs)) zero_node =
    let m : 16 - length (remove_at pos xs) ≡ (16 - length xs) + 1 = omega arith in
    replicate-append-replicate (16 - length xs) 1 zero_node ∙ ap (λ (n : ℕ). replicate n zero_node) (sym m) in
    rw (e, append_assoc, one)
