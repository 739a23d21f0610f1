-- The places of a bucket's bytes, counted one after the other: the place of a key, and how many pass a test with one place left out.
use mathlib.Core.Path.{◌≡◌, refl, sym, ap, ◌∙◌}
use mathlib.Core.Bool.{Bool, true, false, not, ◌&&◌, and-true, and-false}
use mathlib.Core.List.{List, [], ◌∷◌, ◌++◌, append-nil, append_assoc}
use mathlib.Core.Logic.{⊎_elim}
use Prim.Native.Nat.{ℕ, zero, suc, ◌+◌, ◌≤◌, ◌<◌}
use native.Mathlib.Omega.{arith}
use lib.Dec.{eqb}
use lib.ListN.{length, get_or, length-append, drop_of_length-le}
use mir.Val.{bool_byte}
use lib.Seq.{take_all, take-append-le, drop-append-le}
use borrow.Author.Tests.{eqb-true, eqb-false}
use Rattle.model.specs.Base.{select, tabulate}
use Rattle.model.specs.Bytes.{part}
use Rattle.model.specs.Node.{Node}
use Rattle.model.specs.Sizes.{key_size, value_size}
use Rattle.model.specs.Layout.{node_in, place_in}
use Rattle.laws.proofs.Tests.{split}
use Rattle.laws.proofs.Lists.{lt_or_le, length_tabulate, tabulate_one_more}
use Rattle.laws.proofs.KeepLists.{more, length_select_insert}
use Rattle.places.specs.Places.{remove_at}
use Rattle.node.specs.Node.{value_of}
use Rattle.storage.specs.Read.{read_value}
use Rattle.storage.proofs.Bytes.{value_of_read}
use Rattle.well_formed.specs.Tests.{node_at, nodes_here}
use Rattle.held.specs.Held.{others}
use Rattle.held.proofs.Quiet.{nodes_are}

-- one place left out

pub remove_at_past : {A : Type 0} (pos : ℕ) (xs : List A) → length xs ≤ pos → remove_at pos xs ≡ xs
remove_at_past pos xs h =
    let k : length xs ≤ suc pos = omega arith in
    rw (take_all pos xs h, drop_of_length-le xs k) (append-nil xs)

remove_at_last : {A : Type 0} (xs : List A) (x : A) → remove_at (length xs) (xs ++ (x ∷ [])) ≡ xs
remove_at_last [] x = refl
remove_at_last (y ∷ xs) x = ap (λ l. y ∷ l) (remove_at_last xs x)

remove_at_before : {A : Type 0} (pos : ℕ) (xs : List A) (x : A) → pos < length xs → remove_at pos (xs ++ (x ∷ [])) ≡ remove_at pos xs ++ (x ∷ [])
remove_at_before pos xs x h = rw (take-append-le pos xs (x ∷ []) (omega arith), drop-append-le (suc pos) xs (x ∷ []) h, append_assoc)

count_one : {A : Type 0} (p : A → Bool) (xs : List A) (x : A) → length (select p (xs ++ (x ∷ []))) ≡ length (select p xs) + bool_byte (p x)
count_one p xs x = length_select_insert p x xs [] ∙ ap (λ l. more (p x) (length (select p l))) (append-nil xs) ∙ by (p x)
  where
    by : (t : Bool) → more t (length (select p xs)) ≡ length (select p xs) + bool_byte t
    by true = omega arith
    by false = omega arith

-- one place more
count_more : {A : Type 0} (p : A → Bool) (f : ℕ → A) (skip j : ℕ)
    → length (select p (remove_at skip (tabulate (j + 1) f))) ≡ length (select p (remove_at skip (tabulate j f))) + bool_byte (p (f j) && not (eqb j skip))
count_more {A} p f skip j =
    ap (λ (l : List A). length (select p (remove_at skip l))) (tabulate_one_more j f)
    ∙ split (eqb j skip)
    (λ e.
    let q : j ≡ skip = eqb-true j skip e in
    let n : length xs ≡ skip = long ∙ q in
    let a : remove_at skip (xs ++ (f j ∷ [])) ≡ xs = ap (λ (i : ℕ). remove_at i (xs ++ (f j ∷ []))) (sym n) ∙ remove_at_last xs (f j) in
    let z : ◌≡◌ {A = ℕ} (bool_byte (p (f j) && not (eqb j skip))) 0 = rw (e, and-false) in
    ap (λ (l : List A). length (select p l)) (a ∙ sym (remove_at_past skip xs (omega arith))) ∙ omega (arith, z))
    (λ e.
    let z : ◌≡◌ {A = ℕ} (bool_byte (p (f j) && not (eqb j skip))) (bool_byte (p (f j))) = rw (e, and-true) in
    let o : remove_at skip (xs ++ (f j ∷ [])) ≡ remove_at skip xs ++ (f j ∷ []) =
    ⊎_elim (λ h. remove_at_before skip xs (f j) (rw long h))
    (λ h.
    let d : j < skip = apart h (eqb-false j skip e) in
    let k : length (xs ++ (f j ∷ [])) ≤ skip = rw length-append (omega (arith, long)) in
    remove_at_past skip (xs ++ (f j ∷ [])) k ∙ ap (λ (l : List A). l ++ (f j ∷ [])) (sym (remove_at_past skip xs (omega (arith, long)))))
    (lt_or_le skip j) in
    ap (λ (l : List A). length (select p l)) o ∙ count_one p (remove_at skip xs) (f j) ∙ ap (λ (n : ℕ). length (select p (remove_at skip xs)) + n) (sym z))
  where
    xs : List A
    xs = tabulate j f

    long : length (tabulate j f) ≡ j
    long = length_tabulate j f

    apart : j ≤ skip → (j ≡ skip → ⊥) → j < skip
    apart h n = omega (arith, h, n)

pub count_none : (p : Node → Bool) (bs : List ℕ) (skip : ℕ) → 0 ≡ length (select p (remove_at skip (nodes_here bs 0)))
unfolding nodes_here tabulate
count_none p bs zero = refl
count_none p bs (suc skip) = refl

pub count_next : (p : Node → Bool) (bs : List ℕ) (skip j : ℕ)
    → length (select p (remove_at skip (nodes_here bs (j + 1)))) ≡ length (select p (remove_at skip (nodes_here bs j))) + bool_byte (p (node_in (place_in bs j)) && not (eqb j skip))
unfolding nodes_here node_at
count_next p bs skip j = count_more p (node_at bs) skip j

pub others_are : (bs : List ℕ) (skip : ℕ) → remove_at skip (nodes_here bs (get_or bs 0 0)) ≡ others bs skip
unfolding others
others_are bs skip = ap (remove_at skip) (nodes_are bs)

-- the value of a node
pub value_is : (bs : List ℕ) → value_of (read_value (part bs (key_size + 2) value_size)) ≡ (node_in bs).value
unfolding node_in
value_is bs = value_of_read (part bs (key_size + 2) value_size)
