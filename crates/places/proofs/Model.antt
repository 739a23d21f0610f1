-- The model's rules as moves place by place: a key taken out closes its place, a node placed opens one, a value changes one.
use Prim.Native.Nat.{ℕ, zero, suc, ◌+◌, ◌-◌, ◌≤◌, ◌<◌}
use native.Mathlib.Nat.{le_of_suc-le-suc, not-suc-le-zero}
use native.Mathlib.Omega.{arith}
use mathlib.Core.Path.{◌≡◌, refl, sym, ap, ◌∙◌, subst}
use mathlib.Core.Bool.{Bool, true, false, cond, not}
use mathlib.Core.List.{List, [], ◌∷◌, ◌++◌, map, append-nil, append_assoc}
use mathlib.Core.Option.{none, some}
use lib.ListN.{length, take, drop, get_or, set}
use lib.Seq.{take-append_seam, drop-append_seam, take-length, drop-length}
use lib.Dec.{eqb, ltb, leb-suc-suc}
use mir.Val.{bool_byte}
use borrow.Author.Tests.{lt-ltb, le-ltb, ltb-true, ltb-false, ne_eqb, not-true}
use Rattle.model.specs.Base.{same, every, is_some}
use Rattle.model.specs.Value.{Value}
use Rattle.model.specs.Node.{Node, with_value}
use Rattle.model.specs.Bucket.{Bucket, nodes, find, omit, put, is_first, revalue}
use Rattle.model.specs.Fits.{All, Different}
use Rattle.laws.proofs.Tests.{split, same_self, same_sym, same_true, and_left, and_right}
use Rattle.laws.proofs.KeepLists.{Without}
use Rattle.places.specs.Places.{before, insert_at, remove_at, different}
use Rattle.places.proofs.Moves.{remove_at_length}
use Rattle.laws.proofs.All.{all_left, all_get_d}

-- Lists.

pub before_map : {A B : Type 0} (p : B → Bool) (f : A → B) (xs : List A) → before p (map f xs) ≡ before (λ (x : A). p (f x)) xs
before_map p f [] = refl
before_map p f (x ∷ xs) = ap (λ (k : ℕ). cond (p (f x)) 0 (suc k)) (before_map p f xs)

pub map_take : {A B : Type 0} (f : A → B) (n : ℕ) (xs : List A) → map f (take n xs) ≡ take n (map f xs)
map_take f zero xs = refl
map_take f (suc n) [] = refl
map_take f (suc n) (x ∷ xs) = ap (λ (ys : List _). f x ∷ ys) (map_take f n xs)

pub map_drop : {A B : Type 0} (f : A → B) (n : ℕ) (xs : List A) → map f (drop n xs) ≡ drop n (map f xs)
map_drop f zero xs = refl
map_drop f (suc n) [] = refl
map_drop f (suc n) (x ∷ xs) = map_drop f n xs

pub map_insert_at : {A B : Type 0} (f : A → B) (pos : ℕ) (x : A) (xs : List A) → map f (insert_at pos x xs) ≡ insert_at pos (f x) (map f xs)
map_insert_at f zero x xs = refl
map_insert_at f (suc pos) x [] = refl
map_insert_at f (suc pos) x (y ∷ ys) = ap (λ (zs : List _). f y ∷ zs) (map_insert_at f pos x ys)

pub map_remove_at : {A B : Type 0} (f : A → B) (pos : ℕ) (xs : List A) → map f (remove_at pos xs) ≡ remove_at pos (map f xs)
map_remove_at f zero [] = refl
map_remove_at f zero (y ∷ ys) = refl
map_remove_at f (suc pos) [] = refl
map_remove_at f (suc pos) (y ∷ ys) = ap (λ (zs : List _). f y ∷ zs) (map_remove_at f pos ys)

pub map_set : {A B : Type 0} (f : A → B) (xs : List A) (pos : ℕ) (x : A) → map f (set xs pos x) ≡ set (map f xs) pos (f x)
map_set f [] pos x = refl
map_set f (y ∷ ys) zero x = refl
map_set f (y ∷ ys) (suc pos) x = ap (λ (zs : List _). f y ∷ zs) (map_set f ys pos x)

pub all_of_every : {A : Type 0} (p : A → Bool) (xs : List A) → every p xs ≡ true → All (λ (x : A). p x ≡ true) xs
all_of_every p [] h = tt
all_of_every p (x ∷ xs) h = (and_left (p x) (every p xs) h, all_of_every p xs (and_right (p x) (every p xs) h))

pub every_of_all : {A : Type 0} (p : A → Bool) (xs : List A) → All (λ (x : A). p x ≡ true) xs → every p xs ≡ true
every_of_all p [] h = refl
every_of_all p (x ∷ xs) h = rw h.0 (every_of_all p xs h.1)

pub all_of_map : {A B : Type 0} (P : B → Type 0) (f : A → B) (xs : List A) → All (λ (x : A). P (f x)) xs → All P (map f xs)
all_of_map P f [] h = tt
all_of_map P f (x ∷ xs) h = (h.0, all_of_map P f xs h.1)

-- Different keys, as a test.

pub all_not : {A : Type 0} (p : A → Bool) (xs : List A) → All (λ (x : A). not (p x) ≡ true) xs → All (λ (x : A). p x ≡ false) xs
all_not p [] h = tt
all_not p (x ∷ xs) h = (not-true (p x) h.0, all_not p xs h.1)

all_is_not : {A : Type 0} (p : A → Bool) (xs : List A) → All (λ (x : A). p x ≡ false) xs → All (λ (x : A). not (p x) ≡ true) xs
all_is_not p [] h = tt
all_is_not p (x ∷ xs) h = (ap not h.0, all_is_not p xs h.1)

pub different_true : (ns : List Node) → different ns ≡ true → Different ns
different_true [] h = tt
different_true (n ∷ ns) h =
    let p : Node → Bool = λ m. same m.key n.key in (
      all_not p ns (all_of_every (λ (m : Node). not (p m)) ns (and_left (every (λ (m : Node). not (p m)) ns) (different ns) h)),
      different_true ns (and_right (every (λ (m : Node). not (p m)) ns) (different ns) h),
    )

pub different_of : (ns : List Node) → Different ns → different ns ≡ true
different_of [] h = refl
different_of (n ∷ ns) h =
    let p : Node → Bool = λ m. same m.key n.key in
    rw (every_of_all (λ (m : Node). not (p m)) ns (all_is_not p ns h.0)) (different_of ns h.1)

-- The place of a key.

abbrev pub place : ℕ → List Node → ℕ
place k ns = before (λ (n : Node). same n.key k) ns

pub held_is : (k : ℕ) (ns : List Node) → is_some (find k ns) ≡ ltb (place k ns) (length ns)
held_is k [] = refl
held_is k (n ∷ ns) = step (same n.key k) (held_is k ns)
  where
    step : (t : Bool) → is_some (find k ns) ≡ ltb (place k ns) (length ns)
        → is_some (cond t (some n) (find k ns)) ≡ ltb (cond t 0 (suc (place k ns))) (suc (length ns))
    step true ih = sym (lt-ltb 0 (suc (length ns)) (omega arith))
    step false ih = ih ∙ sym (leb-suc-suc (suc (place k ns)) (length ns))

pub find_held : (k : ℕ) (ns : List Node) (d : Node) → place k ns < length ns → find k ns ≡ some (get_or ns (place k ns) d)
find_held k [] d h = absurd (not-suc-le-zero h)
find_held k (n ∷ ns) d h = step (same n.key k) h (λ l. find_held k ns d l)
  where
    step : (t : Bool) → cond t 0 (suc (place k ns)) < suc (length ns) → (place k ns < length ns → find k ns ≡ some (get_or ns (place k ns) d))
        → cond t (some n) (find k ns) ≡ some (get_or (n ∷ ns) (cond t 0 (suc (place k ns))) d)
    step true l ih = refl
    step false l ih = ih (le_of_suc-le-suc l)

pub find_absent : (k : ℕ) (ns : List Node) → length ns ≤ place k ns → find k ns ≡ none
find_absent k [] h = refl
find_absent k (n ∷ ns) h = step (same n.key k) h (λ l. find_absent k ns l)
  where
    step : (t : Bool) → suc (length ns) ≤ cond t 0 (suc (place k ns)) → (length ns ≤ place k ns → find k ns ≡ none)
        → cond t (some n) (find k ns) ≡ none
    step true l ih = absurd (not-suc-le-zero l)
    step false l ih = ih (le_of_suc-le-suc l)

pub first_is : (k : ℕ) (ns : List Node) → place k ns < length ns → is_first k ns ≡ eqb (place k ns) 0
first_is k [] h = absurd (not-suc-le-zero h)
first_is k (n ∷ ns) h = step (same n.key k)
  where
    step : (t : Bool) → t ≡ eqb (cond t 0 (suc (place k ns))) 0
    step true = refl
    step false = sym (ne_eqb (suc (place k ns)) 0 (λ q. omega arith))

-- A key taken out.

pub omit_absent : (k : ℕ) (ns : List Node) → Without k ns → omit k ns ≡ ns
omit_absent k [] h = refl
omit_absent k (n ∷ ns) h = rw h.0 (ap (λ (xs : List Node). n ∷ xs) (omit_absent k ns h.1))

-- the other keys differ from that of n, which is k
others : (k : ℕ) (n : Node) (ns : List Node) → same n.key k ≡ true → All (λ (m : Node). same m.key n.key ≡ false) ns → Without k ns
others k n ns e h = subst (λ (x : ℕ). Without x ns) (same_true n.key k e) h

pub omit_at : (k : ℕ) (ns : List Node) → Different ns → place k ns < length ns → omit k ns ≡ remove_at (place k ns) ns
omit_at k [] d h = absurd (not-suc-le-zero h)
omit_at k (n ∷ ns) d h = step (same n.key k) refl h (λ l. omit_at k ns d.1 l)
  where
    step : (t : Bool) → same n.key k ≡ t → cond t 0 (suc (place k ns)) < suc (length ns)
        → (place k ns < length ns → omit k ns ≡ remove_at (place k ns) ns)
        → cond t (omit k ns) (n ∷ omit k ns) ≡ remove_at (cond t 0 (suc (place k ns))) (n ∷ ns)
    step true e l ih = omit_absent k ns (others k n ns e d.0)
    step false e l ih = ap (λ (xs : List Node). n ∷ xs) (ih (le_of_suc-le-suc l))

absent_without : (k : ℕ) (ns : List Node) → length ns ≤ place k ns → Without k ns
absent_without k [] h = tt
absent_without k (n ∷ ns) h = step (same n.key k) refl h (λ l. absent_without k ns l)
  where
    step : (t : Bool) → same n.key k ≡ t → suc (length ns) ≤ cond t 0 (suc (place k ns)) → (length ns ≤ place k ns → Without k ns) → Without k (n ∷ ns)
    step true e l ih = absurd (not-suc-le-zero l)
    step false e l ih = (e, ih (le_of_suc-le-suc l))

place_front : (k : ℕ) (xs ys : List Node) → place k xs < length xs → place k (xs ++ ys) ≡ place k xs
place_front k [] ys h = absurd (not-suc-le-zero h)
place_front k (x ∷ xs) ys h = step (same x.key k) h (λ l. place_front k xs ys l)
  where
    step : (t : Bool) → cond t 0 (suc (place k xs)) < suc (length xs) → (place k xs < length xs → place k (xs ++ ys) ≡ place k xs)
        → cond t 0 (suc (place k (xs ++ ys))) ≡ cond t 0 (suc (place k xs))
    step true l ih = refl
    step false l ih = ap suc (ih (le_of_suc-le-suc l))

place_back : (k : ℕ) (xs ys : List Node) → length xs ≤ place k xs → place k (xs ++ ys) ≡ length xs + place k ys
place_back k [] ys h = omega arith
place_back k (x ∷ xs) ys h = step (same x.key k) h (λ l. place_back k xs ys l)
  where
    step : (t : Bool) → suc (length xs) ≤ cond t 0 (suc (place k xs)) → (length xs ≤ place k xs → place k (xs ++ ys) ≡ length xs + place k ys)
        → cond t 0 (suc (place k (xs ++ ys))) ≡ suc (length xs) + place k ys
    step true l ih = absurd (not-suc-le-zero l)
    step false l ih = let e = ih (le_of_suc-le-suc l) in omega arith

different_left : (xs ys : List Node) → Different (xs ++ ys) → Different xs
different_left [] ys d = tt
different_left (x ∷ xs) ys d = (all_left (λ (m : Node). same m.key x.key ≡ false) xs ys d.0, different_left xs ys d.1)

-- how many of the first nodes are left when the place of a key is closed
pub omit_front : (k : ℕ) (xs ys : List Node) → Different (xs ++ ys)
    → length (omit k xs) ≡ length xs - bool_byte (ltb (place k (xs ++ ys)) (length xs))
omit_front k xs ys d =
    split (ltb (place k xs) (length xs))
    (λ e.
    let h : place k xs < length xs = ltb-true (place k xs) (length xs) e in
    let q : length (remove_at (place k xs) xs) + 1 ≡ length xs = remove_at_length (place k xs) xs h in
    rw (place_front k xs ys h, e, omit_at k xs (different_left xs ys d) h) (omega arith))
    (λ e.
    let h : length xs ≤ place k xs = ltb-false (place k xs) (length xs) e in
    let f : ltb (length xs + place k ys) (length xs) ≡ false = le-ltb (length xs + place k ys) (length xs) (omega arith) in
    rw (place_back k xs ys h, f, omit_absent k xs (absent_without k xs h)) (omega arith))

-- A value in the key's place.

revalue_absent : (k : ℕ) (v : Value) (ns : List Node) → Without k ns → revalue k v ns ≡ ns
revalue_absent k v [] h = refl
revalue_absent k v (n ∷ ns) h = rw h.0 (ap (λ (xs : List Node). n ∷ xs) (revalue_absent k v ns h.1))

pub revalue_at : (k : ℕ) (v : Value) (ns : List Node) (z : Node) → Different ns → place k ns < length ns
    → revalue k v ns ≡ set ns (place k ns) (with_value v (get_or ns (place k ns) z))
revalue_at k v [] z d h = absurd (not-suc-le-zero h)
revalue_at k v (n ∷ ns) z d h = step (same n.key k) refl h (λ l. revalue_at k v ns z d.1 l)
  where
    step : (t : Bool) → same n.key k ≡ t → cond t 0 (suc (place k ns)) < suc (length ns)
        → (place k ns < length ns → revalue k v ns ≡ set ns (place k ns) (with_value v (get_or ns (place k ns) z)))
        → (cond t (with_value v n) n ∷ revalue k v ns)
        ≡ set (n ∷ ns) (cond t 0 (suc (place k ns))) (with_value v (get_or (n ∷ ns) (cond t 0 (suc (place k ns))) z))
    step true e l ih = ap (λ (xs : List Node). with_value v n ∷ xs) (revalue_absent k v ns (others k n ns e d.0))
    step false e l ih = ap (λ (xs : List Node). n ∷ xs) (ih (le_of_suc-le-suc l))

-- A node placed.

pub put_connected : (n : Node) (b : Bucket) → n.connected ≡ true → nodes (put n b) ≡ insert_at (length (nodes b)) n (nodes b)
put_connected n b e =
    rw (e, append-nil, ← append_assoc, take-length, drop-length)

pub put_disconnected : (n : Node) (b : Bucket) → n.connected ≡ false → nodes (put n b) ≡ insert_at (length b.disconnected) n (nodes b)
put_disconnected n b e =
    rw (e, append-nil, append_assoc, take-append_seam, drop-append_seam)

-- The key at a place.

pub own_place : (ns : List Node) (i : ℕ) (d : Node) → Different ns → i < length ns → place (get_or ns i d).key ns ≡ i
own_place [] i d w h = absurd (not-suc-le-zero h)
own_place (n ∷ ns) zero d w h = rw (same_self n.key)
own_place (n ∷ ns) (suc i) d w h =
    rw (
      same_sym n.key (get_or ns i d).key ∙ all_get_d (λ (m : Node). same m.key n.key ≡ false) ns i d w.0 (le_of_suc-le-suc h),
      own_place ns i d w.1 (le_of_suc-le-suc h),
    )

pub found_key : (k : ℕ) (ns : List Node) (d : Node) → place k ns < length ns → (get_or ns (place k ns) d).key ≡ k
found_key k [] d h = absurd (not-suc-le-zero h)
found_key k (n ∷ ns) d h = step (same n.key k) refl h (λ l. found_key k ns d l)
  where
    step : (t : Bool) → same n.key k ≡ t → cond t 0 (suc (place k ns)) < suc (length ns)
        → (place k ns < length ns → (get_or ns (place k ns) d).key ≡ k) → (get_or (n ∷ ns) (cond t 0 (suc (place k ns))) d).key ≡ k
    step true e l ih = same_true n.key k e
    step false e l ih = ih (le_of_suc-le-suc l)
