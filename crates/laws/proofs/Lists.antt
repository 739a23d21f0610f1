-- Laws of lists: `tabulate`, `joined`, `all_below`, `All` and `select`.
use mathlib.Core.Path.{◌≡◌, refl, sym, ap, ap₂, ◌∙◌}
use mathlib.Core.Bool.{Bool, true, false, cond, ◌&&◌, and-false, and_assoc}
use mathlib.Core.List.{List, [], ◌∷◌, ◌++◌, map, map-append, append_assoc, append-nil}
use mathlib.Core.Logic.{◌⊎◌, ⊎_elim, inl, inr}
use Prim.Native.Nat.{ℕ, zero, suc, ◌+◌, ◌*◌, ◌≤◌, ◌<◌}
use native.Mathlib.Nat.{add-zero, add-suc, not-suc-le-zero, eq-or-lt_of_le}
use native.Mathlib.Numerals.{add-one}
use native.Mathlib.Decide.{dec_lt}
use native.Mathlib.Omega.{arith}
use lib.ListN.{length, get_or, take, length-append, get_or-append}
use lib.Seq.{ext_get_or, get_or_at, get_or-take, length-take-le}
use Rattle.model.specs.Base.{every, select, tabulate, joined, all_below}
use Rattle.model.specs.Fits.{All}
use Rattle.std.specs.List.{filter}
use Rattle.laws.proofs.Tests.{and_left, and_right}

pub order : (i j : ℕ) → (i < j) ⊎ ((i ≡ j) ⊎ (j < i))
order i j = by (dec_lt i j) (dec_lt j i)
  where
    by : Dec (i < j) → Dec (j < i) → (i < j) ⊎ ((i ≡ j) ⊎ (j < i))
    by (yes p) d = inl p
    by (no q) (yes p) = inr (inr p)
    by (no q) (no p) = inr (inl (omega arith))

pub lt_or_le : (i j : ℕ) → (i < j) ⊎ (j ≤ i)
lt_or_le i j = by (dec_lt i j)
  where
    by : Dec (i < j) → (i < j) ⊎ (j ≤ i)
    by (yes p) = inl p
    by (no q) = inr (omega arith)

-- inside a list the default does not matter
pub get_d_any : {A : Type 0} (l : List A) (i : ℕ) (d e : A) → i < length l → get_or l i d ≡ get_or l i e
get_d_any [] i d e h = absurd (not-suc-le-zero h)
get_d_any (x ∷ l) zero d e h = refl
get_d_any (x ∷ l) (suc i) d e h = get_d_any l i d e (omega arith)

-- tabulate

pub length_tabulate : {A : Type 0} (k : ℕ) (f : ℕ → A) → length (tabulate k f) ≡ k
unfolding tabulate
length_tabulate zero f = refl
length_tabulate (suc k) f = rw (length-append, length_tabulate k f, add-one)

pub tabulate_one_more : {A : Type 0} (k : ℕ) (f : ℕ → A) → tabulate (k + 1) f ≡ tabulate k f ++ (f k ∷ [])
unfolding tabulate
tabulate_one_more k f = rw add-one

-- a list by index, cut
pub tabulate_append : {A : Type 0} (m n : ℕ) (f : ℕ → A) → tabulate (m + n) f ≡ tabulate m f ++ tabulate n (λ i. f (m + i))
unfolding tabulate
tabulate_append m zero f = rw add-zero (sym (append-nil (tabulate m f)))
tabulate_append m (suc n) f = rw (add-suc, tabulate_append m n f) (append_assoc (tabulate m f) (tabulate n (λ i. f (m + i))) (f (m + n) ∷ []))

pub tabulate_ext : {A : Type 0} (k : ℕ) (f g : ℕ → A) → ((i : ℕ) → i < k → f i ≡ g i) → tabulate k f ≡ tabulate k g
unfolding tabulate
tabulate_ext zero f g h = refl
tabulate_ext (suc k) f g h = rw (tabulate_ext k f g (λ i l. h i (omega arith)), h k (omega arith))

pub get_d_tabulate : {A : Type 0} (k : ℕ) (f : ℕ → A) (i : ℕ) (d : A) → i < k → get_or (tabulate k f) i d ≡ f i
unfolding tabulate
get_d_tabulate zero f i d h = absurd (not-suc-le-zero h)
get_d_tabulate (suc k) f i d h =
    let le : i ≤ k = omega arith in
    ⊎_elim
    (λ e. get_or_at (tabulate k f) (f k) [] d i (length_tabulate k f ∙ sym e) ∙ ap f (sym e))
    (λ l. get_or-append (tabulate k f) (f k ∷ []) d i (rw length_tabulate l) ∙ get_d_tabulate k f i d l)
    (eq-or-lt_of_le le)

pub take_tabulate : {A : Type 0} (f : ℕ → A) (d : A) (m n : ℕ) → m ≤ n → take m (tabulate n f) ≡ tabulate m f
take_tabulate f d m n h =
    let e : length (take m (tabulate n f)) ≡ m = length-take-le m (tabulate n f) (rw length_tabulate h) in
    ext_get_or d _ _ (e ∙ sym (length_tabulate m f))
    (λ j i.
    let b : j < m = omega arith in
    get_or-take m (tabulate n f) j d b ∙ get_d_tabulate n f j d (omega arith) ∙ sym (get_d_tabulate m f j d b))

pub map_tabulate : {A B : Type 0} (f : A → B) (k : ℕ) (g : ℕ → A) → map f (tabulate k g) ≡ tabulate k (λ i. f (g i))
unfolding tabulate
map_tabulate f zero g = refl
map_tabulate f (suc k) g = map-append f (tabulate k g) (g k ∷ []) ∙ ap (λ (xs : List _). xs ++ (f (g k) ∷ [])) (map_tabulate f k g)

-- a list is that of its elements
pub tabulate_get_or : {A : Type 0} (l : List A) (d : A) → tabulate (length l) (λ i. get_or l i d) ≡ l
tabulate_get_or l d = ext_get_or d _ l (length_tabulate (length l) _) (λ i h. get_d_tabulate (length l) (λ j. get_or l j d) i d (rw length_tabulate at h))

-- a list by index, each element known
pub tabulate_is : {A : Type 0} (l : List A) (d : A) (k : ℕ) (f : ℕ → A) → length l ≡ k → ((i : ℕ) → i < k → f i ≡ get_or l i d) → tabulate k f ≡ l
tabulate_is l d k f e h = tabulate_ext k f (λ i. get_or l i d) h ∙ rw (← e) (tabulate_get_or l d)

-- joined

pub joined_append : {A B : Type 0} (f : A → List B) (xs ys : List A) → joined f (xs ++ ys) ≡ joined f xs ++ joined f ys
unfolding joined
joined_append f [] ys = refl
joined_append f (x ∷ xs) ys = rw (joined_append f xs ys) (simp append_assoc)

pub joined_snoc : {A B : Type 0} (f : A → List B) (xs : List A) (x : A) → joined f (xs ++ (x ∷ [])) ≡ joined f xs ++ f x
unfolding joined
joined_snoc f [] x = append-nil (f x)
joined_snoc f (y ∷ xs) x = rw (joined_snoc f xs x) (simp append_assoc)

pub joined_map : {A B C : Type 0} (f : B → List C) (g : A → B) (l : List A) → joined f (map g l) ≡ joined (λ (a : A). f (g a)) l
unfolding joined
joined_map f g [] = refl
joined_map {C = C} f g (a ∷ l) = ap (λ (r : List C). f (g a) ++ r) (joined_map f g l)

-- joined by index, each part known
pub joined_tabulate : {A B C : Type 0} (f : A → List C) (g : B → List C) (k : ℕ) (a : ℕ → A) (b : ℕ → B) → ((i : ℕ) → i < k → f (a i) ≡ g (b i))
    → joined f (tabulate k a) ≡ joined g (tabulate k b)
unfolding joined tabulate
joined_tabulate f g zero a b h = refl
joined_tabulate f g (suc k) a b h =
    joined_snoc f (tabulate k a) (a k)
    ∙ ap₂ (λ x y. x ++ y) (joined_tabulate f g k a b (λ i l. h i (omega arith))) (h k (omega arith))
    ∙ sym (joined_snoc g (tabulate k b) (b k))

pub length_joined : {A B : Type 0} (f : A → List B) (w : ℕ) (xs : List A) → All (λ (x : A). length (f x) ≡ w) xs → length (joined f xs) ≡ length xs * w
unfolding joined
length_joined f w [] h = omega arith
length_joined f w (x ∷ xs) h = rw (length-append, h.0, length_joined f w xs h.1) (omega arith)

-- all_below

pub all_none : (f : ℕ → Bool) → all_below 0 f ≡ true
unfolding all_below
all_none f = refl

pub all_more : (i : ℕ) (f : ℕ → Bool) → all_below (i + 1) f ≡ (all_below i f && f i)
unfolding all_below
all_more i f = rw add-one

-- one that fails is enough
pub all_fails : (k : ℕ) (f : ℕ → Bool) (i : ℕ) → i < k → f i ≡ false → all_below k f ≡ false
unfolding all_below
all_fails zero f i l e = absurd (not-suc-le-zero l)
all_fails (suc k) f i l e =
    let m : i ≤ k = omega arith in
    ⊎_elim (λ p. rw (← p, e) (and-false (all_below i f))) (λ q. rw (all_fails k f i q e)) (eq-or-lt_of_le m)

-- what holds of all holds of each
pub all_gives : (k : ℕ) (f : ℕ → Bool) (i : ℕ) → i < k → all_below k f ≡ true → f i ≡ true
unfolding all_below
all_gives zero f i l e = absurd (not-suc-le-zero l)
all_gives (suc k) f i l e =
    let m : i ≤ k = omega arith in
    ⊎_elim (λ p. ap f p ∙ and_right (all_below k f) (f k) e) (λ q. all_gives k f i q (and_left (all_below k f) (f k) e)) (eq-or-lt_of_le m)

-- what holds of each holds of all
pub all_if : (k : ℕ) (f : ℕ → Bool) → ((i : ℕ) → i < k → f i ≡ true) → all_below k f ≡ true
unfolding all_below
all_if zero f h = refl
all_if (suc k) f h = rw (all_if k f (λ i l. h i (omega arith)), h k (omega arith))

pub all_ext : (k : ℕ) (f g : ℕ → Bool) → ((i : ℕ) → i < k → f i ≡ g i) → all_below k f ≡ all_below k g
unfolding all_below
all_ext zero f g h = refl
all_ext (suc k) f g h = rw (all_ext k f g (λ i l. h i (omega arith)), h k (omega arith))

pub every_append : {A : Type 0} (f : A → Bool) (xs ys : List A) → every f (xs ++ ys) ≡ (every f xs && every f ys)
every_append f [] ys = refl
every_append f (x ∷ xs) ys = rw (every_append f xs ys, and_assoc)

-- a test made of several, grouped to the right

abbrev pub conj : Bool → List Bool → Bool
conj b [] = b
conj b (c ∷ cs) = b && conj c cs

pub conj_gives : (b : Bool) (bs : List Bool) → conj b bs ≡ true → All (λ (x : Bool). x ≡ true) (b ∷ bs)
conj_gives b [] h = (h, tt)
conj_gives b (c ∷ cs) h = (and_left b (conj c cs) h, conj_gives c cs (and_right b (conj c cs) h))

pub conj_if : (b : Bool) (bs : List Bool) → All (λ (x : Bool). x ≡ true) (b ∷ bs) → conj b bs ≡ true
conj_if b [] h = h.0
conj_if b (c ∷ cs) h = rw h.0 (conj_if c cs h.1)

-- how many of a list pass a test on what f gives of them, as a chain over the list counts them
pub filter_select : {A B : Type 0} (p : B → Bool) (f : A → B) (xs : List A) → length (filter (λ (x : A). p (f x)) xs) ≡ length (select p (map f xs))
filter_select p f [] = refl
filter_select {A} p f (x ∷ xs) = go (p (f x)) (filter_select p f xs)
  where
    go : (t : Bool) → length (filter (λ (y : A). p (f y)) xs) ≡ length (select p (map f xs))
        → length (cond t (x ∷ filter (λ (y : A). p (f y)) xs) (filter (λ (y : A). p (f y)) xs)) ≡ length (cond t (f x ∷ select p (map f xs)) (select p (map f xs)))
    go true e = ap suc e
    go false e = e
