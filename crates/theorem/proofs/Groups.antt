-- Laws of `collect`: the nodes of the held keys that pass a test, in the keys' order.
use Prim.Native.Nat.{ℕ}
use mathlib.Core.Path.{◌≡◌, refl, sym, ap, ap₂, ◌∙◌}
use mathlib.Core.Bool.{Bool, true, false, cond, ◌&&◌}
use mathlib.Core.List.{List, [], ◌∷◌, ◌++◌}
use mathlib.Core.Option.{none, some}
use native.Mathlib.Omega.{arith}
use Rattle.model.specs.Base.{same}
use Rattle.model.specs.Value.{Value}
use Rattle.model.specs.Node.{Node, with_value}
use Rattle.model.specs.Bucket.{find, omit, revalue}
use Rattle.laws.proofs.Tests.{same_true, same_of, cases, split}
use Rattle.table_log.specs.Log.{collect, without}
use Rattle.theorem.proofs.Fold.{mem}
use Rattle.theorem.proofs.Keys.{Distinct, without_absent}

-- f k is a node of key k
abbrev pub Keyed : (ℕ → Node) → Type 0
Keyed f = (k : ℕ) → (f k).key ≡ k

pub collect_append : (p : ℕ → Bool) (f : ℕ → Node) (xs ys : List ℕ) → collect p f (xs ++ ys) ≡ collect p f xs ++ collect p f ys
collect_append p f [] ys = refl
collect_append p f (x ∷ xs) ys = split (p x) (λ e. rw e (ap (λ (ns : List Node). f x ∷ ns) (collect_append p f xs ys))) (λ e. rw e (collect_append p f xs ys))

-- a change at one key is not seen where that key is taken take_out
pub collect_other : (p p' : ℕ → Bool) (f f' : ℕ → Node) (k : ℕ) (xs : List ℕ)
    → ((x : ℕ) → same x k ≡ false → p' x ≡ p x) → ((x : ℕ) → same x k ≡ false → f' x ≡ f x)
    → collect p' f' (without k xs) ≡ collect p f (without k xs)
collect_other p p' f f' k [] hp hf = refl
collect_other p p' f f' k (x ∷ xs) hp hf =
    cases (λ (ys : List ℕ). collect p' f' ys ≡ collect p f ys) (same x k) (λ e. collect_other p p' f f' k xs hp hf)
    (λ e. rw (hp x e, hf x e, collect_other p p' f f' k xs hp hf))

-- to take a key take_out of the log is to take its node take_out of the group
pub collect_without : (p : ℕ → Bool) (f : ℕ → Node) → Keyed f → (k : ℕ) (xs : List ℕ) → collect p f (without k xs) ≡ omit k (collect p f xs)
collect_without p f hf k [] = refl
collect_without p f hf k (x ∷ xs) =
    split (same x k)
    (λ e. let e' : same (f x).key k ≡ true = ap (λ (y : ℕ). same y k) (hf x) ∙ e in
    rw e (collect_without p f hf k xs ∙ split (p x) (λ q. rw (q, e')) (λ q. rw q)))
    (λ e. let e' : same (f x).key k ≡ false = ap (λ (y : ℕ). same y k) (hf x) ∙ e in
    rw e (split (p x) (λ q. rw (q, e') (ap (λ (ns : List Node). f x ∷ ns) (collect_without p f hf k xs))) (λ q. rw q (collect_without p f hf k xs))))

-- a key that fails the test is not seen
pub collect_skip : (p : ℕ → Bool) (f : ℕ → Node) (k : ℕ) (xs : List ℕ) → p k ≡ false → collect p f (without k xs) ≡ collect p f xs
collect_skip p f k [] h = refl
collect_skip p f k (x ∷ xs) h =
    split (same x k)
    (λ e. rw e (collect_skip p f k xs h ∙ rw (same_true x k e, h)))
    (λ e. rw e (split (p x) (λ q. rw q (ap (λ (ns : List Node). f x ∷ ns) (collect_skip p f k xs h))) (λ q. rw q (collect_skip p f k xs h))))

pub find_collect : (p : ℕ → Bool) (f : ℕ → Node) → Keyed f → (k : ℕ) (xs : List ℕ) → find k (collect p f xs) ≡ cond (mem k xs && p k) (some (f k)) none
find_collect p f hf k [] = refl
find_collect p f hf k (x ∷ xs) =
    split (same x k)
    (λ e. let e' : same (f x).key k ≡ true = ap (λ (y : ℕ). same y k) (hf x) ∙ e in
    let xk = same_true x k e in
    split (p x)
    (λ q. rw (q, e', e, ← xk, q))
    (λ q. rw (q, find_collect p f hf k xs, e, ← xk, q) (split (mem x xs) (λ m. rw m) (λ m. rw m))))
    (λ e. let e' : same (f x).key k ≡ false = ap (λ (y : ℕ). same y k) (hf x) ∙ e in
    split (p x) (λ q. rw (q, e', e) (find_collect p f hf k xs)) (λ q. rw (q, e) (find_collect p f hf k xs)))

pub nil_cons : (d : Node) (ds : List Node) → ◌≡◌ {A = List Node} [] (d ∷ ds) → ⊥
nil_cons d ds h = let z : ◌≡◌ {A = ℕ} 0 1 = cc in omega arith

pub head_path : (a b : Node) (s t : List Node) → a ∷ s ≡ b ∷ t → a ≡ b
head_path a b s t h = cc

pub tail_path : (a b : Node) (s t : List Node) → a ∷ s ≡ b ∷ t → s ≡ t
tail_path a b s t h = cc

-- the first node of a group: its key passes, and without it the rest is left
pub collect_head : (p : ℕ → Bool) (f : ℕ → Node) → Keyed f → (d : Node) (ds : List Node) (xs : List ℕ) → collect p f xs ≡ d ∷ ds → (p d.key ≡ true) × (d ≡ f d.key)
collect_head p f hf d ds [] h = absurd (nil_cons d ds h)
collect_head p f hf d ds (x ∷ xs) h =
    split (p x)
    (λ q. let e : f x ≡ d = head_path (f x) d (collect p f xs) ds (rw q at h) in
    let k : d.key ≡ x = ap (λ (n : Node). n.key) (sym e) ∙ hf x in
    (ap p k ∙ q, sym e ∙ ap f (sym k)))
    (λ q. collect_head p f hf d ds xs (rw q at h))

pub collect_tail : (p : ℕ → Bool) (f : ℕ → Node) → Keyed f → (d : Node) (ds : List Node) (xs : List ℕ) → Distinct xs → collect p f xs ≡ d ∷ ds → collect p f (without d.key xs) ≡ ds
collect_tail p f hf d ds [] u h = absurd (nil_cons d ds h)
collect_tail p f hf d ds (x ∷ xs) u h =
    split (p x)
    (λ q. let e : f x ≡ d = head_path (f x) d (collect p f xs) ds (rw q at h) in
    let k : x ≡ d.key = sym (hf x) ∙ ap (λ (n : Node). n.key) e in
    let g : mem d.key xs ≡ false = ap (λ (y : ℕ). mem y xs) (sym k) ∙ u.0 in
    rw (same_of x d.key k, without_absent d.key xs g) (tail_path (f x) d (collect p f xs) ds (rw q at h)))
    (λ q. let r : collect p f (without d.key xs) ≡ ds = collect_tail p f hf d ds xs u.1 (rw q at h) in
    split (same x d.key) (λ e. rw e r) (λ e. rw (e, q) r))

-- a value changed in place, at a key
pub collect_revalue : (p : ℕ → Bool) (f f' : ℕ → Node) (k : ℕ) (v : Value) → Keyed f → f' k ≡ with_value v (f k) → ((x : ℕ) → same x k ≡ false → f' x ≡ f x)
    → (xs : List ℕ) → collect p f' xs ≡ revalue k v (collect p f xs)
collect_revalue p f f' k v hf hk ho [] = refl
collect_revalue p f f' k v hf hk ho (x ∷ xs) =
    let ih : collect p f' xs ≡ revalue k v (collect p f xs) = collect_revalue p f f' k v hf hk ho xs in
    split (p x)
    (λ q. rw q (ap₂ (λ (n : Node) (ns : List Node). n ∷ ns)
    (split (same x k)
    (λ e. rw (ap (λ (y : ℕ). same y k) (hf x) ∙ e) (ap f' (same_true x k e) ∙ hk ∙ ap (λ (y : ℕ). with_value v (f y)) (sym (same_true x k e))))
    (λ e. rw (ap (λ (y : ℕ). same y k) (hf x) ∙ e) (ho x e)))
    ih))
    (λ q. rw q ih)
