-- Laws of the lists of nodes that the bucket's rules build: one more node, a key taken out, another value in its place.
use Prim.Native.Nat.{ℕ, suc, ◌+◌, ◌≤◌, ◌<◌}
use native.Mathlib.Omega.{arith}
use mathlib.Core.Path.{◌≡◌, refl, sym, ap, ◌∙◌, subst, subst⁻¹}
use mathlib.Core.Bool.{Bool, true, false, cond, not}
use mathlib.Core.List.{List, [], ◌∷◌, ◌++◌, append-nil, append_assoc}
use mathlib.Core.Option.{Option, none, some}
use lib.ListN.{length, length-append}
use Rattle.model.specs.Base.{same, select, is_some}
use Rattle.model.specs.Value.{Value}
use Rattle.model.specs.Node.{Node, connected_incoming, with_value}
use Rattle.model.specs.Bucket.{Bucket, find, or_else, get, holds, nodes, only, omit, revalue, incoming_nodes}
use Rattle.model.specs.Fits.{All, Opt, Different}
use Rattle.laws.proofs.All.{all_insert}
use Rattle.laws.proofs.Tests.{same_true, same_of, clash, cases, split, same_sym}

-- no node of the list has the key
abbrev pub Without : ℕ → List Node → Type 0
Without k = All (λ (m : Node). same m.key k ≡ false)

pub different_insert : (n : Node) (xs ys : List Node) → Without n.key (xs ++ ys) → Different (xs ++ ys) → Different (xs ++ (n ∷ ys))
different_insert n [] ys a d = (a, d)
different_insert n (x ∷ xs) ys a d = (
  all_insert (λ (m : Node). same m.key x.key ≡ false) n xs ys (same_sym n.key x.key ∙ a.0) d.0,
  different_insert n xs ys a.1 d.1,
)

-- a node that a bucket places stands behind some of its nodes and before the others
pub put_between : (Q : List Node → Type 0) (u : Bool) (n : Node) (ds cs : List Node) → ((xs ys : List Node) → xs ++ ys ≡ ds ++ cs → Q (xs ++ (n ∷ ys)))
    → Q ((ds ++ only (not u) n) ++ (cs ++ only u n))
put_between Q true n ds cs h =
    subst⁻¹ (λ (l : List Node). Q (l ++ (cs ++ (n ∷ [])))) (append-nil ds) (subst Q (append_assoc ds cs (n ∷ [])) (h (ds ++ cs) [] (append-nil (ds ++ cs))))
put_between Q false n ds cs h =
    subst⁻¹ (λ (l : List Node). Q ((ds ++ (n ∷ [])) ++ l)) (append-nil cs) (subst⁻¹ Q (append_assoc ds (n ∷ []) cs) (h ds cs refl))

-- one more, if the test holds
abbrev pub more : Bool → ℕ → ℕ
more t n = cond t (suc n) n

more_swap : (s t : Bool) (n : ℕ) → more s (more t n) ≡ more t (more s n)
more_swap true true n = refl
more_swap true false n = refl
more_swap false true n = refl
more_swap false false n = refl

length_cond : {A : Type 0} (t : Bool) (x : A) (xs : List A) → length (cond t (x ∷ xs) xs) ≡ more t (length xs)
length_cond true x xs = refl
length_cond false x xs = refl

length_cond_le : {A : Type 0} (t : Bool) (x : A) (xs : List A) → length xs ≤ length (cond t (x ∷ xs) xs)
length_cond_le true x xs = omega arith
length_cond_le false x xs = omega arith

length_cond_mono : {A : Type 0} (t : Bool) (x y : A) (xs ys : List A) → length xs ≤ length ys → length (cond t (x ∷ xs) xs) ≤ length (cond t (y ∷ ys) ys)
length_cond_mono true x y xs ys h = omega arith
length_cond_mono false x y xs ys h = h

-- the number of elements that pass a test, with one more element
pub length_select_insert : {A : Type 0} (p : A → Bool) (a : A) (xs ys : List A) → length (select p (xs ++ (a ∷ ys))) ≡ more (p a) (length (select p (xs ++ ys)))
length_select_insert p a [] ys = length_cond (p a) a (select p ys)
length_select_insert p a (x ∷ xs) ys =
    length_cond (p x) x (select p (xs ++ (a ∷ ys)))
    ∙ ap (more (p x)) (length_select_insert p a xs ys)
    ∙ more_swap (p x) (p a) (length (select p (xs ++ ys)))
    ∙ ap (more (p a)) (sym (length_cond (p x) x (select p (xs ++ ys))))

-- a test, one list after the other
pub select_append : {A : Type 0} (p : A → Bool) (xs ys : List A) → select p (xs ++ ys) ≡ select p xs ++ select p ys
select_append p [] ys = refl
select_append p (x ∷ xs) ys = split (p x) (λ e. rw (e, select_append p xs ys)) (λ e. rw (e, select_append p xs ys))

pub length_select_append : {A : Type 0} (p : A → Bool) (xs ys : List A) → length (select p (xs ++ ys)) ≡ length (select p xs) + length (select p ys)
length_select_append p xs ys = ap length (select_append p xs ys) ∙ length-append (select p xs) (select p ys)

pub length_insert : {A : Type 0} (a : A) (xs ys : List A) → length (xs ++ (a ∷ ys)) ≡ suc (length (xs ++ ys))
length_insert a [] ys = refl
length_insert a (x ∷ xs) ys = ap suc (length_insert a xs ys)

pub more_within : (t : Bool) (m n : ℕ) → (t ≡ true → n < m) → n ≤ m → more t n ≤ m
more_within true m n f h = f refl
more_within false m n f h = h

pub more_mono : (t : Bool) (m n : ℕ) → m ≤ n → more t m ≤ more t n
more_mono true m n h = omega arith
more_mono false m n h = h

-- the number of connected incoming nodes, with the first node away
pub incoming_rest : (n : Node) (ns : List Node) → length (incoming_nodes ns) ≤ length (incoming_nodes (n ∷ ns))
incoming_rest n ns = length_cond_le (connected_incoming n) n (incoming_nodes ns)

-- the key's node among the nodes of a bucket
pub find_append : (k : ℕ) (xs ys : List Node) → find k (xs ++ ys) ≡ or_else (find k xs) (find k ys)
find_append k [] ys = refl
find_append k (x ∷ xs) ys =
    split (same x.key k)
    (λ e. subst⁻¹ (λ (t : Bool). cond t (some x) (find k (xs ++ ys)) ≡ or_else (cond t (some x) (find k xs)) (find k ys)) e refl)
    (λ e. subst⁻¹ (λ (t : Bool). cond t (some x) (find k (xs ++ ys)) ≡ or_else (cond t (some x) (find k xs)) (find k ys)) e (find_append k xs ys))

pub find_insert : (k : ℕ) (n : Node) (xs ys : List Node) → n.key ≡ k → is_some (find k (xs ++ (n ∷ ys))) ≡ true
find_insert k n [] ys e = subst⁻¹ (λ (t : Bool). is_some (cond t (some n) (find k ys)) ≡ true) (same_of n.key k e) refl
find_insert k n (x ∷ xs) ys e = cases (λ (o : Option Node). is_some o ≡ true) (same x.key k) (λ _. refl) (λ _. find_insert k n xs ys e)

pub get_nodes : (k : ℕ) (b : Bucket) → get k b ≡ find k (nodes b)
get_nodes k b = sym (find_append k b.disconnected b.connected)

without_find : (k : ℕ) (ns : List Node) → Without k ns → find k ns ≡ none
without_find k [] h = refl
without_find k (n ∷ ns) h = subst⁻¹ (λ (t : Bool). cond t (some n) (find k ns) ≡ none) h.0 (without_find k ns h.1)

find_without : (k : ℕ) (ns : List Node) → is_some (find k ns) ≡ false → Without k ns
find_without k [] h = tt
find_without k (n ∷ ns) h =
    split (same n.key k)
    (λ e. clash refl (subst (λ (t : Bool). is_some (cond t (some n) (find k ns)) ≡ false) e h))
    (λ e. (e, find_without k ns (subst (λ (t : Bool). is_some (cond t (some n) (find k ns)) ≡ false) e h)))

-- a key is not held exactly when no node of the bucket has it
pub holds_without : (k : ℕ) (b : Bucket) → holds k b ≡ false → Without k (nodes b)
holds_without k b h = find_without k (nodes b) (sym (ap is_some (get_nodes k b)) ∙ h)

pub without_holds : (k : ℕ) (b : Bucket) → Without k (nodes b) → holds k b ≡ false
without_holds k b h = ap is_some (get_nodes k b ∙ without_find k (nodes b) h)

-- the node that is found has the property that every node has
pub all_find : (P : Node → Type 0) (k : ℕ) (ns : List Node) → All P ns → Opt P (find k ns)
all_find P k [] h = tt
all_find P k (n ∷ ns) h = cases (Opt P) (same n.key k) (λ _. h.0) (λ _. all_find P k ns h.1)

-- the node that is found has the key
pub find_key : (k : ℕ) (ns : List Node) → Opt (λ (n : Node). n.key ≡ k) (find k ns)
find_key k [] = tt
find_key k (n ∷ ns) = cases (Opt (λ (m : Node). m.key ≡ k)) (same n.key k) (λ e. same_true n.key k e) (λ _. find_key k ns)

pub get_key : (k : ℕ) (b : Bucket) → Opt (λ (n : Node). n.key ≡ k) (get k b)
get_key k b = subst⁻¹ (Opt (λ (n : Node). n.key ≡ k)) (get_nodes k b) (find_key k (nodes b))

-- a key taken out
pub omit_append : (k : ℕ) (xs ys : List Node) → omit k (xs ++ ys) ≡ omit k xs ++ omit k ys
omit_append k [] ys = refl
omit_append k (x ∷ xs) ys =
    split (same x.key k)
    (λ e. subst⁻¹ (λ (t : Bool). cond t (omit k (xs ++ ys)) (x ∷ omit k (xs ++ ys)) ≡ cond t (omit k xs) (x ∷ omit k xs) ++ omit k ys) e (omit_append k xs ys))
    (λ e. subst⁻¹ (λ (t : Bool). cond t (omit k (xs ++ ys)) (x ∷ omit k (xs ++ ys)) ≡ cond t (omit k xs) (x ∷ omit k xs) ++ omit k ys) e (ap (λ (l : List Node). x ∷ l) (omit_append k xs ys)))

pub all_omit : (P : Node → Type 0) (k : ℕ) (ns : List Node) → All P ns → All P (omit k ns)
all_omit P k [] h = tt
all_omit P k (n ∷ ns) h = cases (All P) (same n.key k) (λ e. all_omit P k ns h.1) (λ e. (h.0, all_omit P k ns h.1))

pub without_omit : (k : ℕ) (ns : List Node) → Without k (omit k ns)
without_omit k [] = tt
without_omit k (n ∷ ns) = cases (Without k) (same n.key k) (λ e. without_omit k ns) (λ e. (e, without_omit k ns))

pub different_omit : (k : ℕ) (ns : List Node) → Different ns → Different (omit k ns)
different_omit k [] d = tt
different_omit k (n ∷ ns) d =
    cases Different (same n.key k) (λ e. different_omit k ns d.1)
    (λ e. (all_omit (λ (m : Node). same m.key n.key ≡ false) k ns d.0, different_omit k ns d.1))

pub length_omit : (k : ℕ) (ns : List Node) → length (omit k ns) ≤ length ns
length_omit k [] = omega arith
length_omit k (n ∷ ns) =
    let h = length_omit k ns in
    cases (λ (l : List Node). length l ≤ suc (length ns)) (same n.key k) (λ e. omega arith) (λ e. omega arith)

pub length_omit_held : (k : ℕ) (ns : List Node) → is_some (find k ns) ≡ true → length (omit k ns) < length ns
length_omit_held k [] h = clash h refl
length_omit_held k (n ∷ ns) h =
    split (same n.key k)
    (λ e. subst⁻¹ (λ (t : Bool). length (cond t (omit k ns) (n ∷ omit k ns)) < suc (length ns)) e (let l = length_omit k ns in omega arith))
    (λ e. subst⁻¹ (λ (t : Bool). length (cond t (omit k ns) (n ∷ omit k ns)) < suc (length ns)) e
    (let l = length_omit_held k ns (subst (λ (t : Bool). is_some (cond t (some n) (find k ns)) ≡ true) e h) in omega arith))

pub incoming_omit : (k : ℕ) (ns : List Node) → length (incoming_nodes (omit k ns)) ≤ length (incoming_nodes ns)
incoming_omit k [] = omega arith
incoming_omit k (n ∷ ns) =
    let h = incoming_omit k ns in
    cases (λ (l : List Node). length (incoming_nodes l) ≤ length (incoming_nodes (n ∷ ns))) (same n.key k)
    (λ e. let g = incoming_rest n ns in omega arith)
    (λ e. length_cond_mono (connected_incoming n) n n (incoming_nodes (omit k ns)) (incoming_nodes ns) h)

-- another value in the key's place
pub revalue_append : (k : ℕ) (v : Value) (xs ys : List Node) → revalue k v (xs ++ ys) ≡ revalue k v xs ++ revalue k v ys
revalue_append k v [] ys = refl
revalue_append k v (x ∷ xs) ys = ap (λ (l : List Node). cond (same x.key k) (with_value v x) x ∷ l) (revalue_append k v xs ys)

pub all_revalue : (P : Node → Type 0) → (k : ℕ) (v : Value) → ((n : Node) → P n → P (with_value v n)) → (ns : List Node) → All P ns → All P (revalue k v ns)
all_revalue P k v f [] h = tt
all_revalue P k v f (n ∷ ns) h = (cases P (same n.key k) (λ e. f n h.0) (λ e. h.0), all_revalue P k v f ns h.1)

pub different_revalue : (k : ℕ) (v : Value) (ns : List Node) → Different ns → Different (revalue k v ns)
different_revalue k v [] d = tt
different_revalue k v (n ∷ ns) d =
    (cases (λ (x : Node). Without x.key (revalue k v ns)) (same n.key k) (λ e. other) (λ e. other), different_revalue k v ns d.1)
  where
    other : Without n.key (revalue k v ns)
    other = all_revalue (λ (m : Node). same m.key n.key ≡ false) k v (λ m e. e) ns d.0

pub length_revalue : (k : ℕ) (v : Value) (ns : List Node) → length (revalue k v ns) ≡ length ns
length_revalue k v [] = refl
length_revalue k v (n ∷ ns) = ap suc (length_revalue k v ns)

pub incoming_revalue : (k : ℕ) (v : Value) (ns : List Node) → length (incoming_nodes (revalue k v ns)) ≡ length (incoming_nodes ns)
incoming_revalue k v [] = refl
incoming_revalue k v (n ∷ ns) =
    let h = incoming_revalue k v ns in
    let rest : more (connected_incoming n) (length (incoming_nodes (revalue k v ns))) ≡ length (incoming_nodes (n ∷ ns)) =
    ap (more (connected_incoming n)) h ∙ sym (length_cond (connected_incoming n) n (incoming_nodes ns)) in
    cases (λ (x : Node). length (incoming_nodes (x ∷ revalue k v ns)) ≡ length (incoming_nodes (n ∷ ns))) (same n.key k)
    (λ e. length_cond (connected_incoming n) (with_value v n) (incoming_nodes (revalue k v ns)) ∙ rest)
    (λ e. length_cond (connected_incoming n) n (incoming_nodes (revalue k v ns)) ∙ rest)
