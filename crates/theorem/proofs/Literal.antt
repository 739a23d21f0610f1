-- The log worked out entry by entry is the log read word for word, and its list of held keys is the one that the text means.
use Prim.Native.Nat.{ℕ, suc, ◌≤◌, ◌<◌}
use native.Mathlib.Omega.{arith}
use mathlib.Core.Path.{◌≡◌, refl, sym, ap, ap₂, ◌∙◌, subst, subst⁻¹}
use mathlib.Core.Bool.{Bool, true, false, cond, ◌&&◌, ◌||◌}
use mathlib.Core.List.{List, [], ◌∷◌, ◌++◌, reverse, reverse_aux}
use mathlib.Core.Option.{Option, none, some}
use lib.ListN.{length}
use Rattle.model.specs.Base.{same, given}
use Rattle.model.specs.Value.{Value}
use Rattle.model.specs.Node.{Node, Ending, EndedPending}
use Rattle.model.specs.Table.{Settings, Answer}
use Rattle.laws.proofs.Tests.{same_self, same_true, same_sym, clash, cases, split, or_first, or_second, or_rest}
use Rattle.table_log.specs.Log.{Entry, Log, Naming, Role, role, is_refused, answers_failed, answers_removed, answers_inserted, Event, held_now, ending_events, record_events, load_events, own_events, events, given_of, load_given, now_given, now_settings, held_order, last_placement, no_value, log_of, without}
use Rattle.theorem.proofs.Fold.{mem, with_held, depart, place, evict, enter_ending, enter_records, at_given, gave_by, enter_loaded, enter_role, enter, read_from, fold_of}
use Rattle.theorem.proofs.Keys.{Distinct, mem_append, mem_without, mem_without_other, distinct_without, distinct_placed}
use Rattle.theorem.proofs.Steps.{own_settings}
use Rattle.theorem.proofs.Load.{load_settings}

-- The list that `held_order` makes is the one that the text means: the keys that are held, ..
pub order_held : (k : ℕ) (es : List Event) → mem k (held_order es) ≡ held_now k es
order_held k [] = refl
order_held k (Event.placement x ∷ es) =
    mem_append k (without x (held_order es)) (x ∷ [])
    ∙ split (same x k)
    (λ e. rw e (or_second (mem k (without x (held_order es))) true refl))
    (λ e. rw (mem_without_other x k (held_order es) (same_sym k x ∙ e), order_held k es, e) (split (held_now k es) (λ q. rw q) (λ q. rw q)))
order_held k (Event.departure x ∷ es) =
    split (same x k)
    (λ e. rw (e, ← same_true x k e) (mem_without x (held_order es)))
    (λ e. rw (mem_without_other x k (held_order es) (same_sym k x ∙ e), order_held k es, e))

-- .. each once, ..
pub order_distinct : (es : List Event) → Distinct (held_order es)
order_distinct [] = tt
order_distinct (Event.placement x ∷ es) = distinct_placed x (held_order es) (order_distinct es)
order_distinct (Event.departure x ∷ es) = distinct_without x (held_order es) (order_distinct es)

-- each key's number is below those of the keys after it
abbrev pub Ascending : (ℕ → ℕ) → List ℕ → Type 0
Ascending f [] = Unit {0}
Ascending f (x ∷ xs) = ((y : ℕ) → mem y xs ≡ true → f x < f y) × Ascending f xs

mem_of_without : (k y : ℕ) (xs : List ℕ) → mem y (without k xs) ≡ true → mem y xs ≡ true
mem_of_without k y xs h = split (same y k) (λ e. clash h (rw (same_true y k e) (mem_without k xs))) (λ e. sym (mem_without_other k y xs e) ∙ h)

ascending_without : (f : ℕ → ℕ) (k : ℕ) (xs : List ℕ) → Ascending f xs → Ascending f (without k xs)
ascending_without f k [] a = tt
ascending_without f k (x ∷ xs) a = cases (Ascending f) (same x k) (λ e. ascending_without f k xs a.1) (λ e. (λ y h. a.0 y (mem_of_without k y xs h), ascending_without f k xs a.1))

ascending_change : (f g : ℕ → ℕ) (xs : List ℕ) → ((y : ℕ) → mem y xs ≡ true → g y ≡ f y) → Ascending f xs → Ascending g xs
ascending_change f g [] h a = tt
ascending_change f g (x ∷ xs) h a =
    let hx : g x ≡ f x = h x (or_first (same x x) _ (same_self x)) in (
      λ y m. let hy : g y ≡ f y = h y (or_second (same x y) _ m) in let z = a.0 y m in omega arith,
      ascending_change f g xs (λ y m. h y (or_second (same x y) _ m)) a.1,
    )

ascending_last : (f : ℕ → ℕ) (k : ℕ) (xs : List ℕ) → Ascending f xs → ((y : ℕ) → mem y xs ≡ true → f y < f k) → Ascending f (xs ++ (k ∷ []))
ascending_last f k [] a h = (λ y m. clash m refl, tt)
ascending_last f k (x ∷ xs) a h = (
  λ y m. split (mem y xs) (λ q. a.0 y q)
      (λ q. let e : same k y ≡ true = last_mem k y (or_rest (mem y xs) _ (sym (mem_append y xs (k ∷ [])) ∙ m) q) in
      subst (λ (z : ℕ). f x < f z) (same_true k y e) (h x (or_first (same x x) _ (same_self x)))),
  ascending_last f k xs a.1 (λ y m. h y (or_second (same x y) _ m)),
)
  where
    last_mem : (k y : ℕ) → (same k y || false) ≡ true → same k y ≡ true
    last_mem k y m = split (same k y) (λ e. e) (λ e. clash (or_rest (same k y) false m e) refl)

last_bound : (k : ℕ) (es : List Event) → last_placement k es ≤ length es
last_bound k [] = omega arith
last_bound k (Event.placement x ∷ es) = let z = last_bound k es in split (same x k) (λ e. rw e (omega arith)) (λ e. rw e (omega arith))
last_bound k (Event.departure x ∷ es) = let z = last_bound k es in omega arith

-- .. in the order of last placements ..
pub order_ascending : (es : List Event) → Ascending (λ (k : ℕ). last_placement k es) (held_order es)
order_ascending [] = tt
order_ascending (Event.placement x ∷ es) =
    let f : ℕ → ℕ = λ k. last_placement k es in
    let g : ℕ → ℕ = λ k. last_placement k (Event.placement x ∷ es) in
    let other : (y : ℕ) → mem y (without x (held_order es)) ≡ true → g y ≡ f y =
    λ y m. let e : same x y ≡ false = split (same x y) (λ q. clash m (rw (← same_true x y q) (mem_without x (held_order es)))) (λ q. q) in rw e in
    let top : g x ≡ suc (length es) = rw (same_self x) in
    ascending_last g x (without x (held_order es)) (ascending_change f g (without x (held_order es)) other (ascending_without f x (held_order es) (order_ascending es)))
    (λ y m. let p = other y m in let q = last_bound y es in omega arith)
order_ascending (Event.departure x ∷ es) = ascending_without (λ (k : ℕ). last_placement k es) x (held_order es) (order_ascending es)

-- .. and there is no other: two lists with the same keys, both ascending, are one
ascending_self : (f : ℕ → ℕ) (x : ℕ) (xs : List ℕ) → ((y : ℕ) → mem y xs ≡ true → f x < f y) → mem x xs ≡ false
ascending_self f x xs a = split (mem x xs) (λ m. absurd (let z = a x m in omega arith)) (λ m. m)

pub ascending_unique : (f : ℕ → ℕ) (xs ys : List ℕ) → Ascending f xs → Ascending f ys → ((k : ℕ) → mem k xs ≡ mem k ys) → xs ≡ ys
ascending_unique f [] [] a b h = refl
ascending_unique f [] (y ∷ ys) a b h = clash (h y ∙ or_first (same y y) _ (same_self y)) refl
ascending_unique f (x ∷ xs) [] a b h = clash (sym (h x) ∙ or_first (same x x) _ (same_self x)) refl
ascending_unique f (x ∷ xs) (y ∷ ys) a b h =
    let e : x ≡ y = split (same x y) (λ q. same_true x y q)
    (λ q. absurd (
    let p = a.0 y (or_rest (same x y) _ (h y ∙ or_first (same y y) _ (same_self y)) q) in
    let r = b.0 x (or_rest (same y x) _ (sym (h x) ∙ or_first (same x x) _ (same_self x)) (same_sym y x ∙ q)) in omega arith)) in
    let b' : (z : ℕ) → mem z ys ≡ true → f x < f z = λ z m. subst⁻¹ (λ (w : ℕ). f w < f z) e (b.0 z m) in
    let rest : (k : ℕ) → mem k xs ≡ mem k ys = λ k. split (same x k)
    (λ q. subst (λ (w : ℕ). mem w xs ≡ mem w ys) (same_true x k q) (ascending_self f x xs a.0 ∙ sym (ascending_self f x ys b')))
    (λ q. ap (λ (t : Bool). t || mem k xs) (sym q) ∙ h k ∙ ap (λ (t : Bool). t || mem k ys) (ap (λ (w : ℕ). same w k) (sym e) ∙ q)) in
    ap₂ (λ (z : ℕ) (zs : List ℕ). z ∷ zs) e (ascending_unique f xs ys a.1 b.1 rest)

both : {A B C : Type 0} (f : A → C) (g : B → C) (t : Bool) (x y : A) (x' y' : B) → f x ≡ g x' → f y ≡ g y' → f (cond t x y) ≡ g (cond t x' y')
both f g true x y x' y' p q = p
both f g false x y x' y' p q = q

ending_held : (k : ℕ) (d : Ending) (l : Log) (es : List Event) → l.held ≡ held_order es → (enter_ending k d l).held ≡ held_order (ending_events k d es)
ending_held k (Ending.Placed none) l es e = ap (λ (xs : List ℕ). without k xs ++ (k ∷ [])) e
ending_held k (Ending.Placed (some n)) l es e = ap (λ (xs : List ℕ). without k (without n.key xs) ++ (k ∷ [])) e
ending_held k Ending.FirstConnected l es e = e
ending_held k Ending.BucketFilter l es e = e
ending_held k Ending.TooManyIncoming l es e = e
ending_held k Ending.Inserted l es e = e
ending_held k Ending.FirstConfirmed l es e = e

records_held : (rs : List EndedPending) (l : Log) (es : List Event) → l.held ≡ held_order es → (enter_records rs l).held ≡ held_order (record_events rs es)
records_held [] l es e = e
records_held (r ∷ rs) l es e =
    records_held rs (enter_ending r.key r.ending l) (ending_events r.key r.ending es) (ending_held r.key r.ending l es e)

-- records change the held keys and nothing else
records_given : {A : Type 0} (f : Log → A) → ((l : Log) (ks : List ℕ) → f (with_held ks l) ≡ f l) → (rs : List EndedPending) (l : Log) → f (enter_records rs l) ≡ f l
records_given f h [] l = refl
records_given f h (r ∷ rs) l =
    records_given f h rs (enter_ending r.key r.ending l) ∙ go r.ending
  where
    placed : (o : Option Node) → f (evict o l) ≡ f l
    placed none = refl
    placed (some n) = h l (without n.key l.held)

    go : (d : Ending) → f (enter_ending r.key d l) ≡ f l
    go (Ending.Placed o) = h (evict o l) (without r.key (evict o l).held ++ (r.key ∷ [])) ∙ placed o
    go Ending.FirstConnected = refl
    go Ending.BucketFilter = refl
    go Ending.TooManyIncoming = refl
    go Ending.Inserted = refl
    go Ending.FirstConfirmed = refl

cond_or : {A : Type 0} (f r : Bool) (x y : A) → cond (f || r) x y ≡ cond f x (cond r x y)
cond_or true r x y = refl
cond_or false r x y = refl

load_held : (ns : List Node) (l : Log) (es : List Event) → l.held ≡ held_order es → (enter_loaded ns l).held ≡ held_order (load_events ns es)
load_held [] l es e = e
load_held (n ∷ ns) l es e =
    load_held ns (place n.key (gave_by n.key (given_of n) l)) (Event.placement n.key ∷ es) (ap (λ (xs : List ℕ). without n.key xs ++ (n.key ∷ [])) e)

role_held : (ro : Role) (a : Answer) (l : Log) (es : List Event) → l.held ≡ held_order es → (enter_role ro a l).held ≡ held_order (own_events ro a es)
role_held (Role.names k n) a l es e =
    let t : mem k l.held ≡ held_now k es = ap (mem k) e ∙ order_held k es in
    let g : Log = gave_by k n l in
    let p : List Event = cond (answers_inserted a || (n.status_step && held_now k es)) (Event.placement k ∷ es) es in
    ap (λ (q : Bool). (cond (answers_failed a) (depart k l) (cond (answers_removed a) (depart k g) (cond (answers_inserted a || (n.status_step && q)) (place k g) g))).held) t
    ∙ both (λ (m : Log). m.held) held_order (answers_failed a) (depart k l) _ (Event.departure k ∷ es) _ (ap (without k) e)
    (both (λ (m : Log). m.held) held_order (answers_removed a) (depart k g) _ (Event.departure k ∷ es) p (ap (without k) e)
    (both (λ (m : Log). m.held) held_order (answers_inserted a || (n.status_step && held_now k es)) (place k g) g (Event.placement k ∷ es) es (ap (λ (xs : List ℕ). without k xs ++ (k ∷ [])) e) e))
    ∙ ap held_order (sym (cond_or (answers_failed a) (answers_removed a) (Event.departure k ∷ es) p))
role_held (Role.empties s) a l es e = refl
role_held (Role.loads ns) a l es e = load_held ns l es e
role_held Role.silent a l es e = e

given_at : {A : Type 0} (k x : ℕ) (o : Option A) (f : ℕ → A) → at_given k o f x ≡ cond (same x k) (given o (f x)) (f x)
given_at k x none f = split (same x k) (λ e. rw e) (λ e. rw e)
given_at k x (some a) f = refl

-- one field f of what the log says of the key x; o: what the call gives of it
names_given : {A : Type 0} (f : Log → ℕ → A) (k : ℕ) (n : Naming) (o : Option A) (a : Answer) (l : Log) (x : ℕ)
    → ((m : Log) (ks : List ℕ) → f (with_held ks m) ≡ f m) → f (gave_by k n l) ≡ at_given k o (f l)
    → f (enter_role (Role.names k n) a l) x ≡ cond (answers_failed a) (f l x) (cond (same x k) (given o (f l x)) (f l x))
names_given f k n o a l x h g =
    let y = cond (same x k) (given o (f l x)) (f l x) in
    let p : f (gave_by k n l) x ≡ y = ap (λ (q : ℕ → _). q x) g ∙ given_at k x o (f l) in
    let kept : (ks : List ℕ) → f (with_held ks (gave_by k n l)) x ≡ y = λ ks. ap (λ (q : ℕ → _). q x) (h (gave_by k n l) ks) ∙ p in
    both (λ (m : Log). f m x) (λ z. z) (answers_failed a) (depart k l) _ (f l x) y (ap (λ (q : ℕ → _). q x) (h l (without k l.held)))
    (cases (λ (m : Log). f m x ≡ y) (answers_removed a) (λ _. kept _)
    (λ _. cases (λ (m : Log). f m x ≡ y) (answers_inserted a || (n.status_step && mem k l.held)) (λ _. kept _) (λ _. p)))

load_given_lem : {A : Type 0} (f : Log → ℕ → A) (pick : Naming → Option A) → ((m : Log) (ks : List ℕ) → f (with_held ks m) ≡ f m)
    → ((k : ℕ) (n : Naming) (m : Log) → f (gave_by k n m) ≡ at_given k (pick n) (f m)) → (ns : List Node) (l : Log) (x : ℕ)
    → f (enter_loaded ns l) x ≡ load_given pick ns x (f l x)
load_given_lem f pick h g [] l x = refl
load_given_lem f pick h g (n ∷ ns) l x =
    let m : Log = gave_by n.key (given_of n) l in
    load_given_lem f pick h g ns (place n.key m) x
    ∙ ap (load_given pick ns x) (ap (λ (q : ℕ → _). q x) (h m (without n.key m.held ++ (n.key ∷ [])) ∙ g n.key (given_of n) l) ∙ given_at n.key x (pick (given_of n)) (f l))

role_connected : (ro : Role) (a : Answer) (l : Log) (x : ℕ)
    → (enter_role ro a l).connected x ≡ now_given (λ n. n.connected) false ro a x (l.connected x)
role_connected (Role.names k n) a l x = names_given (λ (m : Log). m.connected) k n n.connected a l x (λ m ks. refl) refl
role_connected (Role.empties s) a l x = refl
role_connected (Role.loads ns) a l x = load_given_lem (λ (m : Log). m.connected) (λ (n : Naming). n.connected) (λ m ks. refl) (λ k n m. refl) ns l x
role_connected Role.silent a l x = refl

role_incoming : (ro : Role) (a : Answer) (l : Log) (x : ℕ)
    → (enter_role ro a l).incoming x ≡ now_given (λ n. n.incoming) false ro a x (l.incoming x)
role_incoming (Role.names k n) a l x = names_given (λ (m : Log). m.incoming) k n n.incoming a l x (λ m ks. refl) refl
role_incoming (Role.empties s) a l x = refl
role_incoming (Role.loads ns) a l x = load_given_lem (λ (m : Log). m.incoming) (λ (n : Naming). n.incoming) (λ m ks. refl) (λ k n m. refl) ns l x
role_incoming Role.silent a l x = refl

role_value : (ro : Role) (a : Answer) (l : Log) (x : ℕ)
    → (enter_role ro a l).value x ≡ now_given (λ n. n.value) no_value ro a x (l.value x)
role_value (Role.names k n) a l x = names_given (λ (m : Log). m.value) k n n.value a l x (λ m ks. refl) refl
role_value (Role.empties s) a l x = refl
role_value (Role.loads ns) a l x = load_given_lem (λ (m : Log). m.value) (λ (n : Naming). n.value) (λ m ks. refl) (λ k n m. refl) ns l x
role_value Role.silent a l x = refl

role_settings : (ro : Role) (a : Answer) (l : Log) → (enter_role ro a l).settings ≡ now_settings ro l.settings
role_settings (Role.names k n) a l = own_settings k n.status_step a l (gave_by k n l) refl
role_settings (Role.empties s) a l = refl
role_settings (Role.loads ns) a l = load_settings ns l
role_settings Role.silent a l = refl

pub enter_literal : (e : Entry) (h : List Entry) → enter e.call e.answer e.records (log_of h) ≡ log_of (e ∷ h)
unfolding enter
enter_literal e h =
    let l : Log = log_of h in
    let a : Answer = e.answer in
    let t : Bool = is_refused e.answer in
    let r : Log = enter_records e.records l in
    let ro : Role = role e.call in
    λ j. record {
      settings = both (λ (m : Log). m.settings) (λ (x : Settings). x) t l (enter_role ro a r) l.settings (now_settings ro l.settings) refl
          (role_settings ro a r ∙ ap (now_settings ro) (records_given (λ (m : Log). m.settings) (λ m ks. refl) e.records l)) j;
      held = both (λ (m : Log). m.held) held_order t l (enter_role ro a r) (events h) (own_events ro a (record_events e.records (events h))) refl
          (role_held ro a r (record_events e.records (events h)) (records_held e.records l (events h) refl)) j;
      connected = λ x. both (λ (m : Log). m.connected x) (λ (b : Bool). b) t l (enter_role ro a r) (l.connected x) (now_given (λ n. n.connected) false ro a x (l.connected x)) refl
          (role_connected ro a r x ∙ ap (now_given (λ n. n.connected) false ro a x) (records_given (λ (m : Log). m.connected x) (λ m ks. refl) e.records l)) j;
      incoming = λ x. both (λ (m : Log). m.incoming x) (λ (b : Bool). b) t l (enter_role ro a r) (l.incoming x) (now_given (λ n. n.incoming) false ro a x (l.incoming x)) refl
          (role_incoming ro a r x ∙ ap (now_given (λ n. n.incoming) false ro a x) (records_given (λ (m : Log). m.incoming x) (λ m ks. refl) e.records l)) j;
      value = λ x. both (λ (m : Log). m.value x) (λ (b : Value). b) t l (enter_role ro a r) (l.value x) (now_given (λ n. n.value) no_value ro a x (l.value x)) refl
          (role_value ro a r x ∙ ap (now_given (λ n. n.value) no_value ro a x) (records_given (λ (m : Log). m.value x) (λ m ks. refl) e.records l)) j;
    }

read_literal : (es h : List Entry) → read_from (log_of h) es ≡ log_of (reverse_aux es h)
read_literal [] h = refl
read_literal (e ∷ es) h = ap (λ (l : Log). read_from l es) (enter_literal e h) ∙ read_literal es (e ∷ h)

pub fold_literal : (es : List Entry) → fold_of es ≡ log_of (reverse es)
fold_literal es = read_literal es []
