-- Entries of refused calls are not heard: neither the log nor the counts of pendings read them.
use Prim.Native.Nat.{ℕ}
use mathlib.Core.Path.{◌≡◌, refl, sym, ap, ◌∙◌}
use mathlib.Core.Bool.{Bool, cond, not}
use mathlib.Core.List.{List, [], ◌∷◌, reverse, reverse_aux}
use Rattle.model.specs.Base.{select}
use Rattle.laws.proofs.Tests.{split}
use Rattle.table_log.specs.Log.{Entry, Log, role, is_refused}
use Rattle.table_log.specs.Pending.{since_made, count_of}
use Rattle.theorem.proofs.Fold.{enter_records, enter_role, enter, read_from}

abbrev pub heard : List Entry → List Entry
heard es = select (λ (e : Entry). not (is_refused e.answer)) es

-- one more entry, oldest first, before what is heard
abbrev pub heard_on : Entry → List Entry → List Entry
heard_on e es = cond (not (is_refused e.answer)) (e ∷ es) es

read_heard : (es : List Entry) (l : Log) → read_from l (heard es) ≡ read_from l es
unfolding enter
read_heard [] l = refl
read_heard (e ∷ es) l =
    split (is_refused e.answer)
    (λ r. ap (λ (b : Bool). read_from l (cond (not b) (e ∷ heard es) (heard es))) r ∙ read_heard es l
    ∙ ap (λ (b : Bool). read_from (cond b l (enter_role (role e.call) e.answer (enter_records e.records l))) es) (sym r))
    (λ r. ap (λ (b : Bool). read_from l (cond (not b) (e ∷ heard es) (heard es))) r ∙ read_heard es (enter e.call e.answer e.records l))

pub log_heard : (es es' : List Entry) (l : Log) → heard es ≡ heard es' → read_from l es ≡ read_from l es'
log_heard es es' l e = sym (read_heard es l) ∙ ap (read_from l) e ∙ read_heard es' l

-- a count goes on from the count before
count_on : (f : Entry → ℕ) (es h h' : List Entry) → count_of f h ≡ count_of f h' → count_of f (reverse_aux es h) ≡ count_of f (reverse_aux es h')
count_on f [] h h' e = e
count_on f (x ∷ es) h h' e = count_on f es (x ∷ h) (x ∷ h') (ap (λ (n : ℕ). cond (is_refused x.answer) n (since_made (role x.call) (f x) n)) e)

count_from : (f : Entry → ℕ) (es h : List Entry) → count_of f (reverse_aux (heard es) h) ≡ count_of f (reverse_aux es h)
count_from f [] h = refl
count_from f (x ∷ es) h =
    split (is_refused x.answer)
    (λ r. ap (λ (b : Bool). count_of f (reverse_aux (cond (not b) (x ∷ heard es) (heard es)) h)) r ∙ count_from f es h
    ∙ count_on f es h (x ∷ h) (sym (ap (λ (b : Bool). cond b (count_of f h) (since_made (role x.call) (f x) (count_of f h))) r)))
    (λ r. ap (λ (b : Bool). count_of f (reverse_aux (cond (not b) (x ∷ heard es) (heard es)) h)) r ∙ count_from f es (x ∷ h))

pub count_heard : (f : Entry → ℕ) (es es' : List Entry) → heard es ≡ heard es' → count_of f (reverse es) ≡ count_of f (reverse es')
count_heard f es es' e = sym (count_from f es []) ∙ ap (λ (xs : List Entry). count_of f (reverse xs)) e ∙ count_from f es' []
