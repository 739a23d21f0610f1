-- Plain parameters, any number of them, in a walk of a function's MIR.
--     Plain, uint, struct    a parameter of plain data: its Rattle type, its MIR type, its machine value, and their laws
--     slots, rows            the parameters in a signature, and their types
--     passed, Known          the machine values that are passed, and that they are those of the arguments
--     moved                  the arguments as those of a signature with other lifetimes
--     made, kept             what the parameters own, on entry and at exit, made of `Known`
--     telling                a step: what a contract says, from nothing
--     allocates, passes_all, reads_all, frees_all    the steps of a walk: the locals of all the parameters as one entry of the context
use mathlib.Core.Path.{◌≡◌, refl, sym, ◌∙◌, ap, subst}
use Prim.Native.Nat.{ℕ, zero, suc}
use mathlib.Core.List.{[], ◌∷◌, List}
use seplogic.Ra.Ura.{Ura}
use base.Fraction.{full_share}
use lib.Dec.{T as Holds}
use lib.ListN.{get_or}
use mir.Syntax.{Ty, Width, ty_int, Opd as Operand, copy, place, Local, local, value_local, Step as PStep}
use mir.Val.{Val, vint, WT, has_ty}
use base.Logic.{SProp, ent, sep, emp, id⊢, via, comm∗, mono∗, mono_l, emp∗}
use base.Fml.{Fml, ftrue, fsep, fat, froom, fdies}
use prog.Wp.{Heap, Env, Spot, no_local, spot_of}
use types.Logic.{Logic, sem}
use contract.Lifetimes.{Lfts}
use types.Kit.{Item, ‵, Sq, Go, Goal, Step, step, prop, ⋆, nth, del, pull, unpull, push, pop, allocs, passes, frees, ◌$◌, ◌∵◌, !, qed, move, drop, fsplit, fjoin, done}
use types.Run.{Walks, Finds, Opds, look, init, forget, stop, from, load, and_then, no_more, alloc1, pass1, free1}
use denote.RattleType.{RattleType, Denots, Valss, flat, owns}
use denote.Laws.{Is, Are, Ises, Spells, valss, Tells, Tellss, Makes, Makess, owns_make}
use denote.Memory.{lone}
use denote.Plain.{UInt, uint_Tells, uint_Makes, uint_Lawful}
use denote.Signature.{Slot, plain, types_at}
use denote.Steps.{nothing}
use denote.Struct.Struct.{Plains}
use denote.Struct.Declared.{Declared, fields, row}
use denote.Struct.Laws as LL
use denote.Triple.End.{Fins, all}
use denote.Triple.Walked.{Stays, stay_none, fits_of, has_of, AllGo, Goes-none}
use denote.Exit.{yes, Last, left}

pub record Plain : Type 2 where
  pub row : RattleType
  pub ty : Ty
  pub val : row.Denot → Val
  pub tells : Tells row (Is row) (λ x. val x ∷ [])
  pub typed : {M : Type 1} {𝓤 : Ura M} (𝓛 : Logic 𝓤) (x : row.Denot) → Is row x (val x ∷ []) → Holds (has_ty ty (val x)) × WT (val x)
  pub makes : {M : Type 1} {𝓤 : Ura M} (𝓛 : Logic 𝓤) → Makes 𝓛 row (Is row)
  -- nothing is bound or said of it at exit
  pub bound : (x : row.Denot) → Last (row.exit yes) x
  pub silent : (x : row.Denot) (f : Last (row.exit yes) x) → left (row.exit yes) x f ≡ ftrue

abbrev pub uint : Width → Plain
uint w = record {
  row = UInt w;
  ty = ty_int w;
  val = vint w;
  tells = uint_Tells w;
  typed = λ 𝓛 x is. ((uint_Lawful 𝓛 w).typed x _ is).0;
  makes = λ 𝓛. uint_Makes 𝓛 w;
  bound = λ x. tt;
  silent = λ x f. refl;
}

-- `λ x. tt` and `λ x f. refl` at a struct that is written out
abbrev pub struct : (S : Declared) (L : LL.Laws S) → Plains (fields S) → ((x : S.D) → Last ((row S).exit yes) x) → ((x : S.D) (f : Last ((row S).exit yes) x) → left ((row S).exit yes) x f ≡ ftrue) → Plain
struct S L pl bound silent = record {
  row = row S;
  ty = lone (row S).mir;
  val = LL.val S L;
  tells = LL.tells S L;
  typed = λ 𝓛 x is. ((LL.lawful S L 𝓛).typed x _ is).0;
  makes = λ 𝓛. LL.makes S pl 𝓛;
  bound = bound;
  silent = silent;
}

abbrev pub slots : (n : ℕ) → List Plain → List (Slot n)
slots n [] = []
slots n (p ∷ ps) = plain (λ _. p.row) ∷ slots n ps

-- at exit they are still owned, and nothing is said of them
abbrev pub stays : (n : ℕ) (ps : List Plain) → Stays (slots n ps) (all yes (slots n ps))
stays n [] = tt
stays n (p ∷ ps) = (stay_none (λ _. p.row) yes, stays n ps)

pub all_go : {M : Type 1} {𝓤 : Ura M} (𝓛 : Logic 𝓤) (n : ℕ) (ps : List Plain) → AllGo 𝓛 n (slots n ps) (all yes (slots n ps)) (stays n ps)
all_go 𝓛 n [] = tt
all_go 𝓛 n (p ∷ ps) = (Goes-none 𝓛 n (λ _. p.row) yes (λ κs x f. p.silent x f), all_go 𝓛 n ps)

-- ---- the arguments and their machine values
module _ (n : ℕ) (κs : Lfts n) where
  abbrev pub rows : List Plain → List RattleType
  rows ps = types_at (slots n ps) κs

  abbrev pub spells : (ps : List Plain) → Spells (rows ps)
  spells [] = tt
  spells (p ∷ ps) = (λ x. p.val x ∷ [], spells ps)

  pub tellings : (ps : List Plain) → Tellss (rows ps) (Ises (rows ps)) (spells ps)
  tellings [] = tt
  tellings (p ∷ ps) = (p.tells, tellings ps)

  abbrev pub vals : (ps : List Plain) → Denots (rows ps) → Valss (rows ps)
  vals ps a = valss (rows ps) (spells ps) a

  abbrev pub passed : (ps : List Plain) → Denots (rows ps) → List Val
  passed ps a = flat (rows ps) (vals ps a)

  abbrev pub Known : (ps : List Plain) → Denots (rows ps) → Type 0
  Known ps a = Are (rows ps) (Ises (rows ps)) a (vals ps a)

  abbrev pub lasts : (ps : List Plain) (a : Denots (rows ps)) → Fins κs (slots n ps) (all yes (slots n ps)) a
  lasts [] a = tt
  lasts (p ∷ ps) a = (p.bound a.0, lasts ps a.1)

  pub fit : (ps : List Plain) (a : Denots (rows ps)) → fits_of κs (slots n ps) (all yes (slots n ps)) (stays n ps) a (lasts ps a)
  fit [] a = tt
  fit (p ∷ ps) a = (tt, fit ps a.1)

  module _ {M : Type 1} {𝓤 : Ura M} (𝓛 : Logic 𝓤) where
    makings : (ps : List Plain) → Makess 𝓛 (rows ps) (Ises (rows ps))
    makings [] = tt
    makings (p ∷ ps) = (p.makes 𝓛, makings ps)

    pub made : (ps : List Plain) (a : Denots (rows ps)) → Known ps a → ent 𝓤 (emp 𝓤) (sem 𝓛 (owns (rows ps) a (vals ps a)))
    made ps a are = owns_make 𝓛 (rows ps) (Ises (rows ps)) (makings ps) a (vals ps a) are

    pub kept : (ps : List Plain) (a : Denots (rows ps)) → Known ps a → ent 𝓤 (emp 𝓤) (sem 𝓛 (has_of κs (slots n ps) (all yes (slots n ps)) (stays n ps) a (lasts ps a) (vals ps a)))
    kept [] a are = id⊢ 𝓤 (emp 𝓤)
    kept (p ∷ ps) a are = via 𝓤 (sep 𝓤 (emp 𝓤) (emp 𝓤)) (emp∗ 𝓤 (emp 𝓤)) (mono∗ 𝓤 (p.makes 𝓛 a.0 _ are.0) (kept ps a.1 are.1))

module _ (n : ℕ) (κs : Lfts n) (m : ℕ) (μs : Lfts m) where
  abbrev pub moved : (ps : List Plain) → Denots (rows n κs ps) → Denots (rows m μs ps)
  moved [] a = tt
  moved (p ∷ ps) a = (a.0, moved ps a.1)

  pub moved_passed : (ps : List Plain) (a : Denots (rows n κs ps)) → passed n κs ps a ≡ passed m μs ps (moved ps a)
  moved_passed [] a = refl
  moved_passed (p ∷ ps) a = ap (λ (vs : List Val). p.val a.0 ∷ vs) (moved_passed ps a.1)

  pub moved_known : (ps : List Plain) (a : Denots (rows n κs ps)) → Known n κs ps a → Known m μs ps (moved ps a)
  moved_known [] a are = tt
  moved_known (p ∷ ps) a are = (are.0, moved_known ps a.1 are.1)

-- moved there and back, they are what they were
pub moved_back : (n : ℕ) (κs : Lfts n) (m : ℕ) (μs : Lfts m) (ps : List Plain) (a : Denots (rows n κs ps)) → moved m μs n κs ps (moved n κs m μs ps a) ≡ a
moved_back n κs m μs [] a = refl
moved_back n κs m μs (p ∷ ps) a = λ i. (a.0, moved_back n κs m μs ps a.1 i)

-- ---- the MIR: the number of the local behind the parameters, their locals, and their copies as operands
abbrev pub behind : ℕ → List Plain → ℕ
behind i [] = i
behind i (p ∷ ps) = behind (suc i) ps

abbrev pub locals : List Plain → List Local → List Local
locals [] ls = ls
locals (p ∷ ps) ls = local p.ty value_local ∷ locals ps ls

abbrev pub copies : ℕ → List Plain → List Operand
copies i [] = []
copies i (p ∷ ps) = copy (place i []) ∷ copies (suc i) ps

-- where the locals lie
abbrev pub Blocks : List Plain → Type 0
Blocks [] = Unit {0}
Blocks (p ∷ ps) = ℕ × Blocks ps

module _ {M : Type 1} (𝓤 : Ura M) (H : Heap 𝓤) where
  abbrev pub env_of : (ps : List Plain) → Blocks ps → Env 𝓤 H → Env 𝓤 H
  env_of [] bs E = E
  env_of (p ∷ ps) bs E = (p.ty, bs.0) ∷ env_of ps bs.1 E

  -- an environment without its first i locals
  abbrev pub without : ℕ → Env 𝓤 H → Env 𝓤 H
  without zero E = E
  without (suc i) [] = []
  without (suc i) (e ∷ E) = without i E

  abbrev rest : Env 𝓤 H → Env 𝓤 H
  rest [] = []
  rest (e ∷ E) = E

  abbrev head : Env 𝓤 H → Ty × ℕ
  head [] = no_local 𝓤 H
  head (e ∷ E) = e

  without_suc : (i : ℕ) (E : Env 𝓤 H) → without (suc i) E ≡ rest (without i E)
  without_suc zero [] = refl
  without_suc zero (e ∷ E) = refl
  without_suc (suc i) [] = refl
  without_suc (suc i) (e ∷ E) = without_suc i E

  local_head : (i : ℕ) (E : Env 𝓤 H) → get_or E i (no_local 𝓤 H) ≡ head (without i E)
  local_head zero [] = refl
  local_head zero (e ∷ E) = refl
  local_head (suc i) [] = refl
  local_head (suc i) (e ∷ E) = local_head i E

  pub next : (i : ℕ) (E : Env 𝓤 H) {e : Ty × ℕ} {F : Env 𝓤 H} → without i E ≡ e ∷ F → without (suc i) E ≡ F
  next i E h = without_suc i E ∙ ap rest h

  pub here : (i : ℕ) (E : Env 𝓤 H) {e : Ty × ℕ} {F : Env 𝓤 H} → without i E ≡ e ∷ F → spot_of 𝓤 H E i ≡ (e.0, e.1, zero)
  here i E h = ap (λ (e : Ty × ℕ). (e.0, e.1, zero)) (local_head i E ∙ ap head h)

  -- the locals behind the parameters
  pub behind_all : (ps : List Plain) (bs : Blocks ps) (i : ℕ) (E F : Env 𝓤 H) → without i E ≡ env_of ps bs F → without (behind i ps) E ≡ F
  behind_all [] bs i E F h = h
  behind_all (p ∷ ps) bs i E F h = behind_all ps bs.1 (suc i) E F (next i E h)

-- ---- the steps
module _ {M : Type 1} {𝓤 : Ura M} (𝓛 : Logic 𝓤) where
  -- a place of a local that `here` finds
  open 𝓛 use {H}

  pub found : {Γ : List (Item 𝓤)} {E : Env 𝓤 H} {i : ℕ} {st : List PStep} {sp sp' : Spot 𝓤 H} → spot_of 𝓤 H E i ≡ sp → Walks (Go {0}) 𝓛 Γ E sp st sp' → Finds (Go {0}) 𝓛 Γ E (place i st) sp'
  found {Γ} {E} {i} {st} {sp} {sp'} e w = from ! (subst (λ (s : Spot 𝓤 H). Walks (Go {0}) 𝓛 Γ E s st sp') (sym e) w)

  -- what a contract says, beside what is left to show
  pub telling : {Γ : List (Item 𝓤)} {P E : SProp 𝓤} → ent 𝓤 (emp 𝓤) E → Step (Go {0}) 𝓛 Γ (prop P) Γ (prop (sep 𝓤 P E))
  telling {Γ} {P} {E} e = step (λ s. record { prf = via 𝓤 P s.prf (via 𝓤 (sep 𝓤 (emp 𝓤) P) (emp∗ 𝓤 P) (via 𝓤 (sep 𝓤 E P) (mono_l 𝓤 P e) (comm∗ 𝓤 E P))) })

  -- the locals of the parameters, empty and full
  abbrev pub rooms : (ps : List Plain) → Blocks ps → Fml
  rooms [] bs = ftrue
  rooms (p ∷ ps) bs = fsep (fsep (froom p.ty bs.0 zero) (fdies p.ty bs.0)) (rooms ps bs.1)

  pub allocates : (ps : List Plain) (ls : List Local) {Γ : List (Item 𝓤)} {Kt : Env 𝓤 H → Goal 𝓤 H} → ((bs : Blocks ps) → Sq 𝓛 (‵ (rooms ps bs) ∷ Γ) (allocs ls (λ E. Kt (env_of 𝓤 H ps bs E)))) → Sq 𝓛 Γ (allocs (locals ps ls) Kt)
  allocates [] ls k = nothing ! $ k tt
  allocates (p ∷ ps) ls k = alloc1 ! (λ b. allocates ps ls (λ bs. move ! (1 ∷ 2 ∷ 0 ∷ []) $ fjoin ! $ fjoin ! $ k (b, bs)))

  module _ (n : ℕ) (κs : Lfts n) where
    abbrev pub full : (ps : List Plain) → Blocks ps → Denots (rows n κs ps) → Fml
    full [] bs a = ftrue
    full (p ∷ ps) bs a = fsep (fsep (fat full_share p.ty bs.0 zero (p.val a.0)) (fdies p.ty bs.0)) (full ps bs.1 a.1)

    pub passes_all : (ps : List Plain) (bs : Blocks ps) (a : Denots (rows n κs ps)) (E : Env 𝓤 H) {Γ : List (Item 𝓤)} {g : Goal 𝓤 H} → Known n κs ps a
        → Sq 𝓛 (‵ (full ps bs a) ∷ Γ) (passes E [] g) → Sq 𝓛 (‵ (rooms ps bs) ∷ Γ) (passes (env_of 𝓤 H ps bs E) (passed n κs ps a) g)
    passes_all [] bs a E are s = s
    passes_all (p ∷ ps) bs a E are s =
        fsplit ! $ fsplit ! $ pass1 ! (init ! 0 refl (p.typed 𝓛 a.0 are.0)) $ move ! (2 ∷ []) $
        passes_all ps bs.1 a.1 E are.1 (move ! (1 ∷ 2 ∷ 0 ∷ []) $ fjoin ! $ fjoin ! $ s)

    pub frees_all : (ps : List Plain) (bs : Blocks ps) (a : Denots (rows n κs ps)) (E : Env 𝓤 H) {Γ : List (Item 𝓤)} {g : Goal 𝓤 H} → Sq 𝓛 Γ (frees E g) → Sq 𝓛 (‵ (full ps bs a) ∷ Γ) (frees (env_of 𝓤 H ps bs E) g)
    frees_all [] bs a E s = drop ! $ s
    frees_all (p ∷ ps) bs a E s = fsplit ! $ fsplit ! $ forget ! 0 refl $ free1 ! $ frees_all ps bs.1 a.1 E s

    -- operands are read in a context that is the same but for its form
    reads_in : (Γ Δ : List (Item 𝓤)) {E : Env 𝓤 H} {xs : List Operand} {vs : List Val} → ent 𝓤 (⋆ 𝓛 Γ) (⋆ 𝓛 Δ) → ent 𝓤 (⋆ 𝓛 Δ) (⋆ 𝓛 Γ) → Opds (Go {0}) 𝓛 Δ E xs vs → Opds (Go {0}) 𝓛 Γ E xs vs
    reads_in Γ Δ there back os = record { go = λ Kt h. via 𝓤 (⋆ 𝓛 Δ) there (os.go Kt (via 𝓤 (⋆ 𝓛 Γ) back h)) }

    reads_head : (ps : List Plain) (bs : Blocks ps) (a : Denots (rows n κs ps)) (i : ℕ) (E F : Env 𝓤 H) → without 𝓤 H i E ≡ env_of 𝓤 H ps bs F → (Γ : List (Item 𝓤)) → Opds (Go {0}) 𝓛 (‵ (full ps bs a) ∷ Γ) E (copies i ps) (passed n κs ps a)
    reads_head [] bs a i E F h Γ = no_more !
    reads_head (p ∷ ps) bs a i E F h Γ =
        reads_in (‵ (full (p ∷ ps) bs a) ∷ Γ) (‵ (full ps bs.1 a.1) ∷ cell ∷ end ∷ Γ)
        (qed 𝓛 (‵ (full (p ∷ ps) bs a) ∷ Γ) ∵ fsplit ! $ fsplit ! $ move ! (2 ∷ []) $ done !)
        (qed 𝓛 (‵ (full ps bs.1 a.1) ∷ cell ∷ end ∷ Γ) ∵ move ! (1 ∷ 2 ∷ 0 ∷ []) $ fjoin ! $ fjoin ! $ done !)
        (and_then ! (load ! (found (here 𝓤 H i E h) (stop !)) (look ! 1 refl)) (reads_head ps bs.1 a.1 (suc i) E F (next 𝓤 H i E h) (cell ∷ end ∷ Γ)))
      where
        cell : Item 𝓤
        cell = ‵ (fat full_share p.ty bs.0 zero (p.val a.0))

        end : Item 𝓤
        end = ‵ (fdies p.ty bs.0)

    -- the parameters as operands, where entry k of the context has their locals. Their values us may be written another way
    pub reads_all : (ps : List Plain) (bs : Blocks ps) (a : Denots (rows n κs ps)) (i : ℕ) (E F : Env 𝓤 H) → without 𝓤 H i E ≡ env_of 𝓤 H ps bs F → {us : List Val} → passed n κs ps a ≡ us → {Γ : List (Item 𝓤)} (k : ℕ) → nth 𝓛 k Γ ≡ ‵ (full ps bs a) → Opds (Go {0}) 𝓛 Γ E (copies i ps) us
    reads_all ps bs a i E F h {us} same {Γ} k e =
        subst (λ (us : List Val). Opds (Go {0}) 𝓛 Γ E (copies i ps) us) same
        (reads_in Γ (‵ (full ps bs a) ∷ del 𝓛 k Γ)
        (subst (λ (j : Item 𝓤). ent 𝓤 (⋆ 𝓛 Γ) (⋆ 𝓛 (j ∷ del 𝓛 k Γ))) e (via 𝓤 _ (pull 𝓛 k Γ) (push 𝓛 (nth 𝓛 k Γ) (del 𝓛 k Γ))))
        (subst (λ (j : Item 𝓤). ent 𝓤 (⋆ 𝓛 (j ∷ del 𝓛 k Γ)) (⋆ 𝓛 Γ)) e (via 𝓤 _ (pop 𝓛 (nth 𝓛 k Γ) (del 𝓛 k Γ)) (unpull 𝓛 k Γ)))
        (reads_head ps bs a i E F h (del 𝓛 k Γ)))
