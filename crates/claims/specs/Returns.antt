-- What a function's theorem says of the machine: a call, from any memory in which its arguments stand, ends, and its contract holds of what it
-- answered and left. `Satisfies σ P`, of the program logic: the machine's memory is σ, and P holds beside it.
use Rattle.std.specs.Prelude.{ℕ, ◌≡◌, List}
use seplogic.Ra.Ura.{Ura}
use mir.Val.{Val}
use base.Logic.{SProp, sep}
use prog.Memory.{Memory}
use prog.Machine.{done}
use prog.Model.{Model}
use prog.Routine.{Routine, Callee, Env, step}
use prog.Wired.{Code, Wired}
use types.Logic.{Logic, sem}
use contract.Adequate.{Satisfies}
use contract.Running.{Running}
use denote.Triple.Entry.{on_entry}
use denote.Triple.Bound.{Bound, passed}
use denote.Triple.Spec.{Back}
use denote.Triple.Clauses.{Lasts, at_exit, lasts}
use borrow.Fn.Kinds.{ParamKind, ResultKind, Out, res_t, sig_of, ended_of}

-- a function of n lifetimes, with parameters and a result of these kinds, what it owes its caller, its code and its name
module _ (n : ℕ) (ps : List (ParamKind n)) (r : ResultKind n) (contract : Out n ps r) (code : Code) (name : Callee) where
  -- The call's end. x: the lifetimes and the arguments, as values x.3 and as the machine's; σ: the memory at the call; F: whatever else
  -- stands in it, which stays; routine: what the machine does on the call.
  pub record Returned {M : Type 1} {𝓤 : Ura M} (𝓛 : Logic 𝓤) (𝓜 : Model 𝓤 𝓛.H) (routine : Routine) (x : Bound 𝓛 (sig_of n ps r)) (σ : Memory) (F : SProp 𝓤) : Type 1 where
    pub steps : ℕ
    pub value : Val
    pub memory : Memory
    pub ends : step routine steps (passed 𝓛 (sig_of n ps r) x) σ ≡ done (value, memory)
    pub answer : (res_t r x.0).Denot
    -- what is left in what was lent by `&mut`
    pub last : Lasts (ended_of n ps r) x.0 x.3
    pub holds : contract x.0 x.3 answer (at_exit (ended_of n ps r) x.0 x.3 last)
    -- the memory after the call has them
    pub there : Satisfies 𝓤 𝓛.H 𝓜 memory (sep 𝓤 (sem 𝓛 (lasts (ended_of n ps r) x.0 x.3 last)) (sep 𝓤 (Back 𝓛 (sig_of n ps r) x value answer) F))

  -- Every call returns so. Nothing is asked of the arguments but that they stand in memory. γ: any environment that has the function's code,
  -- as a program does that it is linked into.
  abbrev pub Returns : Type 2
  Returns =
      (M : Type 1) (𝓤 : Ura M) (𝓛 : Logic 𝓤) (𝓜 : Model 𝓤 𝓛.H) → Running 𝓤 𝓛.H 𝓜 → (γ : Env) → Wired γ code
      → (x : Bound 𝓛 (sig_of n ps r)) (σ : Memory) (F : SProp 𝓤)
      → Satisfies 𝓤 𝓛.H 𝓜 σ (sep 𝓤 (on_entry 𝓛 (sig_of n ps r) x.0 x.1 x.3 x.4) F) → ∥ Returned 𝓛 𝓜 (γ name) x σ F ∥₁
