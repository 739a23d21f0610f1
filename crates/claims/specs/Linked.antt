-- What `Returns` (specs/Returns) says of a program, with no word of an environment: a call is run by the program that the function is linked
-- into. `Has look code`, of the program logic: the program finds, at the symbol of the function and of each function below it, that
-- function's own code. Nothing else is asked of the program, and what else it has does not matter.
-- That there is such a program is not shown here: the crates below pass on a function's code, and not what it is made of. It is shown where
-- Rattle links: for a static library, as kbuckets_c, a check makes one program of all functions that the library reaches, and proves of each
-- that the program has its code.
use Rattle.std.specs.Prelude.{ℕ, List}
use seplogic.Ra.Ura.{Ura}
use mir.Syntax.{Symbol}
use base.Logic.{SProp, sep}
use prog.Memory.{Memory}
use prog.Machine.{Program}
use prog.Model.{Model}
use prog.Routine.{Routine, Callee, Env, machine}
use prog.Wired.{Code, Wired}
use prog.Linked.{Entry, Has, tie, in_program}
use types.Logic.{Logic}
use contract.Adequate.{Satisfies}
use contract.Running.{Running}
use denote.Triple.Entry.{on_entry}
use denote.Triple.Bound.{Bound}
use borrow.Fn.Kinds.{ParamKind, ResultKind, Out, sig_of}
use Rattle.claims.specs.Returns.{Returned}

-- some environment has the function's code
abbrev pub Linkable : Code → Type 0
Linkable code = (γ : Env) × Wired γ code

module _ (n : ℕ) (ps : List (ParamKind n)) (r : ResultKind n) (contract : Out n ps r) (code : Code) (name : Callee) where
  -- every call of a routine returns so
  abbrev pub Every : Routine → Type 2
  Every routine =
      (M : Type 1) (𝓤 : Ura M) (𝓛 : Logic 𝓤) (𝓜 : Model 𝓤 𝓛.H) → Running 𝓤 𝓛.H 𝓜
      → (x : Bound 𝓛 (sig_of n ps r)) (σ : Memory) (F : SProp 𝓤)
      → Satisfies 𝓤 𝓛.H 𝓜 σ (sep 𝓤 (on_entry 𝓛 (sig_of n ps r) x.0 x.1 x.3 x.4) F) → ∥ Returned n ps r contract code name 𝓛 𝓜 routine x σ F ∥₁

  pub record Linked : Type 2 where
    -- a program is a list of functions, each at its symbol, and the machine runs it
    pub on_machine : (P : Program) → Has (in_program P) code → Every (machine P name)
    -- a program is what each symbol stands for, and does no more than that: the least environment that has it
    pub tied : (look : Symbol → Entry) → Has look code → Every (tie look name)
