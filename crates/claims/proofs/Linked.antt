-- What every environment with a function's code does, the machine does on any program that the function is linked into (specs/Linked).
use Rattle.std.specs.Prelude.{ℕ, List}
use mir.Syntax.{Symbol}
use prog.Routine.{Callee, machine}
use prog.Wired.{Code}
use prog.Linked.{Entry, Has, Has-Wired, tie, tie-Follows, in_program, machine-Follows}
use borrow.Fn.Kinds.{ParamKind, ResultKind, Out}
use Rattle.claims.specs.Returns.{Returns}
use Rattle.claims.specs.Linked.{Linkable, Linked}

-- a program that has the code is an environment that has it
pub linkable : (look : Symbol → Entry) (code : Code) → Has look code → Linkable code
linkable look code has = (tie look, Has-Wired look (tie look) (tie-Follows look) code has)

pub linked : (n : ℕ) (ps : List (ParamKind n)) (r : ResultKind n) (contract : Out n ps r) (code : Code) (name : Callee)
    → Returns n ps r contract code name → Linked n ps r contract code name
linked n ps r contract code name returns =
    record {
      on_machine = λ P has M 𝓤 𝓛 𝓜 𝓡. returns M 𝓤 𝓛 𝓜 𝓡 (machine P) (Has-Wired (in_program P) (machine P) (machine-Follows P) code has);
      tied = λ look has M 𝓤 𝓛 𝓜 𝓡. returns M 𝓤 𝓛 𝓜 𝓡 (tie look) (Has-Wired look (tie look) (tie-Follows look) code has);
    }
