-- A function that meets its contract returns (specs/Returns), where the contract requires nothing.
use Rattle.std.specs.Prelude.{ℕ, List}
use mathlib.Core.Logic.{∥∥₁_prop, ∥∥₁_elim, ∥∥₁_map}
use seplogic.Ra.Ura.{Ura}
use base.Logic.{SProp, ent, id⊢, sep, ex, emp, via, mono_l, mono_r, comm∗, assoc∗, fst∗, snd∗, emp∗}
use prog.Model.{Model}
use prog.Routine.{Callee}
use prog.Wired.{Code, Wired}
use types.Logic.{Logic, sem}
use contract.Monad.{fact, fact_mono, fact_use}
use contract.Running.{Running, tables, strict, within}
use contract.Adequate.{sat_weaken, sat_⇛, sat_ex∗, sat_fact}
use denote.Triple.Entry.{Res, on_entry}
use denote.Triple.Spec.{Back, triple_of, Meets}
use denote.Triple.Clauses.{Lasts, at_exit, lasts, Clauses, ensured, closing}
use denote.Triple.Adequate.{adequate}
use borrow.Fn.Kinds.{ParamKind, ResultKind, Out, Dens, sig_of, ended_of}
use contract.Lifetimes.{Lfts}
use Rattle.claims.specs.Returns.{Returns}

beside : {M : Type 1} (𝓤 : Ura M) (P : SProp 𝓤) {R : SProp 𝓤} → ent 𝓤 (emp 𝓤) R → ent 𝓤 P (sep 𝓤 P R)
beside 𝓤 P h = via 𝓤 (sep 𝓤 (emp 𝓤) P) (emp∗ 𝓤 P) (via 𝓤 (sep 𝓤 P (emp 𝓤)) (comm∗ 𝓤 (emp 𝓤) P) (mono_r 𝓤 P h))

turned : {M : Type 1} (𝓤 : Ura M) (P Q R : SProp 𝓤) → ent 𝓤 (sep 𝓤 (sep 𝓤 P Q) R) (sep 𝓤 Q (sep 𝓤 P R))
turned 𝓤 P Q R = via 𝓤 (sep 𝓤 (sep 𝓤 Q P) R) (mono_l 𝓤 R (comm∗ 𝓤 P Q)) (assoc∗ 𝓤 Q P R)

module _ (n : ℕ) (ps : List (ParamKind n)) (r : ResultKind n) (contract : Out n ps r) (code : Code) (name : Callee) where
  -- In one model: clauses that the code meets, that require nothing of what can be given, and that give the contract
  pub record Met {M : Type 1} {𝓤 : Ura M} (𝓛 : Logic 𝓤) (𝓜 : Model 𝓤 𝓛.H) (𝓡 : Running 𝓤 𝓛.H 𝓜) : Type 2 where
    pub clauses : Clauses 𝓤 (ended_of n ps r)
    pub ghost : (κs : Lfts n) (a : Dens κs ps) → (clauses κs a).ghost
    pub requires : (κs : Lfts n) (a : Dens κs ps) → ent 𝓤 (emp 𝓤) ((clauses κs a).requires (ghost κs a))
    pub ensures : (κs : Lfts n) (a : Dens κs ps) (b : _) (e : _) → ent 𝓤 ((clauses κs a).ensures (ghost κs a) b e) (fact 𝓤 (contract κs a b e))
    pub met : Meets 𝓛 (sig_of n ps r) (𝓡.run (𝓡.env name)) (closing 𝓛 (ended_of n ps r) clauses)

  pub returns : ((M : Type 1) (𝓤 : Ura M) (𝓛 : Logic 𝓤) (𝓜 : Model 𝓤 𝓛.H) (𝓡 : Running 𝓤 𝓛.H 𝓜) → Wired 𝓡.env code → Met 𝓛 𝓜 𝓡) → Returns n ps r contract code name
  returns m M 𝓤 𝓛 𝓜 𝓡 γ w x σ F s =
      let 𝓢 = within 𝓤 𝓛.H 𝓜 (strict 𝓤 𝓛.H 𝓜 𝓡) γ in
      let A = 𝓛.A in
      let T = ended_of n ps r in
      let S = sig_of n ps r in
      let c = m M 𝓤 𝓛 𝓜 𝓢 w in
      let κs = x.0 in
      let a = x.3 in
      let g = c.ghost κs a in
      ∥∥₁_elim
      (adequate 𝓤 𝓛.H 𝓜 (tables 𝓤 𝓛.H 𝓜 𝓢 γ) ((λ s o. o), tt) name (triple_of 𝓛 S (closing 𝓛 T c.clauses)) c.met (x, g) σ F
      (sat_weaken 𝓤 𝓛.H 𝓜 σ (mono_l 𝓤 F (beside 𝓤 (on_entry 𝓛 S κs x.1 a x.4) (c.requires κs a))) s))
      ∥∥₁_prop
      (λ t. ∥∥₁_elim
      (sat_ex∗ 𝓤 𝓛.H 𝓜 t.2 (λ (b : Res S κs). sep 𝓤 (Back 𝓛 S x t.1 b) (ensured 𝓛 T c.clauses κs a g b)) F
      (sat_⇛ 𝓤 𝓛.H 𝓜 t.2 (ex 𝓤 (λ (b : Res S κs). sep 𝓤 (Back 𝓛 S x t.1 b) (ensured 𝓛 T c.clauses κs a g b))) F t.4))
      ∥∥₁_prop
      (λ u. ∥∥₁_elim
      (sat_ex∗ 𝓤 𝓛.H 𝓜 t.2 (λ (w : Lasts T κs a). sep 𝓤 (sem 𝓛 (lasts T κs a w)) ((c.clauses κs a).ensures g u.0 (at_exit T κs a w)))
      (sep 𝓤 (Back 𝓛 S x t.1 u.0) F)
      (sat_weaken 𝓤 𝓛.H 𝓜 t.2 (turned 𝓤 (Back 𝓛 S x t.1 u.0) (ensured 𝓛 T c.clauses κs a g u.0) F) u.1))
      ∥∥₁_prop
      (λ w.
      let L : SProp 𝓤 = sem 𝓛 (lasts T κs a w.0) in
      let E : SProp 𝓤 = (c.clauses κs a).ensures g u.0 (at_exit T κs a w.0) in
      let B : SProp 𝓤 = sep 𝓤 (Back 𝓛 S x t.1 u.0) F in
      ∥∥₁_map
      (sat_fact 𝓤 𝓛.H 𝓜 t.2 (sep 𝓤 (sep 𝓤 L E) B) (contract κs a u.0 (at_exit T κs a w.0))
      (via 𝓤 (sep 𝓤 (sep 𝓤 L E) B) (snd∗ 𝓤 (𝓜.mem t.2) (sep 𝓤 (sep 𝓤 L E) B))
      (via 𝓤 (sep 𝓤 L E) (fst∗ 𝓤 (sep 𝓤 L E) B) (via 𝓤 E (snd∗ 𝓤 L E) (c.ensures κs a u.0 (at_exit T κs a w.0))))) w.1)
      (λ p.
      record {
        steps = t.0;
        value = t.1;
        memory = t.2;
        ends = t.3;
        answer = u.0;
        last = w.0;
        holds = p;
        there = sat_weaken 𝓤 𝓛.H 𝓜 t.2 (mono_l 𝓤 B (fst∗ 𝓤 L E)) w.1;
      }))))

  -- a contract of one clause
  abbrev one : {M : Type 1} (𝓤 : Ura M) → Clauses 𝓤 (ended_of n ps r)
  one 𝓤 κs a = record { ghost = Unit {0}; requires = λ _. emp 𝓤; ensures = λ _ b e. fact 𝓤 (contract κs a b e) }

  pub plain : ((M : Type 1) (𝓤 : Ura M) (𝓛 : Logic 𝓤) (𝓜 : Model 𝓤 𝓛.H) (𝓡 : Running 𝓤 𝓛.H 𝓜) → Wired 𝓡.env code
      → Meets 𝓛 (sig_of n ps r) (𝓡.run (𝓡.env name)) (closing 𝓛 (ended_of n ps r) (one 𝓤)))
      → Returns n ps r contract code name
  plain met =
      returns (λ M 𝓤 𝓛 𝓜 𝓡 w. record {
        clauses = one 𝓤;
        ghost = λ κs a. tt;
        requires = λ κs a. id⊢ 𝓤 (emp 𝓤);
        ensures = λ κs a b e. id⊢ 𝓤 (fact 𝓤 (contract κs a b e));
        met = met M 𝓤 𝓛 𝓜 𝓡 w;
      })

-- a contract of two clauses
module _ (n : ℕ) (ps : List (ParamKind n)) (r : ResultKind n) (first second : Out n ps r) (code : Code) (name : Callee) where
  abbrev two : {M : Type 1} (𝓤 : Ura M) → Clauses 𝓤 (ended_of n ps r)
  two 𝓤 κs a = record { ghost = Unit {0}; requires = λ _. emp 𝓤; ensures = λ _ b e. sep 𝓤 (fact 𝓤 (first κs a b e)) (fact 𝓤 (second κs a b e)) }

  both : {M : Type 1} (𝓤 : Ura M) (P Q : Type 0) → ent 𝓤 (sep 𝓤 (fact 𝓤 P) (fact 𝓤 Q)) (fact 𝓤 (P × Q))
  both 𝓤 P Q =
      fact_use 𝓤 P (fst∗ 𝓤 (fact 𝓤 P) (fact 𝓤 Q)) (λ p. via 𝓤 (fact 𝓤 Q) (snd∗ 𝓤 (fact 𝓤 P) (fact 𝓤 Q)) (fact_mono 𝓤 Q (P × Q) (λ q. (p, q))))

  pub paired : ((M : Type 1) (𝓤 : Ura M) (𝓛 : Logic 𝓤) (𝓜 : Model 𝓤 𝓛.H) (𝓡 : Running 𝓤 𝓛.H 𝓜) → Wired 𝓡.env code
      → Meets 𝓛 (sig_of n ps r) (𝓡.run (𝓡.env name)) (closing 𝓛 (ended_of n ps r) (two 𝓤)))
      → Returns n ps r (λ κs a b e. first κs a b e × second κs a b e) code name
  paired met =
      returns n ps r (λ κs a b e. first κs a b e × second κs a b e) code name (λ M 𝓤 𝓛 𝓜 𝓡 w. record {
        clauses = two 𝓤;
        ghost = λ κs a. tt;
        requires = λ κs a. id⊢ 𝓤 (emp 𝓤);
        ensures = λ κs a b e. both 𝓤 (first κs a b e) (second κs a b e);
        met = met M 𝓤 𝓛 𝓜 𝓡 w;
      })
