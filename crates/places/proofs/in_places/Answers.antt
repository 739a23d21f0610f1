use Rattle.std.proofs.Common.{rules, ◌≡◌, Bool, true, false, ◌&&◌, sym, ◌∙◌}
use borrow.Author.Tests.{tests}
use Rattle.std.proofs.lemmas.Iterator.{YieldsList-from_slice, cases_from_all}
use Rattle.std.proofs.lemmas.Iterator.Search.{all_from_yields_List}
use Rattle.std.specs.Bool.{⊤}
use Rattle.model.specs.Base.{every}
use Rattle.laws.proofs.Tests.{clash}
use Rattle.key.specs.Key.{Words}
use Rattle.node.specs.declared.Node.{Node}
use Rattle.node.specs.Node.{is_zero}
use Rattle.places.specs.Places.{in_state}
use Rattle.places.proofs.Laws.{list_all_every, all_of_chain}
use Rattle.places.proofs.in_places.Goals as goal
use Rattle.places.proofs.in_places.Goals.{then-all, else-all}

third : {x y z r : Bool} → x ≡ true → y ≡ true → r ≡ z → r ≡ (x && (y && z))
third p q e = rw (p, q) e

second : {x y r : Bool} (z : Bool) → x ≡ true → y ≡ false → r ≡ false → r ≡ (x && (y && z))
second z p q e = rw (p, q) e

first : {x r : Bool} (y z : Bool) → x ≡ false → r ≡ false → r ≡ (x && (y && z))
first y z p e = rw p e

pub returns-then-all-2-clause-value : goal.returns-then-all-2-clause-value
returns-then-all-2-clause-value c =
    let low : c.all.result ≡ every (in_state 0) c.args.disconnected.now =
    all_from_yields_List (in_state 0) _ _ c.all.result c.all.ensures.ran (YieldsList-from_slice c.args.disconnected.now cc) (λ x b q k. search (rules, tests))
    ∙ list_all_every (in_state 0) c.args.disconnected.now in
    let free : c.all-then-all-2.result ≡ every is_zero c.args.free.now =
    all_from_yields_List is_zero _ _ c.all-then-all-2.result c.all-then-all-2.ensures.ran (YieldsList-from_slice c.args.free.now cc) (λ x b q k. search (rules, tests))
    ∙ list_all_every is_zero c.args.free.now in
    elim c.if-all.branch [
      | then-all w ↦
          let high : w.all-then-all.result ≡ every (in_state 1) c.args.connected.now =
          all_from_yields_List (in_state 1) _ _ w.all-then-all.result w.all-then-all.ensures.ran (YieldsList-from_slice c.args.connected.now cc) (λ x b q k. search (rules, tests))
          ∙ list_all_every (in_state 1) c.args.connected.now in
          third (sym low ∙ w.if-all.true) (sym high ∙ sym w.value-is ∙ c.if-all-2.true) free
      | else-all w ↦ cc
    ]

pub returns-then-all-2-clause-all : goal.returns-then-all-2-clause-all
returns-then-all-2-clause-all c =
    λ e. elim c.if-all.branch [
      | then-all w ↦ (
        all_of_chain (λ (m : Node). Words m.key) _ c.all.result c.args.disconnected.now
            (cases_from_all _ _ c.all.result (λ (m : Node). Words m.key) (λ (m : Node). ⊤) c.all.ensures.ran (YieldsList-from_slice c.args.disconnected.now cc) (λ x q k. search (rules, tests)) (λ x q k. search (rules, tests)))
            w.if-all.true,
        all_of_chain (λ (m : Node). Words m.key) _ w.all-then-all.result c.args.connected.now
            (cases_from_all _ _ w.all-then-all.result (λ (m : Node). Words m.key) (λ (m : Node). ⊤) w.all-then-all.ensures.ran (YieldsList-from_slice c.args.connected.now cc) (λ x q k. search (rules, tests)) (λ x q k. search (rules, tests)))
            (sym w.value-is ∙ c.if-all-2.true),
      )
      | else-all w ↦ clash (sym w.value-is ∙ c.if-all-2.true) w.if-all.false
    ]

pub returns-else-all-2-clause-value : goal.returns-else-all-2-clause-value
returns-else-all-2-clause-value c =
    let low : c.all.result ≡ every (in_state 0) c.args.disconnected.now =
    all_from_yields_List (in_state 0) _ _ c.all.result c.all.ensures.ran (YieldsList-from_slice c.args.disconnected.now cc) (λ x b q k. search (rules, tests))
    ∙ list_all_every (in_state 0) c.args.disconnected.now in
    elim c.if-all.branch [
      | then-all w ↦
          let high : w.all-then-all.result ≡ every (in_state 1) c.args.connected.now =
          all_from_yields_List (in_state 1) _ _ w.all-then-all.result w.all-then-all.ensures.ran (YieldsList-from_slice c.args.connected.now cc) (λ x b q k. search (rules, tests))
          ∙ list_all_every (in_state 1) c.args.connected.now in
          second _ (sym low ∙ w.if-all.true) (sym high ∙ sym w.value-is ∙ c.if-all-2.false) c.if-all-2.false
      | else-all w ↦ first (every (in_state 1) c.args.connected.now) (every is_zero c.args.free.now) (sym low ∙ w.if-all.false) c.if-all-2.false
    ]
