use Rattle.std.proofs.Common.{◌≡◌, ℕ, List, [], ◌∷◌, Option, Some, None, MatchOption, drop, sym, ap, ◌∙◌, rules}
use Rattle.model.specs.Base.{first}
use Rattle.model.specs.Visit.{visits}
use Rattle.key.specs.declared.Key.{Key}
use Rattle.key.specs.Key.{num}
use Rattle.key.specs.Answers.{option_of}
use Rattle.key.specs.Visits.{remaining}
use Rattle.key.specs.Key.{key_from}
use Rattle.positions.proofs.Computed.{visited, first_visits}
use Rattle.positions.proofs.Checks.{same_index}
use Rattle.positions.proofs.rows.row5.Goals as goal

-- what a call gives of the list that is left, and what it leaves
module _ (r : Option ℕ) (before after : List ℕ) (h : MatchOption r ((before ≡ []) × (after ≡ [])) (λ x. before ≡ x ∷ after)) where
  given : option_of r ≡ first before
  given = go r h
    where
      go : (q : Option ℕ) → MatchOption q ((before ≡ []) × (after ≡ [])) (λ x. before ≡ x ∷ after) → option_of q ≡ first before
      go None g = sym (ap first g.0)
      go (Some x) g = sym (ap first g)

  left : after ≡ drop 1 before
  left = go r h
    where
      go : (q : Option ℕ) → MatchOption q ((before ≡ []) × (after ≡ [])) (λ x. before ≡ x ∷ after) → after ≡ drop 1 before
      go None g = g.1 ∙ sym (ap (drop 1) g.0)
      go (Some x) g = sym (ap (drop 1) g)

pub returns : goal.returns
returns c =
    let local : c.default.result ≡ key_from 0 = search rules in
    let l0 = remaining c.new-visit.result in
    let l1 = remaining c.next.new.self in
    let l2 = remaining c.next-2.new.self in
    let l3 = remaining c.next-3.new.self in
    let l4 = remaining c.next-4.new.self in
    let e0 : l0 ≡ visited = c.new-visit.ensures ∙ ap (λ (k : Key). visits (num k)) local in
    let e1 : l1 ≡ drop 1 visited = left c.next.result l0 l1 c.next.ensures.steps ∙ ap (drop 1) e0 in
    let e2 : l2 ≡ drop 1 (drop 1 visited) = left c.next-2.result l1 l2 c.next-2.ensures.steps ∙ ap (drop 1) e1 in
    let e3 : l3 ≡ drop 1 (drop 1 (drop 1 visited)) = left c.next-3.result l2 l3 c.next-3.ensures.steps ∙ ap (drop 1) e2 in
    let r0 = same_index c.next.result (Some 0) (given c.next.result l0 l1 c.next.ensures.steps ∙ ap first e0 ∙ first_visits.0) in
    let r1 = same_index c.next-2.result (Some 0) (given c.next-2.result l1 l2 c.next-2.ensures.steps ∙ ap first e1 ∙ first_visits.1) in
    let r2 = same_index c.next-3.result (Some 1) (given c.next-3.result l2 l3 c.next-3.ensures.steps ∙ ap first e2 ∙ first_visits.2) in
    let r3 = same_index c.next-4.result (Some 2) (given c.next-4.result l3 l4 c.next-4.ensures.steps ∙ ap first e3 ∙ first_visits.3) in
    cc
