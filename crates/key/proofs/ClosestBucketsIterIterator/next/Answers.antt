use Rattle.std.proofs.Common.{◌∷◌, ◌++◌, ℕ, List, sym, ap, ◌∙◌, rules}
use Rattle.model.specs.Visit.{clears_up}
use Rattle.key.specs.Key.{num}
use Rattle.key.specs.Visits.{to_visit}
use Rattle.key.proofs.Steps.{sets_split, clears_split}
use Rattle.key.proofs.ClosestBucketsIterIterator.next.Goals as goal

pub returns-in-Some-clause-steps : goal.returns-in-Some-clause-steps
returns-in-Some-clause-steps c =
    let d = num c.args.self.now.distance in
    ap (to_visit d) c.in-ZoomIn.is
    ∙ ap (λ (l : List ℕ). l ++ (0 ∷ clears_up d 1 255)) (sets_split d c.in-ZoomIn.i c.in-Some.j (sym c.in-Some.ensures))

pub returns-in-Some-clause-goes : goal.returns-in-Some-clause-goes
returns-in-Some-clause-goes c = let e = returns-in-Some-clause-steps c in search rules

pub returns-in-Some-next_out-clause-steps : goal.returns-in-Some-next_out-clause-steps
returns-in-Some-next_out-clause-steps c =
    let d = num c.args.self.now.distance in
    ap (to_visit d) c.in-ZoomOut.is ∙ clears_split d c.in-ZoomOut.i c.in-Some-next_out.j (sym c.in-Some-next_out.ensures)

pub returns-in-Some-next_out-clause-goes : goal.returns-in-Some-next_out-clause-goes
returns-in-Some-next_out-clause-goes c = let e = returns-in-Some-next_out-clause-steps c in search rules
