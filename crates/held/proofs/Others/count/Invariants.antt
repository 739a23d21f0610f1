use Rattle.std.proofs.Common.{◌≡◌, ◌≤◌, ℕ, Bool, List, length}
use Rattle.std.specs.Fn.{FnReturnsAt}
use Rattle.model.specs.Base.{select}
use Rattle.model.specs.Node.{Node}
use Rattle.model.specs.Layout.{node_in}
use Rattle.places.specs.Places.{remove_at}
use Rattle.well_formed.specs.Tests.{nodes_here}
use Rattle.held.proofs.Others.count.Given as goal

abbrev pub invariant-loop-j : goal.invariant-loop-j
invariant-loop-j g l = record {
  few : l.n ≤ l.j;
  counts : (p : Node → Bool) → ((bytes : List ℕ) (r : Bool) → FnReturnsAt g.F.Fn l.passes bytes r → r ≡ p (node_in bytes)) → l.n ≡ length (select p (remove_at l.self.skip (nodes_here l.self.held.bucket.now l.j)));
}
