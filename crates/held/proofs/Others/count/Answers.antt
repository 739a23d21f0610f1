use Rattle.std.proofs.Common.{arith, refl, Bool, not, ◌&&◌, ap, ◌∙◌, ◌≡◌, ℕ, List, length, get_or}
use Rattle.std.proofs.lemmas.Fn.{says_at}
use mir.Val.{bool_byte}
use lib.Dec.{eqb}
use Rattle.model.specs.Base.{select}
use Rattle.model.specs.Layout.{node_in}
use Rattle.places.specs.Places.{remove_at}
use Rattle.laws.proofs.Tests.{flag≤1}
use Rattle.well_formed.specs.Tests.{nodes_here}
use Rattle.held.proofs.Places.{count_none, count_next, others_are}
use Rattle.held.proofs.Others.count.Goals as goal

pub loop-j-init : goal.loop-j-init
loop-j-init g c = record { few = omega arith; counts = λ p h. count_none p c.args.self.held.bucket.now c.args.self.skip }

pub loop-j-preserved : goal.loop-j-preserved
loop-j-preserved g c =
    record {
      few = omega (arith, flag≤1 (c.passes.result && not (eqb c.loop-j.j c.args.self.skip)));
      counts = λ p h.
          let e = h c.place.result.now c.passes.result (says_at g.F.Fn c.passes.ensures refl) ∙ ap (λ (w : List ℕ). p (node_in w)) c.place.ensures in
          let f = c.from-n.ensures ∙ ap (λ (r : Bool). bool_byte (r && not (eqb c.loop-j.j c.args.self.skip))) e in
          omega (arith, c.loop-j.invariant.counts p h, f, count_next p c.args.self.held.bucket.now c.args.self.skip c.loop-j.j);
    }

pub returns : goal.returns
returns g c =
    λ p h.
    let e : c.loop-j.j ≡ get_or c.args.self.held.bucket.now 0 0 = omega (arith, c.args.self.held.counts) in
    c.loop-j.invariant.counts p h ∙ ap (λ (j : ℕ). length (select p (remove_at c.args.self.skip (nodes_here c.args.self.held.bucket.now j)))) e
    ∙ ap (λ l. length (select p l)) (others_are c.args.self.held.bucket.now c.args.self.skip)
