use Rattle.std.proofs.Common.{arith, refl, ap, sym, ◌∙◌, ◌≤◌, ℕ}
use Rattle.model.specs.Bytes.{part}
use Rattle.model.specs.Layout.{bucket_in}
use Rattle.node.specs.Node.{node_of}
use Rattle.held.proofs.Moves.{Goes, goes_end, goes_between, placed}
use Rattle.held.proofs.place.Goals as goal
use Rattle.held.proofs.place.Goals.{then-is_connected, else-is_connected}

pub returns : goal.returns
unfolding part
returns c =
    let q = c.requires.quiet in
    let to = c.if-is_connected.to in
    let g : Goes (node_of c.args.node.node) to.0 to.1 (bucket_in c.args.bucket.now) × (to.0 ≤ c.from-count.result) =
    elim c.if-is_connected.branch [
      | then-is_connected w ↦ (goes_end q c.from-count.ensures c.from-first.ensures _ (sym c.is_connected.ensures ∙ w.if-is_connected.true) (ap (λ (x : ℕ × ℕ). x.0) w.to-is) (ap (λ (x : ℕ × ℕ). x.1) w.to-is), omega (arith, ap (λ (x : ℕ × ℕ). x.0) w.to-is))
      | else-is_connected w ↦ (goes_between q c.from-count.ensures c.from-first.ensures _ (sym c.is_connected.ensures ∙ w.if-is_connected.false) (ap (λ (x : ℕ × ℕ). x.0) w.to-is) (ap (λ (x : ℕ × ℕ). x.1) w.to-is), omega (arith, ap (λ (x : ℕ × ℕ). x.0) w.to-is))
    ] in
    placed q c.from-count.ensures c.from-first.ensures (node_of c.args.node.node) to.0 to.1 g.0 (omega arith) g.1 refl c.put_before.ensures
