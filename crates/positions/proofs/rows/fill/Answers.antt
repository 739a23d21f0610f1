use Rattle.std.proofs.Common.{◌≡◌, ◌+◌, ◌-◌, ℕ, refl, ap, ◌∙◌, arith}
use Rattle.bucket.specs.Calls.{insert_call}
use Rattle.positions.specs.Positions.{plain, node_from, filled}
use Rattle.positions.proofs.Calls.{insert_leaves, fill_step, fill_none}
use Rattle.positions.proofs.rows.fill.Goals as goal

pub loop-key-preserved : goal.loop-key-preserved
loop-key-preserved c =
    let a = c.args in
    let l = c.loop-key in
    let r = insert_leaves 0 refl c.node_from.ensures c.insert.ensures in
    let e : a.k + a.n - (l.key + 1) ≡ a.k + a.n - l.key - 1 = omega arith in
    ap (filled (a.k + a.n - (l.key + 1)) (l.key + 1) a.state) r
    ∙ ap (λ (n : ℕ). filled n (l.key + 1) a.state (insert_call l.b (node_from l.key plain a.state 0) 0).1) e
    ∙ fill_step (a.k + a.n - l.key) l.key a.state l.b (omega arith)
    ∙ l.invariant

pub returns : goal.returns
returns c =
    let a = c.args in
    let l = c.loop-key in
    fill_none (a.k + a.n - l.key) l.key a.state l.b (omega arith) ∙ l.invariant
