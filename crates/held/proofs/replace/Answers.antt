use Rattle.std.proofs.Common.{arith, refl, ap, sym, ◌-◌, ◌∙◌, ◌<◌, ℕ, List}
use lib.ListN.{set}
use Rattle.model.specs.Bytes.{part}
use Rattle.model.specs.Bucket.{take_out}
use Rattle.model.specs.Layout.{bucket_in}
use Rattle.key.specs.Key.{num}
use Rattle.node.specs.Node.{node_of}
use Rattle.held.proofs.Moves.{Goes, rest_below, goes_last, goes_first, down, up}
use Rattle.held.proofs.replace.Goals as goal
use Rattle.held.proofs.replace.Goals.{then-is_connected, else-is_connected, then-pos-to, else-pos-to}

pub returns : goal.returns
unfolding part
returns c =
    let q = c.requires.quiet in
    let ec = c.from-count.ensures in
    let ef = c.from-first.ensures in
    let k = num c.args.node.node.key in
    let n = node_of c.args.node.node in
    let e = c.requires.node in
    let er = ap (λ (x : ℕ). c.from-first.result - x) c.from.ensures in
    let to = c.if-is_connected.to in
    let g : Goes n to.0 to.1 (take_out k (bucket_in c.args.bucket.now)) × (to.0 < c.from-count.result) =
    elim c.if-is_connected.branch [
      | then-is_connected w ↦
          let t = ap (λ (x : ℕ × ℕ). x.0) w.to-is in
          (goes_last q ec ef k c.args.pos e (omega arith) n er (sym c.is_connected.ensures ∙ w.if-is_connected.true) t (ap (λ (x : ℕ × ℕ). x.1) w.to-is), omega (arith, t))
      | else-is_connected w ↦
          let t = ap (λ (x : ℕ × ℕ). x.0) w.to-is in (
            goes_first q ec ef k c.args.pos e (omega arith) n er (sym c.is_connected.ensures ∙ w.if-is_connected.false) t (ap (λ (x : ℕ × ℕ). x.1) w.to-is),
            omega (arith, t, rest_below q ec ef k c.args.pos e (omega arith) n er),
          )
    ] in
    elim c.if-pos-to.branch [
      | then-pos-to w ↦ ap (λ (t : List ℕ). set t 1 to.1) w.bucket-is ∙ down q ec ef k c.args.pos e (omega arith) n to.0 to.1 g.0 (omega arith) g.1 refl w.put_behind.ensures
      | else-pos-to w ↦ ap (λ (t : List ℕ). set t 1 to.1) w.bucket-is ∙ up q ec ef k c.args.pos e (omega arith) n to.0 to.1 g.0 (omega arith) refl w.put_before.ensures
    ]
