use Rattle.std.proofs.Common.{◌≡◌, get_or, ℕ, ◌<◌, List, length-set, true, refl, sym, ap, ◌∙◌, arith}
use mathlib.Core.Bool.{and-true}
use borrow.Author.Count.{below_none}
use Rattle.model.specs.Bytes.{part}
use Rattle.model.specs.Formed.{key_in}
use Rattle.laws.proofs.Tests.{clash}
use Rattle.laws.proofs.Lists.{all_none, all_more}
use Rattle.well_formed.specs.Tests.{differs}
use Rattle.well_formed.proofs.Places.{last_at, last_is, last_bytes_differ, marked_more}
use Rattle.well_formed.proofs.keys_differ.Goals as goal
use Rattle.well_formed.proofs.keys_differ.Goals.{then-seen-last, else-seen-last}

pub loop-j-init : goal.loop-j-init
loop-j-init c = (refl, sym (all_none _), below_none _)

pub loop-j-preserved : goal.loop-j-preserved
unfolding differs part
loop-j-preserved c =
    let bs : List ℕ = c.args.nodes.bucket.now in
    let j : ℕ = c.loop-j.j in
    let e : c.from-last.result ≡ last_at bs j = c.from-last.ensures ∙ ap (λ (s : List ℕ). get_or s 31 0) c.place-node.ensures in
    let k = ap key_in c.place-node.ensures in
    let b : last_at bs j < 256 = omega (arith, last_is bs j) in (
      rw length-set c.loop-j.invariant.0,
      rw all_more
          (elim c.if-seen-last.branch [
            | then-seen-last w ↦ cc
            | else-seen-last w ↦
                let d : differs bs j ≡ true =
                last_bytes_differ bs j c.args.nodes.sized c.args.nodes.bytes (omega arith) (λ k i q. clash (c.loop-j.invariant.2 k i) (cc)) in
                rw (d, and-true) (w.ok-is ∙ c.loop-j.invariant.1)
          ]),
      rw e (marked_more c.loop-j.seen (last_at bs) j (omega (arith, b)) c.loop-j.invariant.2),
    )
