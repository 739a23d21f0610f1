use Rattle.std.proofs.Common.{◌≡◌, ◌+◌, ◌*◌, ◌/◌, ◌%◌, ◌^◌, ap, ◌∙◌, eqb, arith}
use Rattle.std.proofs.lemmas.Nat.{and_mask}
use Rattle.model.specs.Key.{test_bit}
use Rattle.key.specs.Key.{num}
use Rattle.key.proofs.Key.bit.Goals as goal

pub returns : goal.returns
unfolding test_bit
returns c =
    let i = c.args.i in
    let e : i / 64 * 64 + i % 64 ≡ i = omega arith in
    ap (λ x. eqb x 1) (and_mask (c.word.result / 2 ^ (i % 64)) 1)
    ∙ c.word.ensures (i % 64) (omega arith)
    ∙ ap (test_bit (num c.args.self)) e
