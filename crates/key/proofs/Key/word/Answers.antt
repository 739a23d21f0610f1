use Rattle.std.proofs.Common.{◌≡◌, ◌+◌, ◌*◌, ◌≤◌, refl, sym, ap, ◌∙◌, arith}
use Rattle.model.specs.Key.{test_bit}
use Rattle.laws.proofs.Visits.{no_bit}
use Rattle.key.specs.Key.{num, Words}
use Rattle.key.proofs.Words.{bit0, bit1, bit2, bit3, bit_above}
use Rattle.key.proofs.Key.word.Goals as goal

pub returns-in-0 : goal.returns-in-0
returns-in-0 c = λ j h.
    let words : Words c.args.self = omega arith in
    let e : j ≡ c.args.q * 64 + j = omega arith in
    bit3 c.args.self words j h ∙ ap (test_bit (num c.args.self)) e

pub returns-in-1 : goal.returns-in-1
returns-in-1 c = λ j h.
    let words : Words c.args.self = omega arith in
    let e : 64 + j ≡ c.args.q * 64 + j = omega arith in
    bit2 c.args.self words j h ∙ ap (test_bit (num c.args.self)) e

pub returns-in-2 : goal.returns-in-2
returns-in-2 c = λ j h.
    let words : Words c.args.self = omega arith in
    let e : 64 + (64 + j) ≡ c.args.q * 64 + j = omega arith in
    bit1 c.args.self words j h ∙ ap (test_bit (num c.args.self)) e

pub returns-in-3 : goal.returns-in-3
returns-in-3 c = λ j h.
    let words : Words c.args.self = omega arith in
    let e : 64 + (64 + (64 + j)) ≡ c.args.q * 64 + j = omega arith in
    bit0 c.args.self words j ∙ ap (test_bit (num c.args.self)) e

pub returns-in_default : goal.returns-in_default
returns-in_default c = λ j h.
    let words : Words c.args.self = omega arith in
    let l : 256 ≤ c.args.q * 64 + j = omega arith in
    no_bit 0 j refl ∙ sym (bit_above c.args.self words (c.args.q * 64 + j) l)
