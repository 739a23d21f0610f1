use Rattle.std.proofs.Common.{◌≡◌, ◌+◌, ◌*◌, ◌-◌, ℕ, refl, sym, ap, ◌∙◌, arith, rules}
use Rattle.std.proofs.lemmas.Iterator.{YieldsList-from_range}
use Rattle.std.proofs.lemmas.Iterator.Search.{all_from_yields_List}
use Rattle.model.specs.Base.{all_below}
use Rattle.model.specs.Bytes.{part}
use Rattle.model.specs.Table.{max_records}
use Rattle.model.specs.Sizes.{record_size}
use Rattle.model.specs.Formed.{are_zero}
use Rattle.words.proofs.Zero.{zero_bytes}
use Rattle.well_formed.specs.Tests.{record_at_formed}
use Rattle.well_formed.proofs.Buckets.{header_many, header_records}
use Rattle.well_formed.proofs.Shown.{all_numbers}
use Rattle.well_formed.proofs.header_formed.Goals as goal

pub returns-then-count-gt-MAX_RECORDS : goal.returns-then-count-gt-MAX_RECORDS
returns-then-count-gt-MAX_RECORDS c = sym (header_many c.args.s.now _ c.from-count.ensures (omega arith))

pub returns : goal.returns
unfolding part record_at_formed
returns c =
    let s = c.args.s.now in
    let k = c.from-count.result in
    let at : ℕ = 48 + k * 80 in
    let n : 5168 - at ≡ (max_records - k) * record_size = omega arith in
    let z = zero_bytes s at (5168 - at) (omega arith) ∙ ap (are_zero s at) n in
    let y = zero_bytes s 44 4 (omega arith) in
    let t = record_at_formed s in
    let r : c.all-records.result ≡ all_below k t =
    all_from_yields_List t _ _ c.all-records.result c.all-records.ensures.ran (YieldsList-from_range 0 k k refl (omega arith)) (λ x b q k. search rules) ∙ all_numbers t k
    in
    rw (header_records s _ c.from-count.ensures (omega arith)) (cc)
