use Rattle.std.proofs.Common.{ℕ, ◌≡◌, true, false, rules}
use Rattle.std.proofs.lemmas.Iterator.{first_from_Range}
use Rattle.model.specs.Base.{same}
use Rattle.model.specs.Layout.{place_in}
use Rattle.model.specs.Formed.{key_in}
use Rattle.key.specs.Key.{num}
use Rattle.well_formed.proofs.KeyPlace.{position_by}
use Rattle.well_formed.proofs.position.Goals as goal

pub returns : goal.returns
returns c =
    let a = c.args in
    position_by a.bucket.now a.count (num a.key) c.find.result
    (first_from_Range _ _ _ c.find.result (λ (j : ℕ). same (key_in (place_in a.bucket.now j)) (num a.key) ≡ true) (λ (j : ℕ). same (key_in (place_in a.bucket.now j)) (num a.key) ≡ false) c.find.ensures.ran
    (λ x q k. search rules)
    (λ x q k. search rules))
