use Rattle.std.proofs.Common.{◌≡◌, ap, ◌∙◌, rules}
use Rattle.model.specs.Key.{bucket_index}
use Rattle.key.specs.declared.Key.{Key}
use Rattle.key.specs.Key.{num}
use Rattle.key.specs.Key.{key_from}
use Rattle.positions.proofs.rows.index_of.Goals as goal

pub returns : goal.returns
unfolding num
returns c =
    let a = c.args in
    let d = c.default.result in
    let zero : d ≡ key_from 0 = search rules in
    let local : c.default-2.result ≡ key_from 0 = search rules in
    c.bucket_index.ensures
    ∙ ap (λ (x : Key). bucket_index (num x) (num (record { w0 = a.w0; w1 = d.w1; w2 = d.w2; w3 = a.w3 }))) local
    ∙ ap (λ (x : Key). bucket_index (num (key_from 0)) (num (record { w0 = a.w0; w1 = x.w1; w2 = x.w2; w3 = a.w3 }))) zero
