use Rattle.std.proofs.Common.{◌≡◌, sym, ap, ◌∙◌, true, true≢false}
use Rattle.model.specs.Base.{same}
use Rattle.key.specs.declared.Key.{Key}
use Rattle.key.specs.Key.{num, key_from}
use Rattle.node.specs.Refusal.{reply_of}
use Rattle.bucket.specs.Calls.{insert_result_of}
use Rattle.positions.specs.Positions.{names_key}
use Rattle.positions.proofs.row9.Goals as goal

pub prove-unreachable-requires : goal.prove-unreachable-requires
unfolding same num
prove-unreachable-requires g c =
    let e : c.names.result ≡ true =
    c.names.ensures ∙ ap (λ (k : Key). names_key (num k) (reply_of insert_result_of c.row9-first.result.0)) c.from.ensures
    ∙ ap (names_key (num (key_from 32))) c.row9-first.ensures.first_value in
    true≢false (sym e ∙ c.if-prove.true)
