use Rattle.std.proofs.Common.{◌≡◌, sym, ap, ◌∙◌, true, true≢false}
use Rattle.model.specs.Base.{same}
use Rattle.key.specs.declared.Key.{Key}
use Rattle.key.specs.Key.{num, key_from}
use Rattle.node.specs.Refusal.{reply_of}
use Rattle.bucket.specs.Calls.{records_of}
use Rattle.positions.specs.Positions.{applied_key}
use Rattle.positions.proofs.row6.Goals as goal

pub prove-unreachable-requires-2 : goal.prove-unreachable-requires-2
unfolding same num
prove-unreachable-requires-2 g c =
    let e : c.applied_key.result ≡ true =
    c.applied_key.ensures ∙ ap (λ (k : Key). applied_key (num k) (reply_of records_of c.row6-early.result.1)) c.from.ensures
    ∙ ap (applied_key (num (key_from 48))) c.row6-early.ensures.due_value in
    true≢false (sym e ∙ c.if-prove-2.true)
