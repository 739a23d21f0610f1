use Rattle.std.proofs.Common.{◌+◌, refl, ap, ◌∙◌, rules, arith}
use Rattle.std.proofs.lemmas.Iterator.{YieldsList-from_range}
use Rattle.std.proofs.lemmas.Iterator.Search.{position_from_yields_List}
use Rattle.model.specs.Saved.{disconnected_from}
use Rattle.loaded.proofs.Built.{is_connected, disconnected_is}
use Rattle.loaded.proofs.saved.SavedBucket.disconnected.Goals as goal

pub returns : goal.returns
returns c =
    let b = c.args.self in
    let bs = b.saved.bytes.now in
    let n = c.count-count.result in
    c.unwrap_or.ensures
    ∙ disconnected_is bs b.saved.nodes b.saved.counted b.saved.sized b.from n c.count-count.ensures.within
    (position_from_yields_List (is_connected bs b.saved.nodes b.saved.counted b.saved.sized) _ _ _ c.position.ensures.ran (YieldsList-from_range b.from (b.from + n) n refl (omega arith)) (λ x t q k. search rules))
    ∙ ap (disconnected_from bs b.from) c.count-count.ensures.count
