use Rattle.std.proofs.Common.{◌++◌, ℕ, List, ap₂, ◌∙◌}
use Rattle.loaded.proofs.Built.{key_put}
use Rattle.loaded.proofs.saved.copy_node.Goals as goal

pub returns : goal.returns
returns c =
    let a = c.args in
    ap₂ (λ (k e : List ℕ). k ++ e) (c.store.ensures ∙ key_put a.key.now _ (λ i. (c.type_inv.key i).fits) c.requires.0 c.load.ensures) c.put_entry.ensures
