use Rattle.model.specs.Bytes.{part}
use Rattle.storage.proofs.Bytes.{entry_put}
use Rattle.storage.proofs.put_entry.Goals as goal

pub returns : goal.returns
unfolding part
returns c =
    entry_put c.args.entry.now c.args.out.now _ _ (λ i. (c.type_inv.entry i).fits) c.requires.0 c.requires.1 c.get_u64-front.ensures c.get_u64-back.ensures c.put_u64.ensures c.put_u64-2.ensures
