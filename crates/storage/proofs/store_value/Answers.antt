use Rattle.storage.proofs.Bytes.{value_put}
use Rattle.storage.proofs.store_value.Goals as goal

pub returns : goal.returns
returns c = value_put c.args.s.now c.args.v.value c.args.v.codes c.requires _ c.put_u64.ensures
