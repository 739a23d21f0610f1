use Rattle.std.proofs.Common.{refl}
use Rattle.model.specs.Bytes.{part}
use Rattle.storage.specs.Read.{read_value}
use Rattle.storage.proofs.load_value.Goals as goal

pub returns : goal.returns
unfolding read_value part
returns c = rw c.get_u64.ensures refl
