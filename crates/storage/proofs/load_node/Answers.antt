use Rattle.std.proofs.Common.{refl, sym, ap, ◌∙◌, arith}
use Rattle.model.specs.Bytes.{part}
use Rattle.key.specs.Key.{Words, key_of}
use Rattle.key.proofs.Words.{key_of_num}
use Rattle.storage.specs.Read.{read_node}
use Rattle.storage.proofs.load_node.Goals as goal

pub returns : goal.returns
unfolding read_node part
returns c =
    let l = c.load_key in
    let w : Words l.result = omega arith in
    let k = sym (key_of_num l.result w) ∙ ap key_of l.ensures in
    rw (k, c.node_value.ensures) refl
