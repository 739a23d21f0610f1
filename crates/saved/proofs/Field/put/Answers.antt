use Rattle.std.proofs.Common.{◌∙◌, arith}
use Rattle.model.specs.Bytes.{part}
use Rattle.model.specs.Sizes.{key_size}
use Rattle.model.specs.Saved.{saved_entry_size}
use Rattle.laws.proofs.Parts.{length_part}
use Rattle.saved.proofs.Fields.{size_key, size_entry, key_is, entry_is}
use Rattle.saved.proofs.Field.put.Goals as goal

pub store-requires : goal.store-requires
store-requires c = c.requires.out_len ∙ size_key c.in-Key.is

pub put_entry-requires : goal.put_entry-requires
unfolding part
put_entry-requires c = (length_part c.args.node.now key_size saved_entry_size (omega arith), c.requires.out_len ∙ size_entry c.in-Entry.is)

pub returns-in-Key : goal.returns-in-Key
unfolding part
returns-in-Key c = c.store.ensures ∙ key_is c.args.node.now c.in-Key.is c.load_key.ensures

pub returns-in-Entry : goal.returns-in-Entry
unfolding part
returns-in-Entry c = c.put_entry.ensures ∙ entry_is c.args.node.now c.fits-node c.told-node c.in-Entry.is c.requires.node_value
