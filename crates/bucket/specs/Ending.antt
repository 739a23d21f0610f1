-- How a pending ended: the model's ending that stands for it, and question 4 of the node that it names.
use Rattle.std.specs.Prelude.{Some, None, Bool, true}
use Rattle.std.proofs.Math.Option.{none, some}
use Rattle.model.specs.Node as model
use Rattle.node.specs.Node.{node_of, node_codes}
use Rattle.bucket.specs.declared.ending.Ending.{Ending}
use Rattle.bucket.specs.declared.ending.Ending.TheVariants as ending

abbrev pub ending_of : Ending → model.Ending
ending_of (ending.Placed None) = model.Ending.Placed none
ending_of (ending.Placed (Some n)) = model.Ending.Placed (some (node_of n))
ending_of ending.FirstConnected = model.Ending.FirstConnected
ending_of ending.BucketFilter = model.Ending.BucketFilter
ending_of ending.TooManyIncoming = model.Ending.TooManyIncoming
ending_of ending.Inserted = model.Ending.Inserted
ending_of ending.FirstConfirmed = model.Ending.FirstConfirmed

-- the codes of the node that was evicted, if one was
abbrev pub ending_codes : Ending → Bool
ending_codes (ending.Placed None) = true
ending_codes (ending.Placed (Some n)) = node_codes n
ending_codes ending.FirstConnected = true
ending_codes ending.BucketFilter = true
ending_codes ending.TooManyIncoming = true
ending_codes ending.Inserted = true
ending_codes ending.FirstConfirmed = true
