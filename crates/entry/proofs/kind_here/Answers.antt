use Rattle.model.specs.Layout.{bucket_in}
use Rattle.key.specs.Key.{num}
use Rattle.node.specs.Node.{node_of}
use Rattle.held.proofs.Steps.{get_old}
use Rattle.entry.proofs.Kind.{kind_held, kind_none, status_codes}
use Rattle.entry.proofs.InPlace.{absent_get}
use Rattle.entry.proofs.kind_here.Goals as goal

pub node_at-requires-clause-held : goal.node_at-requires-clause-held
node_at-requires-clause-held c = (rw (c.nodes.ensures, c.in-Some.is) at c.position.ensures).1

pub returns-clause-result_value : goal.returns-clause-result_value
returns-clause-result_value c =
    let f = rw (c.nodes.ensures, c.in-Some.is) at c.position.ensures in
    kind_held (num c.args.key) (bucket_in c.args.bucket.now) (node_of c.node_at.result.node) (get_old c.requires c.in-Some.pos f.1 c.node_at.ensures (num c.args.key) f.0)

pub returns-clause-result_value_2 : goal.returns-clause-result_value_2
returns-clause-result_value_2 c = status_codes c.node_at.result.node c.node_at.result.codes

pub returns-in_default-clause-result_value : goal.returns-in_default-clause-result_value
returns-in_default-clause-result_value c =
    kind_none (num c.args.key) (bucket_in c.args.bucket.now) (absent_get c.requires (num c.args.key) (rw (c.nodes.ensures, c.in_default.is) at c.position.ensures)) c.requires.pending
