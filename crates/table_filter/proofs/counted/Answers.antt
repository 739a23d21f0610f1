use Rattle.std.proofs.Common.{rules, ap, sym, ◌∙◌, length}
use Rattle.model.specs.Base.{select}
use Rattle.laws.proofs.BucketBack.{nodes_in_lem}
use Rattle.key.specs.Key.{num}
use Rattle.node.specs.Node.{value_of}
use Rattle.table_filter.specs.Counted.{counts_other}
use Rattle.table_filter.proofs.counted.Goals as goal

pub returns : goal.returns
returns c =
    let p = counts_other (num c.args.key) (value_of c.args.value) in
    (c.count.ensures.value p (λ bytes r post. search rules) ∙ ap (λ ns. length (select p ns)) (sym (nodes_in_lem c.args.held.bucket.now)), c.count.ensures.few)
