use Rattle.std.proofs.Common.{sym, ◌∙◌}
use Rattle.node.specs.Node.{node_of}
use Rattle.bucket.specs.Bucket.{bucket_of, settings_of}
use Rattle.reasons.proofs.Rules.{reinsert_filter, reinsert_many, reinsert_placed}
use Rattle.reasons.proofs.reinsert_reason.Goals as goal

pub returns-then-fails_filter : goal.returns-then-fails_filter
returns-then-fails_filter c =
    let b = c.args.b.now.bucket in
    reinsert_filter (settings_of b) (node_of c.args.node) (bucket_of b) (sym c.fails_filter.ensures ∙ c.if-fails_filter.true)

pub returns-then-is_max_incoming : goal.returns-then-is_max_incoming
returns-then-is_max_incoming c =
    let b = c.args.b.now.bucket in
    reinsert_many (settings_of b) (node_of c.args.node) (bucket_of b) (sym c.fails_filter.ensures ∙ c.if-fails_filter.false) (sym c.is_max_incoming.ensures ∙ c.if-is_max_incoming.true)

pub returns-else-is_max_incoming : goal.returns-else-is_max_incoming
returns-else-is_max_incoming c =
    let b = c.args.b.now.bucket in
    reinsert_placed (settings_of b) (node_of c.args.node) (bucket_of b) (sym c.fails_filter.ensures ∙ c.if-fails_filter.false) (sym c.is_max_incoming.ensures ∙ c.if-is_max_incoming.false)
