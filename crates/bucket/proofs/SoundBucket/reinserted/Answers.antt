use Rattle.std.proofs.Common.{refl, sym, ◌∙◌}
use Rattle.node.specs.Node.{node_of}
use Rattle.bucket.specs.Bucket.{bucket_of, settings_of}
use Rattle.bucket.proofs.Sound.{becomes_itself}
use Rattle.bucket.proofs.Rules.{reinsert_filter, reinsert_many, reinsert_placed}
use Rattle.bucket.proofs.SoundBucket.reinserted.Goals as goal

pub returns-then-fails_filter : goal.returns-then-fails_filter
returns-then-fails_filter c =
    rw (reinsert_filter (settings_of c.args.self.bucket) (node_of c.args.node.node) (bucket_of c.args.self.bucket) (sym c.fails_filter.ensures ∙ c.if-fails_filter.true), c.stays.ensures)
    (record { result_value = refl; becomes = becomes_itself c.args.self.bucket c.args.self.sound })

pub returns-then-is_max_incoming : goal.returns-then-is_max_incoming
returns-then-is_max_incoming c =
    rw (reinsert_many (settings_of c.args.self.bucket) (node_of c.args.node.node) (bucket_of c.args.self.bucket) (sym c.fails_filter.ensures ∙ c.if-fails_filter.false) (sym c.is_max_incoming.ensures ∙ c.if-is_max_incoming.true), c.stays-then-is_max_incoming.ensures)
    (record { result_value = refl; becomes = becomes_itself c.args.self.bucket c.args.self.sound })

pub returns : goal.returns
returns c =
    rw (reinsert_placed (settings_of c.args.self.bucket) (node_of c.args.node.node) (bucket_of c.args.self.bucket) (sym c.fails_filter.ensures ∙ c.if-fails_filter.false) (sym c.is_max_incoming.ensures ∙ c.if-is_max_incoming.false))
    (record { result_value = c.status_result.ensures; becomes = c.placed.ensures })
