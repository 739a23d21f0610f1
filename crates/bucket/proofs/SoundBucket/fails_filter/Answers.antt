use Rattle.std.proofs.Common.{sym, ◌∙◌}
use borrow.Author.Tests.{eq-eqb, ne_eqb}
use Rattle.node.specs.Node.{value_of}
use Rattle.bucket.specs.Bucket.{bucket_of, settings_of}
use Rattle.bucket.proofs.Steps.{filter_on, filter_off}
use Rattle.bucket.proofs.SoundBucket.fails_filter.Goals as goal

pub returns-then-self-eq1 : goal.returns-then-self-eq1
returns-then-self-eq1 c = filter_on c.args.self.now.bucket c.args.value (eq-eqb _ _ c.if-self-eq1.true) _ (rw c.nodes.ensures at c.ip_filter.ensures)

pub returns-else-self-eq1 : goal.returns-else-self-eq1
returns-else-self-eq1 c =
    let off = ne_eqb _ _ c.if-self-eq1.false in
    off ∙ sym (filter_off (settings_of c.args.self.now.bucket) (value_of c.args.value) (bucket_of c.args.self.now.bucket) off)
