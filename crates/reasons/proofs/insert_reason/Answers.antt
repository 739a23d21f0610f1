use Rattle.std.proofs.Common.{refl, ◌∙◌, arith}
use Rattle.node.specs.Node.{node_of}
use Rattle.bucket.specs.Bucket.{bucket_of, settings_of}
use Rattle.bucket.proofs.Sound.{count_of}
use Rattle.reasons.proofs.Rules.{some_reason, insert_full_lem, insert_tested}
use Rattle.reasons.proofs.insert_reason.Goals as goal

pub returns-in-None : goal.returns-in-None
returns-in-None c =
    let b = c.args.b.now in
    let t = rw c.in-None.is at c.reinsert_reason.ensures in
    c.full_reason.ensures ∙ insert_full_lem (settings_of b.bucket) (node_of c.args.node) (bucket_of b.bucket) t (omega (arith, count_of b.bucket b.sound))

pub returns-in_default : goal.returns-in_default
returns-in_default c =
    let b = c.args.b.now in
    insert_tested (settings_of b.bucket) (node_of c.args.node) (bucket_of b.bucket) c.reinsert_reason.ensures (λ _. omega (arith, b.sound.few, count_of b.bucket b.sound))

pub returns-in_default-2 : goal.returns-in_default-2
returns-in_default-2 c =
    let b = c.args.b.now in
    c.reinsert_reason.ensures ∙ insert_tested (settings_of b.bucket) (node_of c.args.node) (bucket_of b.bucket) refl (λ f. absurd (some_reason _ (c.in_default.ensures ∙ f)))
