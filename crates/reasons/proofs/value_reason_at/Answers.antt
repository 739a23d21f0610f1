use mathlib.Core.Path.{◌≡◌, sym, ap, ◌∙◌}
use mathlib.Core.Bool.{false, not, ◌&&◌}
use lib.ListN.{get_or}
use Rattle.model.specs.Value.{same_value}
use Rattle.model.specs.Bucket as rules
use Rattle.model.specs.Explain.{bucket_filter_reason}
use Rattle.node.specs.Node.{value_of, node_of, zero_node}
use Rattle.bucket.specs.Bucket.{bucket_of, settings_of, key_at}
use Rattle.bucket.proofs.Steps.{told, get_at}
use Rattle.reasons.proofs.Rules.{reason_if, value_tested}
use Rattle.reasons.proofs.value_reason_at.Goals as goal
use Rattle.reasons.proofs.value_reason_at.Goals.{then-not-eq, else-not-eq}

pub returns : goal.returns
returns c =
    let b = c.args.b.now in
    let s = settings_of b.bucket in
    let k = key_at b.bucket c.args.pos in
    let v = value_of c.args.value in
    let y = c.taken_out-rest.ensures in
    let old = node_of (get_or b.bucket.nodes c.args.pos zero_node) in
    let at = get_at b.bucket b.sound c.args.pos c.requires in
    let e : c.if-not-eq.fails ≡ (not (same_value old.value v) && rules.fails_bucket_filter s v (rules.take_out k (bucket_of b.bucket))) =
    elim c.if-not-eq.branch [
      | then-not-eq w ↦ w.fails-is ∙ w.fails_filter-fails.ensures ∙ told y (λ (s : rules.BucketSettings) (m : rules.Bucket). rules.fails_bucket_filter s v m) ∙ rw (sym c.eq.ensures ∙ w.if-not-eq.true)
      | else-not-eq w ↦ let f : c.if-not-eq.fails ≡ false = w.fails-is ∙ ap not w.if-not-eq.false in f ∙ rw (sym c.eq.ensures ∙ w.if-not-eq.false)
    ] in
    rw c.then_some.ensures (reason_if c.if-not-eq.fails _ (ap (bucket_filter_reason v) y.bucket) ∙ value_tested s k v (bucket_of b.bucket) old at c.if-not-eq.fails e)
