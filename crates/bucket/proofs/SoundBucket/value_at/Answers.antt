use mathlib.Core.Path.{◌≡◌, sym, ap, ◌∙◌, subst}
use mathlib.Core.Bool.{false}
use borrow.Author.Tests.{ne_eqb}
use lib.ListN.{get_or, set}
use Rattle.model.specs.Bucket as rules
use Rattle.model.specs.Result.{UpdateResult}
use Rattle.node.specs.Node.{value_of, node_of, zero_node}
use Rattle.bucket.specs.Bucket.{bucket_of, settings_of, key_at, Does}
use Rattle.model.specs.Fits.{Formed}
use Rattle.laws.proofs.KeepFormed.{update_value_formed}
use Rattle.bucket.proofs.Sound.{becomes_itself, formed_of}
use Rattle.bucket.proofs.Steps.{renewed, done, told, filter_off, get_at, revalued_becomes}
use Rattle.bucket.proofs.Rules.{value_same, value_fails, value_changes}
use Rattle.bucket.proofs.SoundBucket.value_at.Goals.{After-with_value, then-self-eq1+else-fails_filter, else-self-eq1}
use Rattle.bucket.proofs.SoundBucket.value_at.Goals as goal

pub returns-then-eq : goal.returns-then-eq
returns-then-eq c =
    let b = c.args.self.bucket in
    let s = settings_of b in
    let m = bucket_of b in
    let k = key_at b c.args.pos in
    let v = value_of c.args.value.value in
    let old = node_of (get_or b.nodes c.args.pos zero_node) in
    let at = get_at b c.args.self.sound c.args.pos c.requires in
    rw c.stays.ensures (done (value_same s k v m old at (sym c.eq.ensures ∙ c.if-eq.true)) (becomes_itself b c.args.self.sound))

pub returns-then-fails_filter : goal.returns-then-fails_filter
returns-then-fails_filter c =
    let b = c.args.self.bucket in
    let s = settings_of b in
    let m = bucket_of b in
    let k = key_at b c.args.pos in
    let v = value_of c.args.value.value in
    let old = node_of (get_or b.nodes c.args.pos zero_node) in
    let at = get_at b c.args.self.sound c.args.pos c.requires in
    let y = c.taken_out-rest.ensures in
    done
    (value_fails s k v m old at (sym c.eq.ensures ∙ c.if-eq.false)
    (sym (told y (λ (s' : rules.BucketSettings) (m' : rules.Bucket). rules.fails_bucket_filter s' v m')) ∙ sym c.fails_filter.ensures ∙ c.if-fails_filter.true))
    y

module _ (c : After-with_value) where
  abbrev x : UpdateResult × rules.Bucket
  x = rules.update_value (settings_of c.args.self.bucket) (key_at c.args.self.bucket c.args.pos) (value_of c.args.value.value) (bucket_of c.args.self.bucket)

  updated : Does (settings_of c.args.self.bucket) x UpdateResult.Updated
      (renewed (set c.args.self.bucket.nodes c.args.pos c.with_value.result) c.args.self.bucket.count c.args.self.bucket.first_connected_pos c.args.self.bucket.pending c.args.self.bucket)
  updated =
      let b = c.args.self.bucket in
      let s = settings_of b in
      let m = bucket_of b in
      let k = key_at b c.args.pos in
      let v = value_of c.args.value.value in
      let at = get_at b c.args.self.sound c.args.pos c.requires in
      let passes : rules.fails_bucket_filter s v (rules.take_out k m) ≡ false =
      elim c.if-self-eq1.branch [
        | then-self-eq1+else-fails_filter w ↦ sym (told w.taken_out-rest.ensures (λ (s : rules.BucketSettings) (m : rules.Bucket). rules.fails_bucket_filter s v m)) ∙ sym w.fails_filter.ensures ∙ w.if-fails_filter.false
        | else-self-eq1 w ↦ filter_off s v (rules.take_out k m) (ne_eqb _ _ w.if-self-eq1.false)
      ] in
      let e = value_changes s k v m _ at (sym c.eq.ensures ∙ c.if-eq.false) passes in
      done e
      (revalued_becomes b c.args.self.sound c.args.pos c.requires c.args.value.value c.args.value.codes c.with_value.result c.with_value.ensures
      (subst (Formed b.settings.max_incoming) (ap (λ (r : UpdateResult × rules.Bucket). r.1) e) (update_value_formed s k v m (formed_of b c.args.self.sound))))

pub invariant_of-self : goal.invariant_of-self
invariant_of-self c = record { sound = (updated (goal.at.invariant_of-self c).After-with_value).becomes.sound }

pub returns : goal.returns
returns c = updated (goal.at.returns c).After-with_value
