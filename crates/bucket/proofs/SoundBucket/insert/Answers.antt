use mathlib.Core.Path.{sym, ◌∙◌, subst}
use Prim.Native.Nat.{ℕ, ◌≤◌, ◌<◌}
use Rattle.model.specs.Bucket.{max_nodes_per_bucket}
use Rattle.bucket.proofs.Sound.{becomes_itself, count_of}
use Rattle.bucket.proofs.Steps.{done, by_rule}
use Rattle.bucket.proofs.Rules.{insert_exists, insert_filter, insert_many, insert_placed, insert_full_lem}
use Rattle.bucket.proofs.SoundBucket.insert.Goals as goal

pub returns-then-holds : goal.returns-then-holds
returns-then-holds c =
    rw c.stays.ensures
    (done (insert_exists _ _ _ _ (sym c.holds.ensures ∙ c.if-holds.true)) (becomes_itself _ c.args.self.sound))

pub returns-then-fails_filter : goal.returns-then-fails_filter
returns-then-fails_filter c =
    rw c.stays-then-fails_filter.ensures
    (done (insert_filter _ _ _ _ (sym c.holds.ensures ∙ c.if-holds.false) (sym c.fails_filter.ensures ∙ c.if-fails_filter.true)) (becomes_itself _ c.args.self.sound))

pub returns-then-is_max_incoming : goal.returns-then-is_max_incoming
returns-then-is_max_incoming c =
    rw c.stays-then-is_max_incoming.ensures
    (done
    (insert_many _ _ _ _ (sym c.holds.ensures ∙ c.if-holds.false) (sym c.fails_filter.ensures ∙ c.if-fails_filter.false)
    (sym c.is_max_incoming.ensures ∙ c.if-is_max_incoming.true)) (becomes_itself _ c.args.self.sound))

pub returns-then-self-lt-MAX_NODES_PER_BUCKET : goal.returns-then-self-lt-MAX_NODES_PER_BUCKET
returns-then-self-lt-MAX_NODES_PER_BUCKET c =
    let room = subst (λ (k : ℕ). k < max_nodes_per_bucket) (count_of c.args.self.bucket c.args.self.sound) c.if-self-lt-MAX_NODES_PER_BUCKET.true in
    done
    (insert_placed _ _ _ _ (sym c.holds.ensures ∙ c.if-holds.false) (sym c.fails_filter.ensures ∙ c.if-fails_filter.false)
    (sym c.is_max_incoming.ensures ∙ c.if-is_max_incoming.false) room) c.placed.ensures

pub returns : goal.returns
returns c =
    let is-full = subst (λ (k : ℕ). max_nodes_per_bucket ≤ k) (count_of c.args.self.bucket c.args.self.sound) c.if-self-lt-MAX_NODES_PER_BUCKET.false in
    by_rule
    (insert_full_lem _ _ _ _ (sym c.holds.ensures ∙ c.if-holds.false) (sym c.fails_filter.ensures ∙ c.if-fails_filter.false)
    (sym c.is_max_incoming.ensures ∙ c.if-is_max_incoming.false) is-full) c.insert_full.ensures
