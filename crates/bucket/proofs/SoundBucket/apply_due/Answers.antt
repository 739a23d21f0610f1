use mathlib.Core.Path.{◌≡◌, sym, ◌∙◌, subst}
use mathlib.Core.Bool.{false, ◌&&◌}
use Prim.Native.Nat.{ℕ, ◌≤◌, ◌<◌}
use lib.Dec.{eqb, leb}
use borrow.Author.Tests.{le-leb, lt-leb, ne_eqb}
use Rattle.model.specs.Bucket.{max_nodes_per_bucket}
use Rattle.bucket.proofs.Sound.{becomes_itself, count_of, formed_of}
use Rattle.bucket.proofs.Steps.{by_apply, none_disconnected, first_of_full, open_of}
use Rattle.bucket.proofs.Rules.{due_filter, due_many, due_placed, due_connected, due_evicts}
use mathlib.Core.Logic.{◌⊎◌, ⊎_elim}
use Rattle.std.proofs.Common.{refl}
use Rattle.bucket.proofs.SoundBucket.apply_due.Goals as goal

not_both : {k f : ℕ} → (16 ≤ k × (f ≡ 0 → ⊥)) ⊎ (k < 16) → (leb 16 k && eqb f 0) ≡ false
not_both {k} {f} x = ⊎_elim (λ h. rw (le-leb 16 k h.0) (ne_eqb f 0 h.1)) (λ h. rw (lt-leb 16 k h) refl) x

pub returns-then-self-eq0 : goal.returns-then-self-eq0
returns-then-self-eq0 c now =
    let b = c.args.self.bucket in
    let many = subst (λ (k : ℕ). max_nodes_per_bucket ≤ k) (count_of b c.args.self.sound) c.if-full.true in
    rw c.stays.ensures
    (by_apply (due_connected _ now _ _ c.requires.self_value many (none_disconnected b c.args.self.sound c.if-self-eq0.true))
    (record { result_value = refl; becomes = becomes_itself b c.args.self.sound }))

pub returns-then-fails_filter : goal.returns-then-fails_filter
returns-then-fails_filter c now =
    let b = c.args.self.bucket in
    let fits = open_of b c.args.self.sound (not_both c.else-full.either) in
    rw c.stays-then-fails_filter.ensures
    (by_apply (due_filter _ now _ _ c.requires.self_value fits (sym c.fails_filter.ensures ∙ c.if-fails_filter.true))
    (record { result_value = refl; becomes = becomes_itself b c.args.self.sound }))

pub returns-then-is_max_incoming : goal.returns-then-is_max_incoming
returns-then-is_max_incoming c now =
    let b = c.args.self.bucket in
    let fits = open_of b c.args.self.sound (not_both c.else-full.either) in
    rw c.stays-then-is_max_incoming.ensures
    (by_apply
    (due_many _ now _ _ c.requires.self_value (sym c.fails_filter.ensures ∙ c.if-fails_filter.false) fits (sym c.is_max_incoming.ensures ∙ c.if-is_max_incoming.true))
    (record { result_value = refl; becomes = becomes_itself b c.args.self.sound }))

pub returns-then-full-2 : goal.returns-then-full-2
returns-then-full-2 c now =
    let b = c.args.self.bucket in
    let many = subst (λ (k : ℕ). max_nodes_per_bucket ≤ k) (count_of b c.args.self.sound) c.if-full-2.true in
    let rest = first_of_full b c.args.self.sound (not_both c.else-full.either) c.if-full-2.true in
    by_apply
    (due_evicts _ now _ _ c.requires.self_value (sym c.fails_filter.ensures ∙ c.if-fails_filter.false) (sym c.is_max_incoming.ensures ∙ c.if-is_max_incoming.false) many
    _ rest.0 rest.1 c.requires.pending_value (formed_of b c.args.self.sound).different) c.evict.ensures

pub returns : goal.returns
returns c now =
    let room = subst (λ (k : ℕ). k < max_nodes_per_bucket) (count_of c.args.self.bucket c.args.self.sound) c.if-full-2.false in
    by_apply
    (due_placed _ now _ _ c.requires.self_value (sym c.fails_filter.ensures ∙ c.if-fails_filter.false) (sym c.is_max_incoming.ensures ∙ c.if-is_max_incoming.false) room)
    (record { result_value = refl; becomes = c.placed.ensures })
