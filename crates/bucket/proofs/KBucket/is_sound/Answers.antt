use Rattle.std.proofs.Common.{rules}
use mathlib.Core.Path.{◌≡◌, refl, sym, ap, ◌∙◌}
use mathlib.Core.Bool.{false, ◌&&◌}
use Prim.Native.Nat.{ℕ}
use native.Mathlib.Omega.{arith}
use mathlib.Core.List.{List}
use lib.ListN.{length, take, drop}
use lib.Seq.{take_all}
use Rattle.std.proofs.lemmas.List.{take-take}
use lib.Dec.{leb}
use borrow.Author.Tests.{le-leb, lt-leb}
use Rattle.model.specs.Base.{every}
use Rattle.node.specs.declared.Node.{Node}
use Rattle.node.specs.Node.{is_zero}
use Rattle.places.specs.Places.{in_state}
use Rattle.laws.proofs.Tests.{clash, and_left, and_right}
use Rattle.bucket.specs.Bucket.{held_of, sound}
use Rattle.bucket.proofs.Sound.{sound_of}
use Rattle.bucket.proofs.Answers.{pending_test, fails_count, fails_first, passes}
use Rattle.bucket.proofs.KBucket.is_sound.Goals.{then-self-gt-MAX_NODES_PER_BUCKET-via-then-self-gt-MAX_NODES_PER_BUCKET, then-self-gt-MAX_NODES_PER_BUCKET-via-else-self-gt-MAX_NODES_PER_BUCKET+then-self}
use Rattle.bucket.proofs.KBucket.is_sound.Goals as goal

in_parts : {x x' y y' z z' : List Node} → x ≡ x' → y ≡ y' → z ≡ z'
    → (every (in_state 0) x && (every (in_state 1) y && every is_zero z)) ≡ (every (in_state 0) x' && (every (in_state 1) y' && every is_zero z'))
in_parts p q r = cc

pub returns-then-self-gt-MAX_NODES_PER_BUCKET : goal.returns-then-self-gt-MAX_NODES_PER_BUCKET
returns-then-self-gt-MAX_NODES_PER_BUCKET c =
    let b = c.args.self.now in
    let fails : false ≡ sound b =
    elim c.then-self-gt-MAX_NODES_PER_BUCKET.branch [
      | then-self-gt-MAX_NODES_PER_BUCKET-via-then-self-gt-MAX_NODES_PER_BUCKET w ↦ fails_count b (lt-leb _ _ w.if-self-gt-MAX_NODES_PER_BUCKET.true)
      | then-self-gt-MAX_NODES_PER_BUCKET-via-else-self-gt-MAX_NODES_PER_BUCKET+then-self w ↦ fails_first b (le-leb _ _ w.if-self-gt-MAX_NODES_PER_BUCKET.false) (lt-leb _ _ w.if-self.true)
    ] in
    record { value = fails; sound = λ e. clash e refl }

pub returns : goal.returns
returns c =
    let b = c.args.self.now in
    let f = b.first_connected_pos in
    let len : length b.nodes ≡ 16 = search rules in
    let held : c.split_at.result.0.now ≡ held_of b = c.split_at.ensures.front in
    let low : c.split_at-2.result.0.now ≡ take f b.nodes = c.split_at-2.ensures.front ∙ ap (take f) held ∙ take-take f b.count b.nodes c.if-self.false in
    let high : c.split_at-2.result.1.now ≡ drop f (held_of b) = c.split_at-2.ensures.back ∙ ap (drop f) held in
    let free : c.split_at.result.1.now ≡ drop b.count (take 16 b.nodes) = c.split_at.ensures.back ∙ ap (drop b.count) (sym (take_all 16 b.nodes (omega arith))) in
    let d = c.all_different-different.result in
    let p = c.in_places-placed.result in
    let i = leb c.incoming.result b.settings.max_incoming in
    let w = c.pending_sound-pending.result in
    let rest = i && (w && (leb b.settings.max_incoming 16 && leb b.settings.filter 1)) in
    let e =
    passes b (le-leb _ _ c.if-self-gt-MAX_NODES_PER_BUCKET.false) (le-leb _ _ c.if-self.false) d p i w (rw held at c.all_different-different.ensures)
    (c.in_places-placed.ensures.value ∙ in_parts low high free) (ap (λ (k : ℕ). leb k b.settings.max_incoming) (rw held at c.incoming.ensures))
    ((rw held at c.pending_sound-pending.ensures.value) ∙ pending_test b b.pending) in
    record {
      value = e;
      sound =
          λ t.
          let words = rw (low, high) at (c.in_places-placed.ensures.all (and_left p rest (and_right d (p && rest) t))) in
          sound_of b (sym e ∙ t) len words.0 words.1 c.pending_sound-pending.ensures.pending_words;
    }
