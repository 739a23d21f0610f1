-- A key that was looked for: its place and its node, or that it is not held; and the bucket that the node was taken out of, to be put into it
-- again.
use Rattle.std.specs.Prelude as code
use Rattle.std.specs.Option as option
use Rattle.std.specs.Prelude.{MatchOption}
use Rattle.std.proofs.Common.{Some, None}
use Prim.Native.Nat.{ℕ, ◌<◌}
use native.Mathlib.Omega.{arith}
use mathlib.Core.Path.{◌≡◌, refl, sym, ap, ◌∙◌, subst}
use mathlib.Core.Bool.{Bool, false}
use mathlib.Core.Option.{none, some}
use lib.ListN.{get_or, length}
use Rattle.places.specs.Places.{position}
use Rattle.model.specs.Base.{is_some}
use Rattle.model.specs.Bucket.{Bucket, BucketSettings, max_nodes_per_bucket, num_entries, get, holds, taken_out}
use Rattle.laws.proofs.KeepFormed.{count_take_out_held, take_out_without}
use Rattle.node.specs.Node.{node_of, zero_node}
use Rattle.bucket.specs.declared.KBucket.{KBucket}
use Rattle.bucket.specs.Bucket.{held_of, key_at, bucket_of, settings_of, Sound, Becomes, Finds}
use Rattle.bucket.proofs.Sound.{count_of, held_count, formed_of}
use Rattle.bucket.proofs.Steps.{told, get_at, found_at, absent_at, holds_at}

-- what is found, from the place of the first node with the key
pub finds : (b : KBucket) → Sound b → (k : ℕ) (o : code.Option ℕ)
    → MatchOption o (position k (held_of b) ≡ length (held_of b)) (λ p. (p ≡ position k (held_of b)) × (p < length (held_of b))) → Finds b k o
finds b s k None e = absent_at b s k _ refl (omega (arith, held_count b s))
finds b s k (Some pos) e =
    let h : pos < b.count = omega (arith, held_count b s, e.1) in
    (h, found_at b s k pos e.0 h)

module _ (b : KBucket) (k : ℕ) {o : code.Option ℕ} (f : Finds b k o) where
  pub found : {pos : ℕ} → o ≡ Some pos → (pos < b.count) × (key_at b pos ≡ k)
  found e = rw e at f

  pub absent : o ≡ None → get k (bucket_of b) ≡ none
  absent e = rw e at f

  pub get_found : Sound b → {pos : ℕ} → o ≡ Some pos → get k (bucket_of b) ≡ some (node_of (get_or b.nodes pos zero_node))
  get_found s {pos} e =
      let x = found e in
      subst (λ (i : ℕ). get i (bucket_of b) ≡ some (node_of (get_or b.nodes pos zero_node))) x.1 (get_at b s pos x.0)

pub found_or_not : (b : KBucket) → Sound b → (k : ℕ) (o : code.Option ℕ) → Finds b k o → option.is_some o ≡ holds k (bucket_of b)
found_or_not b s k None f = sym (ap is_some f)
found_or_not b s k (Some pos) f = sym (ap (λ (j : ℕ). holds j (bucket_of b)) (sym f.1) ∙ holds_at b s pos f.0)

module _ (b : KBucket) (s : Sound b) (pos : ℕ) (h : pos < b.count) where
  module _ (u : Bool) (rest : KBucket) (x : Becomes (settings_of b) (taken_out (key_at b pos) u (bucket_of b)) rest) where
    pub room : rest.count < max_nodes_per_bucket
    room =
        let fewer = count_take_out_held (key_at b pos) (bucket_of b) (holds_at b s pos h) in
        let most = (formed_of b s).at_most in
        let many = count_of rest x.sound ∙ ap num_entries x.bucket in
        omega arith

    pub not_held : holds (key_at b pos) (bucket_of rest) ≡ false
    not_held = told x (λ (t : BucketSettings) (m : Bucket). holds (key_at b pos) m) ∙ take_out_without (key_at b pos) (bucket_of b)
