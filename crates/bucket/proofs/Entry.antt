-- What a call on a bucket answers.
use mathlib.Core.Path.{◌≡◌, refl, sym, ap}
use mathlib.Core.Option.{Option, none, some}
use Rattle.std.proofs.Common.{Result, Ok, Err}
use Rattle.model.specs.Result.{Reply}
use Prim.Native.Nat.{ℕ}
use Rattle.model.specs.Bucket.{Bucket}
use Rattle.node.specs.declared.Refusal.{Refusal}
use Rattle.node.specs.Refusal.{number_of, reply_of}
use Rattle.bucket.specs.declared.KBucket.{KBucket}
use Rattle.bucket.specs.declared.Step.{Step}
use Rattle.bucket.specs.Bucket.{settings_of, Does}
use Rattle.bucket.specs.Calls.{answered}
use Rattle.bucket.proofs.Sound.{becomes_stored}

pairs : {A B : Type 0} {a a' : A} {b b' : B} → a ≡ a' → b ≡ b' → ◌≡◌ {A = A × B} (a, b) (a', b')
pairs e f = cc

module _ {A B : Type 0} (b : KBucket) (o : Option ℕ) (x : B × Bucket) (f : A → B) (s : Step KBucket (Result A Refusal)) where
  -- a question failed: its number, and the bucket as it was
  pub refused : (r : Refusal) → some (number_of r) ≡ o → s ≡ record { bucket = b; result = Err r } → answered b o x ≡ (reply_of f s.result, s.bucket)
  refused r e h = rw (sym e, h) refl

  -- no question failed: what the rule answers, and what is stored of the bucket that it leaves
  pub accepted : (a : A) (r : KBucket) → o ≡ none → s ≡ record { bucket = r; result = Ok a } → Does (settings_of b) x (f a) r → answered b o x ≡ (reply_of f s.result, s.bucket)
  accepted a r n h d = rw (n, h) (pairs (ap Reply.Answered (sym d.result_value)) (sym (becomes_stored d.becomes)))
