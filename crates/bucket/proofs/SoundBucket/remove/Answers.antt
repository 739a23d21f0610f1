use mathlib.Core.Path.{◌≡◌, ap, subst}
use mathlib.Core.Bool.{true, false}
use Prim.Native.Nat.{ℕ}
use Rattle.model.specs.Base.{is_some}
use Rattle.model.specs.Bucket as rules
use Rattle.key.specs.Key.{num}
use Rattle.bucket.specs.Bucket.{bucket_of, settings_of, Becomes}
use Rattle.bucket.proofs.Sound.{becomes_itself}
use Rattle.bucket.proofs.Steps.{done, then_becomes}
use Rattle.bucket.proofs.Held.{found, absent, get_found}
use Rattle.bucket.proofs.Rules.{remove_held, remove_absent}
use Rattle.bucket.proofs.SoundBucket.remove.Goals as goal

pub returns-in-Some : goal.returns-in-Some
returns-in-Some c =
    let b = c.args.self.bucket in
    let s = settings_of b in
    let m = bucket_of b in
    let k = num c.args.key in
    let f = (found b k c.position.ensures c.in-Some.is).1 in
    let rest = subst (λ (j : ℕ). Becomes s (rules.take_out j m) c.taken_out.result.bucket) f c.taken_out.ensures in
    let h : rules.holds k m ≡ true = ap is_some (get_found b k c.position.ensures c.args.self.sound c.in-Some.is) in
    done (remove_held s c.args.now k m h)
    (then_becomes rest (λ (s' : rules.BucketSettings) (m' : rules.Bucket). (rules.apply_pending s' c.args.now m').0) c.apply_pending.ensures.becomes)

pub returns-in-None : goal.returns-in-None
returns-in-None c =
    let b = c.args.self.bucket in
    let s = settings_of b in
    let m = bucket_of b in
    let k = num c.args.key in
    let h : rules.holds k m ≡ false = ap is_some (absent b k c.position.ensures c.in-None.is) in
    rw c.stays.ensures (done (remove_absent s c.args.now k m h) (becomes_itself b c.args.self.sound))
