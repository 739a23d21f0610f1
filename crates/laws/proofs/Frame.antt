-- What a call does not touch: the buckets that are not named by `touched`.
use Prim.Native.Nat.{ℕ}
use mathlib.Core.Path.{◌≡◌, refl, ap, ◌∙◌}
use mathlib.Core.Bool.{Bool, true, false, cond}
use mathlib.Core.List.{List, [], ◌∷◌}
use mathlib.Core.Option.{Option, none, some}
use Rattle.model.specs.Base.{same}
use Rattle.model.specs.Bytes.{number}
use Rattle.model.specs.Node.{EndedPending}
use Rattle.model.specs.Bucket.{Bucket, apply_pending}
use Rattle.model.specs.Table.{Table, Answer, Effect, write, index_in}
use Rattle.model.specs.Call.{Call}
use Rattle.model.specs.Listing.{indices, apply_all, applies}
use Rattle.model.specs.Step.{on_key, own_answer, effect, take_oldest, act}
use Rattle.model.specs.StepBytes.{touched}
use Rattle.model.specs.Fits.{All}
use Rattle.laws.proofs.Tests.{clash}

-- no index of the list is i
abbrev pub Untouched : ℕ → List ℕ → Type 0
Untouched i = All (λ (j : ℕ). same i j ≡ false)

-- it writes every bucket
abbrev pub touches_all : Call → Bool
touches_all (Call.new k timeout m tf bf) = true
touches_all (Call.on_key k c) = false
touches_all (Call.list l n now out) = false
touches_all Call.take_applied_pending = false
touches_all (Call.read bs) = true

pub write_other : (t : Table) (i j : ℕ) (b : Bucket) (rs : List EndedPending) → same i j ≡ false → (write t j b rs).buckets i ≡ t.buckets i
write_other t i j b rs e = ap (λ (q : Bool). cond q b (t.buckets i)) e

pub apply_all_other : (now i : ℕ) (is : List ℕ) (t : Table) → Untouched i is → (apply_all now is t).0.buckets i ≡ t.buckets i
apply_all_other now i [] t h = refl
apply_all_other now i (j ∷ is) t h =
    let a : Bucket × List EndedPending = apply_pending t.settings.bucket now (t.buckets j) in
    apply_all_other now i is (write t j a.0 a.1) h.1 ∙ write_other t i j a.0 a.1 h.0

pub apply_all_settings : (now : ℕ) (is : List ℕ) (t : Table) → (apply_all now is t).0.settings ≡ t.settings
apply_all_settings now [] t = refl
apply_all_settings now (j ∷ is) t = apply_all_settings now is (write t j (apply_pending t.settings.bucket now (t.buckets j)).0 (apply_pending t.settings.bucket now (t.buckets j)).1)

pub on_key_other : (t : Table) (self : Answer) (f : ℕ → Bucket → Effect) (o : Option ℕ) (i : ℕ) → Untouched i (indices o) → (on_key t self f o).table.buckets i ≡ t.buckets i
on_key_other t self f none i h = refl
on_key_other t self f (some j) i h = write_other t i j (f j (t.buckets j)).bucket (f j (t.buckets j)).records h.0

pub take_oldest_buckets : (t : Table) (q : List EndedPending) → (take_oldest t q).table.buckets ≡ t.buckets
take_oldest_buckets t [] = refl
take_oldest_buckets t (a ∷ q) = refl

pub act_frame : (c : Call) (t : Table) (i : ℕ) → touches_all c ≡ false → Untouched i (touched c t) → (act c t).table.buckets i ≡ t.buckets i
unfolding act
act_frame (Call.new k timeout m tf bf) t i n h = clash refl n
act_frame (Call.on_key k c) t i n h = on_key_other t (own_answer c) (effect c k t) (index_in t (number k)) i h
act_frame (Call.list l n now out) t i m h = apply_all_other now i (applies l n now t) t h
act_frame (Call.read bs) t i n h = clash refl n
act_frame Call.take_applied_pending t i n h = ap (λ (bs : ℕ → Bucket). bs i) (take_oldest_buckets t t.queue)
