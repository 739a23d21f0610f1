-- The steps that the calls on one key share.
use Rattle.std.specs.Prelude as code
use Rattle.std.specs.Prelude.{Ok, Err, Some, IfSome}
use Rattle.std.specs.Option.{is_some}
use Prim.Native.Nat.{ℕ, ◌+◌, ◌^◌, ◌<◌}
use native.Mathlib.Omega.{arith}
use mathlib.Core.Path.{◌≡◌, sym, ap, ◌∙◌}
use mathlib.Core.Bool.{Bool, cond}
use mathlib.Core.List.{List, [], ◌∷◌}
use mathlib.Core.Option.{Option, none, some}
use lib.Dec.{eqb}
use lib.ListN.{length}
use borrow.Author.Tests.{leb-true, ne_eqb}
use Rattle.model.specs.Bytes.{number}
use Rattle.model.specs.Bucket.{Bucket, BucketSettings}
use Rattle.model.specs.Sizes.{key_size, storage_size}
use Rattle.model.specs.Question.{deadline_fits}
use Rattle.model.specs.Layout.{table_of}
use Rattle.laws.proofs.Questions.{front_fails, front_passes}
use Rattle.key.specs.declared.Key.{Key}
use Rattle.node.specs.declared.Refusal.{Refusal}
use Rattle.node.specs.Refusal.{number_of}
use Rattle.bucket.specs.declared.KBucket.{KBucket}
use Rattle.bucket.specs.Bucket.{bucket_of, settings_of, Becomes, Sound}
use Rattle.bucket.proofs.Steps.{told, then_becomes}
use Rattle.on_key.specs.Answers.{first_two, first_five, failed_of_two, failed_of_three, failed_of_five}
use Rattle.on_key.specs.Start.{key_formed, failed_at_start, Located, AtBucket, Begun}
use Rattle.on_key.proofs.Questions.{passed_five}

-- a question of 1 and 2 that failed, where others stand behind them
pub three_refused : (time : ℕ) (s : List ℕ) (n : ℕ) → failed_of_two s ≡ some n → failed_of_three time s ≡ some n
unfolding failed_of_two failed_of_three
three_refused time s n e = front_fails (first_two s) ((5, deadline_fits (table_of s).settings.bucket.pending_timeout (some time)) ∷ []) n e

pub five_refused : (s key : List ℕ) (codes : Bool) (now : Option ℕ) (n : ℕ) → failed_of_two s ≡ some n → failed_of_five key codes now s ≡ some n
unfolding failed_of_two failed_of_five
five_refused s key codes now n e =
    front_fails (first_two s) ((3, eqb (length key) key_size) ∷ (4, codes) ∷ (5, deadline_fits (table_of s).settings.bucket.pending_timeout now) ∷ []) n e

-- question 1, at the start of a call on one key
pub begun_short : (s key : List ℕ) (codes : Bool) (now : Option ℕ) → (length s ≡ storage_size → ⊥) → failed_at_start key codes now s ≡ some 1
unfolding failed_at_start
begun_short s key codes now n = rw (ne_eqb (length s) storage_size n)

-- a question of 1 to 5 that failed
pub begun_refused : (s key : List ℕ) (codes : Bool) (now : Option ℕ) (n : ℕ) → failed_of_five key codes now s ≡ some n → failed_at_start key codes now s ≡ some n
unfolding failed_of_five failed_at_start
begun_refused s key codes now n e = front_fails (first_five key codes now s) ((2, key_formed s key) ∷ []) n e

-- question 2 of the key's bucket, where they passed
pub begun_malformed : {T : Type 0} (s key : List ℕ) (arguments : code.Option T) (now : Option ℕ) → failed_of_five key (is_some arguments) now s ≡ none
    → {r : Refusal} → Located s (number key) (Err r) → Begun s key arguments now (Err r)
unfolding failed_of_five failed_at_start
begun_malformed s key arguments now e l =
    front_passes (first_five key (is_some arguments) now s) ((2, key_formed s key) ∷ []) e ∙ ap (λ (b : Bool). cond b none (some 2)) l.1
    ∙ ap (λ (q : Refusal). some (number_of q)) (sym l.0)

-- what a call on one key has at its start: codes are what question 4 asks of its arguments, P is what is known of them behind it
pub started : {T : Type 0} (P : T → Type 0) {s key : List ℕ} {arguments : code.Option T} {codes : Bool} {now : Option ℕ} {k : Key} {i : ℕ} {x : T}
    → is_some arguments ≡ codes → IfSome arguments P → Begun s key arguments now (Ok (Some (k, i, x))) → AtBucket s key codes now k i × P x
started P p v b = (rw p at b.0, rw b.1 at v)

pub timely : (s key : List ℕ) (codes : Bool) (time : ℕ) → failed_of_five key codes (some time) s ≡ none
    → time + (table_of s).settings.bucket.pending_timeout < 2 ^ 64
timely s key codes time e =
    let p = leb-true (time + (table_of s).settings.bucket.pending_timeout) 18446744073709551615 (passed_five s key codes (some time) e).in_time_lem in omega (arith, p)

-- a new pending's deadline fits in a bucket of the storage's settings
pub timely_there : (s : List ℕ) (time : ℕ) {m : Bucket} {b : KBucket} → Becomes (table_of s).settings.bucket m b → time + (table_of s).settings.bucket.pending_timeout < 2 ^ 64
    → time + b.settings.pending_timeout < 2 ^ 64
timely_there s time x t = omega (arith, ap (λ (c : BucketSettings). c.pending_timeout) x.settings)

-- a step on a bucket by value, as a step on the model's bucket, with the key as the bytes that were given
pub record Stepped (A : Type 0) (x : A × Bucket) (a : A) (r : KBucket) : Type 0 where
  pub answer : a ≡ x.0
  pub bucket : bucket_of r ≡ x.1
  pub sound : Sound r

pub stepped : {A : Type 0} {s : BucketSettings} {m : Bucket} {b r : KBucket} {k n : ℕ} {a : A} → Becomes s m b → (F : BucketSettings → ℕ → Bucket → A × Bucket) → k ≡ n
    → a ≡ (F (settings_of b) k (bucket_of b)).0 → Becomes (settings_of b) (F (settings_of b) k (bucket_of b)).1 r → Stepped A (F s n m) a r
stepped {A} {s} {m} {b} {r} {k} {n} {a} x F e f g =
    let y : Becomes s (F s k m).1 r = then_becomes x (λ (s' : BucketSettings) (m' : Bucket). (F s' k m').1) g in
    record {
      answer = f ∙ told x (λ (s' : BucketSettings) (m' : Bucket). (F s' k m').0) ∙ ap (λ (j : ℕ). (F s j m).0) e;
      bucket = y.bucket ∙ ap (λ (j : ℕ). (F s j m).1) e;
      sound = y.sound;
    }
