-- How a call on one key ends: question 8, the session hours, and what was written.
use Rattle.std.specs.Prelude as code
use Rattle.std.specs.Prelude.{Result, Ok, Err, Some, None, IfSome}
use Rattle.std.specs.Option.{is_some, ok_or}
use Rattle.std.specs.Result.{IsErrAnd}
use Rattle.std.proofs.lemmas.Result.{err_from_is_err_and}
use Prim.Native.Nat.{ℕ}
use mathlib.Core.Path.{◌≡◌, sym, ap, ◌∙◌}
use mathlib.Core.Bool.{Bool, true, false, cond}
use mathlib.Core.List.{List, [], ◌∷◌}
use mathlib.Core.Logic.{◌≢◌}
use mathlib.Core.Option.{Option, none, some}
use lib.Dec.{eqb}
use lib.ListN.{length}
use borrow.Author.Tests.{ne_eqb}
use Rattle.model.specs.Sizes.{storage_size}
use Rattle.model.specs.Bytes.{Bytes, number}
use Rattle.model.specs.Node.{EndedPending}
use Rattle.model.specs.Bucket.{Bucket}
use Rattle.model.specs.Table.{Answer, Effect}
use Rattle.model.specs.Call.{Call, KeyCall}
use Rattle.model.specs.Question.{first_failed, key_arguments, kind_of_key}
use Rattle.model.specs.Step.{effect}
use Rattle.model.specs.Layout.{table_of}
use Rattle.model.specs.StepBytes.{BytesOutcome, filtered, runs_filter, step_bytes}
use Rattle.key.specs.declared.Key.{Key}
use Rattle.node.specs.declared.Refusal.{Refusal}
use Rattle.node.specs.Refusal.{number_of, answer_of}
use Rattle.bucket.specs.declared.KBucket.{KBucket}
use Rattle.bucket.specs.Bucket.{bucket_of}
use Rattle.on_key.specs.Answers.{Answers, room_for, rewritten, Finished}
use Rattle.on_key.specs.Start.{AtBucket, Begun}
use Rattle.on_key.proofs.Steps.{started}
use Rattle.on_key.proofs.Stored.{room_for_none, no_room, has_room}
use Rattle.on_key.proofs.OneKey.{refused_bytes, ReadFormed, hours, suits, suits_all, reads_own, refused_room, refused_hours, answers_in, in_refused, in_done}

-- the answer, the bucket that is left and its record are those of the call
pub record Told (s key : List ℕ) (c : KeyCall) (i : ℕ) (a : Answer) (b : KBucket) (rs : List EndedPending) : Type 0 where
  pub answer : a ≡ (effect c key (table_of s) i ((table_of s).buckets i)).answer
  pub bucket : bucket_of b ≡ (effect c key (table_of s) i ((table_of s).buckets i)).bucket
  pub records : rs ≡ (effect c key (table_of s) i ((table_of s).buckets i)).records

-- what a call on one key has at its start: s is the storage that was handed in as t, P is what is known of the arguments behind question 4,
-- and the buckets that the call reads pass question 2
pub record Here {T : Type 0} (P : T → Type 0) (s t key : List ℕ) (c : KeyCall) (k : Key) (i : ℕ) (x : T) : Type 0 where
  pub same : s ≡ t
  pub at : AtBucket s key (key_arguments c).codes (key_arguments c).now k i
  pub given : P x
  pub read : ReadFormed s key c

-- the exit of a `?`: the call answers the refusal that was met
pub refused_exit : {A : Type 0} (f : A → Answer) (r : Result A Refusal) (e : Refusal) → IsErrAnd r (λ x. x ≡ e) → {s' : List ℕ} {o : BytesOutcome}
    → Answers (Answer.Refused (number_of e)) s' o → Answers (answer_of f r) s' o
refused_exit f r e h a = let p = err_from_is_err_and r h in rw (p.1, p.2) a

-- question 1 fails of a storage of another length, whatever is asked behind it
pub size_fails : (s : List ℕ) → (length s ≡ storage_size → ⊥) → (qs : List (ℕ × Bool)) → first_failed ((1, eqb (length s) storage_size) ∷ qs) ≡ some 1
size_fails s n qs = rw (ne_eqb (length s) storage_size n)

-- the refusal that stands for what is not there
pub refusal_told : {T : Type 0} {o : code.Option T} {q r : Refusal} → ◌≡◌ {A = Result T Refusal} (Err q) (ok_or o r) → o ≡ None → q ≡ r
refusal_told {o = o} v n = let w = rw n at v in cc

pub size_told : {T : Type 0} {o : code.Option T} {q : Refusal} → ◌≡◌ {A = Result T Refusal} (Err q) (ok_or o Refusal.Size) → o ≡ None → q ≡ Refusal.Size
size_told v n = refusal_told v n

-- the exit of question 1: q is the refusal, o what was made of the storage
pub refused_size : {A T : Type 0} (f : A → Answer) (c : Call) {s : List ℕ} {o : code.Option T} {q : Refusal} (r : Result A Refusal)
    → ◌≡◌ {A = Result T Refusal} (Err q) (ok_or o Refusal.Size) → o ≡ None → length s ≢ storage_size → IsErrAnd r (λ x. x ≡ q) → Answers (answer_of f r) s (step_bytes c s)
refused_size f c {s} {q = q} r v n m h = refused_exit f r q h (rw (size_told v n) (refused_bytes c s 1 (rw (ne_eqb (length s) storage_size m))))

-- a call for which the table filter does not run reads the key's bucket alone
pub own_formed : (s key : List ℕ) (c : KeyCall) {k : Key} {i : ℕ} → AtBucket s key (key_arguments c).codes (key_arguments c).now k i
    → runs_filter (table_of s) i (number key) (filtered c) ≡ false → ReadFormed s key c
own_formed s key c y r = reads_own s key c y.index y.ready.bucket r

pub here : {T : Type 0} (P : T → Type 0) {s t key : List ℕ} (c : KeyCall) {arguments : code.Option T} {k : Key} {i : ℕ} {x : T} → s ≡ t
    → is_some arguments ≡ (key_arguments c).codes → IfSome arguments P → Begun s key arguments (key_arguments c).now (Ok (Some (k, i, x)))
    → runs_filter (table_of s) i (number key) (filtered c) ≡ false → Here P s t key c k i x
here P {s} {t} {key} c w p v b r =
    let y = started P p v b in
    record { same = w; at = y.0; given = y.1; read = own_formed s key c y.0 r }

module _ (s key : List ℕ) (c : KeyCall) {k : Key} {i : ℕ} (y : AtBucket s key (key_arguments c).codes (key_arguments c).now k i) (d : ReadFormed s key c) where
  abbrev e : Effect
  e = effect c key (table_of s) i ((table_of s).buckets i)

  -- a call at its key's bucket, by what `finish` answered and left
  module _ (g : suits s key c ≡ true) {b : Bucket} {rs : List EndedPending} {s' : List ℕ} where
    pub ends_full : {r : Refusal} → Finished (Err r) s' s i b rs → rs ≡ e.records → Answers (Answer.Refused (number_of r)) s' (step_bytes (Call.on_key key c) s)
    ends_full x p =
        let r = no_room (room_for s rs) x.asked in
        let z = in_refused s i e (ap (room_for s) (sym p) ∙ r.0) in
        answers_in s key c y.passed d g i y.index
        (record { answer = ap Answer.Refused r.1 ∙ z.answer; storage = x.left ∙ ap (λ (t : Bool). cond t (rewritten s i b rs) s) r.0 ∙ z.storage })

    pub ends : {u : Unit {0}} → Finished (Ok u) s' s i b rs → rs ≡ e.records → {a : Answer} → a ≡ e.answer → b ≡ e.bucket → Answers a s' (step_bytes (Call.on_key key c) s)
    ends x p {a} q w =
        let r = has_room (room_for s rs) x.asked in
        answers_in s key c y.passed d g i y.index (in_done s i e a s' b rs r (x.left ∙ ap (λ (t : Bool). cond t (rewritten s i b rs) s) r) q w p)

  -- a call that is given session hours, by what question 8 and then the hours' questions answered
  module _ (g : (key_arguments c).kind (kind_of_key key (table_of s)) ≡ true) {rs : List EndedPending} (p : rs ≡ e.records) where
    pub hours_full : {q : ℕ} → some q ≡ cond (room_for s rs) none (some 8) → Answers (Answer.Refused q) s (step_bytes (Call.on_key key c) s)
    hours_full n =
        let r = no_room (room_for s rs) n in
        let z = refused_room s key c y.passed d g y.index (ap (room_for s) (sym p) ∙ r.0) in
        record { answer = ap Answer.Refused r.1 ∙ z.answer; storage = z.storage }

    module _ (n : ◌≡◌ {A = Option ℕ} none (cond (room_for s rs) none (some 8))) where
      pub hours_refused : {q : ℕ} → some q ≡ first_failed (hours s key c) → Answers (Answer.Refused q) s (step_bytes (Call.on_key key c) s)
      hours_refused {q} z = refused_hours s key c y.passed d g y.index (ap (room_for s) (sym p) ∙ has_room (room_for s rs) n) q (sym z)

      -- and by what was written
      pub hours_ended : none ≡ first_failed (hours s key c) → {b : Bucket} {a : Answer} {s' : List ℕ} → s' ≡ rewritten s i b rs → a ≡ e.answer → b ≡ e.bucket
          → Answers a s' (step_bytes (Call.on_key key c) s)
      hours_ended z {b} {a} {s'} l u v =
          answers_in s key c y.passed d (suits_all s key c g (sym z)) i y.index (in_done s i e a s' b rs (has_room (room_for s rs) n) l u v p)

  -- the hours' questions of a call that adds no record: question 8 passes
  module _ (g : (key_arguments c).kind (kind_of_key key (table_of s)) ≡ true) where
    pub unrecorded_refused : Bytes s → [] ≡ e.records → {q : ℕ} → some q ≡ first_failed (hours s key c) → Answers (Answer.Refused q) s (step_bytes (Call.on_key key c) s)
    unrecorded_refused h p {q} z = refused_hours s key c y.passed d g y.index (ap (room_for s) (sym p) ∙ room_for_none s h i y.ready) q (sym z)

    pub hours_suit : none ≡ first_failed (hours s key c) → suits s key c ≡ true
    hours_suit z = suits_all s key c g (sym z)
