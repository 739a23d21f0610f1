-- A call on one key: what it answers and leaves, by its questions, by the key's index and by what it does to the key's bucket.
use Prim.Native.Nat.{ℕ, ◌<◌}
use native.Mathlib.Omega.{arith}
use mathlib.Core.Path.{◌≡◌, refl, sym, ap, ◌∙◌}
use mathlib.Core.Bool.{Bool, true, false, cond, ◌&&◌, and-true}
use mathlib.Core.List.{List, [], ◌∷◌, ◌++◌}
use mathlib.Core.Option.{Option, none, some}
use lib.ListN.{length, length-append}
use lib.Dec.{leb}
use borrow.Author.Tests.{le-leb}
use Rattle.model.specs.Bytes.{Bytes, number, splice}
use Rattle.model.specs.Node.{EndedPending}
use Rattle.model.specs.Bucket.{Bucket}
use Rattle.model.specs.Table.{Table, Answer, Effect, write, index_in, num_buckets, max_records}
use Rattle.model.specs.Sizes.{header_size, storage_size}
use Rattle.model.specs.Call.{Call, KeyCall}
use Rattle.model.specs.Question.{first_failed, key_arguments, kind_of_key, keys_fit, codes_in_range, clock_fits, output_fits, kind_fits, hours_in_range, admitted}
use Rattle.model.specs.Step.{Outcome, unchanged, on_key, own_answer, effect, act, queue_fits, late}
use Rattle.model.specs.Layout.{header_bytes, table_of}
use Rattle.model.specs.Formed.{header_formed, bucket_formed_at, buckets_formed}
use Rattle.model.specs.Listing.{indices}
use Rattle.model.specs.Fits.{All}
use Rattle.model.specs.StepBytes.{every_bucket, filtered, runs_filter, key_reads, reads, all_questions, touched, restore, unless_refused_bytes, step_bytes}
use Rattle.laws.proofs.KeepStep.{bucket_index_below}
use Rattle.laws.proofs.KeyReads.{own_read}
use Rattle.laws.proofs.HeaderBack.{header_back, queue_fits_lem}
use Rattle.laws.proofs.Parts.{splice_part}
use Rattle.laws.proofs.Tests.{and_left, and_right, split}
use Rattle.laws.proofs.Questions.{passed, front_passes}
use Rattle.on_key.specs.Answers.{Answers, first_five, failed_of_five, room_for, rewritten, in_bucket}
use Rattle.on_key.specs.Start.{own_formed, key_formed, failed_at_start}
use Rattle.on_key.proofs.Questions.{passed_five, stricter_fails}

-- what a call answers and leaves, by the first failed question

module _ (c : Call) (s : List ℕ) where
  pub refused_bytes : (n : ℕ) → first_failed (all_questions c s) ≡ some n → Answers (Answer.Refused n) s (step_bytes c s)
  unfolding step_bytes
  refused_bytes n e =
      record { answer = ap (λ (o : Option ℕ). (unless_refused_bytes o c s).answer) (sym e); storage = ap (λ (o : Option ℕ). (unless_refused_bytes o c s).storage) (sym e) }

  pub acted_bytes : (a : Answer) (s' : List ℕ) → first_failed (all_questions c s) ≡ none → a ≡ (act c (table_of s)).answer
      → s' ≡ restore s (touched c (table_of s)) (act c (table_of s)).table → Answers a s' (step_bytes c s)
  unfolding step_bytes
  acted_bytes a s' e p q =
      record { answer = p ∙ ap (λ (o : Option ℕ). (unless_refused_bytes o c s).answer) (sym e); storage = q ∙ ap (λ (o : Option ℕ). (unless_refused_bytes o c s).storage) (sym e) }

-- storage whose settings and queue are formed is its own header
pub same_header : (s : List ℕ) → Bytes s → length s ≡ storage_size → header_formed s ≡ true → splice s 0 (header_bytes (table_of s)) ≡ s
same_header s h l f = ap (splice s 0) (header_back s (omega arith) h f) ∙ splice_part s 0 header_size (omega arith)

-- 02, slip 7: the buckets that a call reads, one by one
pub formed_each : (s is : List ℕ) → buckets_formed s is ≡ true → All (λ (i : ℕ). bucket_formed_at s i ≡ true) is
formed_each s [] e = tt
formed_each s (i ∷ is) e = (and_left (bucket_formed_at s i) (buckets_formed s is) e, formed_each s is (and_right (bucket_formed_at s i) (buckets_formed s is) e))

module _ (s key : List ℕ) (c : KeyCall) where
  abbrev t : Table
  t = table_of s

  abbrev call : Call
  call = Call.on_key key c

  abbrev failed : Option ℕ
  failed = failed_of_five key (key_arguments c).codes (key_arguments c).now s

  -- the buckets that the call reads pass question 2
  abbrev pub ReadFormed : Type 0
  ReadFormed = buckets_formed s (reads call t) ≡ true

  -- none on the local key
  pub reads_none : index_in t (number key) ≡ none → ReadFormed
  reads_none i = ap (λ (o : Option ℕ). buckets_formed s (key_reads c (number key) t o)) i

  -- the key's own, where the table filter does not run
  pub reads_own : {i : ℕ} → index_in t (number key) ≡ some i → bucket_formed_at s i ≡ true → runs_filter t i (number key) (filtered c) ≡ false → ReadFormed
  reads_own {i} j b r =
      ap (λ (o : Option ℕ). buckets_formed s (key_reads c (number key) t o)) j ∙ ap (λ (q : Bool). buckets_formed s (cond q every_bucket (i ∷ []))) r ∙ rw b

  -- and by what the table filter has read
  pub reads_are : {i : ℕ} {q : Bool} → index_in t (number key) ≡ some i → buckets_formed s (key_reads c (number key) t (some i)) ≡ q → buckets_formed s (reads call t) ≡ q
  reads_are j b = ap (λ (o : Option ℕ). buckets_formed s (key_reads c (number key) t o)) j ∙ b

  -- the key's own is among them
  own_asked : (o : Option ℕ) → ((i : ℕ) → o ≡ some i → i < num_buckets) → buckets_formed s (key_reads c (number key) t o) ≡ true → own_formed s o ≡ true
  own_asked none m a = refl
  own_asked (some i) m a =
      own_read (λ (j : ℕ). bucket_formed_at s j ≡ true) (runs_filter t i (number key) (filtered c)) i (m i refl) (formed_each s (key_reads c (number key) t (some i)) a)

  pub read_own : ReadFormed → key_formed s key ≡ true
  read_own a = own_asked (index_in t (number key)) (bucket_index_below t.settings.local_key (number key)) a

  -- 02, slip 8: questions 10 and 11; they pass where no session hours are given
  abbrev pub hours : List (ℕ × Bool)
  hours = (10, hours_in_range call) ∷ (11, admitted call t) ∷ []

  -- they pass, and the key is of the kind that the call needs
  abbrev pub suits : Bool
  suits = hours_in_range call && (admitted call t && (key_arguments c).kind (kind_of_key key t))

  suits_kind : suits ≡ true → (key_arguments c).kind (kind_of_key key t) ≡ true
  suits_kind g = and_right (admitted call t) _ (and_right (hours_in_range call) _ g)

  suits_hours : suits ≡ true → first_failed hours ≡ none
  suits_hours g = rw (and_left (hours_in_range call) _ g, and_left (admitted call t) _ (and_right (hours_in_range call) _ g))

  pub suits_all : (key_arguments c).kind (kind_of_key key t) ≡ true → first_failed hours ≡ none → suits ≡ true
  suits_all g z =
      let q10 = passed 10 (hours_in_range call) ((11, admitted call t) ∷ []) z in
      let q11 = passed 11 (admitted call t) [] q10.1 in
      rw (q10.0, q11.0, g)

  asked_are : first_failed (all_questions call s) ≡ first_failed (first_five key (key_arguments c).codes (key_arguments c).now s ++ ((2, buckets_formed s (reads call t)) ∷ late call t))
  unfolding keys_fit codes_in_range clock_fits output_fits
  asked_are = rw and-true

  pub refused_early : (n : ℕ) → failed_at_start key (key_arguments c).codes (key_arguments c).now s ≡ some n → Answers (Answer.Refused n) s (step_bytes call s)
  unfolding failed_at_start
  refused_early n e =
      refused_bytes call s n
      (asked_are
      ∙ stricter_fails (first_five key (key_arguments c).codes (key_arguments c).now s) 2 (key_formed s key) (buckets_formed s (reads call t)) (late call t) read_own n e)

  module _ (e : failed ≡ none) where
    asked_then : first_failed (all_questions call s) ≡ first_failed ((2, buckets_formed s (reads call t)) ∷ late call t)
    unfolding failed_of_five
    asked_then = asked_are ∙ front_passes (first_five key (key_arguments c).codes (key_arguments c).now s) ((2, buckets_formed s (reads call t)) ∷ late call t) e

    -- a bucket that the table filter reads
    pub refused_read : buckets_formed s (reads call t) ≡ false → Answers (Answer.Refused 2) s (step_bytes call s)
    refused_read d = refused_bytes call s 2 (asked_then ∙ rw d)

    module _ (d : ReadFormed) where
      asked_last : first_failed (all_questions call s) ≡ first_failed (late call t)
      asked_last = asked_then ∙ rw d

      pub refused_kind : (key_arguments c).kind (kind_of_key key t) ≡ false → Answers (Answer.Refused 7) s (step_bytes call s)
      unfolding kind_fits
      refused_kind g = refused_bytes call s 7 (asked_last ∙ rw g)

    -- the queue has room for the records, and then the session hours
    module _ (d : ReadFormed) (g : (key_arguments c).kind (kind_of_key key t) ≡ true) where
      asked_queue : first_failed (all_questions call s) ≡ cond (queue_fits call t) (first_failed hours) (some 8)
      unfolding kind_fits
      asked_queue = asked_last d ∙ rw g

    -- the local key
    module _ (i : index_in t (number key) ≡ none) where
      own_acts : act call t ≡ unchanged (own_answer c) t
      unfolding act
      own_acts = ap (on_key t (own_answer c) (effect c key t)) i

      own_asked_last : Bytes s → (key_arguments c).kind (kind_of_key key t) ≡ true → first_failed (all_questions call s) ≡ first_failed hours
      unfolding queue_fits
      own_asked_last h g =
          let p = passed_five s key _ _ e in
          let q : leb (length t.queue) max_records ≡ true = le-leb _ _ (queue_fits_lem s (omega (arith, p.size)) h p.header) in
          asked_queue (reads_none i) g ∙ rw (own_acts, q)

    pub refused_self : (key_arguments c).kind (kind_of_key key t) ≡ true → Bytes s → index_in t (number key) ≡ none → {n : ℕ} → some n ≡ first_failed hours
        → Answers (Answer.Refused n) s (step_bytes call s)
    refused_self g h i {n} z = refused_bytes call s n (own_asked_last i h g ∙ sym z)

    module _ (g : suits ≡ true) where
      pub answers_self : Bytes s → index_in t (number key) ≡ none → Answers (own_answer c) s (step_bytes call s)
      unfolding restore
      answers_self h i =
          let p = passed_five s key _ _ e in
          let a = own_acts i in
          let w : touched call t ≡ [] = ap indices i in
          acted_bytes call s (own_answer c) s (own_asked_last i h (suits_kind g) ∙ suits_hours g) (sym (ap (λ (o : Outcome). o.answer) a))
          (sym (ap (λ (o : Outcome). restore s (touched call t) o.table) a ∙ ap (λ (is : List ℕ). restore s is t) w ∙ same_header s h p.size p.header))

    -- any other key
    module _ (d : ReadFormed) (g : (key_arguments c).kind (kind_of_key key t) ≡ true) {i : ℕ} (j : index_in t (number key) ≡ some i) where
      abbrev eff : Effect
      eff = effect c key t i (t.buckets i)

      acts : act call t ≡ on_key t (own_answer c) (effect c key t) (some i)
      unfolding act
      acts = ap (on_key t (own_answer c) (effect c key t)) j

      room_is : queue_fits call t ≡ room_for s eff.records
      unfolding queue_fits room_for
      room_is = ap (λ (o : Outcome). leb (length o.table.queue) max_records) acts ∙ ap (λ (n : ℕ). leb n max_records) (length-append t.queue eff.records)

      pub refused_room : room_for s eff.records ≡ false → Answers (Answer.Refused 8) s (step_bytes call s)
      refused_room y = refused_bytes call s 8 (asked_queue d g ∙ rw (room_is, y))

      pub refused_hours : room_for s eff.records ≡ true → (n : ℕ) → first_failed hours ≡ some n → Answers (Answer.Refused n) s (step_bytes call s)
      refused_hours y n z = refused_bytes call s n (asked_queue d g ∙ (rw (room_is, y)) ∙ z)

    module _ (d : ReadFormed) (g : suits ≡ true) where
      pub answers_in : (i : ℕ) → index_in t (number key) ≡ some i → {a : Answer} {s' : List ℕ} → Answers a s' (in_bucket s i (effect c key t i (t.buckets i))) → Answers a s' (step_bytes call s)
      unfolding restore in_bucket rewritten
      answers_in i j {a} {s'} x =
          let k = suits_kind g in
          let w : touched call t ≡ (i ∷ []) = ap indices j in
          split (room_for s (eff d k j).records)
          (λ y.
          acted_bytes call s a s' (asked_queue d k ∙ (rw (room_is d k j, y)) ∙ suits_hours g)
          (x.answer ∙ (rw y) ∙ ap (λ (o : Outcome). o.answer) (sym (acts d k j)))
          (x.storage ∙ (rw y) ∙ ap (λ (is : List ℕ). restore s is (write t i (eff d k j).bucket (eff d k j).records)) (sym w) ∙ ap (λ (o : Outcome). restore s (touched call t) o.table) (sym (acts d k j))))
          (λ y.
          let z = refused_room d k j y in
          record { answer = x.answer ∙ (rw y) ∙ z.answer; storage = x.storage ∙ (rw y) ∙ z.storage })

-- a call that acts on the bucket of its key

module _ (s : List ℕ) (i : ℕ) (e : Effect) where
  pub in_refused : room_for s e.records ≡ false → Answers (Answer.Refused 8) s (in_bucket s i e)
  unfolding in_bucket
  in_refused y = record { answer = rw y; storage = rw y }

  pub in_done : (a : Answer) (s' : List ℕ) (b : Bucket) (rs : List EndedPending) → room_for s rs ≡ true → s' ≡ rewritten s i b rs → a ≡ e.answer → b ≡ e.bucket → rs ≡ e.records
      → Answers a s' (in_bucket s i e)
  unfolding in_bucket
  in_done a s' b rs y w p q r =
      let z : room_for s e.records ≡ true = ap (room_for s) (sym r) ∙ y in
      record { answer = p ∙ (rw z); storage = w ∙ ap (λ (m : Bucket). rewritten s i m rs) q ∙ ap (rewritten s i e.bucket) r ∙ (rw z) }
