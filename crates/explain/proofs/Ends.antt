-- The query, by the questions, by the key's index, and by what the call does to the key's bucket.
use Rattle.std.specs.Prelude as code
use Rattle.std.specs.Prelude.{Result, Ok, Err, Some, None, IfSome}
use Rattle.std.specs.Result.{IsErrAnd}
use Rattle.std.specs.Option.{is_some, ok_or}
use Rattle.std.proofs.lemmas.Result.{err_from_is_err_and}
use Prim.Native.Nat.{ℕ, ◌+◌}
use native.Mathlib.Nat.{add-zero}
use mathlib.Core.Path.{◌≡◌, sym, ap, ◌∙◌}
use mathlib.Core.Bool.{Bool, true, false, cond, and-true}
use mathlib.Core.List.{List, [], ◌∷◌, ◌++◌}
use mathlib.Core.Option.{Option, none, some}
use mathlib.Core.Logic.{◌⊎◌, inl, inr}
use lib.ListN.{length, length-append}
use lib.Dec.{leb}
use borrow.Author.Tests.{ne_eqb}
use Rattle.model.specs.Sizes.{storage_size}
use Rattle.model.specs.Bytes.{number, splice}
use Rattle.model.specs.Value.{Value}
use Rattle.model.specs.Node.{Node, EndedPending}
use Rattle.model.specs.Bucket.{Bucket, BucketSettings}
use Rattle.model.specs.Table.{Table, EntryKind, index_in, max_records}
use Rattle.model.specs.Result.{Reply}
use Rattle.model.specs.Call.{Call, KeyCall}
use Rattle.model.specs.Question.{first_failed, with_room, key_arguments, kind_of_key, keys_fit, codes_in_range, clock_fits, output_fits, kind_fits}
use Rattle.model.specs.Step.{Outcome, on_key, own_answer, effect, act, queue_fits, late}
use Rattle.model.specs.Layout.{table_of}
use Rattle.model.specs.Formed.{buckets_formed}
use Rattle.model.specs.StepBytes.{Replied, filtered, runs_filter, key_reads, reads, all_questions}
use Rattle.model.specs.Explain.{Told, told, Reason, bucket_reason, key_reason, reason, explanation, line, explanation_room, line_unless_refused, explain_bytes}
use Rattle.laws.proofs.Questions.{front_fails, front_passes}
use Rattle.key.specs.declared.Key.{Key}
use Rattle.node.specs.declared.Refusal.{Refusal}
use Rattle.node.specs.Refusal.{number_of}
use Rattle.bucket.specs.declared.KBucket.{KBucket}
use Rattle.bucket.specs.Bucket.{bucket_of, settings_of, Becomes}
use Rattle.on_key.specs.Answers.{Replies, first_five, failed_of_five, room_for}
use Rattle.on_key.specs.Start.{key_formed, Located, AtBucket}
use Rattle.on_key.proofs.Questions.{stricter_fails}
use Rattle.on_key.proofs.Stored.{no_room}
use Rattle.on_key.proofs.Ended.{size_told, own_formed}
use Rattle.on_key.proofs.OneKey.{ReadFormed, hours, read_own, reads_none, reads_are}
use Rattle.on_key.proofs.Steps.{started}
use Rattle.entry.proofs.Kind.{kind_self}
use Rattle.explanation.specs.declared.Reason as declared
use Rattle.explanation.specs.Explanation.{reason_of}
use Rattle.explain.specs.Calls.{Explains, failed_at_opening, Opened, EntryOpened, last_asked}

-- the exit of a `?`: the query answers the refusal that was met
pub refused_exit : (r : Result ℕ Refusal) (e : Refusal) → IsErrAnd r (λ x. x ≡ e) → {out : List ℕ} {x : Replied} → Explains (Err e) out x → Explains r out x
refused_exit r e h a = let p = err_from_is_err_and r h in rw (p.1, p.2) a

-- the last questions, in turn

module _ (room : Bool) (hrs : Option ℕ) (l out : List ℕ) where
  pub refused_queue : (r : Refusal) → some (number_of r) ≡ cond room none (some 8) → Explains (Err r) out (last_asked room hrs l out)
  unfolding last_asked
  refused_queue r e = let q = no_room room e in record { answer = rw (q.0, q.1); output = rw q.0 }

  module _ (q : room ≡ true) where
    pub refused_hours : (r : Refusal) → hrs ≡ some (number_of r) → Explains (Err r) out (last_asked room hrs l out)
    unfolding last_asked
    refused_hours r h = record { answer = rw (q, h); output = rw (q, h) }

    pub answered : hrs ≡ none → {n : ℕ} {out' : List ℕ} → n ≡ length l → out' ≡ splice out 0 l → Explains (Ok n) out' (last_asked room hrs l out)
    unfolding last_asked
    answered h {n} {out'} p w = record { answer = ap (λ (m : ℕ). Reply.Answered m) p ∙ rw (q, h); output = w ∙ rw (q, h) }

-- how it starts, by what was asked in turn

module _ (s key : List ℕ) (codes : Bool) (now : Option ℕ) (room : Bool) where
  pub opened_refused : (n : ℕ) → failed_of_five key codes now s ≡ some n → failed_at_opening key codes now room s ≡ some n
  unfolding failed_of_five failed_at_opening
  opened_refused n e = front_fails (first_five key codes now s) ((6, room) ∷ (2, key_formed s key) ∷ []) n e

  module _ (e : failed_of_five key codes now s ≡ none) where
    opened_then : failed_at_opening key codes now room s ≡ first_failed ((6, room) ∷ (2, key_formed s key) ∷ [])
    unfolding failed_of_five failed_at_opening
    opened_then = front_passes (first_five key codes now s) ((6, room) ∷ (2, key_formed s key) ∷ []) e

    pub opened_short : room ≡ false → failed_at_opening key codes now room s ≡ some 6
    opened_short f = opened_then ∙ rw f

    pub opened_malformed : room ≡ true → {r : Refusal} → Located s (number key) (Err r) → failed_at_opening key codes now room s ≡ some (number_of r)
    opened_malformed f l =
        opened_then ∙ ap (λ (b : Bool). first_failed ((6, b) ∷ (2, key_formed s key) ∷ [])) f ∙ ap (λ (b : Bool). cond b none (some 2)) l.1
        ∙ ap (λ (q : Refusal). some (number_of q)) (sym l.0)

-- what an explanation has at its start: codes are what question 4 asks of the call's arguments, P is what is known of them behind it
pub opened_self : {T : Type 0} (s key : List ℕ) (arguments : code.Option T) {codes : Bool} (now : Option ℕ) {room : Bool} → is_some arguments ≡ codes → Opened s key arguments now room (Ok None)
    → (room ≡ true) × ((failed_of_five key codes now s ≡ none) × (index_in (table_of s) (number key) ≡ none))
opened_self s key arguments now p y = rw p at y

pub opened : {T : Type 0} (P : T → Type 0) {s key : List ℕ} {arguments : code.Option T} {codes : Bool} {now : Option ℕ} {room : Bool} {k : Key} {i : ℕ} {x : T} → is_some arguments ≡ codes → IfSome arguments P
    → Opened s key arguments now room (Ok (Some (k, i, x))) → ((room ≡ true) × AtBucket s key codes now k i) × P x
opened P p v y = let z = started P p v y.1 in ((y.0, z.0), z.1)

-- a call on one key

module _ (s key : List ℕ) (c : KeyCall) (out : List ℕ) where
  abbrev t : Table
  t = table_of s

  abbrev call : Call
  call = Call.on_key key c

  abbrev codes : Bool
  codes = (key_arguments c).codes

  abbrev now : Option ℕ
  now = (key_arguments c).now

  abbrev room : Bool
  room = leb explanation_room (length out)

  abbrev kind : Bool
  kind = (key_arguments c).kind (kind_of_key key t)

  asked_are : first_failed (with_room room (all_questions call s)) ≡ first_failed (first_five key codes now s ++ ((6, room) ∷ (2, buckets_formed s (reads call t)) ∷ late call t))
  unfolding keys_fit codes_in_range clock_fits output_fits
  asked_are = rw and-true

  refused : (r : Refusal) → first_failed (with_room room (all_questions call s)) ≡ some (number_of r) → Explains (Err r) out (explain_bytes key c out s)
  unfolding explain_bytes
  refused r e =
      record {
        answer = ap (λ (o : Option ℕ). (line_unless_refused o (line (explanation c key t)) out).answer) (sym e);
        output = ap (λ (o : Option ℕ). (line_unless_refused o (line (explanation c key t)) out).output) (sym e);
      }

  refused_early : (r : Refusal) → failed_at_opening key codes now room s ≡ some (number_of r) → Explains (Err r) out (explain_bytes key c out s)
  unfolding failed_at_opening
  refused_early r e =
      refused r
      (asked_are
      ∙ stricter_fails (first_five key codes now s ++ ((6, room) ∷ [])) 2 (key_formed s key) (buckets_formed s (reads call t)) (late call t) (read_own s key c) (number_of r) e)

  -- one of the questions that `begin` asks
  pub refused_opening : (r : Result ℕ Refusal) (q : Refusal) → IsErrAnd r (λ x. x ≡ q) → failed_at_opening key codes now room s ≡ some (number_of q) → Explains r out (explain_bytes key c out s)
  refused_opening r q h e = refused_exit r q h (refused_early q e)

  -- question 1
  pub refused_size : {T : Type 0} {o : code.Option T} {q : Refusal} (r : Result ℕ Refusal) → ◌≡◌ {A = Result T Refusal} (Err q) (ok_or o Refusal.Size) → o ≡ code.None
      → (length s ≡ storage_size → ⊥) → IsErrAnd r (λ x. x ≡ q) → Explains r out (explain_bytes key c out s)
  unfolding failed_of_five
  refused_size {q = q} r v n h e =
      refused_exit r q e (rw (size_told v n) (refused_early Refusal.Size (opened_refused s key codes now room 1 (rw (ne_eqb (length s) storage_size h)))))

  -- the output has room, and questions 1 to 5 have passed
  module _ (h : room ≡ true) (e : failed_of_five key codes now s ≡ none) where
    asked_then : first_failed (with_room room (all_questions call s)) ≡ first_failed ((2, buckets_formed s (reads call t)) ∷ late call t)
    unfolding failed_of_five
    asked_then =
        asked_are ∙ front_passes (first_five key codes now s) ((6, room) ∷ (2, buckets_formed s (reads call t)) ∷ late call t) e
        ∙ ap (λ (b : Bool). first_failed ((6, b) ∷ (2, buckets_formed s (reads call t)) ∷ late call t)) h

    module _ (f : ReadFormed s key c) where
      asked_late : first_failed (with_room room (all_questions call s)) ≡ cond kind (cond (queue_fits call t) (first_failed (hours s key c)) (some 8)) (some 7)
      unfolding kind_fits
      asked_late = asked_then ∙ ap (λ (b : Bool). first_failed ((2, b) ∷ late call t)) f

      refused_at_kind : kind ≡ false → Explains (Err Refusal.Kind) out (explain_bytes key c out s)
      refused_at_kind k = refused Refusal.Kind (asked_late ∙ rw k)

      module _ (k : kind ≡ true) where
        asked_last : explain_bytes key c out s ≡ last_asked (queue_fits call t) (first_failed (hours s key c)) (line (explanation c key t)) out
        unfolding explain_bytes last_asked
        asked_last = ap (λ (o : Option ℕ). line_unless_refused o (line (explanation c key t)) out) (asked_late ∙ rw k)

        -- by what was asked and explained
        ends : {fits : Bool} {hrs : Option ℕ} {d : Told} {w : Reason} {r : Reply ℕ} {out' : List ℕ} → fits ≡ queue_fits call t → hrs ≡ first_failed (hours s key c)
            → d ≡ told (act call t).answer → w ≡ reason c key t → Replies r out' (last_asked fits hrs (line (record { told = d; reason = w })) out) → Replies r out' (explain_bytes key c out s)
        unfolding explanation
        ends {fits} {hrs} {d} {w} g n p q x =
            let z : last_asked fits hrs (line (record { told = d; reason = w })) out ≡ explain_bytes key c out s = rw (g, n, p, q) (sym asked_last) in
            record { answer = x.answer ∙ ap (λ (y : Replied). y.answer) z; output = x.output ∙ ap (λ (y : Replied). y.output) z }

  -- the local key
  module _ (y : (room ≡ true) × ((failed_of_five key codes now s ≡ none) × (index_in t (number key) ≡ none))) where
    pub refused_self : (key_arguments c).kind EntryKind.SelfEntry ≡ false → Explains (Err Refusal.Kind) out (explain_bytes key c out s)
    refused_self k = refused_at_kind y.0 y.1.0 (reads_none s key c y.1.1) (ap (key_arguments c).kind (kind_self s key y.1.1) ∙ k)

    pub ends_local : kind ≡ true → {hrs : Option ℕ} → hrs ≡ first_failed (hours s key c) → {r : Reply ℕ} {out' : List ℕ}
        → Replies r out' (last_asked (room_for s []) hrs (line (record { told = told (own_answer c); reason = Reason.LocalKey })) out) → Replies r out' (explain_bytes key c out s)
    unfolding queue_fits room_for act reason
    ends_local k n x =
        let a = ap (on_key t (own_answer c) (effect c key t)) (sym y.1.1) in
        ends y.0 y.1.0 (reads_none s key c y.1.1) k
        (ap (λ (n : ℕ). leb n max_records) (add-zero (length t.queue)) ∙ ap (λ (o : Outcome). leb (length o.table.queue) max_records) a) n
        (ap (λ (o : Outcome). told o.answer) a) (ap (key_reason (bucket_reason c key t)) (sym y.1.1)) x

  -- one of the questions that `begin_entry` asks, with 7 of the local key
  pub refused_entry : {T : Type 0} (arguments : code.Option T) (r : Result ℕ Refusal) {q : Refusal} → is_some arguments ≡ codes → IsErrAnd r (λ x. x ≡ q) → EntryOpened s key arguments now room (Err q)
      → (key_arguments c).kind EntryKind.SelfEntry ≡ false → Explains r out (explain_bytes key c out s)
  refused_entry arguments r {q} p h (inl e) k = refused_opening r q h (rw p at e)
  refused_entry arguments r {q} p h (inr e) k = refused_exit r q h (rw e.0 (refused_self (opened_self s key arguments now p e.1) k))

  -- any other key
  module _ {k : Key} {i : ℕ} (y : (room ≡ true) × AtBucket s key codes now k i) where
    -- a bucket that the table filter reads
    pub refused_read : buckets_formed s (key_reads c (number key) t (some i)) ≡ false → Explains (Err Refusal.Form) out (explain_bytes key c out s)
    refused_read d = refused Refusal.Form (asked_then y.0 y.1.passed ∙ rw (reads_are s key c y.1.index d))

    pub refused_kind : runs_filter t i (number key) (filtered c) ≡ false → kind ≡ false → Explains (Err Refusal.Kind) out (explain_bytes key c out s)
    refused_kind r n = refused_at_kind y.0 y.1.passed (own_formed s key c y.1 r) n

    -- by what the call does to the bucket, where that alone is read, or what the table filter has read
    pub ends_at : (runs_filter t i (number key) (filtered c) ≡ false) ⊎ (buckets_formed s (key_reads c (number key) t (some i)) ≡ true) → kind ≡ true
        → {hrs : Option ℕ} → hrs ≡ first_failed (hours s key c) → {rs : List EndedPending} → rs ≡ (effect c key t i (t.buckets i)).records
        → {d : Told} → d ≡ told (effect c key t i (t.buckets i)).answer → {w : Reason} → w ≡ bucket_reason c key t i → {r : Reply ℕ} {out' : List ℕ}
        → Replies r out' (last_asked (room_for s rs) hrs (line (record { told = d; reason = w })) out) → Replies r out' (explain_bytes key c out s)
    unfolding queue_fits room_for act reason
    ends_at f k n m p q x =
        let a = ap (on_key t (own_answer c) (effect c key t)) (sym y.1.index) in
        ends y.0 y.1.passed (formed f) k
        (ap (λ (l : List EndedPending). leb (length t.queue + length l) max_records) m
        ∙ ap (λ (n : ℕ). leb n max_records) (sym (length-append t.queue (effect c key t i (t.buckets i)).records))
        ∙ ap (λ (o : Outcome). leb (length o.table.queue) max_records) a) n
        (p ∙ ap (λ (o : Outcome). told o.answer) a) (q ∙ ap (key_reason (bucket_reason c key t)) (sym y.1.index)) x
      where
        formed : (runs_filter t i (number key) (filtered c) ≡ false) ⊎ (buckets_formed s (key_reads c (number key) t (some i)) ≡ true) → ReadFormed s key c
        formed (inl r) = own_formed s key c y.1 r
        formed (inr e) = reads_are s key c y.1.index e

-- a node, by its key
abbrev pub node_with : ℕ → Value → Bool → Bool → Node
node_with k v u d = record { key = k; value = v; connected = u; incoming = d }

-- the reason found on a bucket by value, as a reason on the model's bucket, with the key as the bytes that were given
pub reason_told : {s : BucketSettings} {m : Bucket} {b : KBucket} {k n : ℕ} (w : code.Option declared.Reason) → Becomes s m b → (F : BucketSettings → ℕ → Bucket → Reason) → k ≡ n
    → reason_of w ≡ F (settings_of b) k (bucket_of b) → reason_of w ≡ F s n m
reason_told w x F e r = r ∙ rw (x.settings, x.bucket, e)
