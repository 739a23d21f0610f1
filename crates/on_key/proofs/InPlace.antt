-- A call on one key whose bucket has no pending: nothing is applied, no record is added, so question 8 passes, and the bucket's bytes may
-- be changed in place (crates/held).
use Prim.Native.Nat.{ℕ, ◌+◌, ◌-◌}
use native.Mathlib.Omega.{arith}
use borrow.Rule.Slice.PartMut.{put_mid}
use mathlib.Core.Path.{◌≡◌, refl, sym, ap, ◌∙◌}
use mathlib.Core.Bool.{Bool, true, ◌&&◌}
use mathlib.Core.List.{List, [], ◌++◌, append-nil}
use mathlib.Core.Option.{Option, none, some}
use Rattle.std.specs.declared.ops.Range.{Range}
use lib.ListN.{length, get_or, take, drop, length-take, length-drop}
use Rattle.model.specs.Key.{bucket_index}
use Rattle.model.specs.Bytes.{Bytes, number, splice}
use Rattle.model.specs.Value.{Value, same_value}
use Rattle.model.specs.Node.{Node, PendingNode, Ending, EndedPending, ended_if, with_value}
use Rattle.model.specs.Result.{BucketInsertResult, UpdateResult, is_inserted, is_failed}
use Rattle.model.specs.Bucket.{Bucket, BucketSettings, nodes, get, holds, of_key, fails_bucket_filter, take_out, insert, insert_endings, apply_pending, is_first, status_endings, update_if_pending, update_value_of, update_value}
use Rattle.model.specs.Table.{Table, Answer, Effect, with_queue, no_endings, fails_table_filter, given_status_endings, update_node_endings, insert_or_update_endings}
use Rattle.model.specs.Sizes.{bucket_size, max_incoming_at, bucket_at}
use Rattle.model.specs.Call.{Call, KeyCall, is_one, optional, value_of}
use Rattle.model.specs.Question.{key_arguments}
use Rattle.model.specs.Step.{node_of, effect}
use Rattle.model.specs.Layout.{header_bytes, bucket_bytes, bucket_in, bucket_part, table_of}
use Rattle.model.specs.Formed.{bucket_formed, key_in, is_at}
use Rattle.model.specs.StepBytes.{step_bytes}
use Rattle.laws.proofs.Tests.{cases}
use Rattle.laws.proofs.Parts.{sliced}
use Rattle.words.proofs.Words.{put_mid_splice}
use Rattle.key.specs.declared.Key.{Key}
use Rattle.key.specs.Key.{num}
use Rattle.on_key.specs.Answers.{Answers, is_due, Ready, rewritten}
use Rattle.on_key.specs.Start.{AtBucket}
use Rattle.on_key.proofs.Due.{not_due}
use Rattle.on_key.proofs.Stored.{written_back, room_for_none}
use Rattle.on_key.proofs.OneKey.{ReadFormed, suits, same_header, answers_in, in_done}

-- a bucket without a pending

module _ (b : Bucket) (e : b.pending ≡ none) where
  pub none_applied : (s : BucketSettings) (now : ℕ) → apply_pending s now b ≡ (b, [])
  none_applied s now = not_due s now b (ap (is_due now) e)

  -- none is ended by the call's own step

  status_ends_none : (k : ℕ) (u : Bool) → status_endings k u b ≡ []
  status_ends_none k u = cases (λ (l : List EndedPending). l ≡ []) (u && is_first k (nodes b)) (λ _. ap (ended_if Ending.FirstConfirmed) e) (λ _. refl)

  insert_ends_none : (n : Node) (r : BucketInsertResult) → insert_endings n b r ≡ []
  insert_ends_none n r =
      cases (λ (l : List EndedPending). l ≡ []) (is_inserted r) (λ _. ap (λ (o : Option PendingNode). ended_if Ending.Inserted (of_key n.key o)) e) (λ _. refl)

  insert_or_update_ends_none : (s : BucketSettings) (fails : Bool) (now : ℕ) (n : Node) → insert_or_update_endings s fails now n b ≡ []
  insert_or_update_ends_none s fails now n =
      cases (λ (l : List EndedPending). l ≡ []) fails (λ _. refl)
      (λ _. cases (λ (l : List EndedPending). l ≡ []) (holds n.key b) (λ _. status_ends_none n.key n.connected) (λ _. insert_ends_none n (insert s now n b).0))

  -- nor is one made by a new value
  value_keeps_none : (s : BucketSettings) (k : ℕ) (v : Value) → (update_value s k v b).1.pending ≡ none
  unfolding update_value
  value_keeps_none s k v = go (get k b)
    where
      go : (o : Option Node) → (update_value_of s k v b o).1.pending ≡ none
      go none = ap (λ (o : Option PendingNode). (update_if_pending k (with_value v) b o).1.pending) e ∙ e
      go (some n) =
          let P : UpdateResult × Bucket → Type 0 = λ r. r.1.pending ≡ none in
          cases P (same_value n.value v) (λ _. e) (λ _. cases P (fails_bucket_filter s v (take_out k b)) (λ _. e) (λ _. e))

  -- a call that applies a due pending first
  after_ends_none : (s : BucketSettings) (now : ℕ) (g : Bucket → List EndedPending) → g b ≡ [] → (apply_pending s now b).1 ++ g (apply_pending s now b).0 ≡ []
  after_ends_none s now g h = ap (λ (a : Bucket × List EndedPending). a.1 ++ g a.0) (none_applied s now) ∙ h

update_ends_none : (b : Bucket) → b.pending ≡ none → (s : BucketSettings) (fails : Bool) (k : ℕ) (v : Value) (u : Option Bool) → update_node_endings s fails k v u b ≡ []
update_ends_none b e s fails k v u =
    cases (λ (l : List EndedPending). l ≡ []) fails (λ _. refl) (λ _. cases (λ (l : List EndedPending). l ≡ []) (is_failed (update_value s k v b).0) (λ _. refl) (λ _. given u))
  where
    given : (u : Option Bool) → given_status_endings k u (update_value s k v b).1 ≡ []
    given none = refl
    given (some u) = status_ends_none (update_value s k v b).1 (value_keeps_none b e s k v) k u

-- no call adds a record
pub none_recorded : (c : KeyCall) (key : List ℕ) (t : Table) (i : ℕ) (b : Bucket) → b.pending ≡ none → (effect c key t i b).records ≡ []
none_recorded (KeyCall.update_node_status st dr now) key t i b e =
    after_ends_none b e t.settings.bucket now (status_endings (number key) (is_one st)) (status_ends_none b e (number key) (is_one st))
none_recorded (KeyCall.update_node v st now) key t i b e =
    let fails : Bool = fails_table_filter t i (number key) (value_of v) in
    after_ends_none b e t.settings.bucket now (update_node_endings t.settings.bucket fails (number key) (value_of v) (optional st))
    (update_ends_none b e t.settings.bucket fails (number key) (value_of v) (optional st))
none_recorded (KeyCall.insert_or_update v st dr now hs) key t i b e =
    let fails : Bool = fails_table_filter t i (number key) (value_of v) in
    after_ends_none b e t.settings.bucket now (insert_or_update_endings t.settings.bucket fails now (node_of key v st dr))
    (insert_or_update_ends_none b e t.settings.bucket fails now (node_of key v st dr))
none_recorded (KeyCall.remove now) key t i b e = after_ends_none b e t.settings.bucket now no_endings refl
none_recorded (KeyCall.entry now) key t i b e = after_ends_none b e t.settings.bucket now no_endings refl
none_recorded (KeyCall.present_update st dr) key t i b e = status_ends_none b e (number key) (is_one st)
none_recorded (KeyCall.pending_update st dr) key t i b e = refl
none_recorded (KeyCall.absent_insert v st dr now hs) key t i b e = insert_ends_none b e (node_of key v st dr) (insert t.settings.bucket now (node_of key v st dr) b).0

-- where the bytes of bucket i stand, and the bytes of a range
abbrev pub range_of : ℕ → Range ℕ
range_of i = record { start = bucket_at i; end = bucket_at i + bucket_size }

abbrev pub ranged : List ℕ → Range ℕ → List ℕ
ranged s r = take (r.end - r.start) (drop r.start s)

-- the bytes of bucket i as they are lent
module _ (s : List ℕ) (i : ℕ) {bs : List ℕ} (e : bs ≡ bucket_part s i) where
  pub ranged_is : {r : Range ℕ} → r ≡ range_of i → bs ≡ ranged s r
  ranged_is x = e ∙ sym (sliced s (bucket_at i) bucket_size) ∙ ap (ranged s) (sym x)

  -- they pass question 2, and say whether the bucket has a pending
  pub formed_in : Ready s i → bucket_formed (λ k. is_at (bucket_index (key_in s) k) i) (get_or s max_incoming_at 0) bs ≡ true
  formed_in y = rw e y.bucket

  pub none_here : (bucket_in bs).pending ≡ none → ((table_of s).buckets i).pending ≡ none
  unfolding table_of
  none_here p = rw e at p

length_ranged : {s : List ℕ} {i : ℕ} → Ready s i → length (ranged s (range_of i)) ≡ bucket_size
length_ranged y = simp (length-take, length-drop) (omega (arith, y.size, y.below))

-- the storage with another bucket i and no further record
pub rewritten_in_place : (s : List ℕ) → Bytes s → (i : ℕ) → Ready s i → (b : Bucket) → splice s (bucket_at i) (bucket_bytes b) ≡ rewritten s i b []
rewritten_in_place s h i y b =
    ap (λ (x : List ℕ). splice x (bucket_at i) (bucket_bytes b))
    (sym (ap (λ (q : List EndedPending). splice s 0 (header_bytes (with_queue q (table_of s)))) (append-nil (table_of s).queue) ∙ same_header s h y.size y.header))
    ∙ written_back s [] i b

-- the answer of the step x on bucket i, and the storage that it leaves
pub record Did {A : Type 0} (x : A × Bucket) (i : ℕ) (s : List ℕ) (answer : A) (left : List ℕ) : Type 0 where
  pub answers : answer ≡ x.0
  pub leaves : left ≡ splice s (bucket_at i) (bucket_bytes x.1)

-- what the step F answered and left of bucket i's bytes, with the settings read from the storage and the key as the bytes that were given
pub did : {A : Type 0} {s key : List ℕ} {codes : Bool} {now : Option ℕ} {k : Key} {i : ℕ} → AtBucket s key codes now k i → (F : BucketSettings → ℕ → Bucket → A × Bucket)
    → {v : BucketSettings} → v ≡ (table_of s).settings.bucket → {r : Range ℕ} → r ≡ range_of i → {a : A} → a ≡ (F v (num k) (bucket_in (ranged s r))).0
    → {left : List ℕ} → left ≡ bucket_bytes (F v (num k) (bucket_in (ranged s r))).1 → length left ≡ length (ranged s r)
    → Did (F (table_of s).settings.bucket (number key) ((table_of s).buckets i)) i s a (put_mid r.start (r.end - r.start) s left)
unfolding table_of
did {A} {s} {key} {k = k} {i = i} y F {v} x {r} z {a} p {left} q l =
    let e : F v (num k) (bucket_in (ranged s r)) ≡ F (table_of s).settings.bucket (number key) ((table_of s).buckets i) = rw (z, x, y.key_is, sliced s (bucket_at i) bucket_size) in
    let w : left ≡ bucket_bytes (F (table_of s).settings.bucket (number key) ((table_of s).buckets i)).1 = q ∙ ap (λ (r : A × Bucket). bucket_bytes r.1) e in
    record {
      answers = p ∙ ap (λ (r : A × Bucket). r.0) e;
      leaves =
          ap (λ (r : Range ℕ). put_mid r.start (r.end - r.start) s left) z
          ∙ put_mid_splice s (bucket_at i) (bucket_at i + bucket_size - bucket_at i) w (ap length (sym w) ∙ l ∙ ap (λ (r : Range ℕ). length (ranged s r)) z ∙ length_ranged y.ready ∙ omega arith);
    }

-- what a call did in place is what it does: F is its own step, f its answer
module _ (s key : List ℕ) (c : KeyCall) {k : Key} {i : ℕ} (y : AtBucket s key (key_arguments c).codes (key_arguments c).now k i)
    (d : ReadFormed s key c) (g : suits s key c ≡ true) (h : Bytes s) (w : ((table_of s).buckets i).pending ≡ none) where
  abbrev b : Bucket
  b = (table_of s).buckets i

  abbrev u : BucketSettings
  u = (table_of s).settings.bucket

  abbrev e : Effect
  e = effect c key (table_of s) i b

  module _ {A : Type 0} (F : BucketSettings → ℕ → Bucket → A × Bucket) {a : A} {s' : List ℕ} (x : Did (F u (number key) b) i s a s') (f : A → Answer) where
    -- a call that acts on the bucket as it is stored
    pub in_place : f (F u (number key) b).0 ≡ e.answer → (F u (number key) b).1 ≡ e.bucket → Answers (f a) s' (step_bytes (Call.on_key key c) s)
    in_place p r =
        answers_in s key c y.passed d g i y.index
        (in_done s i e (f a) s' (F u (number key) b).1 [] (room_for_none s h i y.ready) (x.leaves ∙ rewritten_in_place s h i y.ready (F u (number key) b).1) (ap f x.answers ∙ p) r
        (sym (none_recorded c key (table_of s) i b w)))

    -- a call that applies a due pending first
    pub in_place_at : (now : ℕ) → f (F u (number key) (apply_pending u now b).0).0 ≡ e.answer → (F u (number key) (apply_pending u now b).0).1 ≡ e.bucket
        → Answers (f a) s' (step_bytes (Call.on_key key c) s)
    in_place_at now p r =
        let z : b ≡ (apply_pending u now b).0 = ap (λ (w : Bucket × List EndedPending). w.0) (sym (none_applied b w u now)) in
        in_place (ap (λ (m : Bucket). f (F u (number key) m).0) z ∙ p) (ap (λ (m : Bucket). (F u (number key) m).1) z ∙ r)
