-- What a call on a bucket by itself returns and leaves, by its questions and by what it does to the bucket.
use Rattle.std.specs.Prelude as code
use Rattle.std.specs.Prelude.{Result, Ok, Err, None, IsErrAnd}
use Rattle.std.specs.Option.{ok_or}
use mathlib.Core.Logic.{◌≢◌}
use mathlib.Core.Path.{◌≡◌, refl, sym, ap, ◌∙◌}
use mathlib.Core.Bool.{Bool, true, false, ◌&&◌}
use mathlib.Core.List.{List, [], ◌∷◌, ◌++◌, append_assoc}
use mathlib.Core.Option.{Option, none, some}
use Prim.Native.Nat.{ℕ, ◌≤◌, ◌<◌}
use native.Mathlib.Omega.{arith}
use lib.Dec.{eqb, leb}
use lib.ListN.{length, set, take, length-append, length-take, length-replicate}
use borrow.Rule.Slice.PartMut.{put_mid}
use borrow.Author.Tests.{le-leb, lt-leb, eq-eqb, ne_eqb}
use Rattle.model.specs.Bytes.{bytes, splice, zeros}
use Rattle.model.specs.Bucket.{Bucket, max_nodes_per_bucket}
use Rattle.model.specs.Sizes.{time_size, bucket_size}
use Rattle.model.specs.Question.{first_failed}
use Rattle.model.specs.Layout.{bucket_bytes}
use Rattle.model.specs.Base.{joined}
use Rattle.laws.proofs.Parts.{splice_nil, splice_next}
use Rattle.laws.proofs.Bytes.{length_bytes}
use Rattle.words.proofs.Words.{put_mid_splice, set_more}
use Rattle.key.proofs.Bytes.{splice_all}
use Rattle.node.specs.declared.Refusal.{Refusal}
use Rattle.node.specs.Refusal.{number_of}
use Rattle.laws.proofs.Questions.{front_fails, front_passes}
use Rattle.on_key.proofs.Ended.{size_told}
use Rattle.codes.specs.Codes.{refused_code, answer_size}
use Rattle.codes.specs.Exported.{Exported, Leaves, Writes}
use Rattle.bucket_calls.specs.Lent.{lent_size, lent_settings, lent_bucket, empty_bytes, lent_five, failed_of_lent}
use Rattle.bucket_calls.specs.Calls.{BucketCall, answer_fits, bucket_questions, bucket_act, bucket_step, bucket_new, code_of, done_code}

-- the questions, with a lent answer

module _ (bs : List ℕ) (key codes : Bool) (now : Option ℕ) (answer : List ℕ) where
  pub early : (q : ℕ) → some q ≡ failed_of_lent bs key codes now → some q ≡ first_failed (lent_five bs key codes now ++ answer_fits answer)
  early q e = sym (front_fails (lent_five bs key codes now) (answer_fits answer) q (sym e))

  module _ (e : none ≡ failed_of_lent bs key codes now) where
    pub short : length answer < answer_size → some 6 ≡ first_failed (lent_five bs key codes now ++ answer_fits answer)
    short l =
        let m : leb answer_size (length answer) ≡ false = lt-leb _ _ l in
        sym (front_passes (lent_five bs key codes now) (answer_fits answer) (sym e) ∙ (rw m))

    pub roomy : answer_size ≤ length answer → none ≡ first_failed (lent_five bs key codes now ++ answer_fits answer)
    roomy l =
        let m : leb answer_size (length answer) ≡ true = le-leb _ _ l in
        sym (front_passes (lent_five bs key codes now) (answer_fits answer) (sym e) ∙ (rw m))

-- question 1, by what was made of the bytes
module _ (bs answer : List ℕ) where
  asked_first : (c : BucketCall) → length bs ≢ lent_size → some 1 ≡ first_failed (bucket_questions c answer bs)
  asked_first (BucketCall.insert k w st dr now) m = rw (ne_eqb _ _ m)
  asked_first (BucketCall.apply_pending now) m = rw (ne_eqb _ _ m)
  asked_first (BucketCall.update_status k st dr) m = rw (ne_eqb _ _ m)
  asked_first (BucketCall.update_value k w) m = rw (ne_eqb _ _ m)
  asked_first (BucketCall.update_pending st dr) m = rw (ne_eqb _ _ m)
  asked_first (BucketCall.remove k now) m = rw (ne_eqb _ _ m)

  pub size_asked : (c : BucketCall) {T : Type 0} {o : code.Option T} {q : Refusal} → ◌≡◌ {A = Result T Refusal} (Err q) (ok_or o Refusal.Size) → o ≡ None → length bs ≢ lent_size
      → some (number_of q) ≡ first_failed (bucket_questions c answer bs)
  size_asked c v n m = rw (size_told v n) (asked_first c m)

-- the outcome

module _ (c : BucketCall) (answer bs : List ℕ) where
  refused_as : (q : ℕ) → some q ≡ first_failed (bucket_questions c answer bs) → Writes (refused_code q) bs answer (bucket_step c answer bs)
  unfolding bucket_step
  refused_as q e = rw (← e) (record { code = refl; storage = refl; output = refl })

  -- x: what is answered, at the exit of a `?` too
  pub refused_by : {A : Type 0} (code : A → ℕ) (r : Refusal) → some (number_of r) ≡ first_failed (bucket_questions c answer bs) → (x : Result A Refusal) → IsErrAnd x (λ q. q ≡ r)
      → Writes (code_of code x) bs answer (bucket_step c answer bs)
  refused_by code r e (Ok n) h = absurd h
  refused_by code r e (Err q) h = refused_as (number_of q) (ap (λ (q : Refusal). some (number_of q)) h ∙ e)

  -- m: the bucket that is stored
  pub done : none ≡ first_failed (bucket_questions c answer bs) → {n : ℕ} {m : Bucket} {bs' out : List ℕ}
      → n ≡ (bucket_act c (lent_settings bs) (lent_bucket bs)).code → m ≡ (bucket_act c (lent_settings bs) (lent_bucket bs)).bucket
      → bs' ≡ splice bs 0 (bucket_bytes m) → out ≡ splice answer 0 (bucket_act c (lent_settings bs) (lent_bucket bs)).carried
      → Writes n bs' out (bucket_step c answer bs)
  unfolding bucket_step
  done e f g h i = rw (← e) (record { code = f; storage = h ∙ ap (λ (m : Bucket). splice bs 0 (bucket_bytes m)) g; output = i })

-- the same of a call to which no answer is lent

left : {r : ℕ} {s out : List ℕ} {o : Exported} → Writes r s out o → Leaves r s o
left w = record { code = w.code; storage = w.storage }

module _ (c : BucketCall) (bs : List ℕ) where
  pub left_by : {A : Type 0} (code : A → ℕ) (r : Refusal) → some (number_of r) ≡ first_failed (bucket_questions c [] bs) → (x : Result A Refusal) → IsErrAnd x (λ q. q ≡ r)
      → Leaves (code_of code x) bs (bucket_step c [] bs)
  left_by code r e x h = left (refused_by c [] bs code r e x h)

  pub left_done : none ≡ first_failed (bucket_questions c [] bs) → {n : ℕ} {m : Bucket} {bs' : List ℕ}
      → n ≡ (bucket_act c (lent_settings bs) (lent_bucket bs)).code → m ≡ (bucket_act c (lent_settings bs) (lent_bucket bs)).bucket
      → bs' ≡ splice bs 0 (bucket_bytes m) → [] ≡ (bucket_act c (lent_settings bs) (lent_bucket bs)).carried → Leaves n bs' (bucket_step c [] bs)
  left_done e f g h i = left (done c [] bs e f g h (sym (splice_nil [] 0) ∙ ap (splice [] 0) i))

-- a new bucket

module _ (timeout m f : ℕ) (bs : List ℕ) where
  made : length bs ≡ lent_size → {z t : List ℕ} → z ≡ zeros (length (take 810 bs)) → t ≡ bytes time_size timeout
      → set (set (put_mid 810 8 (put_mid 0 810 bs z) t) 818 m) 819 f ≡ empty_bytes timeout m f
  unfolding empty_bytes bucket_bytes joined
  made l {z} {t} ez et =
      let v : List ℕ = zeros bucket_size in
      let w : List ℕ = bytes time_size timeout in
      let lv : length v ≡ bucket_size = length-replicate {A = ℕ} bucket_size 0 in
      let lw : length w ≡ time_size = length_bytes time_size timeout in
      let n : length (take 810 bs) ≡ bucket_size = rw length-take (omega arith) in
      let e0 : put_mid 0 810 bs z ≡ splice bs 0 v = put_mid_splice bs 0 810 (ez ∙ ap zeros n) lv in
      let e1 : put_mid 810 8 (put_mid 0 810 bs z) t ≡ splice bs 0 (v ++ w) =
      put_mid_splice _ 810 8 et lw ∙ ap (λ (x : List ℕ). splice x 810 w) e0 ∙ splice_next bs 0 bucket_size v w lv (omega arith) in
      let e2 = set_more bs 0 818 (v ++ w) m e1 (simp length-append (omega arith)) (omega arith) in
      let e3 = set_more bs 0 819 ((v ++ w) ++ (m ∷ [])) f e2 (simp length-append (omega arith)) (omega arith) in
      e3 ∙ splice_all bs (((v ++ w) ++ (m ∷ [])) ++ (f ∷ [])) (simp length-append (omega arith)) ∙ simp append_assoc

  pub new_made : length bs ≡ lent_size → (leb m max_nodes_per_bucket && leb f 1) ≡ true → {z t : List ℕ} → z ≡ zeros (length (take 810 bs)) → t ≡ bytes time_size timeout
      → Leaves 0 (set (set (put_mid 810 8 (put_mid 0 810 bs z) t) 818 m) 819 f) (bucket_new timeout m f bs)
  unfolding bucket_new
  new_made l g ez et = let e = eq-eqb _ _ l in record { code = rw (e, g); storage = rw (e, g) (made l ez et) }

  -- the exits of questions 1 and 4
  new_refused : (r : Refusal) → some (number_of r) ≡ first_failed ((1, eqb (length bs) lent_size) ∷ (4, leb m max_nodes_per_bucket && leb f 1) ∷ []) → (x : Result (Unit {0}) Refusal) → IsErrAnd x (λ q. q ≡ r)
      → Leaves (code_of done_code x) bs (bucket_new timeout m f bs)
  unfolding bucket_new
  new_refused r e (Ok u) h = absurd h
  new_refused r e (Err q) h = rw (← e) (record { code = ap (λ (q : Refusal). refused_code (number_of q)) h; storage = refl })

  pub new_size : {T : Type 0} {o : code.Option T} {q : Refusal} → ◌≡◌ {A = Result T Refusal} (Err q) (ok_or o Refusal.Size) → o ≡ None → length bs ≢ lent_size
      → (x : Result (Unit {0}) Refusal) → IsErrAnd x (λ p. p ≡ q) → Leaves (code_of done_code x) bs (bucket_new timeout m f bs)
  new_size {q = q} v n l = new_refused q (rw (size_told v n, ne_eqb _ _ l))

  pub new_codes : length bs ≡ lent_size → (leb m max_nodes_per_bucket && leb f 1) ≡ false → Leaves (refused_code 4) bs (bucket_new timeout m f bs)
  new_codes l g = new_refused Refusal.Code (rw (eq-eqb _ _ l, g)) (Err Refusal.Code) refl
