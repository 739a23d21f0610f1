-- The calls on a bucket by itself, with the arguments as a host gives them: what each is asked, returns and leaves.
use Rattle.std.specs.Prelude.{Result, Ok, Err, ℕ, Bool, true, ◌&&◌, List, [], ◌∷◌, ◌++◌, length, eqb, leb}
use Rattle.std.proofs.Math.Option.{Option, none, some}
use Rattle.model.specs.Node.{placed_of}
use Rattle.model.specs.Base.{first}
use Rattle.model.specs.Bytes.{number, splice}
use Rattle.model.specs.Bucket as bucket
use Rattle.model.specs.Sizes.{key_size}
use Rattle.model.specs.Call.{ValueArgument, is_one, optional, value_of}
use Rattle.model.specs.Question.{first_failed, value_in_range}
use Rattle.model.specs.Step.{node_of}
use Rattle.model.specs.Layout.{flag_byte, bucket_bytes}
use Rattle.node.specs.declared.Refusal.{Refusal}
use Rattle.node.specs.Refusal.{number_of}
use Rattle.bucket.specs.declared.UpdateResult.{UpdateResult}
use Rattle.bucket.specs.Calls.{update_result_of}
use Rattle.codes.specs.Codes.{refused_code, update_code, bucket_insert_code, bucket_insert_bytes, applied_code, applied_bytes, answer_size}
use Rattle.codes.specs.Exported.{Exported}
use Rattle.bucket_calls.specs.Lent.{lent_size, lent_settings, lent_bucket, lent_five, empty_bytes}

-- the number of what a call answers: its result's, or the refusal's
abbrev pub code_of : {A : Type 0} → (A → ℕ) → Result A Refusal → ℕ
code_of code (Ok x) = code x
code_of code (Err r) = refused_code (number_of r)

-- a result that is its number
abbrev pub number_code : ℕ → ℕ
number_code n = n

abbrev pub updated_code : UpdateResult → ℕ
updated_code r = update_code (update_result_of r)

-- a call that answers nothing but that it was made
abbrev pub done_code : Unit {0} → ℕ
done_code u = 0

pub data BucketCall : Type 0 where
  insert : (key : List ℕ) (value : ValueArgument) (state direction now : ℕ) → BucketCall
  apply_pending : (now : ℕ) → BucketCall
  update_status : (key : List ℕ) (state direction : ℕ) → BucketCall
  update_value : (key : List ℕ) (value : ValueArgument) → BucketCall
  update_pending : (state direction : ℕ) → BucketCall
  remove : (key : List ℕ) (now : ℕ) → BucketCall

-- question 3, of one key
abbrev pub key_fits : List ℕ → Bool
key_fits k = eqb (length k) key_size

-- question 6, of a lent answer
abbrev pub answer_fits : List ℕ → List (ℕ × Bool)
answer_fits answer = (6, leb answer_size (length answer)) ∷ []

-- 01, question 4: state and direction 0 or 1, direction 2 for "not given" where the Rust has Option
abbrev pub bucket_questions : BucketCall → List ℕ → List ℕ → List (ℕ × Bool)
bucket_questions (BucketCall.insert k v st dr now) answer bs = lent_five bs (key_fits k) (value_in_range v && (leb st 1 && leb dr 1)) (some now) ++ answer_fits answer
bucket_questions (BucketCall.apply_pending now) answer bs = lent_five bs true true (some now) ++ answer_fits answer
bucket_questions (BucketCall.update_status k st dr) answer bs = lent_five bs (key_fits k) (leb st 1 && leb dr 2) none
bucket_questions (BucketCall.update_value k v) answer bs = lent_five bs (key_fits k) (value_in_range v) none
bucket_questions (BucketCall.update_pending st dr) answer bs = lent_five bs true (leb st 1 && leb dr 1) none
bucket_questions (BucketCall.remove k now) answer bs = lent_five bs (key_fits k) true (some now)

-- the number returned, the bytes that the answer carries, and the bucket
pub record BucketEffect : Type 0 where
  pub code : ℕ
  pub carried : List ℕ
  pub bucket : bucket.Bucket

-- what a call does to the bucket (01, bucket.rs)
unfoldable pub bucket_act : BucketCall → bucket.BucketSettings → bucket.Bucket → BucketEffect
bucket_act (BucketCall.insert k v st dr now) s b =
    let r = bucket.insert s now (node_of k v st dr) b in record { code = bucket_insert_code r.0; carried = bucket_insert_bytes r.0; bucket = r.1 }
bucket_act (BucketCall.apply_pending now) s b =
    let r = bucket.apply_pending s now b in
    record { code = applied_code (first (placed_of r.1)); carried = applied_bytes (first (placed_of r.1)); bucket = r.0 }
bucket_act (BucketCall.update_status k st dr) s b =
    let r = bucket.update_status s (number k) (is_one st) (optional dr) b in record { code = update_code r.0; carried = []; bucket = r.1 }
bucket_act (BucketCall.update_value k v) s b =
    let r = bucket.update_value s (number k) (value_of v) b in record { code = update_code r.0; carried = []; bucket = r.1 }
bucket_act (BucketCall.update_pending st dr) s b = record { code = 0; carried = []; bucket = bucket.update_pending (is_one st) (is_one dr) b }
bucket_act (BucketCall.remove k now) s b =
    let r = bucket.remove s now (number k) b in record { code = flag_byte r.0; carried = []; bucket = r.1 }

-- a refusal is its number alone; all lent memory keeps its bytes
abbrev pub bucket_unless_refused : Option ℕ → BucketCall → List ℕ → List ℕ → Exported
bucket_unless_refused (some q) c answer bs = record { code = refused_code q; storage = bs; output = answer }
bucket_unless_refused none c answer bs =
    let e = bucket_act c (lent_settings bs) (lent_bucket bs) in
    record { code = e.code; storage = splice bs 0 (bucket_bytes e.bucket); output = splice answer 0 e.carried }

-- a call on a bucket's bytes; `answer` is empty where the call has none
unfoldable pub bucket_step : BucketCall → List ℕ → List ℕ → Exported
bucket_step c answer bs = bucket_unless_refused (first_failed (bucket_questions c answer bs)) c answer bs

abbrev pub new_unless_refused : Option ℕ → (pending_timeout max_incoming filter : ℕ) → List ℕ → Exported
new_unless_refused (some q) timeout m f bs = record { code = refused_code q; storage = bs; output = [] }
new_unless_refused none timeout m f bs = record { code = 0; storage = empty_bytes timeout m f; output = [] }

-- a new bucket: questions 1 and 4 (max_incoming 0 to 16, filter 0 or 1)
unfoldable pub bucket_new : (pending_timeout max_incoming filter : ℕ) → List ℕ → Exported
bucket_new timeout m f bs =
    new_unless_refused (first_failed ((1, eqb (length bs) lent_size) ∷ (4, leb m bucket.max_nodes_per_bucket && leb f 1) ∷ [])) timeout m f bs
