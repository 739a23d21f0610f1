-- What a check reads of an answer: an index, a key, and the result of an insert.
use Rattle.std.proofs.Common.{◌≡◌, ℕ, Bool, false, true≢false, nat_eq, Option, Some, None, sym, ap, ◌∙◌, refl, eq-eqb, Result, Ok, Err}
use Rattle.std.specs.Option.{option_eq}
use Rattle.model.specs.Base.{same}
use Rattle.key.specs.Answers.{option_of}
use Rattle.model.specs.Result.{BucketInsertResult, Reply}
use Rattle.node.specs.declared.Refusal.{Refusal}
use Rattle.node.specs.Refusal.{reply_of}
use Rattle.bucket.specs.declared.InsertResult.{InsertResult}
use Rattle.bucket.specs.Calls.{insert_result_of}

pub same_index : (r s : Option ℕ) → option_of r ≡ option_of s → r ≡ s
same_index None None e = refl
same_index None (Some y) e = cc
same_index (Some x) None e = cc
same_index (Some x) (Some y) e = cc

-- an index that is i passes its check
pub is_index : (r : Option ℕ) (i : ℕ) {b : Bool} → option_of r ≡ option_of (Some i) → b ≡ option_eq nat_eq r (Some i) → b ≡ false → ⊥
is_index r i e f h = true≢false (sym (f ∙ ap (λ (s : Option ℕ). option_eq nat_eq s (Some i)) (same_index r (Some i) e) ∙ eq-eqb i i refl) ∙ h)

-- An insert's answer that names no key, from what it means.

abbrev keyless : BucketInsertResult → Option InsertResult
keyless BucketInsertResult.Inserted = Some InsertResult.Inserted
keyless (BucketInsertResult.Pending k) = None
keyless BucketInsertResult.FailedFilter = Some InsertResult.FailedFilter
keyless BucketInsertResult.TooManyIncoming = Some InsertResult.TooManyIncoming
keyless BucketInsertResult.Full = Some InsertResult.Full
keyless BucketInsertResult.NodeExists = Some InsertResult.NodeExists

back : (r x : InsertResult) → keyless (insert_result_of r) ≡ Some x → r ≡ x
back InsertResult.Inserted x e = cc
back (InsertResult.Pending k) x e = cc
back InsertResult.FailedFilter x e = cc
back InsertResult.TooManyIncoming x e = cc
back InsertResult.Full x e = cc
back InsertResult.NodeExists x e = cc

pub is_answer : (r : Result InsertResult Refusal) (x : InsertResult) {y : BucketInsertResult} → reply_of insert_result_of r ≡ Reply.Answered y → keyless y ≡ Some x → r ≡ Ok x
is_answer (Err r) x e f = cc
is_answer (Ok r) x {y} e f =
    let same : insert_result_of r ≡ y = cc in
    ap Ok (back r x (ap keyless same ∙ f))
