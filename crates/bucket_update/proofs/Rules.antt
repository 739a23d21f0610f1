-- What update_node and insert_or_update answer and leave, case by case.
use Prim.Native.Nat.{ℕ}
use mathlib.Core.Path.{◌≡◌, refl, ap, ◌∙◌, subst}
use mathlib.Core.Bool.{Bool, true, false, cond}
use mathlib.Core.Option.{Option, none, some}
use borrow.Author.Tests.{eq-eqb}
use Rattle.model.specs.Value.{Value}
use Rattle.model.specs.Node.{Node}
use Rattle.model.specs.Result.{FailureReason, UpdateResult, InsertResult, is_failed}
use Rattle.model.specs.Bucket.{Bucket, BucketSettings, holds, insert, update_status, update_value, remove}
use Rattle.model.specs.Table.{Answer, both_updates, update_node_in, insert_updates, inserts, insert_or_update_in}
use Rattle.model.specs.Call.{is_one, optional}
use Rattle.laws.proofs.Tests.{split}
use Rattle.bucket.specs.declared.FailureReason as failure
use Rattle.bucket.specs.declared.UpdateResult as declared
use Rattle.bucket.specs.declared.UpdateResult.TheVariants as result
use Rattle.bucket.specs.declared.KBucket.{KBucket}
use Rattle.bucket.specs.Bucket.{Becomes}
use Rattle.bucket.specs.Calls.{update_result_of}

pub both_failed : (v : UpdateResult) (r : FailureReason) → UpdateResult.Failed r ≡ both_updates v (UpdateResult.Failed r)
both_failed UpdateResult.Updated r = refl
both_failed UpdateResult.UpdatedAndPromoted r = refl
both_failed UpdateResult.UpdatedPending r = refl
both_failed (UpdateResult.Failed q) r = refl
both_failed UpdateResult.NotModified r = refl

-- a code that may be "not given"
pub not_given : (n : ℕ) → n ≡ 2 → optional n ≡ none
not_given n e = ap (λ (t : Bool). cond t none (some (is_one n))) (eq-eqb n 2 e)

-- the status's step, with the direction that a code gives
pub stated : (s : BucketSettings) (m : Bucket) (k : ℕ) (u : Bool) {d e : Option Bool} {r : UpdateResult} {t : KBucket} → d ≡ e → r ≡ (update_status s k u d m).0
    → Becomes s (update_status s k u d m).1 t → (r ≡ (update_status s k u e m).0) × Becomes s (update_status s k u e m).1 t
stated s m k u {t = t} g p b =
    (p ∙ ap (λ (d : Option Bool). (update_status s k u d m).0) g, subst (λ (d : Option Bool). Becomes s (update_status s k u d m).1 t) g b)

pub not_failed : (r : declared.UpdateResult) → ((x : failure.FailureReason) → r ≡ result.Failed x → ⊥) → is_failed (update_result_of r) ≡ false
not_failed result.Updated h = refl
not_failed result.UpdatedAndPromoted h = refl
not_failed result.UpdatedPending h = refl
not_failed (result.Failed x) h = absurd (h x refl)
not_failed result.NotModified h = refl

-- update_node

module _ (s : BucketSettings) (fails : Bool) (now k : ℕ) (v : Value) (u : Option Bool) (b : Bucket) where
  abbrev of_value : UpdateResult × Bucket
  of_value = update_value s k v b

  pub node_filtered : fails ≡ true → update_node_in s fails now k v u b ≡ (Answer.Update (UpdateResult.Failed FailureReason.TableFilter), (remove s now k b).1)
  node_filtered e = rw e

  module _ (e : fails ≡ false) where
    pub node_failed : is_failed of_value.0 ≡ true → update_node_in s fails now k v u b ≡ (Answer.Update of_value.0, of_value.1)
    node_failed f = rw (e, f)

    -- no state is given
    pub node_valued : u ≡ none → update_node_in s fails now k v u b ≡ (Answer.Update of_value.0, of_value.1)
    node_valued g = split (is_failed of_value.0) (λ f. rw (e, f)) (λ f. rw (e, f, g))

    module _ (f : is_failed of_value.0 ≡ false) where
      pub node_both : (x : Bool) → u ≡ some x
          → update_node_in s fails now k v u b
          ≡ (Answer.Update (both_updates of_value.0 (update_status s k x none of_value.1).0), (update_status s k x none of_value.1).1)
      node_both x g = rw (e, f, g)

-- insert_or_update

module _ (s : BucketSettings) (fails : Bool) (now : ℕ) (n : Node) (b : Bucket) where
  abbrev of_status : UpdateResult × Bucket
  of_status = update_status s n.key n.connected (some n.incoming) b

  module _ (e : fails ≡ false) where
    pub insert_absent : holds n.key b ≡ false
        → insert_or_update_in s fails now n b ≡ (Answer.InsertOrUpdate (inserts (insert s now n b).0), (insert s now n b).1)
    insert_absent f = rw (e, f)

    module _ (f : holds n.key b ≡ true) where
      pub insert_failed : is_failed of_status.0 ≡ true
          → insert_or_update_in s fails now n b ≡ (Answer.InsertOrUpdate (InsertResult.Failed FailureReason.TooManyIncoming), of_status.1)
      insert_failed g = rw (e, f, g)

      pub insert_both : is_failed of_status.0 ≡ false
          → insert_or_update_in s fails now n b
          ≡ (Answer.InsertOrUpdate (insert_updates (update_value s n.key n.value of_status.1).0 of_status.0), (update_value s n.key n.value of_status.1).1)
      insert_both g = rw (e, f, g)
