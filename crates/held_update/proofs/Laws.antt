-- insert_or_update and update_node in place: what each case answers and leaves.
use Prim.Native.Nat.{ℕ}
use mathlib.Core.Path.{◌≡◌, refl, sym, ap, ◌∙◌}
use mathlib.Core.Bool.{Bool, true, false}
use mathlib.Core.List.{List}
use mathlib.Core.Option.{Option, none, some}
use Rattle.model.specs.Value.{Value}
use Rattle.model.specs.Node.{Node, with_status, with_value}
use Rattle.model.specs.Result.{FailureReason, BucketInsertResult, UpdateResult, InsertResult, is_failed}
use Rattle.model.specs.Bucket.{Bucket, BucketSettings, get, holds, fails_bucket_filter, is_max_incoming, put, take_out, reinsert, status_result, insert, update_value, remove}
use Rattle.model.specs.Table.{Answer, both_updates, update_node_in, insert_updates, inserts, insert_or_update_in}
use Rattle.model.specs.Layout.{bucket_bytes}
use Rattle.laws.proofs.Tests.{split}
use Rattle.bucket.proofs.Rules.{reinsert_filter}
use Rattle.bucket_update.specs.Again.{value_result}
use Rattle.bucket_update.proofs.Rules.{both_failed, node_filtered, node_failed}
use Rattle.bucket_update.proofs.Again.{held_steps, insert_steps, node_again, node_refused}
use Rattle.held.specs.Held.{Does, restated}
use Rattle.held.proofs.Steps.{does, does_as, cleared_none, placed_none, taken_none}

module _ (c : BucketSettings) (b : Bucket) where
  -- insert_or_update

  module _ (n : Node) (time : ℕ) where
    pub filtered_does : {f : Bool} {a : Bool} {left : List ℕ} → f ≡ true → Does (remove c time n.key b) a left
        → Does (insert_or_update_in c f time n b) (Answer.InsertOrUpdate (InsertResult.Failed FailureReason.TableFilter)) left
    filtered_does e x = record { answers = rw e; leaves = x.leaves ∙ (rw e) }

    pub held_does : {f : Bool} {a : Answer} {left : List ℕ} → f ≡ false → Does (insert_or_update_in c false time n b) a left → Does (insert_or_update_in c f time n b) a left
    held_does e x = does_as (ap (λ (f : Bool). insert_or_update_in c f time n b) e) x

    pub inserted_does : {f : Bool} {a : BucketInsertResult} {r : InsertResult} {left : List ℕ} → f ≡ false → holds n.key b ≡ false → r ≡ inserts a → Does (insert c time n b) a left
        → Does (insert_or_update_in c f time n b) (Answer.InsertOrUpdate r) left
    inserted_does e h p x =
        record { answers = ap Answer.InsertOrUpdate (p ∙ ap inserts x.answers) ∙ (rw (e, h)); leaves = x.leaves ∙ (rw (e, h)) }

    -- the node m of its key is held, and there is no pending
    module _ (p : b.pending ≡ none) (m : Node) (g : get n.key b ≡ some m) (k : m.key ≡ n.key) where
      abbrev left : Bucket
      left = take_out n.key b

      abbrev given : Answer × Bucket
      given = insert_or_update_in c false time n b

      steps : given ≡ held_steps c m n left
      steps = insert_steps c time b m n g k ∙ ap (held_steps c m n) (taken_none b p n.key n.connected)

      pub old_refused : fails_bucket_filter c m.value left ≡ true → {t : List ℕ} → t ≡ bucket_bytes left
          → Does given (Answer.InsertOrUpdate (InsertResult.Failed FailureReason.TooManyIncoming)) t
      old_refused f {t} e = does (steps ∙ rw f) e

      module _ (f : fails_bucket_filter c m.value left ≡ false) where
        pub held_many : is_max_incoming c n left ≡ true → {t : List ℕ} → t ≡ bucket_bytes left
            → Does given (Answer.InsertOrUpdate (InsertResult.Failed FailureReason.TooManyIncoming)) t
        held_many h {t} e = does (steps ∙ rw (f, h)) e

        module _ (h : is_max_incoming c n left ≡ false) where
          pub new_refused : fails_bucket_filter c n.value left ≡ true → {t : List ℕ} → t ≡ bucket_bytes left
              → Does given (Answer.InsertOrUpdate (InsertResult.Failed FailureReason.BucketFilter)) t
          new_refused i {t} e =
              does
              (steps ∙ rw (f, h, i) (ap (λ (x : Bucket). (Answer.InsertOrUpdate (InsertResult.Failed FailureReason.BucketFilter), x)) (cleared_none left p n.key))) e

          pub held_put : fails_bucket_filter c n.value left ≡ false → {a : InsertResult} → a ≡ insert_updates (value_result m.value n.value) (status_result m n none)
              → {t : List ℕ} → t ≡ bucket_bytes (put n left) → Does given (Answer.InsertOrUpdate a) t
          held_put i {a} r {t} e =
              let told : InsertResult = insert_updates (value_result m.value n.value) (status_result m n none) in
              let d : Does given (Answer.InsertOrUpdate told) t = does (steps ∙ rw (f, h, i) (ap (λ (x : Bucket). (Answer.InsertOrUpdate told, x)) (placed_none left p n))) e in
              record { answers = ap Answer.InsertOrUpdate r ∙ d.answers; leaves = d.leaves }

  -- update_node

  module _ (time k : ℕ) (v : Value) (u : Option Bool) where
    pub out_does : {f : Bool} → f ≡ true → {a : Bool} {left : List ℕ} → Does (remove c time k b) a left
        → Does (update_node_in c f time k v u b) (Answer.Update (UpdateResult.Failed FailureReason.TableFilter)) left
    out_does {f} e x = does_as (node_filtered c f time k v u b e) (record { answers = refl; leaves = x.leaves })

    pub kept_does : {f : Bool} → f ≡ false → {a : Answer} {left : List ℕ} → Does (update_node_in c false time k v u b) a left → Does (update_node_in c f time k v u b) a left
    kept_does e x = does_as (ap (λ (f : Bool). update_node_in c f time k v u b) e) x

    -- the value's step failed
    pub value_failed : {a : UpdateResult} {left : List ℕ} → Does (update_value c k v b) a left → is_failed a ≡ true → Does (update_node_in c false time k v u b) (Answer.Update a) left
    value_failed x f = does_as (node_failed c false time k v u b refl (ap is_failed (sym x.answers) ∙ f)) (record { answers = ap Answer.Update x.answers; leaves = x.leaves })

    -- no state is given
    pub value_alone : u ≡ none → {a : UpdateResult} {left : List ℕ} → Does (update_value c k v b) a left → Does (update_node_in c false time k v u b) (Answer.Update a) left
    value_alone e x =
        does_as (split (is_failed (update_value c k v b).0) (λ f. rw f) (λ f. rw (f, e))) (record { answers = ap Answer.Update x.answers; leaves = x.leaves })

  -- the node m of key k is held, there is no pending, and a state is given: the status's step on the node with the new value answers for both
  module _ (p : b.pending ≡ none) (time : ℕ) (m : Node) (k : ℕ) (g : get k b ≡ some m) (own : m.key ≡ k) (o : Option Bool) (u : Bool) (e : o ≡ some u) (v : Value) where
    abbrev changed : Node
    changed = with_status u none (with_value v m)

    abbrev out : Bucket
    out = take_out m.key b

    abbrev both : UpdateResult × Bucket → Answer × Bucket
    both x = (Answer.Update (both_updates (value_result m.value v) x.0), x.1)

    both_steps : update_node_in c false time k v o b ≡ both (restated c m changed b)
    both_steps =
        split (fails_bucket_filter c v out)
        (λ f.
        node_refused c time b m k g own o u e v (taken_none b p m.key u) f
        ∙ ap (λ (r : UpdateResult). (Answer.Update r, out)) (both_failed (value_result m.value v) FailureReason.BucketFilter)
        ∙ ap (λ (x : Option FailureReason × Bucket). both (status_result m changed x.0, x.1)) (sym (reinsert_filter c changed out f)))
        (λ f.
        node_again c time b m k g own o u e v f
        ∙ ap (λ (y : Bucket). both (status_result m changed (reinsert c changed y).0, (reinsert c changed y).1)) (taken_none b p m.key u))

    pub both_do : {a r : UpdateResult} {t : List ℕ} → Does (restated c m changed b) a t → r ≡ both_updates (value_result m.value v) a → Does (update_node_in c false time k v o b) (Answer.Update r) t
    both_do x q = does_as both_steps (record { answers = ap Answer.Update (q ∙ ap (both_updates (value_result m.value v)) x.answers); leaves = x.leaves })
