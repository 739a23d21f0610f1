-- Calls one behind the other: what a call on an equal bucket answers and leaves.
use Prim.Native.Nat.{ℕ, zero, suc, ◌+◌, ◌-◌, ◌<◌}
use native.Mathlib.Omega.{arith}
use native.Mathlib.Numerals.{add-one}
use mathlib.Core.Path.{◌≡◌, sym, ap, ◌∙◌}
use Rattle.model.specs.Result.{BucketInsertResult, Reply}
use Rattle.node.specs.declared.Node.{Node}
use Rattle.bucket.specs.declared.KBucket.{KBucket}
use Rattle.bucket.specs.Calls.{insert_call}
use Rattle.positions.specs.Positions.{plain, node_from, filled}

-- what a call answers, and the bucket that it leaves, from its contract
module _ {A : Type 0} {x : Reply A × KBucket} {a : Reply A} {r : KBucket} (e : x ≡ (a, r)) where
  pub answer_of : a ≡ x.0
  answer_of = ap (λ (y : Reply A × KBucket). y.0) (sym e)

  pub bucket_of_lem : r ≡ x.1
  bucket_of_lem = ap (λ (y : Reply A × KBucket). y.1) (sym e)

-- an insert of an equal node into an equal bucket
module _ {b b' : KBucket} {n n' : Node} (now : ℕ) (e : b ≡ b') (f : n ≡ n') where
  pub insert_same : insert_call b n now ≡ insert_call b' n' now
  insert_same = ap (λ (x : KBucket). insert_call x n now) e ∙ ap (λ (x : Node). insert_call b' x now) f

  module _ {a : Reply BucketInsertResult} {r : KBucket} (g : insert_call b n now ≡ (a, r)) where
    pub insert_answers : a ≡ (insert_call b' n' now).0
    insert_answers = answer_of g ∙ ap (λ (y : Reply BucketInsertResult × KBucket). y.0) insert_same

    pub insert_leaves : r ≡ (insert_call b' n' now).1
    insert_leaves = bucket_of_lem g ∙ ap (λ (y : Reply BucketInsertResult × KBucket). y.1) insert_same

pub fill_step : (n k state : ℕ) (b : KBucket) → 0 < n
    → filled (n - 1) (k + 1) state (insert_call b (node_from k plain state 0) 0).1 ≡ filled n k state b
unfolding filled
fill_step zero k state b h = absurd (omega arith)
fill_step (suc n) k state b h = let e : suc n - 1 ≡ n = omega arith in rw (add-one, e)

pub fill_none : (n k state : ℕ) (b : KBucket) → n ≡ 0 → b ≡ filled n k state b
unfolding filled
fill_none n k state b e = rw e
