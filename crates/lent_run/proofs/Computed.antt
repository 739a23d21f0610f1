-- What the calls on the program's buckets give: on equal arguments the same, and at the program's by computing.
use Rattle.std.proofs.Common.{arith, Result, Ok, Err}
use mathlib.Core.Path.{◌≡◌, refl, sym, ap, ◌∙◌}
use mathlib.Core.List.{List, ◌++◌}
use lib.ListN.{take, drop, set, replicate}
use Rattle.model.specs.Base.{same}
use Rattle.model.specs.Filter.{counts, ip_filter_fails}
use Rattle.model.specs.Value.{same_net, same_value}
use Rattle.model.specs.Bucket as model
use Rattle.model.specs.Sort.{insert_by, sort_by}
use Rattle.model.specs.Result.{BucketInsertResult, UpdateResult, Reply}
use Rattle.key.specs.declared.Key.{Key}
use Rattle.key.specs.Key.{num, key_of, key_from}
use Rattle.node.specs.declared.Node.{Node}
use Rattle.node.specs.declared.Refusal.{Refusal}
use Rattle.node.specs.Refusal.{number_of, reply_of}
use Rattle.order.specs.declared.FoundNode.{FoundNode}
use Rattle.order.specs.Found.{far}
use Rattle.bucket.specs.declared.KBucket.{KBucket}
use Rattle.bucket.specs.Bucket.{key_at, sound}
use Rattle.bucket.specs.Calls.{insert_call, new_call, update_status_call}
use Rattle.lent_run.specs.Lends.{node_from, emptied, two, malformed, found_at, nearest_first}

-- a call's answer and bucket, from its contract, are those of the definition at equal arguments
pub inserts : {b c : KBucket} {n m : Node} {x : Reply BucketInsertResult × KBucket} → b ≡ c → n ≡ m → insert_call b n 0 ≡ x → x ≡ insert_call c m 0
inserts {c = c} {n = n} e f g = sym g ∙ ap (λ (k : KBucket). insert_call k n 0) e ∙ ap (λ (k : Node). insert_call c k 0) f

pub steps : {b c : KBucket} {k l : Key} {x : Reply UpdateResult × KBucket} → b ≡ c → k ≡ l → update_status_call b k 1 2 ≡ x → x ≡ update_status_call c l 1 2
steps {c = c} {k = k} e f g = sym g ∙ ap (λ (b : KBucket). update_status_call b k 1 2) e ∙ ap (λ (y : Key). update_status_call c y 1 2) f

-- a call that is refused with question 2 answers Form
form : (r : Refusal) → number_of r ≡ 2 → r ≡ Refusal.Form
form Refusal.Size e = absurd (omega arith)
form Refusal.Form e = refl
form Refusal.Key e = absurd (omega arith)
form Refusal.Code e = absurd (omega arith)
form Refusal.Time e = absurd (omega arith)
form Refusal.Output e = absurd (omega arith)
form Refusal.Kind e = absurd (omega arith)
form Refusal.Queue e = absurd (omega arith)
form Refusal.Load e = absurd (omega arith)
form Refusal.Hours e = absurd (omega arith)
form Refusal.Closed e = absurd (omega arith)

pub is_form : {A B : Type 0} (f : A → B) (r : Result A Refusal) → reply_of f r ≡ Reply.Refused 2 → r ≡ Err Refusal.Form
is_form f (Ok x) e = cc
is_form f (Err r) e = let n : number_of r ≡ 2 = cc in ap Err (form r n)

-- the calls on the program's buckets

pub insert_refused : insert_call (malformed emptied) (node_from 32) 0 ≡ (Reply.Refused 2, malformed emptied)
unfolding same num key_of sound new_call insert_call
insert_refused = refl

pub step_refused : update_status_call (malformed emptied) (key_from 32) 1 2 ≡ (Reply.Refused 2, malformed emptied)
unfolding same num key_of sound new_call update_status_call
step_refused = refl

pub none_held : (malformed emptied).count ≡ 0
unfolding new_call
none_held = refl

pub inserted : (insert_call (insert_call emptied (node_from 32) 0).1 (node_from 33) 0).0 ≡ Reply.Answered BucketInsertResult.Inserted
unfolding same counts ip_filter_fails same_net same_value model.is_full model.fails_bucket_filter model.is_max_incoming model.insert num key_of sound new_call insert_call
inserted = refl

pub two_held : two.count ≡ 2
unfolding same counts ip_filter_fails same_net same_value model.is_full model.fails_bucket_filter model.is_max_incoming model.insert num key_of sound new_call insert_call
two_held = refl

abbrev restated : Reply UpdateResult × KBucket
restated = update_status_call two (key_from 32) 1 2

pub moved : (restated.0 ≡ Reply.Answered UpdateResult.NotModified) × (key_at restated.1 0 ≡ 33) × (key_at restated.1 1 ≡ 32)
unfolding same counts ip_filter_fails same_net same_value model.is_full model.fails_bucket_filter model.is_max_incoming model.insert model.reinsert model.update_status num key_of sound new_call insert_call update_status_call
moved = (refl, refl, refl)

-- an array of z with a, b and d as its first three
abbrev run : FoundNode → FoundNode → FoundNode → FoundNode → List FoundNode
run z a b d = set (set (set (replicate 16 z) 0 a) 1 b) 2 d

sorted : sort_by far (take 3 (run (found_at 0 0) (found_at 3 0) (found_at 1 1) (found_at 2 2))) ++ drop 3 (run (found_at 0 0) (found_at 3 0) (found_at 1 1) (found_at 2 2)) ≡ nearest_first
unfolding insert_by sort_by num
sorted = refl

pub in_order : {z a b d : FoundNode} {r : List FoundNode} → z ≡ found_at 0 0 → a ≡ found_at 3 0 → b ≡ found_at 1 1 → d ≡ found_at 2 2
    → r ≡ sort_by far (take 3 (run z a b d)) → r ++ drop 3 (run z a b d) ≡ nearest_first
in_order p q u v e = rw (e, p, q, u, v) sorted
