-- A due pending is ended by a call that applies its bucket, and no call but a listing leaves more than one record (02, slip 4).
use Prim.Native.Nat.{ℕ, ◌+◌, ◌≤◌}
use native.Mathlib.Omega.{arith}
use mathlib.Core.Path.{◌≡◌, refl, sym, ap, ◌∙◌, subst, subst⁻¹}
use mathlib.Core.Bool.{Bool, true, false, cond, not, ◌&&◌, ◌||◌}
use mathlib.Core.List.{List, [], ◌∷◌, ◌++◌}
use mathlib.Core.Option.{Option, none, some}
use lib.ListN.{length, length-append}
use lib.Dec.{leb}
use borrow.Author.Tests.{le-leb}
use Rattle.model.specs.Base.{same, every}
use Rattle.model.specs.Bytes.{number}
use Rattle.model.specs.Value.{Value, same_value}
use Rattle.model.specs.Node.{Node, PendingNode, Ending, EndedPending, ended_if, with_value}
use Rattle.model.specs.Result.{BucketInsertResult, UpdateResult, is_inserted, is_failed}
use Rattle.model.specs.Bucket.{Bucket, BucketSettings, nodes, is_full, holds, fails_bucket_filter, is_max_incoming, with_pending, of_key, insert, insert_endings, insert_ending, apply_full, apply_due, apply_if_due, apply_pending, is_first, status_endings, update_if_pending, update_value_of, update_value, take_out, get}
use Rattle.model.specs.Table.{Table, Answer, Effect, fails_table_filter, given_status_endings, update_node_endings, insert_or_update_endings, write, index_in}
use Rattle.model.specs.Call.{Call, KeyCall, is_one, optional, value_of}
use Rattle.model.specs.Listing.{indices, apply_all, applies}
use Rattle.model.specs.Question.{first_failed, arguments}
use Rattle.model.specs.Step
use Rattle.model.specs.Step.{on_key, own_answer, effect, take_oldest, act, questions, unless_refused, step}
use Rattle.laws.proofs.Tests.{same_self, same_true, clash, cases, split, and_left, and_right, or_second}
use Rattle.laws.proofs.Applied.{apply_none, apply_ends}
use Rattle.table_log.specs.Log.{is_refused}
use Rattle.table_log.specs.Pending.{waits, applies_due, is_due, has_record, ended_if_due, due_ended, lists, one_record}

-- one record, of this key
pub record One (k : ℕ) (rs : List EndedPending) : Type 0 where
  pub ending : Ending
  pub is : rs ≡ record { key = k; ending = ending } ∷ []

abbrev OneOf : ℕ → Bucket × List EndedPending → Type 0
OneOf k r = One k r.1

-- ---- one bucket

module _ (s : BucketSettings) (now : ℕ) where
  full_one : (n : Node) (b : Bucket) (ds : List Node) → OneOf n.key (apply_full s n b ds)
  full_one n b [] = record { ending = Ending.FirstConnected; is = refl }
  full_one n b (d ∷ ds) =
      cases (OneOf n.key) (fails_bucket_filter s n.value b) (λ _. record { ending = Ending.BucketFilter; is = refl })
      (λ _. cases (OneOf n.key) (is_max_incoming s n b) (λ _. record { ending = Ending.TooManyIncoming; is = refl })
      (λ _. record { ending = Ending.Placed (some d); is = refl }))

  due_one : (n : Node) (b : Bucket) → OneOf n.key (apply_due s now n b)
  unfolding apply_due
  due_one n b =
      cases (OneOf n.key) (is_full b) (λ _. full_one n b b.disconnected) (λ _. record { ending = insert_ending (insert s now n b).0; is = refl })

  -- applying a due pending gives one record, of its key, whatever its ending
  pub apply_one : (b : Bucket) (p : PendingNode) → b.pending ≡ some p → leb p.deadline now ≡ true → One p.node.key (apply_pending s now b).1
  unfolding apply_pending
  apply_one b p e d =
      subst⁻¹ (λ (o : Option PendingNode). OneOf p.node.key (apply_if_due s now b o)) e
      (subst⁻¹ (λ (t : Bool). OneOf p.node.key (cond t (apply_due s now p.node (with_pending none b)) (b, []))) d (due_one p.node (with_pending none b)))

  -- applying one that is not due does nothing
  pub apply_early : (b : Bucket) (p : PendingNode) → b.pending ≡ some p → leb p.deadline now ≡ false → apply_pending s now b ≡ (b, [])
  unfolding apply_pending
  apply_early b p e d =
      ap (apply_if_due s now b) e ∙ ap (λ (t : Bool). cond t (apply_due s now p.node (with_pending none b)) (b, [])) d

  -- a pending that is applied gives a record and waits no more
  pub apply_balance : (b : Bucket) → waits b.pending ≡ length (apply_pending s now b).1 + waits (apply_pending s now b).0.pending
  apply_balance b = by b.pending refl
    where
      stays : apply_pending s now b ≡ (b, []) → waits b.pending ≡ length (apply_pending s now b).1 + waits (apply_pending s now b).0.pending
      stays e = subst⁻¹ (λ (r : Bucket × List EndedPending). waits b.pending ≡ length r.1 + waits r.0.pending) e (omega arith)

      by : (o : Option PendingNode) → b.pending ≡ o → waits b.pending ≡ length (apply_pending s now b).1 + waits (apply_pending s now b).0.pending
      by none e = stays (apply_none s now b e)
      by (some p) e =
          split (leb p.deadline now)
          (λ d.
          let x : Bucket × List EndedPending = apply_pending s now b in
          let h1 : waits b.pending ≡ 1 = ap waits e in
          let h2 : length x.1 ≡ 1 = ap length (apply_one b p e d).is in
          let h3 : x.0.pending ≡ none =
          apply_ends s now (λ (rs : List EndedPending) (o : Option PendingNode). length rs ≡ 1 → o ≡ none) (λ o h. absurd (omega arith)) (λ rs h. refl) b h2 in
          let h4 : waits x.0.pending ≡ 0 = ap waits h3 in
          omega arith)
          (λ d. stays (apply_early b p e d))

-- records of other pendings beside it do not hide it
has_left : (k : ℕ) (xs ys : List EndedPending) → has_record k xs ≡ true → has_record k (xs ++ ys) ≡ true
has_left k [] ys h = clash h refl
has_left k (x ∷ xs) ys h = split (same x.key k) (λ e. rw e) (λ e. rw e (has_left k xs ys (subst (λ (t : Bool). (t || has_record k xs) ≡ true) e h)))

has_right : (k : ℕ) (xs ys : List EndedPending) → has_record k ys ≡ true → has_record k (xs ++ ys) ≡ true
has_right k [] ys h = h
has_right k (x ∷ xs) ys h = or_second (same x.key k) (has_record k (xs ++ ys)) (has_right k xs ys h)

ended_right : (now : Option ℕ) (xs ys : List EndedPending) (o : Option PendingNode) → ended_if_due now ys o ≡ true → ended_if_due now (xs ++ ys) o ≡ true
ended_right now xs ys none h = refl
ended_right now xs ys (some p) h =
    split (is_due now p)
    (λ e. or_second (not (is_due now p)) _ (has_right p.node.key xs ys (subst (λ (t : Bool). (not t || has_record p.node.key ys) ≡ true) e h)))
    (λ e. rw e)

-- what is due in a bucket has a record once it is applied
applied_ended : (s : BucketSettings) (now : ℕ) (b : Bucket) (rs : List EndedPending) → ended_if_due (some now) ((apply_pending s now b).1 ++ rs) b.pending ≡ true
applied_ended s now b rs = by b.pending refl
  where
    by : (o : Option PendingNode) → b.pending ≡ o → ended_if_due (some now) ((apply_pending s now b).1 ++ rs) o ≡ true
    by none e = refl
    by (some p) e =
        split (leb p.deadline now)
        (λ d. or_second (not (leb p.deadline now)) _
        (has_left p.node.key (apply_pending s now b).1 rs
        (subst⁻¹ (λ (xs : List EndedPending). has_record p.node.key xs ≡ true) (apply_one s now b p e d).is (rw (same_self p.node.key)))))
        (λ d. rw d)

-- ---- a table

every_map : (p q : ℕ → Bool) → ((i : ℕ) → p i ≡ true → q i ≡ true) → (is : List ℕ) → every p is ≡ true → every q is ≡ true
every_map p q f [] h = refl
every_map p q f (i ∷ is) h = rw (f i (and_left (p i) (every p is) h), every_map p q f is (and_right (p i) (every p is) h))

all_ended : (now : ℕ) (is : List ℕ) (t : Table) → every (λ i. ended_if_due (some now) (apply_all now is t).1 (t.buckets i).pending) is ≡ true
all_ended now [] t = refl
all_ended now (j ∷ is) t =
    let a : Bucket × List EndedPending = apply_pending t.settings.bucket now (t.buckets j) in
    let t' : Table = write t j a.0 a.1 in
    let rs : List EndedPending = (apply_all now is t').1 in
    let here : ended_if_due (some now) (a.1 ++ rs) (t.buckets j).pending ≡ true = applied_ended t.settings.bucket now (t.buckets j) rs in
    let there : (i : ℕ) → ended_if_due (some now) rs (t'.buckets i).pending ≡ true → ended_if_due (some now) (a.1 ++ rs) (t.buckets i).pending ≡ true =
    λ i h. split (same i j)
    (λ e. subst⁻¹ (λ (x : ℕ). ended_if_due (some now) (a.1 ++ rs) (t.buckets x).pending ≡ true) (same_true i j e) here)
    (λ e. ended_right (some now) a.1 rs (t.buckets i).pending
    (subst (λ (c : Bool). ended_if_due (some now) rs (cond c a.0 (t.buckets i)).pending ≡ true) e h)) in
    rw (here, every_map (λ i. ended_if_due (some now) rs (t'.buckets i).pending) (λ i. ended_if_due (some now) (a.1 ++ rs) (t.buckets i).pending) there is (all_ended now is t'))

-- a call on one key that applies the key's bucket
key_ended : (c : KeyCall) (k : List ℕ) (t : Table) (o : Option ℕ)
    → every (λ i. ended_if_due (arguments (Call.on_key k c)).now (on_key t (own_answer c) (effect c k t) o).records (t.buckets i).pending) (cond (applies_due c) (indices o) []) ≡ true
key_ended (KeyCall.update_node_status st dr now) k t none = refl
key_ended (KeyCall.update_node_status st dr now) k t (some i) = rw (applied_ended t.settings.bucket now (t.buckets i) _)
key_ended (KeyCall.update_node v st now) k t none = refl
key_ended (KeyCall.update_node v st now) k t (some i) = rw (applied_ended t.settings.bucket now (t.buckets i) _)
key_ended (KeyCall.insert_or_update v st dr now hs) k t none = refl
key_ended (KeyCall.insert_or_update v st dr now hs) k t (some i) = rw (applied_ended t.settings.bucket now (t.buckets i) _)
key_ended (KeyCall.remove now) k t none = refl
key_ended (KeyCall.remove now) k t (some i) = rw (applied_ended t.settings.bucket now (t.buckets i) _)
key_ended (KeyCall.entry now) k t none = refl
key_ended (KeyCall.entry now) k t (some i) = rw (applied_ended t.settings.bucket now (t.buckets i) _)
key_ended (KeyCall.present_update st dr) k t o = refl
key_ended (KeyCall.pending_update st dr) k t o = refl
key_ended (KeyCall.absent_insert v st dr now hs) k t o = refl

act_ended : (c : Call) (t : Table) → due_ended c t (act c t).records ≡ true
unfolding act
act_ended (Call.new k timeout m tf bf) t = refl
act_ended (Call.on_key k c) t = key_ended c k t (index_in t (number k))
act_ended (Call.list l n now out) t = all_ended now (applies l n now t) t
act_ended Call.take_applied_pending t = refl
act_ended (Call.read bs) t = refl

-- an accepted call
pub ended_due : (c : Call) (t : Table) → is_refused (step c t).answer ≡ false → due_ended c t (step c t).records ≡ true
unfolding step
ended_due c t = by (first_failed (questions c t))
  where
    by : (o : Option ℕ) → is_refused (unless_refused o c t).answer ≡ false → due_ended c t (unless_refused o c t).records ≡ true
    by none h = act_ended c t
    by (some n) h = clash refl h

-- ---- one record

pub few : (e : Ending) (p : Option PendingNode) → length (ended_if e p) ≤ waits p
few e none = omega arith
few e (some p) = omega arith

of_key_few : (k : ℕ) (p : Option PendingNode) → waits (of_key k p) ≤ waits p
of_key_few k none = omega arith
of_key_few k (some p) = cases (λ (o : Option PendingNode). waits o ≤ 1) (same p.node.key k) (λ _. omega arith) (λ _. omega arith)

-- the records of a call's own step are of the pending that waits
abbrev Few : Bucket → List EndedPending → Type 0
Few b rs = length rs ≤ waits b.pending

status_few : (k : ℕ) (u : Bool) (b : Bucket) → Few b (status_endings k u b)
status_few k u b = cases (Few b) (u && is_first k (nodes b)) (λ _. few Ending.FirstConfirmed b.pending) (λ _. omega arith)

insert_few : (n : Node) (b : Bucket) (r : BucketInsertResult) → Few b (insert_endings n b r)
insert_few n b r =
    cases (Few b) (is_inserted r)
    (λ _. let h1 = few Ending.Inserted (of_key n.key b.pending) in let h2 = of_key_few n.key b.pending in omega arith) (λ _. omega arith)

-- the value's step keeps the pending, changed or not
changed_waits : (k : ℕ) (f : Node → Node) (b : Bucket) (p : Option PendingNode) → b.pending ≡ p → waits (update_if_pending k f b p).1.pending ≡ waits b.pending
changed_waits k f b none e = refl
changed_waits k f b (some p) e =
    cases (λ (r : UpdateResult × Bucket). waits r.1.pending ≡ waits b.pending) (same p.node.key k) (λ _. sym (ap waits e)) (λ _. refl)

pub status_changed : (k : ℕ) (f : Node → Node) (b : Bucket) → waits (update_if_pending k f b b.pending).1.pending ≡ waits b.pending
status_changed k f b = changed_waits k f b b.pending refl

pub value_waits : (s : BucketSettings) (k : ℕ) (v : Value) (b : Bucket) → waits (update_value s k v b).1.pending ≡ waits b.pending
unfolding update_value
value_waits s k v b = by (get k b)
  where
    by : (o : Option Node) → waits (update_value_of s k v b o).1.pending ≡ waits b.pending
    by none = changed_waits k (with_value v) b b.pending refl
    by (some n) =
        let P : UpdateResult × Bucket → Type 0 = λ r. waits r.1.pending ≡ waits b.pending in
        cases P (same_value n.value v) (λ _. refl) (λ _. cases P (fails_bucket_filter s v (take_out k b)) (λ _. refl) (λ _. refl))

given_few : (k : ℕ) (u : Option Bool) (b : Bucket) → Few b (given_status_endings k u b)
given_few k none b = omega arith
given_few k (some u) b = status_few k u b

update_node_few : (s : BucketSettings) (fails : Bool) (k : ℕ) (v : Value) (u : Option Bool) (b : Bucket) → Few b (update_node_endings s fails k v u b)
update_node_few s fails k v u b =
    cases (Few b) fails (λ _. omega arith)
    (λ _. cases (Few b) (is_failed (update_value s k v b).0) (λ _. omega arith)
    (λ _. let h1 = given_few k u (update_value s k v b).1 in let h2 = value_waits s k v b in omega arith))

insert_or_update_few : (s : BucketSettings) (fails : Bool) (now : ℕ) (n : Node) (b : Bucket) → Few b (insert_or_update_endings s fails now n b)
insert_or_update_few s fails now n b =
    cases (Few b) fails (λ _. omega arith)
    (λ _. cases (Few b) (holds n.key b) (λ _. status_few n.key n.connected b) (λ _. insert_few n b (insert s now n b).0))

waits_one : (p : Option PendingNode) → waits p ≤ 1
waits_one none = omega arith
waits_one (some p) = omega arith

-- a call that applied a pending has none left to end
after_one : (s : BucketSettings) (now : ℕ) (b : Bucket) (rs : List EndedPending) → Few (apply_pending s now b).0 rs → length ((apply_pending s now b).1 ++ rs) ≤ 1
after_one s now b rs h =
    let h1 = apply_balance s now b in let h2 = length-append (apply_pending s now b).1 rs in let h3 = waits_one b.pending in omega arith

stored_one : (b : Bucket) (rs : List EndedPending) → Few b rs → length rs ≤ 1
stored_one b rs h = let h1 = waits_one b.pending in omega arith

effect_one : (c : KeyCall) (k : List ℕ) (t : Table) (i : ℕ) (b : Bucket) → length (effect c k t i b).records ≤ 1
effect_one (KeyCall.update_node_status st dr now) k t i b =
    let s = t.settings.bucket in after_one s now b _ (status_few (number k) (is_one st) (apply_pending s now b).0)
effect_one (KeyCall.update_node v st now) k t i b =
    let s = t.settings.bucket in
    after_one s now b _ (update_node_few s (fails_table_filter t i (number k) (value_of v)) (number k) (value_of v) (optional st) (apply_pending s now b).0)
effect_one (KeyCall.insert_or_update v st dr now hs) k t i b =
    let s = t.settings.bucket in
    after_one s now b _ (insert_or_update_few s (fails_table_filter t i (number k) (value_of v)) now (Step.node_of k v st dr) (apply_pending s now b).0)
effect_one (KeyCall.remove now) k t i b = after_one t.settings.bucket now b [] (omega arith)
effect_one (KeyCall.entry now) k t i b = after_one t.settings.bucket now b [] (omega arith)
effect_one (KeyCall.present_update st dr) k t i b = stored_one b (status_endings (number k) (is_one st) b) (status_few (number k) (is_one st) b)
effect_one (KeyCall.pending_update st dr) k t i b = omega arith
effect_one (KeyCall.absent_insert v st dr now hs) k t i b =
    let n : Node = Step.node_of k v st dr in
    let r : BucketInsertResult = (insert t.settings.bucket now n b).0 in
    stored_one b (insert_endings n b r) (insert_few n b r)

key_one : (t : Table) (self : Answer) (f : ℕ → Bucket → Effect) → ((i : ℕ) (b : Bucket) → length (f i b).records ≤ 1) → (o : Option ℕ) → length (on_key t self f o).records ≤ 1
key_one t self f h none = omega arith
key_one t self f h (some i) = h i (t.buckets i)

oldest_one : (t : Table) (q : List EndedPending) → length (take_oldest t q).records ≤ 1
oldest_one t [] = omega arith
oldest_one t (a ∷ q) = omega arith

act_one : (c : Call) (t : Table) → one_record c (act c t).records ≡ true
unfolding act
act_one (Call.new k timeout m tf bf) t = refl
act_one (Call.on_key k c) t = le-leb (length (on_key t (own_answer c) (effect c k t) (index_in t (number k))).records) 1 (key_one t (own_answer c) (effect c k t) (effect_one c k t) (index_in t (number k)))
act_one (Call.list l n now out) t = refl
act_one (Call.read bs) t = refl
act_one Call.take_applied_pending t = le-leb (length (take_oldest t t.queue).records) 1 (oldest_one t t.queue)

-- every call, accepted or not
pub single_record : (c : Call) (t : Table) → one_record c (step c t).records ≡ true
unfolding step
single_record c t = by (first_failed (questions c t))
  where
    by : (o : Option ℕ) → one_record c (unless_refused o c t).records ≡ true
    by none = act_one c t
    by (some n) = or_second (lists c) true refl
