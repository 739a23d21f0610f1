-- One call keeps every bucket of the table in agreement with the log.
use Prim.Native.Nat.{ℕ}
use mathlib.Core.Path.{◌≡◌, refl, sym, ap, ◌∙◌, subst⁻¹}
use mathlib.Core.Bool.{Bool, true, false, cond}
use mathlib.Core.List.{List, [], ◌∷◌, ◌++◌}
use mathlib.Core.Option.{Option, none, some}
use native.Mathlib.Omega.{arith}
use Rattle.model.specs.Base.{same}
use Rattle.model.specs.Bytes.{number}
use Rattle.model.specs.Value.{Value}
use Rattle.model.specs.Node.{Node, EndedPending}
use Rattle.model.specs.Result.{FailureReason, UpdateResult, InsertResult, is_failed}
use Rattle.model.specs.Bucket.{Bucket, BucketSettings, empty_bucket, holds, insert, apply_pending, update_status, update_value}
use Rattle.model.specs.Table.{Table, EntryKind, Answer, Effect, fails_table_filter, then_status, update_node_in, insert_updates, insert_or_update_in, kind_of, kind_in, write, index_in}
use Rattle.model.specs.Call.{Call, KeyCall, is_one, optional, value_of}
use Rattle.model.specs.Listing.{apply_all, applies}
use Rattle.model.specs.Question.{first_failed, key_arguments, kind_fits}
use Rattle.model.specs.Saved.{loaded_nodes, loaded_table}
use Rattle.model.specs.Step
use Rattle.model.specs.Step.{Outcome, on_key, own_answer, effect, take_oldest, act, questions, unless_refused, step}
use Rattle.laws.proofs.Tests.{same_true, clash, cases}
use Rattle.laws.proofs.Questions.{Accepted, accepted}
use Rattle.laws.proofs.Loaded.{Loads, loads}
use Rattle.table_log.specs.Log.{Log, Naming, naming, group, is_refused, role}
use Rattle.theorem.proofs.Fold.{fresh, enter_records, gave_by, enter_loaded, enter_role, enter}
use Rattle.theorem.proofs.Keys.{Distinct}
use Rattle.theorem.proofs.Records.{records_distinct, records_settings, records_append, Quiet, nothing_quiet, status_quiet, insert_quiet, update_node_quiet, insert_or_update_quiet, quiet}
use Rattle.theorem.proofs.Agree.{Agree, Gives}
use Rattle.theorem.proofs.Frame.{Frame_trans, agree_frame, agree_skip}
use Rattle.theorem.proofs.Ops.{gives, Settled, Goes, apply_ok, apply_settled}
use Rattle.theorem.proofs.Load.{load_distinct, load_settings, loaded_agrees}
use Rattle.theorem.proofs.Steps.{own, own_frame, own_only, own_distinct, own_settings, status_call, remove_call, update_node_call, insert_or_update_call, pending_call, absent_call}

-- the whole table agrees with the log
pub record AllAgree (l : Log) (t : Table) : Type 0 where
  pub settings_agree : l.settings ≡ t.settings
  pub distinct : Distinct l.held
  pub each : (j : ℕ) → Agree (index_in t) l j (t.buckets j)

write_ok : (l l' : Log) (t : Table) (i : ℕ) (b : Bucket) (rs : List EndedPending) → AllAgree l t → Goes (index_in t) i l l' b → Distinct l'.held
    → l'.settings ≡ l.settings → AllAgree l' (write t i b rs)
write_ok l l' t i b rs s g d e = record {
  settings_agree = e ∙ s.settings_agree;
  distinct = d;
  each = λ j. cases (Agree (index_in t) l' j) (same j i)
      (λ q. subst⁻¹ (λ (x : ℕ). Agree (index_in t) l' x b) (same_true j i q) g.agree)
      (λ q. agree_frame (index_in t) i j l l' (t.buckets j) q g.frame (s.each j));
}

-- a call that names k, with what it has
module _ (k : ℕ) (n : Naming) where
  abbrev Own : Answer → Log → Log
  Own a l = own k n.status_step a l (gave_by k n l)

  abbrev EffectOk : Table → Log → ℕ → Effect → Type 0
  EffectOk t l i e = (is_refused e.answer ≡ false) × Goes (index_in t) i l (Own e.answer (enter_records e.records l)) e.bucket

  abbrev KeyOk : Log → Outcome → Type 0
  KeyOk l r = (is_refused r.answer ≡ false) × AllAgree (Own r.answer (enter_records r.records l)) r.table

  gives_by : (l : Log) → Gives k l (gave_by k n l)
  gives_by = gives k n.connected n.incoming n.value

  -- on the local key nothing changes
  self_ok : (l : Log) (t : Table) (a : Answer) → AllAgree l t → index_in t k ≡ none → AllAgree (Own a l) t
  self_ok l t a s e = record {
    settings_agree = own_settings k n.status_step a l (gave_by k n l) refl ∙ s.settings_agree;
    distinct = own_distinct k n.status_step a l (gave_by k n l) (gives_by l) s.distinct;
    each = λ j. agree_skip (index_in t) j k l (Own a l) (t.buckets j) (rw e) (own_only k n.status_step a l (gave_by k n l) (gives_by l)) (s.each j);
  }

  on_key_ok : (l : Log) (t : Table) (self : Answer) (f : ℕ → Bucket → Effect) → AllAgree l t → (index_in t k ≡ none → is_refused self ≡ false)
      → ((i : ℕ) → index_in t k ≡ some i → EffectOk t l i (f i (t.buckets i)))
      → (o : Option ℕ) → index_in t k ≡ o → KeyOk l (on_key t self f o)
  on_key_ok l t self f s q g none h = (q h, self_ok l t self s h)
  on_key_ok l t self f s q g (some i) h =
      let e = f i (t.buckets i) in
      let m : Log = enter_records e.records l in (
        (g i h).0,
        write_ok l (Own e.answer m) t i e.bucket e.records s (g i h).1
            (own_distinct k n.status_step e.answer m (gave_by k n m) (gives_by m) (records_distinct e.records l s.distinct))
            (own_settings k n.status_step e.answer m (gave_by k n m) refl ∙ records_settings e.records l),
      )

  -- a due pending is applied first; then the call answers a, leaves b and may end the pending
  applying_ok : (l : Log) (t : Table) (now i : ℕ) (a : Answer) (b : Bucket) (rs : List EndedPending) → Quiet rs → AllAgree l t → index_in t k ≡ some i → is_refused a ≡ false
      → ((m : Log) → Agree (index_in t) m i (apply_pending t.settings.bucket now (t.buckets i)).0
      → Settled now (apply_pending t.settings.bucket now (t.buckets i)).0.pending → Agree (index_in t) (Own a m) i b)
      → EffectOk t l i (record { answer = a; bucket = b; records = (apply_pending t.settings.bucket now (t.buckets i)).1 ++ rs })
  applying_ok l t now i a b rs w s h q g =
      let p = apply_pending t.settings.bucket now (t.buckets i) in
      let m : Log = enter_records p.1 l in
      let z : Goes (index_in t) i l m p.0 = apply_ok (index_in t) t.settings.bucket now l i (t.buckets i) (s.each i) s.distinct in (
        q,
        subst⁻¹ (λ (x : Log). Goes (index_in t) i l (Own a x) b) (quiet p.1 rs l w)
            (record {
              agree = g m z.agree (apply_settled t.settings.bucket now (t.buckets i));
              frame = Frame_trans (index_in t) i l m (Own a m) z.frame (own_frame (index_in t) i k n.status_step a m (gave_by k n m) h (gives_by m));
            }),
      )

  -- an entry action applies no pending
  stored_ok : (l : Log) (t : Table) (i : ℕ) (a : Answer) (b : Bucket) (rs : List EndedPending) → Quiet rs → index_in t k ≡ some i → is_refused a ≡ false
      → Agree (index_in t) (Own a l) i b → EffectOk t l i (record { answer = a; bucket = b; records = rs })
  stored_ok l t i a b rs w h q z = (
    q,
    subst⁻¹ (λ (x : Log). Goes (index_in t) i l (Own a x) b) (w l)
        (record { agree = z; frame = own_frame (index_in t) i k n.status_step a l (gave_by k n l) h (gives_by l) }),
  )

-- a listing: a due pending is applied in each of the buckets named
apply_all_ok : (now : ℕ) (is : List ℕ) (l : Log) (t : Table) → AllAgree l t → AllAgree (enter_records (apply_all now is t).1 l) (apply_all now is t).0
apply_all_ok now [] l t s = s
apply_all_ok now (i ∷ is) l t s =
    let a = apply_pending t.settings.bucket now (t.buckets i) in
    let z : Goes (index_in t) i l (enter_records a.1 l) a.0 = apply_ok (index_in t) t.settings.bucket now l i (t.buckets i) (s.each i) s.distinct in
    let w : AllAgree (enter_records a.1 l) (write t i a.0 a.1) = write_ok l (enter_records a.1 l) t i a.0 a.1 s z (records_distinct a.1 l s.distinct) (records_settings a.1 l) in
    let r = apply_all now is (write t i a.0 a.1) in
    subst⁻¹ (λ (x : Log). AllAgree x r.0) (records_append a.1 r.1 l) (apply_all_ok now is (enter_records a.1 l) (write t i a.0 a.1) w)

-- what update_node and insert_or_update answer
pub update_node_answers : (P : Answer → Type 0) → ((r : UpdateResult) → P (Answer.Update r))
    → (s : BucketSettings) (fails : Bool) (now k : ℕ) (v : Value) (u : Option Bool) (b : Bucket) → P (update_node_in s fails now k v u b).0
update_node_answers P h s fails now k v u b =
    let Q : Answer × Bucket → Type 0 = λ r. P r.0 in
    cases Q fails (λ _. h _) (λ _. cases Q (is_failed (update_value s k v b).0) (λ _. h _) (λ _. go u))
  where
    go : (u : Option Bool) → P (then_status s k u (update_value s k v b).0 (update_value s k v b).1).0
    go none = h _
    go (some x) = h _

pub insert_or_update_answers : (P : Answer → Type 0) → ((r : InsertResult) → P (Answer.InsertOrUpdate r))
    → (s : BucketSettings) (fails : Bool) (now : ℕ) (n : Node) (b : Bucket) → P (insert_or_update_in s fails now n b).0
insert_or_update_answers P h s fails now n b =
    let Q : Answer × Bucket → Type 0 = λ r. P r.0 in
    cases Q fails (λ _. h _)
    (λ _. cases Q (holds n.key b) (λ _. cases Q (is_failed (update_status s n.key n.connected (some n.incoming) b).0) (λ _. h _) (λ _. h _)) (λ _. h _))

-- on a held key insert_or_update answers neither Inserted nor Pending
pub insert_updates_answers : (P : InsertResult → Type 0) → ((p : Bool) → P (InsertResult.StatusUpdated p)) → P InsertResult.ValueUpdated
    → ((p : Bool) → P (InsertResult.Updated p)) → P InsertResult.UpdatedPending → ((r : FailureReason) → P (InsertResult.Failed r))
    → (v r : UpdateResult) → P (insert_updates v r)
insert_updates_answers P s v u p f UpdateResult.Updated UpdateResult.Updated = u false
insert_updates_answers P s v u p f UpdateResult.Updated UpdateResult.UpdatedAndPromoted = u true
insert_updates_answers P s v u p f UpdateResult.Updated UpdateResult.UpdatedPending = v
insert_updates_answers P s v u p f UpdateResult.Updated UpdateResult.NotModified = v
insert_updates_answers P s v u p f UpdateResult.Updated (UpdateResult.Failed r) = f r
insert_updates_answers P s v u p f UpdateResult.NotModified UpdateResult.Updated = s false
insert_updates_answers P s v u p f UpdateResult.NotModified UpdateResult.UpdatedAndPromoted = s true
insert_updates_answers P s v u p f UpdateResult.NotModified UpdateResult.UpdatedPending = p
insert_updates_answers P s v u p f UpdateResult.NotModified UpdateResult.NotModified = u false
insert_updates_answers P s v u p f UpdateResult.NotModified (UpdateResult.Failed r) = f r
insert_updates_answers P s v u p f UpdateResult.UpdatedPending r = p
insert_updates_answers P s v u p f UpdateResult.UpdatedAndPromoted r = p
insert_updates_answers P s v u p f (UpdateResult.Failed x) r = f x

empty_ok : (t : Table) (j : ℕ) → Agree (index_in t) (fresh t.settings) j empty_bucket
unfolding group
empty_ok t j = record { disc = refl; conn = refl; pend = tt; room = omega arith }

-- the log after the call agrees with the table after it
abbrev pub StepAgrees : Call → Log → Outcome → Type 0
StepAgrees c l r = AllAgree (enter c r.answer r.records l) r.table

abbrev Entered : Call → Log → Outcome → Type 0
Entered c l r = (is_refused r.answer ≡ false) × AllAgree (enter_role (role c) r.answer (enter_records r.records l)) r.table

entered : (c : Call) (l : Log) (r : Outcome) → is_refused r.answer ≡ false → AllAgree (enter_role (role c) r.answer (enter_records r.records l)) r.table → StepAgrees c l r
unfolding enter
entered c l r e s = subst⁻¹ (λ (x : Bool). AllAgree (cond x l (enter_role (role c) r.answer (enter_records r.records l))) r.table) e s

oldest_ok : (l : Log) (t : Table) → AllAgree l t → (q : List EndedPending) → StepAgrees Call.take_applied_pending l (take_oldest t q)
unfolding enter
oldest_ok l t s [] = s
oldest_ok l t s (a ∷ q) = record { settings_agree = s.settings_agree; distinct = s.distinct; each = s.each }

new_acts : (k : List ℕ) (timeout m tf bf : ℕ) (l : Log) (t : Table) → StepAgrees (Call.new k timeout m tf bf) l (act (Call.new k timeout m tf bf) t)
unfolding act
new_acts k timeout m tf bf l t =
    entered (Call.new k timeout m tf bf) l (act (Call.new k timeout m tf bf) t) refl (record { settings_agree = refl; distinct = tt; each = λ j. empty_ok (act (Call.new k timeout m tf bf) t).table j })

load_ok : (bs : List ℕ) (l : Log) (t : Table) → AllAgree l t → Loads bs t → AllAgree (enter_loaded (loaded_nodes bs) l) (loaded_table bs t)
load_ok bs l t z g =
    record { settings_agree = load_settings (loaded_nodes bs) l ∙ z.settings_agree; distinct = load_distinct (loaded_nodes bs) l z.distinct; each = loaded_agrees bs l t g z.each }

abbrev NotRefused : Answer → Type 0
NotRefused a = is_refused a ≡ false

-- what a call on one key does to the key's bucket; an entry action's key is of the kind that it needs
effect_ok : (c : KeyCall) (k : List ℕ) (l : Log) (t : Table) (i : ℕ) → AllAgree l t → index_in t (number k) ≡ some i
    → (key_arguments c).kind (kind_of (number k) (t.buckets i)) ≡ true → EffectOk (number k) (naming c) t l i (effect c k t i (t.buckets i))
effect_ok (KeyCall.update_node_status st dr now) k l t i z h f =
    let e = effect (KeyCall.update_node_status st dr now) k t i (t.buckets i) in
    applying_ok (number k) (naming (KeyCall.update_node_status st dr now)) l t now i e.answer e.bucket _ (status_quiet (number k) (is_one st) (apply_pending t.settings.bucket now (t.buckets i)).0) z h refl
    (λ m a q. status_call (index_in t) t.settings.bucket m i (number k) (is_one st) (optional dr) _ a h)
effect_ok (KeyCall.update_node v st now) k l t i z h f =
    let e = effect (KeyCall.update_node v st now) k t i (t.buckets i) in
    let s = t.settings.bucket in
    let b = (apply_pending s now (t.buckets i)).0 in
    let fails : Bool = fails_table_filter t i (number k) (value_of v) in
    applying_ok (number k) (naming (KeyCall.update_node v st now)) l t now i e.answer e.bucket _ (update_node_quiet s fails (number k) (value_of v) (optional st) b) z h
    (update_node_answers NotRefused (λ r. refl) s fails now (number k) (value_of v) (optional st) b)
    (λ m a q. update_node_call (index_in t) s now m i (number k) (value_of v) (optional st) b fails a h q)
effect_ok (KeyCall.insert_or_update v st dr now hs) k l t i z h f =
    let e = effect (KeyCall.insert_or_update v st dr now hs) k t i (t.buckets i) in
    let s = t.settings.bucket in
    let b = (apply_pending s now (t.buckets i)).0 in
    let n : Node = Step.node_of k v st dr in
    let fails : Bool = fails_table_filter t i (number k) (value_of v) in
    applying_ok (number k) (naming (KeyCall.insert_or_update v st dr now hs)) l t now i e.answer e.bucket _ (insert_or_update_quiet s fails now n b) z h
    (insert_or_update_answers NotRefused (λ r. refl) s fails now n b)
    (λ m a q. insert_or_update_call (index_in t) s now m i n b fails a h q)
effect_ok (KeyCall.remove now) k l t i z h f =
    let e = effect (KeyCall.remove now) k t i (t.buckets i) in
    applying_ok (number k) (naming (KeyCall.remove now)) l t now i e.answer e.bucket _ nothing_quiet z h refl
    (λ m a q. remove_call (index_in t) t.settings.bucket now m i (number k) _ a h q)
effect_ok (KeyCall.entry now) k l t i z h f =
    let e = effect (KeyCall.entry now) k t i (t.buckets i) in
    applying_ok (number k) (naming (KeyCall.entry now)) l t now i e.answer e.bucket _ nothing_quiet z h refl (λ m a q. a)
effect_ok (KeyCall.present_update st dr) k l t i z h f =
    let e = effect (KeyCall.present_update st dr) k t i (t.buckets i) in
    stored_ok (number k) (naming (KeyCall.present_update st dr)) l t i e.answer e.bucket e.records (status_quiet (number k) (is_one st) (t.buckets i)) h refl
    (status_call (index_in t) t.settings.bucket l i (number k) (is_one st) (optional dr) (t.buckets i) (z.each i) h)
effect_ok (KeyCall.pending_update st dr) k l t i z h f =
    let e = effect (KeyCall.pending_update st dr) k t i (t.buckets i) in
    stored_ok (number k) (naming (KeyCall.pending_update st dr)) l t i e.answer e.bucket e.records nothing_quiet h refl
    (pending_call (index_in t) l i (number k) (is_one st) (is_one dr) (t.buckets i) (z.each i) h f)
effect_ok (KeyCall.absent_insert v st dr now hs) k l t i z h f =
    let e = effect (KeyCall.absent_insert v st dr now hs) k t i (t.buckets i) in
    stored_ok (number k) (naming (KeyCall.absent_insert v st dr now hs)) l t i e.answer e.bucket e.records (insert_quiet (Step.node_of k v st dr) (t.buckets i) (insert t.settings.bucket now (Step.node_of k v st dr) (t.buckets i)).0) h refl
    (absent_call (index_in t) t.settings.bucket now l i (Step.node_of k v st dr) (t.buckets i) (z.each i) h f)

own_accepted : (c : KeyCall) → (key_arguments c).kind EntryKind.SelfEntry ≡ true → is_refused (own_answer c) ≡ false
own_accepted (KeyCall.update_node_status st dr now) h = refl
own_accepted (KeyCall.update_node v st now) h = refl
own_accepted (KeyCall.insert_or_update v st dr now hs) h = refl
own_accepted (KeyCall.remove now) h = refl
own_accepted (KeyCall.entry now) h = refl
own_accepted (KeyCall.present_update st dr) h = clash h refl
own_accepted (KeyCall.pending_update st dr) h = clash h refl
own_accepted (KeyCall.absent_insert v st dr now hs) h = clash h refl

key_ok : (k : List ℕ) (c : KeyCall) (l : Log) (t : Table) → AllAgree l t → kind_fits (Call.on_key k c) t ≡ true → Entered (Call.on_key k c) l (act (Call.on_key k c) t)
unfolding act kind_fits
key_ok k c l t z f =
    let kind : (o : Option ℕ) → index_in t (number k) ≡ o → (key_arguments c).kind (kind_in t (number k) o) ≡ true =
    λ o h. ap (λ (x : Option ℕ). (key_arguments c).kind (kind_in t (number k) x)) (sym h) ∙ f in
    on_key_ok (number k) (naming c) l t (own_answer c) (effect c k t) z (λ h. own_accepted c (kind none h)) (λ i h. effect_ok c k l t i z h (kind (some i) h))
    (index_in t (number k)) refl

pub act_ok : (c : Call) (l : Log) (t : Table) → AllAgree l t → Accepted c t → StepAgrees c l (act c t)
unfolding act kind_fits
act_ok (Call.new k timeout m tf bf) l t z f = new_acts k timeout m tf bf l t
act_ok (Call.on_key k c) l t z f = let r = key_ok k c l t z f.kind in entered (Call.on_key k c) l (act (Call.on_key k c) t) r.0 r.1
act_ok (Call.list x n now out) l t z f = entered (Call.list x n now out) l (act (Call.list x n now out) t) refl (apply_all_ok now (applies x n now t) l t z)
act_ok Call.take_applied_pending l t z f = oldest_ok l t z t.queue
act_ok (Call.read bs) l t z f = entered (Call.read bs) l (act (Call.read bs) t) refl (load_ok bs l t z (loads bs t f.bytes))

unless_refused_ok : (c : Call) (l : Log) (t : Table) → AllAgree l t → (o : Option ℕ) → (o ≡ none → Accepted c t) → StepAgrees c l (unless_refused o c t)
unfolding enter
unless_refused_ok c l t z (some n) f = z
unless_refused_ok c l t z none f = act_ok c l t z (f refl)

pub step_ok : (c : Call) (l : Log) (t : Table) → AllAgree l t → StepAgrees c l (step c t)
unfolding step
step_ok c l t z = unless_refused_ok c l t z (first_failed (questions c t)) (accepted c t)

-- an accepted `new`, on any table
new_unless_refused : (k : List ℕ) (timeout m tf bf : ℕ) (l : Log) (t : Table) (o : Option ℕ) → (unless_refused o (Call.new k timeout m tf bf) t).answer ≡ Answer.New
    → StepAgrees (Call.new k timeout m tf bf) l (unless_refused o (Call.new k timeout m tf bf) t)
new_unless_refused k timeout m tf bf l t (some n) e = let z : ◌≡◌ {A = ℕ} 0 1 = cc in absurd (omega arith)
new_unless_refused k timeout m tf bf l t none e = new_acts k timeout m tf bf l t

pub new_ok : (k : List ℕ) (timeout m tf bf : ℕ) (l : Log) (t : Table) → (step (Call.new k timeout m tf bf) t).answer ≡ Answer.New
    → StepAgrees (Call.new k timeout m tf bf) l (step (Call.new k timeout m tf bf) t)
unfolding step
new_ok k timeout m tf bf l t e = new_unless_refused k timeout m tf bf l t (first_failed (questions (Call.new k timeout m tf bf) t)) e
