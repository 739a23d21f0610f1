-- Inserts that answer Pending, endings recorded, and pendings that wait: each call adds as many as it takes (02, slip 4).
use Prim.Native.Nat.{ℕ, zero, suc, ◌+◌, ◌≤◌, ◌<◌}
use native.Mathlib.Omega.{arith}
use mathlib.Core.Path.{◌≡◌, refl, sym, ap, ◌∙◌, subst, subst⁻¹}
use mathlib.Core.Bool.{Bool, true, false, cond, ◌&&◌}
use mathlib.Core.List.{List, [], ◌∷◌, ◌++◌, reverse, reverse_aux}
use mathlib.Core.Option.{Option, none, some}
use lib.ListN.{length, length-append}
use Rattle.model.specs.Base.{same, at, is_some}
use Rattle.model.specs.Bytes.{number}
use Rattle.model.specs.Value.{Value}
use Rattle.model.specs.Node.{Node, PendingNode, Ending, EndedPending, ended_if, with_status}
use Rattle.model.specs.Result.{FailureReason, BucketInsertResult, UpdateResult, InsertResult, is_failed}
use Rattle.model.specs.Bucket.{Bucket, BucketSettings, empty_bucket, nodes, find, get, is_full, holds, fails_bucket_filter, is_max_incoming, cleared, of_key, insert_full, insert, insert_endings, apply_pending, is_first, reinsert, taken_out, status_endings, update_status_of, update_status, update_value, pending_with_status, update_pending, remove}
use Rattle.model.specs.Table.{Table, Answer, Effect, num_buckets, fails_table_filter, insert_updates, inserts, then_status, then_value, update_node_in, update_node_endings, given_status_endings, insert_or_update_in, insert_or_update_endings, write, index_in}
use Rattle.model.specs.Call.{Call, KeyCall, is_one, optional, value_of}
use Rattle.model.specs.Listing.{apply_all, applies}
use Rattle.model.specs.Question.{first_failed}
use Rattle.model.specs.Saved.{loaded_bucket, loaded_table}
use Rattle.model.specs.Step
use Rattle.model.specs.Step.{Outcome, on_key, own_answer, effect, take_oldest, act, bytes_fit, questions, unless_refused, step}
use Rattle.model.specs.Fits.{Opt, Formed}
use Rattle.laws.proofs.Tests.{same_true, same_false, clash, cases, split, and_right}
use Rattle.laws.proofs.KeepLists.{get_nodes, get_key}
use Rattle.laws.proofs.KeepFormed.{apply_pending_formed, update_value_formed}
use Rattle.laws.proofs.KeepStep.{bucket_index_below}
use Rattle.laws.proofs.Touched.{Below, applies_below}
use Rattle.laws.proofs.Questions.{accepted}
use Rattle.laws.proofs.Loaded.{Loads, loads, loaded_pending, nothing_at}
use Rattle.table_log.specs.Log.{Entry, Role, role, is_refused}
use Rattle.table_log.specs.Claim.{table_after, entries}
use Rattle.table_log.specs.Pending.{insert_pending, bucket_insert_pending, pending_answer, since_made, answered_pending, recorded, waits, waiting, still_waiting, Conserved}
use Rattle.theorem.proofs.Ops.{Settled, apply_settled, remove_settled}
use Rattle.theorem.proofs.Call.{update_node_answers, insert_or_update_answers, insert_updates_answers}
use Rattle.theorem.proofs.Kept.{Every, step_keeps, new_keeps}
use Rattle.theorem.proofs.Limits.{Within, within_kept}
use Rattle.theorem.proofs.Due.{apply_balance, status_changed, value_waits}

-- ---- the steps on a bucket

module _ (s : BucketSettings) (now : ℕ) where
  -- b: the bucket before; x: one, if an insert answers Pending; rs: the endings recorded; c: the bucket after
  abbrev Balanced : Bucket → ℕ → List EndedPending → Bucket → Type 0
  Balanced b x rs c = x + waits b.pending ≡ length rs + waits c.pending

  -- insert
  abbrev Inserts : Node → Bucket → BucketInsertResult × Bucket → Type 0
  Inserts n b r = Balanced b (bucket_insert_pending r.0) (insert_endings n b r.0) r.1

  of_key_lem : (k : ℕ) (p : Option PendingNode) → waits p ≡ length (ended_if Ending.Inserted (of_key k p)) + waits (cleared k p)
  of_key_lem k none = refl
  of_key_lem k (some p) = split (same p.node.key k) (λ e. rw e) (λ e. rw e)

  insert_full_balance : (n : Node) (b : Bucket) (u : Bool) (ds : List Node) (p : Option PendingNode) → b.pending ≡ p → Inserts n b (insert_full s now n b u ds p)
  insert_full_balance n b false ds p e = omega arith
  insert_full_balance n b true [] p e = omega arith
  insert_full_balance n b true (d ∷ ds) none e = let h : waits b.pending ≡ 0 = ap waits e in omega arith
  insert_full_balance n b true (d ∷ ds) (some p) e = omega arith

  insert_balance : (n : Node) (b : Bucket) → Inserts n b (insert s now n b)
  unfolding insert
  insert_balance n b =
      cases (Inserts n b) (holds n.key b) (λ _. omega arith)
      (λ _. cases (Inserts n b) (fails_bucket_filter s n.value b) (λ _. omega arith)
      (λ _. cases (Inserts n b) (is_max_incoming s n b) (λ _. omega arith)
      (λ _. cases (Inserts n b) (is_full b) (λ _. insert_full_balance n b n.connected b.disconnected b.pending refl)
      (λ _. let h = of_key_lem n.key b.pending in omega arith))))

  -- the status's step: place 0 given Connected ends the pending
  first_found : (k : ℕ) (ns : List Node) → is_first k ns ≡ true → is_some (find k ns) ≡ true
  first_found k [] h = clash h refl
  first_found k (n ∷ ns) h = rw h

  confirmed : (t : Bool) (p : Option PendingNode) → waits p ≡ length (cond t (ended_if Ending.FirstConfirmed p) []) + waits (cond t none p)
  confirmed true none = refl
  confirmed true (some p) = refl
  confirmed false none = refl
  confirmed false (some p) = refl

  -- the pending is not of a held key: question 2
  not_cleared : (k : ℕ) (b : Bucket) (p : Option PendingNode) → holds k b ≡ true → Opt (λ (q : PendingNode). holds q.node.key b ≡ false) p → waits (cleared k p) ≡ waits p
  not_cleared k b none h a = refl
  not_cleared k b (some p) h a =
      cases (λ (o : Option PendingNode). waits o ≡ 1) (same p.node.key k)
      (λ e. clash (subst⁻¹ (λ (x : ℕ). holds x b ≡ true) (same_true p.node.key k e) h) a) (λ _. refl)

  left_apart : (b : Bucket) (t : Bool) → Opt (λ (q : PendingNode). holds q.node.key b ≡ false) b.pending → Opt (λ (q : PendingNode). holds q.node.key b ≡ false) (cond t none b.pending)
  left_apart b true a = tt
  left_apart b false a = a

  status_balance : (k : ℕ) (u : Bool) (d : Option Bool) (b : Bucket) → Formed s.max_incoming b → Balanced b 0 (status_endings k u b) (update_status s k u d b).1
  unfolding update_status reinsert
  status_balance k u d b f = by (get k b) refl
    where
      by : (o : Option Node) → get k b ≡ o → Balanced b 0 (status_endings k u b) (update_status_of s k u d b o).1
      by none e =
          let h1 = status_changed k (with_status u d) b in
          cases (λ (rs : List EndedPending). Balanced b 0 rs (update_status_of s k u d b none).1) (u && is_first k (nodes b))
          (λ q. clash (first_found k (nodes b) (and_right u (is_first k (nodes b)) q)) (ap is_some (sym (get_nodes k b) ∙ e)))
          (λ _. omega arith)
      by (some n) e =
          let m : Node = with_status u d n in
          let c : Bucket = taken_out k u b in
          let P : Option FailureReason × Bucket → Type 0 = λ r. Balanced b 0 (status_endings k u b) r.1 in
          let h1 : waits b.pending ≡ length (status_endings k u b) + waits c.pending = confirmed (u && is_first k (nodes b)) b.pending in
          let held : holds n.key b ≡ true = subst⁻¹ (λ (x : ℕ). holds x b ≡ true) (subst (Opt (λ (x : Node). x.key ≡ k)) e (get_key k b)) (ap is_some e) in
          let h2 : waits (cleared n.key c.pending) ≡ waits c.pending =
          not_cleared n.key b c.pending held (left_apart b (u && is_first k (nodes b)) f.pending_apart) in
          cases P (fails_bucket_filter s m.value c) (λ _. omega arith) (λ _. cases P (is_max_incoming s m c) (λ _. omega arith) (λ _. omega arith))

  -- remove, after applying
  remove_waits : (k : ℕ) (b : Bucket) → Settled now b.pending → waits (remove s now k b).1.pending ≡ waits b.pending
  remove_waits k b e =
      subst⁻¹ (λ (r : Bool × Bucket). waits r.1.pending ≡ waits b.pending) (remove_settled s now k b e)
      (cases (λ (r : Bool × Bucket). waits r.1.pending ≡ waits b.pending) (holds k b) (λ _. refl) (λ _. refl))

  pending_waits : (u d : Bool) (p : Option PendingNode) → waits (pending_with_status u d p) ≡ waits p
  pending_waits u d none = refl
  pending_waits u d (some p) = refl

  update_pending_waits : (u d : Bool) (b : Bucket) → waits (update_pending u d b).pending ≡ waits b.pending
  unfolding update_pending
  update_pending_waits u d b = pending_waits u d b.pending

  -- ---- what a call on one key does to the bucket

  update_node_balance : (fails : Bool) (k : ℕ) (v : Value) (u : Option Bool) (b : Bucket) → Formed s.max_incoming b → Settled now b.pending
      → Balanced b (pending_answer (update_node_in s fails now k v u b).0) (update_node_endings s fails k v u b) (update_node_in s fails now k v u b).1
  update_node_balance true k v u b f q = let h = remove_waits k b q in omega arith
  update_node_balance false k v u b f q = by (is_failed (update_value s k v b).0) u
    where
      h : waits (update_value s k v b).1.pending ≡ waits b.pending
      h = value_waits s k v b

      then : (u : Option Bool) → Balanced b (pending_answer (then_status s k u (update_value s k v b).0 (update_value s k v b).1).0)
          (given_status_endings k u (update_value s k v b).1) (then_status s k u (update_value s k v b).0 (update_value s k v b).1).1
      then none = omega (arith, h)
      then (some x) = omega (arith, h, status_balance k x none (update_value s k v b).1 (update_value_formed s k v b f))

      by : (t : Bool) (u : Option Bool)
          → Balanced b (pending_answer (cond t (Answer.Update (update_value s k v b).0, (update_value s k v b).1) (then_status s k u (update_value s k v b).0 (update_value s k v b).1)).0)
          (cond t [] (given_status_endings k u (update_value s k v b).1))
          (cond t (Answer.Update (update_value s k v b).0, (update_value s k v b).1) (then_status s k u (update_value s k v b).0 (update_value s k v b).1)).1
      by true u = omega (arith, h)
      by false u = then u

  -- on a held key insert_or_update does not answer Pending
  updates_pending : (v r : UpdateResult) → insert_pending (insert_updates v r) ≡ 0
  updates_pending v r = insert_updates_answers (λ (x : InsertResult). insert_pending x ≡ 0) (λ _. refl) refl (λ _. refl) refl (λ _. refl) v r

  inserts_pending : (r : BucketInsertResult) → insert_pending (inserts r) ≡ bucket_insert_pending r
  inserts_pending BucketInsertResult.Inserted = refl
  inserts_pending (BucketInsertResult.Pending k) = refl
  inserts_pending BucketInsertResult.FailedFilter = refl
  inserts_pending BucketInsertResult.TooManyIncoming = refl
  inserts_pending BucketInsertResult.Full = refl
  inserts_pending BucketInsertResult.NodeExists = refl

  insert_or_update_balance : (fails : Bool) (n : Node) (b : Bucket) → Formed s.max_incoming b → Settled now b.pending
      → Balanced b (pending_answer (insert_or_update_in s fails now n b).0) (insert_or_update_endings s fails now n b) (insert_or_update_in s fails now n b).1
  insert_or_update_balance true n b f q = let h = remove_waits n.key b q in omega arith
  insert_or_update_balance false n b f q = by (holds n.key b)
    where
      value : (x : UpdateResult) (c : Bucket) → Balanced b 0 (status_endings n.key n.connected b) c
          → Balanced b (pending_answer (then_value s n.key n.value x c).0) (status_endings n.key n.connected b) (then_value s n.key n.value x c).1
      value x c h =
          cases (λ (r : Answer × Bucket). Balanced b (pending_answer r.0) (status_endings n.key n.connected b) r.1) (is_failed x) (λ _. h)
          (λ _. omega (arith, h, updates_pending (update_value s n.key n.value c).0 x, value_waits s n.key n.value c))

      held : Answer × Bucket
      held = let z = update_status s n.key n.connected (some n.incoming) b in then_value s n.key n.value z.0 z.1

      free : Answer × Bucket
      free = let z = insert s now n b in (Answer.InsertOrUpdate (inserts z.0), z.1)

      by : (t : Bool) → Balanced b (pending_answer (cond t held free).0)
          (cond t (status_endings n.key n.connected b) (insert_endings n b (insert s now n b).0)) (cond t held free).1
      by true =
          let z : UpdateResult × Bucket = update_status s n.key n.connected (some n.incoming) b in
          value z.0 z.1 (status_balance n.key n.connected (some n.incoming) b f)
      by false = omega (arith, insert_balance n b, inserts_pending (insert s now n b).0)

  -- a due pending is applied first
  after_balance : (b : Bucket) (x : ℕ) (rs : List EndedPending) (c : Bucket) → Balanced (apply_pending s now b).0 x rs c → Balanced b x ((apply_pending s now b).1 ++ rs) c
  after_balance b x rs c h = omega (arith, h, apply_balance s now b, length-append (apply_pending s now b).1 rs)

effect_balance : (c : KeyCall) (k : List ℕ) (t : Table) (i : ℕ) (b : Bucket) → Formed t.settings.bucket.max_incoming b
    → pending_answer (effect c k t i b).answer + waits b.pending ≡ length (effect c k t i b).records + waits (effect c k t i b).bucket.pending
effect_balance (KeyCall.update_node_status st dr now) k t i b f =
    let s = t.settings.bucket in
    after_balance s now b 0 _ (effect (KeyCall.update_node_status st dr now) k t i b).bucket
    (status_balance s now (number k) (is_one st) (optional dr) (apply_pending s now b).0 (apply_pending_formed s now b f))
effect_balance (KeyCall.update_node v st now) k t i b f =
    let s = t.settings.bucket in
    let a : Bucket = (apply_pending s now b).0 in
    let fails : Bool = fails_table_filter t i (number k) (value_of v) in
    after_balance s now b (pending_answer (update_node_in s fails now (number k) (value_of v) (optional st) a).0) _ (effect (KeyCall.update_node v st now) k t i b).bucket
    (update_node_balance s now fails (number k) (value_of v) (optional st) a (apply_pending_formed s now b f) (apply_settled s now b))
effect_balance (KeyCall.insert_or_update v st dr now hs) k t i b f =
    let s = t.settings.bucket in
    let a : Bucket = (apply_pending s now b).0 in
    let n : Node = Step.node_of k v st dr in
    let fails : Bool = fails_table_filter t i (number k) (value_of v) in
    after_balance s now b (pending_answer (insert_or_update_in s fails now n a).0) _ (effect (KeyCall.insert_or_update v st dr now hs) k t i b).bucket
    (insert_or_update_balance s now fails n a (apply_pending_formed s now b f) (apply_settled s now b))
effect_balance (KeyCall.remove now) k t i b f =
    let s = t.settings.bucket in
    let h = remove_waits s now (number k) (apply_pending s now b).0 (apply_settled s now b) in
    after_balance s now b 0 [] (remove s now (number k) (apply_pending s now b).0).1 (omega arith)
effect_balance (KeyCall.entry now) k t i b f = let s = t.settings.bucket in after_balance s now b 0 [] (apply_pending s now b).0 (omega arith)
effect_balance (KeyCall.present_update st dr) k t i b f = status_balance t.settings.bucket 0 (number k) (is_one st) (optional dr) b f
effect_balance (KeyCall.pending_update st dr) k t i b f = let h = update_pending_waits t.settings.bucket 0 (is_one st) (is_one dr) b in omega arith
effect_balance (KeyCall.absent_insert v st dr now hs) k t i b f = insert_balance t.settings.bucket now (Step.node_of k v st dr) b

-- ---- the table: one bucket changes

waiting_past : (n i : ℕ) (b : Bucket) (bs : ℕ → Bucket) → n ≤ i → waiting n (at i b bs) ≡ waiting n bs
unfolding waiting
waiting_past zero i b bs h = refl
waiting_past (suc n) i b bs h =
    let h1 = waiting_past n i b bs (omega arith) in
    cases (λ (c : Bucket). waiting n (at i b bs) + waits c.pending ≡ waiting n bs + waits (bs n).pending) (same n i)
    (λ e. absurd (let z : n ≡ i = same_true n i e in omega arith)) (λ _. omega arith)

waiting_at : (n i : ℕ) (b : Bucket) (bs : ℕ → Bucket) → i < n → waiting n (at i b bs) + waits (bs i).pending ≡ waiting n bs + waits b.pending
unfolding waiting
waiting_at zero i b bs h = absurd (omega arith)
waiting_at (suc n) i b bs h =
    cases (λ (c : Bucket). waiting n (at i b bs) + waits c.pending + waits (bs i).pending ≡ waiting n bs + waits (bs n).pending + waits b.pending) (same n i)
    (λ e.
    let z : n ≡ i = same_true n i e in
    let h1 = waiting_past n i b bs (omega arith) in
    let h2 : waits (bs n).pending ≡ waits (bs i).pending = ap (λ (x : ℕ). waits (bs x).pending) z in
    omega arith)
    (λ e.
    let h1 = waiting_at n i b bs (below (same_false n i e)) in
    omega arith)
  where
    below : (n ≡ i → ⊥) → i < n
    below f = omega arith

-- x inserts answered Pending, and rs are the records
abbrev Keeps : Table → ℕ → List EndedPending → Table → Type 0
Keeps t x rs t' = x + still_waiting t ≡ length rs + still_waiting t'

write_keeps : (t : Table) (i : ℕ) (b : Bucket) (x : ℕ) (rs : List EndedPending) → i < num_buckets → x + waits (t.buckets i).pending ≡ length rs + waits b.pending
    → Keeps t x rs (write t i b rs)
write_keeps t i b x rs l h = let h1 = waiting_at num_buckets i b t.buckets l in omega arith

apply_all_balance : (now : ℕ) (is : List ℕ) (t : Table) → Below is → Keeps t 0 (apply_all now is t).1 (apply_all now is t).0
apply_all_balance now [] t l = omega arith
apply_all_balance now (i ∷ is) t l =
    let a : Bucket × List EndedPending = apply_pending t.settings.bucket now (t.buckets i) in
    let t' : Table = write t i a.0 a.1 in
    let r : Table × List EndedPending = apply_all now is t' in
    let h0 = apply_balance t.settings.bucket now (t.buckets i) in
    let h1 : Keeps t 0 a.1 t' = write_keeps t i a.0 0 a.1 l.0 (omega arith) in
    let h2 : Keeps t' 0 r.1 r.0 = apply_all_balance now is t' l.1 in
    let h3 : length (a.1 ++ r.1) ≡ length a.1 + length r.1 = length-append a.1 r.1 in
    omega arith

own_pending : (c : KeyCall) → pending_answer (own_answer c) ≡ 0
own_pending (KeyCall.update_node_status st dr now) = refl
own_pending (KeyCall.update_node v st now) = refl
own_pending (KeyCall.insert_or_update v st dr now hs) = refl
own_pending (KeyCall.remove now) = refl
own_pending (KeyCall.entry now) = refl
own_pending (KeyCall.present_update st dr) = refl
own_pending (KeyCall.pending_update st dr) = refl
own_pending (KeyCall.absent_insert v st dr now hs) = refl

abbrev OutcomeKeeps : Table → Outcome → Type 0
OutcomeKeeps t o = Keeps t (pending_answer o.answer) o.records o.table

key_balance : (c : KeyCall) (k : List ℕ) (t : Table) → Every Within t → (o : Option ℕ) → index_in t (number k) ≡ o → OutcomeKeeps t (on_key t (own_answer c) (effect c k t) o)
key_balance c k t f none e = let h = own_pending c in omega arith
key_balance c k t f (some i) e =
    let r : Effect = effect c k t i (t.buckets i) in
    write_keeps t i r.bucket (pending_answer r.answer) r.records (bucket_index_below t.settings.local_key (number k) i e) (effect_balance c k t i (t.buckets i) (f i))

oldest_balance : (t : Table) (q : List EndedPending) → OutcomeKeeps t (take_oldest t q)
oldest_balance t [] = omega arith
oldest_balance t (a ∷ q) = omega arith

-- ---- a refused call leaves no record

effect_answers : (c : KeyCall) (k : List ℕ) (t : Table) (i : ℕ) (b : Bucket) → is_refused (effect c k t i b).answer ≡ false
effect_answers (KeyCall.update_node_status st dr now) k t i b = refl
effect_answers (KeyCall.update_node v st now) k t i b =
    let s = t.settings.bucket in
    update_node_answers (λ (a : Answer). is_refused a ≡ false) (λ r. refl) s (fails_table_filter t i (number k) (value_of v)) now (number k) (value_of v) (optional st) (apply_pending s now b).0
effect_answers (KeyCall.insert_or_update v st dr now hs) k t i b =
    let s = t.settings.bucket in
    insert_or_update_answers (λ (a : Answer). is_refused a ≡ false) (λ r. refl) s (fails_table_filter t i (number k) (value_of v)) now (Step.node_of k v st dr) (apply_pending s now b).0
effect_answers (KeyCall.remove now) k t i b = refl
effect_answers (KeyCall.entry now) k t i b = refl
effect_answers (KeyCall.present_update st dr) k t i b = refl
effect_answers (KeyCall.pending_update st dr) k t i b = refl
effect_answers (KeyCall.absent_insert v st dr now hs) k t i b = refl

key_refused : (c : KeyCall) (k : List ℕ) (t : Table) (o : Option ℕ) → is_refused (on_key t (own_answer c) (effect c k t) o).answer ≡ true
    → length (on_key t (own_answer c) (effect c k t) o).records ≡ 0
key_refused c k t none h = refl
key_refused c k t (some i) h = clash h (effect_answers c k t i (t.buckets i))

refused_pending : (a : Answer) → is_refused a ≡ true → pending_answer a ≡ 0
refused_pending (Answer.Refused n) h = refl
refused_pending Answer.New h = refl
refused_pending (Answer.Update r) h = refl
refused_pending (Answer.InsertOrUpdate r) h = clash h refl
refused_pending (Answer.Insert r) h = clash h refl
refused_pending (Answer.Remove r) h = refl
refused_pending (Answer.Entry k) h = refl
refused_pending (Answer.Found n) h = refl
refused_pending (Answer.TakeAppliedPending r) h = refl
refused_pending (Answer.Read n) h = refl

-- ---- a history with one more entry

abbrev entry_of : Call → Outcome → Entry
entry_of c o = record { call = c; answer = o.answer; records = o.records }

-- a call that is no `new`
abbrev Adds : Role → Type 0
Adds ro = (x y : ℕ) → since_made ro x y ≡ y + x

entry_conserved : (c : Call) (h : List Entry) (t : Table) (o : Outcome) → Adds (role c) → OutcomeKeeps t o → (is_refused o.answer ≡ true → length o.records ≡ 0)
    → Conserved h t → Conserved (entry_of c o ∷ h) o.table
entry_conserved c h t o adds k e q = by (is_refused o.answer) refl
  where
    by : (x : Bool) → is_refused o.answer ≡ x
        → cond x (answered_pending h) (since_made (role c) (pending_answer o.answer) (answered_pending h))
        ≡ cond x (recorded h) (since_made (role c) (length o.records) (recorded h)) + still_waiting o.table
    by true r = omega (arith, q, k, e r, refused_pending o.answer r)
    by false r = omega (arith, q, k, adds (pending_answer o.answer) (answered_pending h), adds (length o.records) (recorded h))

waiting_none : (n : ℕ) (bs : ℕ → Bucket) → ((i : ℕ) → i < n → (bs i).pending ≡ none) → waiting n bs ≡ 0
unfolding waiting
waiting_none zero bs e = refl
waiting_none (suc n) bs e = omega (arith, waiting_none n bs (λ i l. e i (omega arith)), ap waits (e n (omega arith)))

-- an accepted `new` starts the counts again
new_conserved : (k : List ℕ) (timeout m tf bf : ℕ) (h : List Entry) (t : Table) → let c = Call.new k timeout m tf bf in Conserved (entry_of c (act c t) ∷ h) (act c t).table
unfolding act
new_conserved k timeout m tf bf h t = let w = waiting_none num_buckets (λ i. empty_bucket) (λ i l. refl) in omega arith

-- the reader finds no pending and leaves none
load_balance : (bs : List ℕ) (t : Table) → Loads bs t → Keeps t 0 [] (loaded_table bs t)
load_balance bs t g =
    omega (arith, waiting_none num_buckets t.buckets (λ i l. (nothing_at t g.nothing i l).1), waiting_none num_buckets (loaded_bucket bs) (λ i l. loaded_pending bs t g i))

act_conserved : (c : Call) (h : List Entry) (t : Table) → bytes_fit c t ≡ true → Every Within t → Conserved h t → Conserved (entry_of c (act c t) ∷ h) (act c t).table
unfolding act
act_conserved (Call.new k timeout m tf bf) h t a f q = new_conserved k timeout m tf bf h t
act_conserved (Call.on_key k c) h t a f q =
    entry_conserved (Call.on_key k c) h t (on_key t (own_answer c) (effect c k t) (index_in t (number k))) (λ x y. refl) (key_balance c k t f (index_in t (number k)) refl)
    (key_refused c k t (index_in t (number k))) q
act_conserved (Call.list l n now out) h t a f q =
    entry_conserved (Call.list l n now out) h t (act (Call.list l n now out) t) (λ x y. refl) (apply_all_balance now (applies l n now t) t (applies_below l n now t)) (λ r. clash r refl) q
act_conserved (Call.read bs) h t a f q =
    entry_conserved (Call.read bs) h t (act (Call.read bs) t) (λ x y. refl) (load_balance bs t (loads bs t a)) (λ _. refl) q
act_conserved Call.take_applied_pending h t a f q =
    entry_conserved Call.take_applied_pending h t (take_oldest t t.queue) (λ x y. refl) (oldest_balance t t.queue) (λ _. oldest_records t t.queue) q
  where
    oldest_records : (t : Table) (q : List EndedPending) → length (take_oldest t q).records ≡ 0
    oldest_records t [] = refl
    oldest_records t (a ∷ q) = refl

step_conserved : (c : Call) (h : List Entry) (t : Table) → Every Within t → Conserved h t → Conserved (entry_of c (step c t) ∷ h) (step c t).table
unfolding step
step_conserved c h t f q = by (first_failed (questions c t)) refl
  where
    by : (o : Option ℕ) → first_failed (questions c t) ≡ o → Conserved (entry_of c (unless_refused o c t) ∷ h) (unless_refused o c t).table
    by none e = act_conserved c h t (accepted c t e).bytes f q
    by (some n) e = q

made_conserved : (k : List ℕ) (timeout m tf bf : ℕ) (t : Table) → let c = Call.new k timeout m tf bf in (step c t).answer ≡ Answer.New → Conserved (entry_of c (step c t) ∷ []) (step c t).table
unfolding step
made_conserved k timeout m tf bf t = by (first_failed (questions (Call.new k timeout m tf bf) t))
  where
    by : (o : Option ℕ) → (unless_refused o (Call.new k timeout m tf bf) t).answer ≡ Answer.New
        → Conserved (entry_of (Call.new k timeout m tf bf) (unless_refused o (Call.new k timeout m tf bf) t) ∷ []) (unless_refused o (Call.new k timeout m tf bf) t).table
    by none e = new_conserved k timeout m tf bf [] t
    by (some n) e = let z : ◌≡◌ {A = ℕ} 0 1 = cc in absurd (omega arith)

run_conserved : (cs : List Call) (h : List Entry) (t : Table) → Every Within t → Conserved h t → Conserved (reverse_aux (entries cs t) h) (table_after cs t)
run_conserved [] h t f q = q
run_conserved (c ∷ cs) h t f q = run_conserved cs (entry_of c (step c t) ∷ h) (step c t).table (step_keeps Within within_kept c t f) (step_conserved c h t f q)

pub conserved : (k : List ℕ) (timeout m tf bf : ℕ) (cs : List Call) (t : Table) → (step (Call.new k timeout m tf bf) t).answer ≡ Answer.New
    → Conserved (reverse (entries (Call.new k timeout m tf bf ∷ cs) t)) (table_after (Call.new k timeout m tf bf ∷ cs) t)
conserved k timeout m tf bf cs t e =
    let c : Call = Call.new k timeout m tf bf in
    run_conserved cs (entry_of c (step c t) ∷ []) (step c t).table (new_keeps Within within_kept k timeout m tf bf t e) (made_conserved k timeout m tf bf t e)
