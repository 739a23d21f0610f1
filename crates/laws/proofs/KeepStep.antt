-- Every call that a host can make keeps a table that its bytes can hold (Fits), and an accepted `new` makes one.
use Prim.Native.Nat.{ℕ, suc, ◌+◌, ◌-◌, ◌*◌, ◌^◌, ◌≤◌, ◌<◌}
use native.Mathlib.Omega.{arith}
use native.Mathlib.Nat.{mul-le-mul_right, pow-succ', suc-mul}
use mathlib.Core.Path.{◌≡◌, refl, sym, ap, ◌∙◌, subst, subst⁻¹}
use mathlib.Core.Bool.{Bool, true, false, cond, ◌&&◌}
use mathlib.Core.List.{List, [], ◌∷◌, ◌++◌}
use mathlib.Core.Option.{Option, none, some}
use lib.ListN.{length}
use lib.Dec.{eqb, leb}
use lib.Count.{count_leading_zeros}
use borrow.Author.Tests.{eqb-true, leb-true}
use Rattle.model.specs.Base.{same, is_some}
use Rattle.model.specs.Bytes.{number, Bytes}
use Rattle.model.specs.Key.{distance, log2_distance, less_one, bucket_index}
use Rattle.model.specs.Value.{Value}
use Rattle.model.specs.Node.{Node, EndedPending}
use Rattle.model.specs.Result.{UpdateResult, is_failed}
use Rattle.model.specs.Bucket.{Bucket, BucketSettings, max_nodes_per_bucket, empty_bucket, holds, insert, apply_pending, update_status, update_value, update_pending, remove}
use Rattle.model.specs.Table.{Settings, Table, Answer, Effect, num_buckets, max_records, empty_table, fails_table_filter, then_status, update_node_in, given_status_endings, update_node_endings, then_value, insert_or_update_in, insert_or_update_endings, write, index_in}
use Rattle.model.specs.Sizes.{key_size, time_size}
use Rattle.model.specs.Call.{ValueArgument, Call, KeyCall, is_one, optional, value_of}
use Rattle.model.specs.Listing.{apply_all, applies}
use Rattle.model.specs.Question.{first_failed, keys_fit, codes_in_range, clock_fits}
use Rattle.model.specs.Step.{Outcome, unchanged, on_key, own_answer, node_of, effect, settings_of, take_oldest, act, queue_fits, bytes_fit, questions, unless_refused, step}
use Rattle.model.specs.Fits.{All, Opt, WellFormed, FitsAddress, FitsValue, FitsNode, FitsDeadline, FitsRecord, FitsBucket, FitsSettings, Fits, FitsArgument, FitsCall}
use Rattle.laws.proofs.Tests.{same_true, clash, cases, and_left}
use Rattle.laws.proofs.Questions.{accepted}
use Rattle.laws.proofs.KeepEach.{insert_each, apply_pending_each, update_status_each, update_value_each, update_pending_each, remove_each}
use Rattle.laws.proofs.Keep.{empty_well_formed, insert_well_formed, apply_pending_well_formed, update_status_well_formed, update_value_well_formed, update_pending_well_formed, remove_well_formed, empty_fits, records_fit, status_endings_fit, insert_endings_fit, with_status_fits, with_value_fits}
use Rattle.laws.proofs.All.{all_append}
use Rattle.laws.proofs.Loaded.{loads, loaded_past, loaded_fits, loaded_well_formed}

-- the bucket index is 0 to 255
pub bucket_index_below : (local key i : ℕ) → bucket_index local key ≡ some i → i < num_buckets
unfolding bucket_index log2_distance
bucket_index_below local key i e = below (eqb (distance local key) 0) (count_leading_zeros 256 (distance local key)) e
  where
    below : (t : Bool) (z : ℕ) → less_one (cond t none (some (256 - z))) ≡ some i → i < 256
    below true z e = clash refl (sym (ap is_some e))
    below false z e = let q : 256 - z - 1 ≡ i = cc in omega arith

-- a key's bytes are a number of that many bytes
number_below : (k : List ℕ) → Bytes k → number k < 256 ^ length k
unfolding number
number_below [] h = omega arith
number_below (b ∷ bs) h =
    subst⁻¹ (λ (x : ℕ). b * 256 ^ length bs + number bs < x) (pow-succ' 256 (length bs))
    (within (b * 256 ^ length bs) (256 ^ length bs) (number bs) (256 * 256 ^ length bs)
    (subst (λ (x : ℕ). x ≤ 256 * 256 ^ length bs) (suc-mul b (256 ^ length bs)) (mul-le-mul_right (256 ^ length bs) (h 0)))
    (number_below bs (λ i. h (suc i))))
  where
    within : (p x n q : ℕ) → p + x ≤ q → n < x → p + n < q
    within p x n q h l = omega arith

pub key_fits : (k : List ℕ) → Bytes k → eqb (length k) key_size ≡ true → number k < 256 ^ key_size
key_fits k h e = subst (λ (x : ℕ). number k < 256 ^ x) (eqb-true (length k) key_size e) (number_below k h)

pub value_fits : (v : ValueArgument) → FitsArgument v → FitsValue (value_of v)
value_fits v f =
    record {
      address = cases (Opt FitsAddress) (is_one v.flag) (λ _. record { a = f.a; b = f.b; c = f.c; d = f.d }) (λ _. tt);
      slot = f.slot;
    }

-- Fits, but for the number of records: what a table with an endless queue is
pub record FitsEndless (t : Table) : Type 0 where
  pub settings : FitsSettings t.settings
  pub buckets : (i : ℕ) → FitsBucket (t.buckets i)
  pub well_formed : (i : ℕ) → WellFormed t.settings i (t.buckets i)
  pub past : (i : ℕ) → num_buckets ≤ i → t.buckets i ≡ empty_bucket
  pub records : All FitsRecord t.queue

pub endless : (t : Table) → Fits t → FitsEndless t
endless t f =
    record { settings = f.settings; buckets = f.buckets; well_formed = f.well_formed; past = f.past; records = f.records }

pub with_queue_lem : (t : Table) → FitsEndless t → length t.queue ≤ max_records → Fits t
with_queue_lem t f q =
    record { settings = f.settings; buckets = f.buckets; well_formed = f.well_formed; past = f.past; records = f.records; queue = q }

-- bucket i of a table that fits
pub record FitsAt (s : Settings) (i : ℕ) (b : Bucket) : Type 0 where
  pub fits : FitsBucket b
  pub formed : WellFormed s i b

pub write_fits : (t : Table) (i : ℕ) (b : Bucket) (rs : List EndedPending) → FitsEndless t → FitsAt t.settings i b → (num_buckets ≤ i → b ≡ empty_bucket)
    → All FitsRecord rs → FitsEndless (write t i b rs)
write_fits t i b rs f h p r =
    record {
      settings = f.settings;
      buckets = λ x. cases FitsBucket (same x i) (λ _. h.fits) (λ _. f.buckets x);
      well_formed = λ x. cases (WellFormed t.settings x) (same x i) (λ e. subst⁻¹ (λ (y : ℕ). WellFormed t.settings y b) (same_true x i e) h.formed) (λ _. f.well_formed x);
      past = λ x q. cases (λ (c : Bucket). c ≡ empty_bucket) (same x i) (λ e. p (subst (λ (y : ℕ). num_buckets ≤ y) (same_true x i e) q)) (λ _. f.past x q);
      records = all_append FitsRecord t.queue rs f.records r;
    }

pub new_endless : (s : Settings) → FitsSettings s → FitsEndless (empty_table s)
new_endless s f =
    record { settings = f; buckets = λ i. empty_fits; well_formed = λ i. empty_well_formed s i; past = λ i q. refl; records = tt }

-- applying: an empty bucket stays empty
apply_empty : (s : BucketSettings) (now : ℕ) → (apply_pending s now empty_bucket).0 ≡ empty_bucket
unfolding apply_pending
apply_empty s now = refl

pub apply_at : (s : Settings) (i now : ℕ) (b : Bucket) → FitsAt s i b → FitsAt s i (apply_pending s.bucket now b).0
apply_at s i now b h = record { fits = apply_pending_each FitsNode FitsDeadline s.bucket now b h.fits; formed = apply_pending_well_formed s i now b h.formed }

pub apply_all_fits : (now : ℕ) (is : List ℕ) (t : Table) → FitsEndless t → FitsEndless (apply_all now is t).0
apply_all_fits now [] t f = f
apply_all_fits now (i ∷ is) t f =
    let s : BucketSettings = t.settings.bucket in
    apply_all_fits now is (write t i (apply_pending s now (t.buckets i)).0 (apply_pending s now (t.buckets i)).1)
    (write_fits t i (apply_pending s now (t.buckets i)).0 (apply_pending s now (t.buckets i)).1 f
    (apply_at t.settings i now (t.buckets i) (record { fits = f.buckets i; formed = f.well_formed i }))
    (λ p. ap (λ (b : Bucket). (apply_pending s now b).0) (f.past i p) ∙ apply_empty s now)
    (records_fit s now (t.buckets i) (f.buckets i)))

-- what a call on one key does to its bucket
module _ (s : Settings) (i : ℕ) where
  pub status_at : (k : ℕ) (u : Bool) (d : Option Bool) (b : Bucket) → FitsAt s i b → FitsAt s i (update_status s.bucket k u d b).1
  status_at k u d b h = record { fits = update_status_each FitsNode FitsDeadline s.bucket k u d b (with_status_fits u d) h.fits; formed = update_status_well_formed s i k u d b h.formed }

  pub value_at : (k : ℕ) (v : Value) (b : Bucket) → FitsValue v → FitsAt s i b → FitsAt s i (update_value s.bucket k v b).1
  value_at k v b f h = record { fits = update_value_each FitsNode FitsDeadline s.bucket k v b (with_value_fits v f) h.fits; formed = update_value_well_formed s i k v b h.formed }

  pub pending_at_lem : (u d : Bool) (b : Bucket) → FitsAt s i b → FitsAt s i (update_pending u d b)
  pending_at_lem u d b h = record { fits = update_pending_each FitsNode FitsDeadline u d b (with_status_fits u (some d)) h.fits; formed = update_pending_well_formed s i u d b h.formed }

  pub remove_at : (now k : ℕ) (b : Bucket) → FitsAt s i b → FitsAt s i (remove s.bucket now k b).1
  remove_at now k b h = record { fits = remove_each FitsNode FitsDeadline s.bucket now k b h.fits; formed = remove_well_formed s i now k b h.formed }

  pub insert_at : (now : ℕ) (n : Node) (b : Bucket) → FitsNode n → bucket_index s.local_key n.key ≡ some i → now + s.bucket.pending_timeout < 256 ^ time_size
      → FitsAt s i b → FitsAt s i (insert s.bucket now n b).1
  insert_at now n b f e d h = record { fits = insert_each FitsNode FitsDeadline s.bucket now n b f d h.fits; formed = insert_well_formed s i now n b e h.formed }

  then_status_at : (k : ℕ) (u : Option Bool) (v : UpdateResult) (b : Bucket) → FitsAt s i b → FitsAt s i (then_status s.bucket k u v b).1
  then_status_at k none v b h = h
  then_status_at k (some u) v b h = status_at k u none b h

  pub update_node_in_at : (fails : Bool) (now k : ℕ) (v : Value) (u : Option Bool) (b : Bucket) → FitsValue v → FitsAt s i b
      → FitsAt s i (update_node_in s.bucket fails now k v u b).1
  update_node_in_at fails now k v u b f h =
      let Q : Answer × Bucket → Type 0 = λ r. FitsAt s i r.1 in
      cases Q fails (λ _. remove_at now k b h)
      (λ _. cases Q (is_failed (update_value s.bucket k v b).0) (λ _. value_at k v b f h)
      (λ _. then_status_at k u (update_value s.bucket k v b).0 (update_value s.bucket k v b).1 (value_at k v b f h)))

  then_value_at : (k : ℕ) (v : Value) (status : UpdateResult) (b : Bucket) → FitsValue v → FitsAt s i b → FitsAt s i (then_value s.bucket k v status b).1
  then_value_at k v status b f h = cases (λ (r : Answer × Bucket). FitsAt s i r.1) (is_failed status) (λ _. h) (λ _. value_at k v b f h)

  pub insert_or_update_in_at : (fails : Bool) (now : ℕ) (n : Node) (b : Bucket) → FitsNode n → bucket_index s.local_key n.key ≡ some i
      → now + s.bucket.pending_timeout < 256 ^ time_size → FitsAt s i b → FitsAt s i (insert_or_update_in s.bucket fails now n b).1
  insert_or_update_in_at fails now n b f e d h =
      let Q : Answer × Bucket → Type 0 = λ r. FitsAt s i r.1 in
      cases Q fails (λ _. remove_at now n.key b h)
      (λ _. cases Q (holds n.key b)
      (λ _. then_value_at n.key n.value (update_status s.bucket n.key n.connected (some n.incoming) b).0 _ f.value
      (status_at n.key n.connected (some n.incoming) b h))
      (λ _. insert_at now n b f e d h))

-- a call on one key, by what it does to the key's bucket
abbrev FitsEffect : Settings → ℕ → Effect → Type 0
FitsEffect s i e = FitsAt s i e.bucket × All FitsRecord e.records

on_key_fits : (t : Table) (self : Answer) (f : ℕ → Bucket → Effect) (o : Option ℕ) → ((i : ℕ) → o ≡ some i → i < num_buckets) → FitsEndless t
    → ((i : ℕ) → o ≡ some i → FitsEffect t.settings i (f i (t.buckets i))) → FitsEndless (on_key t self f o).table
on_key_fits t self f none l h g = h
on_key_fits t self f (some i) l h g =
    write_fits t i (f i (t.buckets i)).bucket (f i (t.buckets i)).records h (g i refl).0 (λ p. absurd (let q = l i refl in omega arith)) (g i refl).1

-- a due pending is applied first
after_applying : {c : Bucket} (rs : List EndedPending) (s : Settings) (i now : ℕ) (b : Bucket) → FitsAt s i b
    → (FitsAt s i (apply_pending s.bucket now b).0 → FitsAt s i c × All FitsRecord rs) → FitsAt s i c × All FitsRecord ((apply_pending s.bucket now b).1 ++ rs)
after_applying rs s i now b h g =
    let e = g (apply_at s i now b h) in
    (e.0, all_append FitsRecord (apply_pending s.bucket now b).1 rs (records_fit s.bucket now b h.fits) e.1)

-- the records of the call's own step
given_status_records : (s : Settings) (i k : ℕ) (u : Option Bool) (b : Bucket) → FitsAt s i b → All FitsRecord (given_status_endings k u b)
given_status_records s i k none b h = tt
given_status_records s i k (some u) b h = status_endings_fit k u b h.fits

update_node_records : (s : Settings) (i : ℕ) (fails : Bool) (k : ℕ) (v : Value) (u : Option Bool) (b : Bucket) → FitsValue v → FitsAt s i b
    → All FitsRecord (update_node_endings s.bucket fails k v u b)
update_node_records s i fails k v u b f h =
    cases (All FitsRecord) fails (λ _. tt)
    (λ _. cases (All FitsRecord) (is_failed (update_value s.bucket k v b).0) (λ _. tt) (λ _. given_status_records s i k u _ (value_at s i k v b f h)))

insert_or_update_records : (s : Settings) (i : ℕ) (fails : Bool) (now : ℕ) (n : Node) (b : Bucket) → FitsAt s i b
    → All FitsRecord (insert_or_update_endings s.bucket fails now n b)
insert_or_update_records s i fails now n b h =
    cases (All FitsRecord) fails (λ _. tt)
    (λ _. cases (All FitsRecord) (holds n.key b) (λ _. status_endings_fit n.key n.connected b h.fits)
    (λ _. insert_endings_fit n b (insert s.bucket now n b).0 h.fits))

take_oldest_fits : (t : Table) (q : List EndedPending) → All FitsRecord q → FitsEndless t → FitsEndless (take_oldest t q).table
take_oldest_fits t [] r h = h
take_oldest_fits t (a ∷ q) r h = record { settings = h.settings; buckets = h.buckets; well_formed = h.well_formed; past = h.past; records = r.1 }

-- the deadline of a call whose clock fits
deadline_fits : (now timeout : ℕ) → leb (now + timeout) (2 ^ 64 - 1) ≡ true → now + timeout < 256 ^ time_size
deadline_fits now timeout e = let h = leb-true (now + timeout) (2 ^ 64 - 1) e in omega arith

node_fits : (k : List ℕ) (v : ValueArgument) (st dr : ℕ) → Bytes k → FitsArgument v → eqb (length k) key_size ≡ true → FitsNode (node_of k v st dr)
node_fits k v st dr b f e = record { key = key_fits k b e; value = value_fits v f }

pub new_settings_fit : (k : List ℕ) (timeout m tf bf : ℕ) → FitsCall (Call.new k timeout m tf bf) → keys_fit (Call.new k timeout m tf bf) ≡ true
    → codes_in_range (Call.new k timeout m tf bf) ≡ true → FitsSettings (settings_of (number k) timeout m tf bf)
unfolding keys_fit codes_in_range
new_settings_fit k timeout m tf bf c e r =
    record {
      local_key = key_fits k c.0 (and_left (eqb (length k) key_size) true e);
      pending_timeout = c.1;
      max_incoming = leb-true m max_nodes_per_bucket (and_left (leb m max_nodes_per_bucket) (leb tf 1 && leb bf 1) r);
    }

effect_fits : (c : KeyCall) (k : List ℕ) (t : Table) (i : ℕ) (b : Bucket) → FitsCall (Call.on_key k c) → keys_fit (Call.on_key k c) ≡ true
    → clock_fits (Call.on_key k c) t ≡ true → index_in t (number k) ≡ some i → FitsAt t.settings i b → FitsEffect t.settings i (effect c k t i b)
unfolding keys_fit clock_fits
effect_fits (KeyCall.update_node_status st dr now) k t i b c e d q h =
    after_applying _ t.settings i now b h (λ w. (status_at t.settings i (number k) (is_one st) (optional dr) _ w, status_endings_fit (number k) (is_one st) _ w.fits))
effect_fits (KeyCall.update_node v st now) k t i b c e d q h =
    after_applying _ t.settings i now b h (λ w. (
      update_node_in_at t.settings i (fails_table_filter t i (number k) (value_of v)) now (number k) (value_of v) (optional st) _ (value_fits v c.1) w,
      update_node_records t.settings i (fails_table_filter t i (number k) (value_of v)) (number k) (value_of v) (optional st) _ (value_fits v c.1) w,
    ))
effect_fits (KeyCall.insert_or_update v st dr now hs) k t i b c e d q h =
    after_applying _ t.settings i now b h
    (λ w. (
      insert_or_update_in_at t.settings i (fails_table_filter t i (number k) (value_of v)) now (node_of k v st dr) _
          (node_fits k v st dr c.0 c.1 (and_left (eqb (length k) key_size) true e)) q (deadline_fits now t.settings.bucket.pending_timeout d) w,
      insert_or_update_records t.settings i (fails_table_filter t i (number k) (value_of v)) now (node_of k v st dr) _ w,
    ))
effect_fits (KeyCall.remove now) k t i b c e d q h = after_applying _ t.settings i now b h (λ w. (remove_at t.settings i now (number k) _ w, tt))
effect_fits (KeyCall.entry now) k t i b c e d q h = after_applying _ t.settings i now b h (λ w. (w, tt))
effect_fits (KeyCall.present_update st dr) k t i b c e d q h = (status_at t.settings i (number k) (is_one st) (optional dr) b h, status_endings_fit (number k) (is_one st) b h.fits)
effect_fits (KeyCall.pending_update st dr) k t i b c e d q h = (pending_at_lem t.settings i (is_one st) (is_one dr) b h, tt)
effect_fits (KeyCall.absent_insert v st dr now hs) k t i b c e d q h = (
  insert_at t.settings i now (node_of k v st dr) b (node_fits k v st dr c.0 c.1 (and_left (eqb (length k) key_size) true e)) q
      (deadline_fits now t.settings.bucket.pending_timeout d) h,
  insert_endings_fit (node_of k v st dr) b (insert t.settings.bucket now (node_of k v st dr) b).0 h.fits,
)

-- the call's work, with an endless queue
pub act_fits : (c : Call) (t : Table) → FitsCall c → keys_fit c ≡ true → codes_in_range c ≡ true → clock_fits c t ≡ true → bytes_fit c t ≡ true → FitsEndless t
    → FitsEndless (act c t).table
unfolding act
act_fits (Call.new k timeout m tf bf) t c e r d b h = new_endless (settings_of (number k) timeout m tf bf) (new_settings_fit k timeout m tf bf c e r)
act_fits (Call.on_key k x) t c e r d b h =
    on_key_fits t (own_answer x) (effect x k t) (index_in t (number k)) (bucket_index_below t.settings.local_key (number k)) h
    (λ i q. effect_fits x k t i (t.buckets i) c e d q (record { fits = h.buckets i; formed = h.well_formed i }))
act_fits (Call.list l n now out) t c e r d b h = apply_all_fits now (applies l n now t) t h
act_fits Call.take_applied_pending t c e r d b h = take_oldest_fits t t.queue h.records h
act_fits (Call.read bs) t c e r d b h =
    let g = loads bs t b in
    record {
      settings = h.settings;
      buckets = loaded_fits bs t g c;
      well_formed = loaded_well_formed bs t g;
      past = loaded_past bs;
      records = h.records;
    }

pub queue_within : (c : Call) (t : Table) → queue_fits c t ≡ true → length (act c t).table.queue ≤ max_records
unfolding queue_fits
queue_within c t e = leb-true (length (act c t).table.queue) max_records e

-- an accepted call does its work; a refused one leaves the table
pub step_accepted : (c : Call) (t : Table) → first_failed (questions c t) ≡ none → step c t ≡ act c t
unfolding step
step_accepted c t e = ap (λ (o : Option ℕ). unless_refused o c t) e

pub step_refused : (c : Call) (t : Table) (n : ℕ) → first_failed (questions c t) ≡ some n → step c t ≡ unchanged (Answer.Refused n) t
unfolding step
step_refused c t n e = ap (λ (o : Option ℕ). unless_refused o c t) e

-- an accepted `new` makes a table that fits, whatever there was before
pub new_fits : (k : List ℕ) (timeout m tf bf : ℕ) (t : Table) → FitsCall (Call.new k timeout m tf bf)
    → first_failed (questions (Call.new k timeout m tf bf) t) ≡ none → Fits (step (Call.new k timeout m tf bf) t).table
unfolding act
new_fits k timeout m tf bf t c e =
    let a = accepted (Call.new k timeout m tf bf) t e in
    subst⁻¹ (λ (o : Outcome). Fits o.table) (step_accepted (Call.new k timeout m tf bf) t e)
    (with_queue_lem (act (Call.new k timeout m tf bf) t).table
    (new_endless (settings_of (number k) timeout m tf bf) (new_settings_fit k timeout m tf bf c a.keys a.codes))
    (queue_within (Call.new k timeout m tf bf) t a.queue))

-- every call keeps a table that fits
pub step_fits : (c : Call) (t : Table) → FitsCall c → Fits t → Fits (step c t).table
unfolding step
step_fits c t f h = answered (first_failed (questions c t)) refl
  where
    answered : (o : Option ℕ) → first_failed (questions c t) ≡ o → Fits (unless_refused o c t).table
    answered (some n) e = h
    answered none e =
        let a = accepted c t e in
        with_queue_lem (act c t).table (act_fits c t f a.keys a.codes a.clock a.bytes (endless t h)) (queue_within c t a.queue)
