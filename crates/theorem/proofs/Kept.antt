-- A property of a bucket that the bucket's operations keep, and that loaded buckets have, is kept by every call, and so by every list of calls.
use Prim.Native.Nat.{ℕ}
use mathlib.Core.Path.{◌≡◌, refl}
use mathlib.Core.Bool.{Bool, true}
use mathlib.Core.List.{List, [], ◌∷◌}
use mathlib.Core.Option.{Option, none, some}
use native.Mathlib.Omega.{arith}
use Rattle.model.specs.Base.{same}
use Rattle.model.specs.Bytes.{number}
use Rattle.model.specs.Value.{Value}
use Rattle.model.specs.Node.{Node, EndedPending}
use Rattle.model.specs.Result.{UpdateResult, is_failed}
use Rattle.model.specs.Bucket
use Rattle.model.specs.Bucket.{Bucket, BucketSettings, empty_bucket, holds, apply_pending, update_status, update_value, update_pending}
use Rattle.model.specs.Table.{Table, Answer, Effect, fails_table_filter, then_status, update_node_in, insert_or_update_in, write, index_in}
use Rattle.model.specs.Call.{Call, KeyCall, is_one, optional, value_of}
use Rattle.model.specs.Listing.{apply_all, applies}
use Rattle.model.specs.Question.{first_failed}
use Rattle.model.specs.Saved.{loaded_bucket}
use Rattle.model.specs.Step
use Rattle.model.specs.Step.{on_key, own_answer, effect, take_oldest, act, bytes_fit, questions, unless_refused, step}
use Rattle.laws.proofs.Tests.{cases}
use Rattle.laws.proofs.Questions.{accepted}
use Rattle.laws.proofs.Loaded.{Loads, loads}
use Rattle.table_log.specs.Claim.{table_after}

-- the operations keep Q
pub record Keeps (Q : BucketSettings → Bucket → Type 0) : Type 0 where
  pub empty : (s : BucketSettings) → Q s empty_bucket
  pub insert : (s : BucketSettings) (now : ℕ) (n : Node) (b : Bucket) → Q s b → Q s (Bucket.insert s now n b).1
  pub apply : (s : BucketSettings) (now : ℕ) (b : Bucket) → Q s b → Q s (apply_pending s now b).0
  pub status : (s : BucketSettings) (k : ℕ) (u : Bool) (d : Option Bool) (b : Bucket) → Q s b → Q s (update_status s k u d b).1
  pub value : (s : BucketSettings) (k : ℕ) (v : Value) (b : Bucket) → Q s b → Q s (update_value s k v b).1
  pub pending : (s : BucketSettings) (u d : Bool) (b : Bucket) → Q s b → Q s (update_pending u d b)
  pub remove : (s : BucketSettings) (now k : ℕ) (b : Bucket) → Q s b → Q s (Bucket.remove s now k b).1
  pub load : (bs : List ℕ) (t : Table) → Loads bs t → (j : ℕ) → Q t.settings.bucket (loaded_bucket bs j)

-- every bucket of the table has it
abbrev pub Every : (BucketSettings → Bucket → Type 0) → Table → Type 0
Every Q t = (j : ℕ) → Q t.settings.bucket (t.buckets j)

module _ (Q : BucketSettings → Bucket → Type 0) (keeps : Keeps Q) where
  write_keeps : (t : Table) (i : ℕ) (b : Bucket) (rs : List EndedPending) → Every Q t → Q t.settings.bucket b → Every Q (write t i b rs)
  write_keeps t i b rs f g = λ j. cases (Q t.settings.bucket) (same j i) (λ _. g) (λ _. f j)

  on_key_keeps : (t : Table) (self : Answer) (g : ℕ → Bucket → Effect) → Every Q t → ((i : ℕ) (b : Bucket) → Q t.settings.bucket b → Q t.settings.bucket (g i b).bucket)
      → (o : Option ℕ) → Every Q (on_key t self g o).table
  on_key_keeps t self g f h none = f
  on_key_keeps t self g f h (some i) = write_keeps t i (g i (t.buckets i)).bucket (g i (t.buckets i)).records f (h i (t.buckets i) (f i))

  apply_all_keeps : (now : ℕ) (is : List ℕ) (t : Table) → Every Q t → Every Q (apply_all now is t).0
  apply_all_keeps now [] t f = f
  apply_all_keeps now (i ∷ is) t f =
      let a = apply_pending t.settings.bucket now (t.buckets i) in
      apply_all_keeps now is (write t i a.0 a.1) (write_keeps t i a.0 a.1 f (keeps.apply t.settings.bucket now (t.buckets i) (f i)))

  then_status_keeps : (s : BucketSettings) (k : ℕ) (u : Option Bool) (r : UpdateResult) (b : Bucket) → Q s b → Q s (then_status s k u r b).1
  then_status_keeps s k none r b f = f
  then_status_keeps s k (some u) r b f = keeps.status s k u none b f

  update_node_keeps : (s : BucketSettings) (fails : Bool) (now k : ℕ) (v : Value) (u : Option Bool) (b : Bucket) → Q s b → Q s (update_node_in s fails now k v u b).1
  update_node_keeps s fails now k v u b f =
      let P : Answer × Bucket → Type 0 = λ r. Q s r.1 in
      let g : Q s (update_value s k v b).1 = keeps.value s k v b f in
      cases P fails (λ _. keeps.remove s now k b f)
      (λ _. cases P (is_failed (update_value s k v b).0) (λ _. g) (λ _. then_status_keeps s k u (update_value s k v b).0 (update_value s k v b).1 g))

  insert_or_update_keeps : (s : BucketSettings) (fails : Bool) (now : ℕ) (n : Node) (b : Bucket) → Q s b → Q s (insert_or_update_in s fails now n b).1
  insert_or_update_keeps s fails now n b f =
      let P : Answer × Bucket → Type 0 = λ r. Q s r.1 in
      let r = update_status s n.key n.connected (some n.incoming) b in
      let g : Q s r.1 = keeps.status s n.key n.connected (some n.incoming) b f in
      cases P fails (λ _. keeps.remove s now n.key b f)
      (λ _. cases P (holds n.key b) (λ _. cases P (is_failed r.0) (λ _. g) (λ _. keeps.value s n.key n.value r.1 g)) (λ _. keeps.insert s now n b f))

  oldest_keeps : (t : Table) → Every Q t → (q : List EndedPending) → Every Q (take_oldest t q).table
  oldest_keeps t f [] = f
  oldest_keeps t f (a ∷ q) = f

  -- what a call on one key does to the key's bucket
  effect_keeps : (c : KeyCall) (k : List ℕ) (t : Table) (i : ℕ) (b : Bucket) → Q t.settings.bucket b → Q t.settings.bucket (effect c k t i b).bucket
  effect_keeps (KeyCall.update_node_status st dr now) k t i b g = keeps.status _ (number k) (is_one st) (optional dr) _ (keeps.apply _ now b g)
  effect_keeps (KeyCall.update_node v st now) k t i b g = update_node_keeps _ (fails_table_filter t i (number k) (value_of v)) now (number k) (value_of v) (optional st) _ (keeps.apply _ now b g)
  effect_keeps (KeyCall.insert_or_update v st dr now hs) k t i b g = insert_or_update_keeps _ (fails_table_filter t i (number k) (value_of v)) now (Step.node_of k v st dr) _ (keeps.apply _ now b g)
  effect_keeps (KeyCall.remove now) k t i b g = keeps.remove _ now (number k) _ (keeps.apply _ now b g)
  effect_keeps (KeyCall.entry now) k t i b g = keeps.apply _ now b g
  effect_keeps (KeyCall.present_update st dr) k t i b g = keeps.status _ (number k) (is_one st) (optional dr) b g
  effect_keeps (KeyCall.pending_update st dr) k t i b g = keeps.pending _ (is_one st) (is_one dr) b g
  effect_keeps (KeyCall.absent_insert v st dr now hs) k t i b g = keeps.insert _ now (Step.node_of k v st dr) b g

  act_keeps : (c : Call) (t : Table) → bytes_fit c t ≡ true → Every Q t → Every Q (act c t).table
  unfolding act
  act_keeps (Call.new k timeout m tf bf) t a f = λ j. keeps.empty _
  act_keeps (Call.on_key k c) t a f = on_key_keeps t (own_answer c) (effect c k t) f (effect_keeps c k t) (index_in t (number k))
  act_keeps (Call.list l n now out) t a f = apply_all_keeps now (applies l n now t) t f
  act_keeps Call.take_applied_pending t a f = oldest_keeps t f t.queue
  act_keeps (Call.read bs) t a f = keeps.load bs t (loads bs t a)

  unless_refused_keeps : (c : Call) (t : Table) → Every Q t → (o : Option ℕ) → (o ≡ none → bytes_fit c t ≡ true) → Every Q (unless_refused o c t).table
  unless_refused_keeps c t f none a = act_keeps c t (a refl) f
  unless_refused_keeps c t f (some n) a = f

  pub step_keeps : (c : Call) (t : Table) → Every Q t → Every Q (step c t).table
  unfolding step
  step_keeps c t f = unless_refused_keeps c t f (first_failed (questions c t)) (λ e. (accepted c t e).bytes)

  pub run_keeps : (cs : List Call) (t : Table) → Every Q t → Every Q (table_after cs t)
  run_keeps [] t f = f
  run_keeps (c ∷ cs) t f = run_keeps cs (step c t).table (step_keeps c t f)

  -- an accepted `new`, on any table
  new_unless_refused : (k : List ℕ) (timeout m tf bf : ℕ) (t : Table) (o : Option ℕ) → (unless_refused o (Call.new k timeout m tf bf) t).answer ≡ Answer.New
      → Every Q (unless_refused o (Call.new k timeout m tf bf) t).table
  unfolding act
  new_unless_refused k timeout m tf bf t (some n) e = let z : ◌≡◌ {A = ℕ} 0 1 = cc in absurd (omega arith)
  new_unless_refused k timeout m tf bf t none e = λ j. keeps.empty _

  pub new_keeps : (k : List ℕ) (timeout m tf bf : ℕ) (t : Table) → (step (Call.new k timeout m tf bf) t).answer ≡ Answer.New → Every Q (step (Call.new k timeout m tf bf) t).table
  unfolding step
  new_keeps k timeout m tf bf t e = new_unless_refused k timeout m tf bf t (first_failed (questions (Call.new k timeout m tf bf) t)) e

  pub reached_keeps : (k : List ℕ) (timeout m tf bf : ℕ) (t : Table) (cs : List Call) → (step (Call.new k timeout m tf bf) t).answer ≡ Answer.New
      → Every Q (table_after (Call.new k timeout m tf bf ∷ cs) t)
  reached_keeps k timeout m tf bf t cs e = run_keeps cs (step (Call.new k timeout m tf bf) t).table (new_keeps k timeout m tf bf t e)
