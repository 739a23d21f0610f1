-- 02, slip 7: a call on one key looks at the settings and at the buckets that it reads: where another table has the same ones, the call
-- does the same.
use Prim.Native.Nat.{ℕ, zero, suc, ◌<◌}
use native.Mathlib.Omega.{arith}
use mathlib.Core.Path.{◌≡◌, refl, ap, ap₂, ◌∙◌}
use mathlib.Core.Bool.{Bool, true, false, cond, not, ◌&&◌}
use mathlib.Core.List.{List, [], ◌∷◌, ◌++◌}
use mathlib.Core.Option.{Option, none, some}
use Rattle.model.specs.Bytes.{number}
use Rattle.model.specs.Value.{Value}
use Rattle.model.specs.Node.{Node}
use Rattle.model.specs.Filter.{ip_filter_fails, max_nodes_per_subnet_table}
use Rattle.model.specs.Bucket.{Bucket, nodes, get, omit, apply_pending}
use Rattle.model.specs.Table.{Table, EntryKind, Effect, num_buckets, after_applying, held_nodes, is_duplicate, filter_runs, other_nodes, fails_table_filter, update_node_in, update_node_endings, insert_or_update_in, insert_or_update_endings, kind_of, kind_in, index_in}
use Rattle.model.specs.Call.{Call, KeyCall, is_one, optional, value_of}
use Rattle.model.specs.Question.{is_absent, key_arguments, kind_fits, admits_in, admitted}
use Rattle.model.specs.Step.{Outcome, on_key, node_of, own_answer, effect, act}
use Rattle.model.specs.StepBytes.{every_bucket, filtered, runs_filter, key_reads, reads}
use Rattle.model.specs.Fits.{All}
use Rattle.model.specs.Explain.{Reason, told, filter_keys, table_filter_reason, status_reason, update_node_reason, insert_or_update_reason, remove_reason, insert_reason, bucket_reason, key_reason, reason, explanation}
use Rattle.laws.proofs.Tests.{clash, and_left, second}
use Rattle.laws.proofs.KeepStep.{bucket_index_below}
use Rattle.laws.proofs.Touched.{every_bucket_lem}

-- the table with other buckets
abbrev pub with_buckets : (ℕ → Bucket) → Table → Table
with_buckets bs t = record { settings = t.settings; buckets = bs; queue = t.queue }

-- two outcomes are the same but for the buckets
pub record Alike (o p : Outcome) : Type 0 where
  pub answer : o.answer ≡ p.answer
  pub queue : o.table.queue ≡ p.table.queue
  pub records : o.records ≡ p.records
  pub items : o.items ≡ p.items

held_same : (n : ℕ) (bs cs : ℕ → Bucket) → ((j : ℕ) → j < n → bs j ≡ cs j) → held_nodes n bs ≡ held_nodes n cs
unfolding held_nodes
held_same zero bs cs h = refl
held_same (suc n) bs cs h = ap₂ (λ (x y : List Node). x ++ y) (held_same n bs cs (λ j m. h j (omega arith))) (ap nodes (h n (omega arith)))

chosen : {A : Type 0} (f g : Bool) (x x' y y' : A) → f ≡ g → (g ≡ true → x ≡ x') → y ≡ y' → cond f x y ≡ cond g x' y'
chosen f true x x' y y' e h i = ap (λ (b : Bool). cond b x y) e ∙ h refl
chosen f false x x' y y' e h i = ap (λ (b : Bool). cond b x y) e ∙ i

-- of the buckets that a call on one key reads: its own, and all where the filter runs
pub own_read : (P : ℕ → Type 0) (b : Bool) (i : ℕ) → i < num_buckets → All P (cond b every_bucket (i ∷ [])) → P i
own_read P true i m a = every_bucket_lem P a i m
own_read P false i m a = a.0

all_read : (P : ℕ → Type 0) (b : Bool) (i : ℕ) → b ≡ true → All P (cond b every_bucket (i ∷ [])) → (j : ℕ) → j < num_buckets → P j
all_read P true i e a = every_bucket_lem P a
all_read P false i e a = clash e refl

fails_runs : (t : Table) (i k : ℕ) (v : Value) → fails_table_filter t i k v ≡ true → filter_runs t i k v ≡ true
unfolding fails_table_filter
fails_runs t i k v e = and_left (filter_runs t i k v) (ip_filter_fails max_nodes_per_subnet_table v (other_nodes k t.buckets)) e

module _ (t : Table) (bs : ℕ → Bucket) where
  abbrev u : Table
  u = with_buckets bs t

  abbrev pub SameBucket : ℕ → Type 0
  SameBucket i = bs i ≡ t.buckets i

  abbrev SameAll : Type 0
  SameAll = (j : ℕ) → j < num_buckets → SameBucket j

  filter_same : (i k : ℕ) (v : Value) → SameBucket i → (filter_runs t i k v ≡ true → SameAll) → fails_table_filter u i k v ≡ fails_table_filter t i k v
  unfolding fails_table_filter
  filter_same i k v e h =
      ap (λ (b : Bucket). (t.settings.table_filter && not (is_duplicate v (get k b))) && ip_filter_fails max_nodes_per_subnet_table v (other_nodes k bs)) e
      ∙ second (filter_runs t i k v) _ _
      (λ r. ap (λ (ns : List Node). ip_filter_fails max_nodes_per_subnet_table v (omit k ns)) (held_same num_buckets bs t.buckets (h r)))

  runs_same : (i k : ℕ) (o : Option Value) → SameBucket i → runs_filter u i k o ≡ runs_filter t i k o
  runs_same i k none e = refl
  runs_same i k (some v) e = ap (λ (b : Bucket). t.settings.table_filter && not (is_duplicate v (get k b))) e

  effect_same : (c : KeyCall) (k : List ℕ) (i : ℕ) (b : Bucket) → SameBucket i → (runs_filter t i (number k) (filtered c) ≡ true → SameAll)
      → effect c k u i b ≡ effect c k t i b
  effect_same (KeyCall.update_node_status st dr now) k i b e h = refl
  effect_same (KeyCall.update_node v st now) k i b e h =
      let s = t.settings.bucket in
      ap (λ (f : Bool). after_applying s now (update_node_endings s f (number k) (value_of v) (optional st)) (update_node_in s f now (number k) (value_of v) (optional st)) b)
      (filter_same i (number k) (value_of v) e h)
  effect_same (KeyCall.insert_or_update v st dr now hs) k i b e h =
      let s = t.settings.bucket in
      ap (λ (f : Bool). after_applying s now (insert_or_update_endings s f now (node_of k v st dr)) (insert_or_update_in s f now (node_of k v st dr)) b)
      (filter_same i (number k) (value_of v) e h)
  effect_same (KeyCall.remove now) k i b e h = refl
  effect_same (KeyCall.entry now) k i b e h = refl
  effect_same (KeyCall.present_update st dr) k i b e h = refl
  effect_same (KeyCall.pending_update st dr) k i b e h = refl
  effect_same (KeyCall.absent_insert v st dr now hs) k i b e h = refl

  filter_reason : (k : ℕ) (v : Value) → SameAll → table_filter_reason k v bs ≡ table_filter_reason k v t.buckets
  filter_reason k v g = ap (λ (ns : List Node). Reason.TableFilter (filter_keys max_nodes_per_subnet_table v (omit k ns))) (held_same num_buckets bs t.buckets g)

  reason_at : (c : KeyCall) (k : List ℕ) (i : ℕ) → SameBucket i → (runs_filter t i (number k) (filtered c) ≡ true → SameAll) → bucket_reason c k u i ≡ bucket_reason c k t i
  reason_at (KeyCall.update_node_status st dr now) k i e h =
      ap (λ (b : Bucket). status_reason t.settings.bucket (number k) (is_one st) (optional dr) (apply_pending t.settings.bucket now b).0) e
  reason_at (KeyCall.update_node v st now) k i e h =
      chosen (fails_table_filter u i (number k) (value_of v)) (fails_table_filter t i (number k) (value_of v)) _ _ _ _ (filter_same i (number k) (value_of v) e h)
      (λ f. filter_reason (number k) (value_of v) (h (fails_runs t i (number k) (value_of v) f)))
      (ap (λ (b : Bucket). update_node_reason t.settings.bucket (number k) (value_of v) (optional st) (apply_pending t.settings.bucket now b).0) e)
  reason_at (KeyCall.insert_or_update v st dr now hs) k i e h =
      chosen (fails_table_filter u i (number k) (value_of v)) (fails_table_filter t i (number k) (value_of v)) _ _ _ _ (filter_same i (number k) (value_of v) e h)
      (λ f. filter_reason (number k) (value_of v) (h (fails_runs t i (number k) (value_of v) f)))
      (ap (λ (b : Bucket). insert_or_update_reason t.settings.bucket (node_of k v st dr) (apply_pending t.settings.bucket now b).0) e)
  reason_at (KeyCall.remove now) k i e h = ap (λ (b : Bucket). remove_reason (number k) (apply_pending t.settings.bucket now b).0) e
  reason_at (KeyCall.entry now) k i e h = refl
  reason_at (KeyCall.present_update st dr) k i e h = ap (status_reason t.settings.bucket (number k) (is_one st) (optional dr)) e
  reason_at (KeyCall.pending_update st dr) k i e h = refl
  reason_at (KeyCall.absent_insert v st dr now hs) k i e h = ap (insert_reason t.settings.bucket (node_of k v st dr)) e

  -- of the local key nothing is read
  module _ (c : KeyCall) (k : List ℕ) where
    read_own : (i : ℕ) → i < num_buckets → All SameBucket (key_reads c (number k) t (some i)) → SameBucket i
    read_own i m a = own_read SameBucket (runs_filter t i (number k) (filtered c)) i m a

    read_all : (i : ℕ) → All SameBucket (key_reads c (number k) t (some i)) → runs_filter t i (number k) (filtered c) ≡ true → SameAll
    read_all i a r = all_read SameBucket (runs_filter t i (number k) (filtered c)) i r a

    reads_of : (o : Option ℕ) → ((i : ℕ) → o ≡ some i → i < num_buckets) → All SameBucket (key_reads c (number k) t o) → key_reads c (number k) u o ≡ key_reads c (number k) t o
    reads_of none m a = refl
    reads_of (some i) m a = ap (λ (b : Bool). cond b every_bucket (i ∷ [])) (runs_same i (number k) (filtered c) (read_own i (m i refl) a))

    kind_of_lem : (o : Option ℕ) → ((i : ℕ) → o ≡ some i → i < num_buckets) → All SameBucket (key_reads c (number k) t o) → kind_in u (number k) o ≡ kind_in t (number k) o
    kind_of_lem none m a = refl
    kind_of_lem (some i) m a = ap (kind_of (number k)) (read_own i (m i refl) a)

    effect_of : (i : ℕ) → i < num_buckets → All SameBucket (key_reads c (number k) t (some i)) → effect c k u i (bs i) ≡ effect c k t i (t.buckets i)
    effect_of i m a = effect_same c k i (bs i) (read_own i m a) (read_all i a) ∙ ap (effect c k t i) (read_own i m a)

    reason_of : (o : Option ℕ) → ((i : ℕ) → o ≡ some i → i < num_buckets) → All SameBucket (key_reads c (number k) t o)
        → key_reason (bucket_reason c k u) o ≡ key_reason (bucket_reason c k t) o
    reason_of none m a = refl
    reason_of (some i) m a = reason_at c k i (read_own i (m i refl) a) (read_all i a)

    act_of : (o : Option ℕ) → ((i : ℕ) → o ≡ some i → i < num_buckets) → All SameBucket (key_reads c (number k) t o)
        → Alike (on_key u (own_answer c) (effect c k u) o) (on_key t (own_answer c) (effect c k t) o)
    act_of none m a = record { answer = refl; queue = refl; records = refl; items = refl }
    act_of (some i) m a =
        let e : effect c k u i (bs i) ≡ effect c k t i (t.buckets i) = effect_of i (m i refl) a in
        record {
          answer = ap (λ (x : Effect). x.answer) e;
          queue = ap (λ (x : Effect). t.queue ++ x.records) e;
          records = ap (λ (x : Effect). x.records) e;
          items = refl;
        }

    index : (i : ℕ) → index_in t (number k) ≡ some i → i < num_buckets
    index i e = bucket_index_below t.settings.local_key (number k) i e

    -- the buckets that the call reads are the same in both
    module _ (a : All SameBucket (reads (Call.on_key k c) t)) where
      pub key_reads_same : reads (Call.on_key k c) u ≡ reads (Call.on_key k c) t
      key_reads_same = reads_of (index_in t (number k)) index a

      pub key_kind_same : kind_fits (Call.on_key k c) u ≡ kind_fits (Call.on_key k c) t
      unfolding kind_fits
      key_kind_same = ap (key_arguments c).kind (kind_of_lem (index_in t (number k)) index a)

      pub key_admitted_same : admitted (Call.on_key k c) u ≡ admitted (Call.on_key k c) t
      key_admitted_same = ap (λ (x : EntryKind). admits_in (key_arguments c).hours (not (is_absent x))) (kind_of_lem (index_in t (number k)) index a)

      pub key_act_same : Alike (act (Call.on_key k c) u) (act (Call.on_key k c) t)
      unfolding act
      key_act_same = act_of (index_in t (number k)) index a

      pub reason_same : reason c k u ≡ reason c k t
      unfolding reason
      reason_same = reason_of (index_in t (number k)) index a

      pub explanation_same : explanation c k u ≡ explanation c k t
      unfolding explanation
      explanation_same = λ x. record { told = told (key_act_same.answer x); reason = reason_same x }
