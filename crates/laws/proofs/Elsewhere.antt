-- 02, slip 7: what an accepted call writes back, on a storage of which it has asked only a part, and that a bucket elsewhere keeps its
-- bytes.
use Prim.Native.Nat.{ℕ, ◌<◌, ◌≤◌}
use mathlib.Core.Path.{◌≡◌, refl, subst, subst⁻¹}
use mathlib.Core.Bool.{Bool, true, false, cond, not}
use mathlib.Core.List.{List, [], ◌∷◌}
use mathlib.Core.Option.{Option, none, some}
use Rattle.model.specs.Base.{same, every}
use Rattle.model.specs.Bytes.{number}
use Rattle.model.specs.Value.{Value}
use Rattle.model.specs.Node.{Node}
use Rattle.model.specs.Result.{UpdateResult, is_failed}
use Rattle.model.specs.Bucket.{Bucket, BucketSettings, max_nodes_per_bucket, num_entries, holds, update_status, update_value}
use Rattle.model.specs.Table.{Table, Answer, num_buckets, index_in, fails_table_filter, then_status, update_node_in, insert_or_update_in}
use Rattle.model.specs.Call.{Call, KeyCall, is_one, optional, value_of}
use Rattle.model.specs.Listing.{indices, apply_all, applies}
use Rattle.model.specs.Question.{arguments, first_failed}
use Rattle.model.specs.Step.{on_key, effect, act, node_of}
use Rattle.model.specs.StepBytes.{runs_filter, filtered, key_reads, reads, all_questions, touched, unless_refused_bytes, step_bytes}
use Rattle.model.specs.Layout.{table_of, bucket_part}
use Rattle.model.specs.Formed.{bucket_formed_at, buckets_formed}
use Rattle.model.specs.Fits.{All, Formed}
use Rattle.laws.proofs.Tests.{same_self, clash, cases, split, and_left, and_right}
use Rattle.laws.proofs.All.{all_map}
use Rattle.laws.proofs.Applied.{apply_all_buckets}
use Rattle.laws.proofs.TableBytes.{sound_at}
use Rattle.laws.proofs.KeepFormed.{insert_formed, apply_pending_formed, update_status_formed, update_value_formed, update_pending_formed, remove_formed}
use Rattle.laws.proofs.KeepStep.{bucket_index_below, queue_within}
use Rattle.laws.proofs.Frame.{Untouched, touches_all}
use Rattle.laws.proofs.Questions.{AcceptedBytes, accepted_bytes}
use Rattle.laws.proofs.Touched.{touched_below, every_bucket_lem}
use Rattle.laws.proofs.Restored.{Restored, restore_restored, Short}
use Rattle.laws.proofs.KeyReads.{own_read}

-- every call but `new` reads what it writes

key_touched : (P : ℕ → Type 0) (c : KeyCall) (k : ℕ) (t : Table) (o : Option ℕ) → ((i : ℕ) → o ≡ some i → i < num_buckets) → All P (key_reads c k t o) → All P (indices o)
key_touched P c k t none m a = tt
key_touched P c k t (some i) m a = (own_read P (runs_filter t i k (filtered c)) i (m i refl) a, tt)

pub touched_read : (P : ℕ → Type 0) (c : Call) (t : Table) → (arguments c).table ≡ true → All P (reads c t) → All P (touched c t)
touched_read P (Call.new k timeout m tf bf) t n a = clash n refl
touched_read P (Call.on_key k c) t n a = key_touched P c (number k) t (index_in t (number k)) (bucket_index_below t.settings.local_key (number k)) a
touched_read P (Call.list l n now out) t m a = a
touched_read P Call.take_applied_pending t n a = tt
touched_read P (Call.read bs) t n a = a

-- a bucket that passed question 2, and what a call makes of it, has 16 nodes at most

module _ (s : BucketSettings) where
  abbrev Good : Bucket → Type 0
  Good = Formed s.max_incoming

  then_good : (k : ℕ) (u : Option Bool) (v : UpdateResult) (b : Bucket) → Good b → Good (then_status s k u v b).1
  then_good k none v b g = g
  then_good k (some u) v b g = update_status_formed s k u none b g

  update_good : (fails : Bool) (now k : ℕ) (v : Value) (u : Option Bool) (b : Bucket) → Good b → Good (update_node_in s fails now k v u b).1
  update_good fails now k v u b g =
      cases (λ (r : Answer × Bucket). Good r.1) fails (λ _. remove_formed s now k b g)
      (λ _. cases (λ (r : Answer × Bucket). Good r.1) (is_failed (update_value s k v b).0) (λ _. update_value_formed s k v b g)
      (λ _. then_good k u (update_value s k v b).0 (update_value s k v b).1 (update_value_formed s k v b g)))

  insert_good : (fails : Bool) (now : ℕ) (n : Node) (b : Bucket) → Good b → Good (insert_or_update_in s fails now n b).1
  insert_good fails now n b g =
      let r : UpdateResult × Bucket = update_status s n.key n.connected (some n.incoming) b in
      let w : Good r.1 = update_status_formed s n.key n.connected (some n.incoming) b g in
      cases (λ (x : Answer × Bucket). Good x.1) fails (λ _. remove_formed s now n.key b g)
      (λ _. cases (λ (x : Answer × Bucket). Good x.1) (holds n.key b)
      (λ _. cases (λ (x : Answer × Bucket). Good x.1) (is_failed r.0) (λ _. w) (λ _. update_value_formed s n.key n.value r.1 w))
      (λ _. insert_formed s now n b g))

effect_good : (c : KeyCall) (k : List ℕ) (t : Table) (i : ℕ) (b : Bucket) → Good t.settings.bucket b → Good t.settings.bucket (effect c k t i b).bucket
effect_good (KeyCall.update_node_status st dr now) k t i b g =
    update_status_formed t.settings.bucket (number k) (is_one st) (optional dr) _ (apply_pending_formed t.settings.bucket now b g)
effect_good (KeyCall.update_node v st now) k t i b g =
    update_good t.settings.bucket (fails_table_filter t i (number k) (value_of v)) now (number k) (value_of v) (optional st) _ (apply_pending_formed t.settings.bucket now b g)
effect_good (KeyCall.insert_or_update v st dr now hs) k t i b g =
    insert_good t.settings.bucket (fails_table_filter t i (number k) (value_of v)) now (node_of k v st dr) _ (apply_pending_formed t.settings.bucket now b g)
effect_good (KeyCall.remove now) k t i b g = remove_formed t.settings.bucket now (number k) _ (apply_pending_formed t.settings.bucket now b g)
effect_good (KeyCall.entry now) k t i b g = apply_pending_formed t.settings.bucket now b g
effect_good (KeyCall.present_update st dr) k t i b g = update_status_formed t.settings.bucket (number k) (is_one st) (optional dr) b g
effect_good (KeyCall.pending_update st dr) k t i b g = update_pending_formed t.settings.bucket.max_incoming (is_one st) (is_one dr) b g
effect_good (KeyCall.absent_insert v st dr now hs) k t i b g = insert_formed t.settings.bucket now (node_of k v st dr) b g

-- the buckets named are well formed
abbrev GoodBuckets : Table → List ℕ → Type 0
GoodBuckets t = All (λ (i : ℕ). Good t.settings.bucket (t.buckets i))

key_short : (t : Table) (self : Answer) (c : KeyCall) (k : List ℕ) (o : Option ℕ) → GoodBuckets t (indices o) → Short (on_key t self (effect c k t) o).table (indices o)
key_short t self c k none g = tt
key_short t self c k (some i) g = (
  subst⁻¹ (λ (b : Bool). num_entries (cond b (effect c k t i (t.buckets i)).bucket (t.buckets i)) ≤ max_nodes_per_bucket) (same_self i)
      (effect_good c k t i (t.buckets i) g.0).at_most,
  tt,
)

list_short : (now : ℕ) (is js : List ℕ) (t : Table) → GoodBuckets t js → Short (apply_all now is t).0 js
list_short now is js t g =
    all_map (λ (i : ℕ). Good t.settings.bucket (t.buckets i)) (λ (i : ℕ). num_entries ((apply_all now is t).0.buckets i) ≤ max_nodes_per_bucket)
    (λ i w. subst⁻¹ (λ (b : Bucket). num_entries b ≤ max_nodes_per_bucket) (apply_all_buckets now is t i)
    (cases (λ (b : Bucket). num_entries b ≤ max_nodes_per_bucket) (every (λ (j : ℕ). not (same i j)) is) (λ _. w.at_most)
    (λ _. (apply_pending_formed t.settings.bucket now (t.buckets i) w).at_most)))
    js g

act_short : (c : Call) (t : Table) → touches_all c ≡ false → GoodBuckets t (touched c t) → Short (act c t).table (touched c t)
unfolding act
act_short (Call.new k timeout m tf bf) t n g = clash refl n
act_short (Call.on_key k c) t n g = key_short t _ c k (index_in t (number k)) g
act_short (Call.list l n now out) t m g = list_short now (applies l n now t) (applies l n now t) t g
act_short Call.take_applied_pending t n g = tt
act_short (Call.read bs) t n g = clash refl n

read_good : (s : List ℕ) (is : List ℕ) → buckets_formed s is ≡ true → GoodBuckets (table_of s) is
read_good s [] f = tt
read_good s (i ∷ is) f =
    ((sound_at s i (and_left (bucket_formed_at s i) (buckets_formed s is) f)).formed, read_good s is (and_right (bucket_formed_at s i) (buckets_formed s is) f))

-- a call that touches all touches i
all_touched : (c : Call) (t : Table) (i : ℕ) → i < num_buckets → touches_all c ≡ true → Untouched i (touched c t) → ⊥
all_touched (Call.new k timeout m tf bf) t i l n u = clash (same_self i) (every_bucket_lem (λ (j : ℕ). same i j ≡ false) u i l)
all_touched (Call.on_key k c) t i l n u = clash n refl
all_touched (Call.list x n now out) t i l m u = clash m refl
all_touched Call.take_applied_pending t i l n u = clash n refl
all_touched (Call.read bs) t i l n u = clash (same_self i) (every_bucket_lem (λ (j : ℕ). same i j ≡ false) u i l)

is_handed : (c : Call) → touches_all c ≡ false → (arguments c).table ≡ true
is_handed (Call.new k timeout m tf bf) n = clash refl n
is_handed (Call.on_key k c) n = refl
is_handed (Call.list l n now out) m = refl
is_handed Call.take_applied_pending n = refl
is_handed (Call.read bs) n = refl

-- what an accepted call leaves: settings, queue and the buckets that it touches as its work has them, and all others as they were
pub accepted_restored : (c : Call) (s : List ℕ) → touches_all c ≡ false → first_failed (all_questions c s) ≡ none
    → Restored s (touched c (table_of s)) (act c (table_of s)).table (step_bytes c s).storage
unfolding step_bytes
accepted_restored c s n e =
    let t : Table = table_of s in
    let a : AcceptedBytes c s = accepted_bytes c s e in
    let g : GoodBuckets t (touched c t) = touched_read (λ (j : ℕ). Good t.settings.bucket (t.buckets j)) c t (is_handed c n) (read_good s (reads c t) a.buckets) in
    rw e (restore_restored s a.size (act c t).table (queue_within c t a.answers.queue) (touched c t) (touched_below c t) (act_short c t n g))

-- 02: a bucket elsewhere, malformed or not, keeps its bytes: every call, accepted or refused, on every storage
pub elsewhere_stays : (c : Call) (s : List ℕ) (i : ℕ) → i < num_buckets → Untouched i (touched c (table_of s)) → bucket_part (step_bytes c s).storage i ≡ bucket_part s i
unfolding step_bytes
elsewhere_stays c s i m u = answered (first_failed (all_questions c s)) refl
  where
    answered : (o : Option ℕ) → first_failed (all_questions c s) ≡ o → bucket_part (unless_refused_bytes o c s).storage i ≡ bucket_part s i
    answered (some q) e = refl
    answered none e =
        split (touches_all c) (λ n. absurd (all_touched c (table_of s) i m n u))
        (λ n. subst (λ (o : Option ℕ). bucket_part (unless_refused_bytes o c s).storage i ≡ bucket_part s i) e ((accepted_restored c s n e).others i m u))

-- and so does one that is not read, `new` apart
pub unread_stays : (c : Call) (s : List ℕ) → (arguments c).table ≡ true → (i : ℕ) → i < num_buckets → Untouched i (reads c (table_of s))
    → bucket_part (step_bytes c s).storage i ≡ bucket_part s i
unread_stays c s n i m u = elsewhere_stays c s i m (touched_read (λ (j : ℕ). same i j ≡ false) c (table_of s) n u)
