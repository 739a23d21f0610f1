-- How long the words and the keys of a line are at the most, and the line, piece by piece.
use mathlib.Core.Path.{◌≡◌, refl, ap}
use mathlib.Core.Bool.{Bool, true, false}
use mathlib.Core.Logic.{◌⊎◌, inl, inr}
use Rattle.std.specs.Prelude.{Option, Some, None}
use mathlib.Core.List.{List, [], ◌∷◌, ◌++◌, append_assoc}
use Prim.Native.Nat.{ℕ, ◌+◌, ◌-◌, ◌*◌, ◌≤◌}
use borrow.Rule.Slice.PartMut.{put_mid}
use native.Mathlib.Omega.{arith}
use lib.ListN.{length, take, drop, length-append, length-map, length-take}
use lib.Seq.{take_all}
use Rattle.model.specs.Base.{select}
use Rattle.model.specs.Value.{Value}
use Rattle.model.specs.Node.{Node, connected_incoming}
use Rattle.model.specs.Filter.{counted, max_nodes_per_subnet_table, max_nodes_per_subnet_bucket}
use Rattle.model.specs.Result.{FailureReason}
use Rattle.model.specs.Bucket.{Bucket, nodes, incoming_nodes}
use Rattle.model.specs.Table.{other_nodes}
use Rattle.model.specs.Layout.{table_of}
use Rattle.model.specs.Explain.{Told, Explanation, space, line_feed, told_text, failure_text, flag_text, reason_text, reason_keys, keys_of, keys_text, filter_keys, line}
use Rattle.laws.proofs.Tests.{split}
use Rattle.key.specs.declared.Key.{Key}
use Rattle.key.specs.Key.{num}
use Rattle.node.specs.declared.Value as declared_value
use Rattle.bucket.specs.declared.SoundBucket.{SoundBucket}
use Rattle.well_formed.specs.declared.FormedTable.{FormedTable}
use Rattle.node.specs.Node.{value_of}
use Rattle.bucket.specs.Bucket.{bucket_of}
use Rattle.explanation.specs.declared.Reason.{Reason}
use Rattle.explanation.specs.declared.Told as declared
use Rattle.explanation.specs.declared.Told.TheVariants as told
use Rattle.explanation.specs.declared.Reason.TheVariants as reason
use Rattle.explanation.specs.Explanation.{told_of, told_detail, reason_of, why_text}
use Rattle.explanation.specs.Put.{Put, PutKeys, key_room, spaced_key_size, longest_failure, longest_flag, longest_told, longest_reason}
use Rattle.explanation.proofs.Text.{put_left, put_then, length_key_text}
use Rattle.explanation.proofs.Keys.{length_keys_text, keys_text_none, held_few}

pub failure_short : (r : FailureReason) → length (failure_text r) ≤ longest_failure
failure_short FailureReason.TooManyIncoming = omega arith
failure_short FailureReason.BucketFilter = omega arith
failure_short FailureReason.TableFilter = omega arith
failure_short FailureReason.KeyNonExistent = omega arith
failure_short FailureReason.BucketFull = omega arith
failure_short FailureReason.InvalidSelfUpdate = omega arith

pub flag_short : (b : Bool) → length (flag_text b) ≤ longest_flag
flag_short true = omega arith
flag_short false = omega arith

pub told_short : (t : Told) → length (told_text t) ≤ longest_told
told_short Told.Inserted = omega arith
told_short (Told.Pending k) = omega (arith, length_key_text k)
told_short (Told.StatusUpdated p) = omega (arith, flag_short p)
told_short Told.ValueUpdated = omega arith
told_short (Told.UpdatedBoth p) = omega (arith, flag_short p)
told_short Told.Updated = omega arith
told_short Told.UpdatedAndPromoted = omega arith
told_short Told.UpdatedPending = omega arith
told_short Told.NotModified = omega arith
told_short (Told.Failed r) = omega (arith, failure_short r)
told_short Told.FailedFilter = omega arith
told_short Told.TooManyIncoming = omega arith
told_short Told.Full = omega arith
told_short Told.NodeExists = omega arith
told_short (Told.Removed r) = omega (arith, flag_short r)

-- what stands behind the answer's name, by the variant that was matched
pub detail : {x v : declared.Told} → x ≡ v → told_detail (told_of x) ≡ told_detail (told_of v)
detail e = ap (λ (y : declared.Told). told_detail (told_of y)) e

pub flag_detail : {x : declared.Told} {p : Bool} → (x ≡ told.StatusUpdated p) ⊎ ((x ≡ told.UpdatedBoth p) ⊎ (x ≡ told.Removed p)) → told_detail (told_of x) ≡ flag_text p
flag_detail (inl e) = detail e
flag_detail (inr (inl e)) = detail e
flag_detail (inr (inr e)) = detail e

-- the answer's name, and what stands behind it
module _ (x : declared.Told) (a d : List ℕ) (e : told_text (told_of x) ≡ a ++ told_detail (told_of x)) (f : told_detail (told_of x) ≡ d) where
  pub told_room : length a + length d ≤ longest_told
  told_room = omega (arith, told_short (told_of x), ap length e, ap length f, length-append a (told_detail (told_of x)))

  pub told_put : {o t v : List ℕ} {n m : ℕ} → Put a o t n → Put d (take (length t - n) (drop n t)) v m → Put (told_text (told_of x)) o (put_mid n (length t - n) t v) (n + m)
  told_put p q = rw (e, f) (put_then p q)

-- keys behind a reason

filter_few : (limit : ℕ) (v : Value) (ns : List Node) → length (filter_keys limit v ns) ≤ limit
unfolding filter_keys
filter_few limit v ns = rw (length-map (take limit (counted v ns)) _, length-take) (omega arith)

select_few : {A : Type 0} (p : A → Bool) (xs : List A) → length (select p xs) ≤ length xs
select_few p [] = omega arith
select_few p (x ∷ xs) = split (p x) (λ e. rw e (omega (arith, select_few p xs))) (λ e. rw e (omega (arith, select_few p xs)))

incoming_few : (b : Bucket) → length (nodes b) ≤ 16 → length (keys_of (incoming_nodes (nodes b))) ≤ 16
incoming_few b h = rw (length-map (incoming_nodes (nodes b)) _) (omega (arith, select_few connected_incoming (nodes b)))

-- the incoming limit's keys behind its words: the room holds them all
pub incoming_put : {a o t u : List ℕ} {n m : ℕ} (b : Bucket) → length (nodes b) ≤ 16 → length a + 16 * spaced_key_size ≤ length o → Put a o t n
    → PutKeys (keys_of (incoming_nodes (nodes b))) (take (length t - n) (drop n t)) u m → Put (a ++ keys_text (keys_of (incoming_nodes (nodes b)))) o (put_mid n (length t - n) t u) (n + m)
incoming_put {a} {o} {t} {u} {n} b h l p q =
    let f : length (keys_of (incoming_nodes (nodes b))) ≤ key_room (take (length t - n) (drop n t)) = omega (arith, incoming_few b h, put_left p (16 * spaced_key_size) l) in
    put_then p (rw (take_all (key_room (take (length t - n) (drop n t))) (keys_of (incoming_nodes (nodes b))) f) at q.put)

pub why_short : (r : Option Reason) → length (why_text (reason_of r)) ≤ longest_reason
unfolding why_text
why_short None = rw keys_text_none (omega arith)
why_short (Some (reason.TableFilter t k v)) =
    let ns : List Node = other_nodes (num k) (table_of t.s.now).buckets in
    omega (arith, length_keys_text (filter_keys max_nodes_per_subnet_table (value_of v) ns), filter_few max_nodes_per_subnet_table (value_of v) ns)
why_short (Some (reason.BucketFilter b v)) =
    let ns : List Node = nodes (bucket_of b.bucket) in
    omega (arith, length_keys_text (filter_keys max_nodes_per_subnet_bucket (value_of v) ns), filter_few max_nodes_per_subnet_bucket (value_of v) ns)
why_short (Some (reason.IncomingLimit b)) =
    let ks : List ℕ = keys_of (incoming_nodes (nodes (bucket_of b.bucket))) in
    omega (arith, length_keys_text ks, incoming_few (bucket_of b.bucket) (held_few b.bucket b.sound.few))
why_short (Some reason.NewcomerDisconnected) = rw keys_text_none (omega arith)
why_short (Some reason.AllConnected) = rw keys_text_none (omega arith)
why_short (Some (reason.Pending k)) = omega (arith, length_keys_text (num k ∷ []))
why_short (Some reason.NoSuchKey) = rw keys_text_none (omega arith)
why_short (Some reason.LocalKey) = rw keys_text_none (omega arith)

-- a reason's words, and the keys behind them
module _ (r : Option Reason) {a : List ℕ} (e : reason_text (reason_of r) ≡ a) where
  pub words_short : length a ≤ longest_reason
  unfolding why_text
  words_short = omega (arith, why_short r, ap length e, length-append (reason_text (reason_of r)) (keys_text (reason_keys (reason_of r))))

  pub why_put : {o u : List ℕ} {m : ℕ} → Put (a ++ keys_text (reason_keys (reason_of r))) o u m → Put (why_text (reason_of r)) o u m
  unfolding why_text
  why_put p = rw e p

-- a reason that names no nodes
pub no_keys : (r : Reason) → ((t : FormedTable) (k : Key) (v : declared_value.Value) → r ≡ reason.TableFilter t k v → ⊥)
    → ((b : SoundBucket) (v : declared_value.Value) → r ≡ reason.BucketFilter b v → ⊥) → ((b : SoundBucket) → r ≡ reason.IncomingLimit b → ⊥) → ((k : Key) → r ≡ reason.Pending k → ⊥)
    → keys_text (reason_keys (reason_of (Some r))) ≡ []
no_keys (reason.TableFilter t k v) f g h i = absurd (f t k v refl)
no_keys (reason.BucketFilter b v) f g h i = absurd (g b v refl)
no_keys (reason.IncomingLimit b) f g h i = absurd (h b refl)
no_keys reason.NewcomerDisconnected f g h i = keys_text_none
no_keys reason.AllConnected f g h i = keys_text_none
no_keys (reason.Pending k) f g h i = absurd (i k refl)
no_keys reason.NoSuchKey f g h i = keys_text_none
no_keys reason.LocalKey f g h i = keys_text_none

-- the line, piece by piece
pub line_text : {o u : List ℕ} {n : ℕ} (e : Explanation) → Put (((told_text e.told ++ (space ∷ [])) ++ why_text e.reason) ++ (line_feed ∷ [])) o u n → Put (line e) o u n
unfolding line why_text
line_text e p =
    let a : List ℕ = told_text e.told in
    let b : List ℕ = reason_text e.reason in
    let k : List ℕ = keys_text (reason_keys e.reason) in
    let s : ((a ++ (space ∷ [])) ++ (b ++ k)) ++ (line_feed ∷ []) ≡ a ++ (space ∷ (b ++ (k ++ (line_feed ∷ [])))) = simp append_assoc in
    rw s at p
