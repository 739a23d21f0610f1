-- What the two calls did to the bucket of their key, after a due pending was applied, as the model's calls do it.
use Rattle.std.specs.Prelude as code
use Prim.Native.Nat.{ℕ}
use mathlib.Core.Path.{◌≡◌, refl, sym, ap, ◌∙◌}
use mathlib.Core.Bool.{Bool, not}
use mathlib.Core.List.{List}
use mathlib.Core.Option.{Option}
use Rattle.model.specs.Bytes.{number}
use Rattle.model.specs.Node.{EndedPending}
use Rattle.model.specs.Bucket.{Bucket, BucketSettings}
use Rattle.model.specs.Table.{Answer, EntryKind, fails_table_filter, update_node_in, insert_or_update_in, kind_of}
use Rattle.model.specs.Session.{Session, hours_questions}
use Rattle.model.specs.Call.{KeyCall, value_of, is_one, optional}
use Rattle.model.specs.Question.{first_failed, is_absent, kind_of_key}
use Rattle.model.specs.Step.{node_of}
use Rattle.model.specs.Layout.{table_of}
use Rattle.key.specs.declared.Key.{Key}
use Rattle.key.specs.Key.{num}
use Rattle.node.specs.declared.Value.{Value}
use Rattle.node.specs.Node.{argument_of}
use Rattle.bucket.specs.declared.KBucket.{KBucket}
use Rattle.bucket.specs.declared.ending.EndedPending as ended
use Rattle.bucket.specs.Bucket.{bucket_of, settings_of, Becomes}
use Rattle.on_key.specs.Answers.{AppliedAt, recorded}
use Rattle.on_key.specs.Start.{AtBucket}
use Rattle.on_key.proofs.Steps.{stepped}
use Rattle.on_key.proofs.Ended.{Told}
use Rattle.on_key.proofs.Endings.{update_records, insert_or_update_records}
use Rattle.entry.proofs.Kind.{kind_at}

-- the table filter's answer on the value
abbrev filtered : (s key : List ℕ) (i : ℕ) → Value → Bool
filtered s key i v = fails_table_filter (table_of s) i (number key) (value_of (argument_of v))

module _ {s key : List ℕ} {codes : Bool} {now : Option ℕ} {k : Key} {i : ℕ} (y : AtBucket s key codes now k i) where
  -- b: the bucket as the call's own step found it, c as it left it
  module _ (v : Value) (time : ℕ) {b c : KBucket} {xs : code.Option ended.EndedPending} (x : AppliedAt s i time b xs)
      {fails : Bool} (d : fails ≡ filtered s key i v)
      {rs : List EndedPending} (h : rs ≡ recorded xs b.pending c.pending (num k)) {a : Answer} where
    pub updated : (st : ℕ) → a ≡ (update_node_in (settings_of b) fails time (num k) (value_of (argument_of v)) (optional st) (bucket_of b)).0
        → Becomes (settings_of b) (update_node_in (settings_of b) fails time (num k) (value_of (argument_of v)) (optional st) (bucket_of b)).1 c
        → Told s key (KeyCall.update_node (argument_of v) st time) i a c rs
    updated st p g =
        let F : BucketSettings → ℕ → Bucket → Answer × Bucket = λ u n m. update_node_in u (filtered s key i v) time n (value_of (argument_of v)) (optional st) m in
        let z = stepped x.bucket F y.key_is (rw d at p) (rw d at g) in
        record {
          answer = z.answer;
          bucket = z.bucket;
          records = update_records _ time _ b c x.bucket x.records y.key_is h (filtered s key i v) (value_of (argument_of v)) (optional st) z.bucket;
        }

    pub inserted : (st dr : ℕ) (hs : Session)
        → a ≡ (insert_or_update_in (settings_of b) fails time (record { key = num k; value = value_of (argument_of v); connected = is_one st; incoming = is_one dr }) (bucket_of b)).0
        → Becomes (settings_of b) (insert_or_update_in (settings_of b) fails time (record { key = num k; value = value_of (argument_of v); connected = is_one st; incoming = is_one dr }) (bucket_of b)).1 c
        → Told s key (KeyCall.insert_or_update (argument_of v) st dr time hs) i a c rs
    inserted st dr hs p g =
        let F : BucketSettings → ℕ → Bucket → Answer × Bucket =
        λ u n m. insert_or_update_in u (filtered s key i v) time (record { key = n; value = value_of (argument_of v); connected = is_one st; incoming = is_one dr }) m in
        let z = stepped x.bucket F y.key_is (rw d at p) (rw d at g) in
        record {
          answer = z.answer;
          bucket = z.bucket;
          records = insert_or_update_records _ time _ b c x.bucket x.records y.key_is h (filtered s key i v) (node_of key (argument_of v) st dr) refl z.bucket;
        }

  -- what the session hours' questions find of the key in its bucket
  pub hours_at : (hs : Session) → first_failed (hours_questions hs (not (is_absent (kind_of_key key (table_of s)))))
      ≡ first_failed (hours_questions hs (not (is_absent (kind_of (num k) ((table_of s).buckets i)))))
  hours_at hs =
      ap (λ (x : EntryKind). first_failed (hours_questions hs (not (is_absent x))))
      (kind_at s key i y.index ∙ ap (λ (n : ℕ). kind_of n ((table_of s).buckets i)) (sym y.key_is))
