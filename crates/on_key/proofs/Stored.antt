-- The bucket and its record written back.
use Rattle.std.specs.Prelude as code
use Rattle.std.specs.Prelude.{Some, None}
use Rattle.std.specs.Option.{is_some}
use mir.Val.{bool_byte}
use Prim.Native.Nat.{ℕ, ◌+◌, ◌≤◌}
use mathlib.Core.Path.{◌≡◌, refl, ap, ◌∙◌}
use mathlib.Core.Bool.{Bool, true, false, cond}
use mathlib.Core.List.{List, [], ◌++◌}
use mathlib.Core.Option.{Option, none, some}
use lib.Dec.{leb}
use lib.ListN.{length}
use native.Mathlib.Omega.{arith}
use borrow.Author.Tests.{leb-true, le-leb}
use Rattle.model.specs.Base.{is_some as is_there}
use Rattle.model.specs.Bytes.{Bytes, splice}
use Rattle.model.specs.Node.{EndedPending}
use Rattle.model.specs.Bucket.{Bucket}
use Rattle.model.specs.Table.{max_records, with_queue}
use Rattle.model.specs.Sizes.{bucket_at}
use Rattle.model.specs.Layout.{header_bytes, bucket_bytes, table_of}
use Rattle.model.specs.StepBytes.{restore}
use Rattle.laws.proofs.Tests.{clash, same_self}
use Rattle.laws.proofs.HeaderBack.{queue_fits_lem}
use Rattle.bucket.specs.declared.ending.EndedPending as declared
use Rattle.bucket.specs.Calls.{records_of}
use Rattle.on_key.specs.Answers.{Ready, room_for, rewritten}

module _ (s : List ℕ) (rs : List EndedPending) where
  pub room : room_for s rs ≡ true → length (table_of s).queue + length rs ≤ max_records
  unfolding room_for
  room e = leb-true _ _ e

  pub written_back : (i : ℕ) (b : Bucket)
      → splice (splice s 0 (header_bytes (with_queue ((table_of s).queue ++ rs) (table_of s)))) (bucket_at i) (bucket_bytes b) ≡ rewritten s i b rs
  unfolding rewritten restore header_bytes
  written_back i b = rw (same_self i)

-- question 8, by what was asked of the number of the records
one_record : (r : code.Option declared.EndedPending) → bool_byte (is_some r) ≡ length (records_of r)
one_record None = refl
one_record (Some e) = refl

pub room_asked : (s : List ℕ) (r : code.Option declared.EndedPending) {n : ℕ} → n ≡ bool_byte (is_some r) → {q : Option ℕ}
    → q ≡ cond (leb (length (table_of s).queue + n) max_records) none (some 8) → q ≡ cond (room_for s (records_of r)) none (some 8)
unfolding room_for
room_asked s r {n} e h = h ∙ ap (λ (k : ℕ). cond (leb (length (table_of s).queue + k) max_records) none (some 8)) (e ∙ one_record r)

pub room_for_none : (s : List ℕ) → Bytes s → (i : ℕ) → Ready s i → room_for s [] ≡ true
unfolding room_for
room_for_none s h i y = le-leb (length (table_of s).queue + 0) max_records (omega (arith, queue_fits_lem s (omega (arith, y.size)) h y.header))

pub no_room : (t : Bool) {q : ℕ} → some q ≡ cond t none (some 8) → (t ≡ false) × (q ≡ 8)
no_room true e = clash refl (ap is_there e)
no_room false e = (refl, cc)

pub has_room : (t : Bool) → ◌≡◌ {A = Option ℕ} none (cond t none (some 8)) → t ≡ true
has_room true e = refl
has_room false e = clash (ap is_there e) refl
