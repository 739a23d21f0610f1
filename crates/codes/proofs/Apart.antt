-- Of one call no two results have the same code, and none has a refusal's. Each list has every result; the key or the record that a result
-- carries stands in the answer's bytes.
use Prim.Native.Nat.{ℕ, ◌≤◌, ◌<◌}
use native.Mathlib.Omega.{arith}
use mathlib.Core.Path.{◌≡◌, refl}
use mathlib.Core.Bool.{Bool, true, false, not, ◌&&◌}
use mathlib.Core.List.{List, [], ◌∷◌, map}
use mathlib.Core.Option.{none, some}
use lib.Dec.{eqb, ltb}
use Rattle.model.specs.Base.{every}
use Rattle.model.specs.Node.{EndedPending}
use Rattle.model.specs.Result.{FailureReason, BucketInsertResult, UpdateResult, InsertResult}
use Rattle.model.specs.Table.{EntryKind}
use Rattle.model.specs.Question.{max_count}
use Rattle.codes.specs.Codes.{refused_code, update_code, insert_code, bucket_insert_code, entry_code, applied_code}

-- each is below the refusals and differs from those behind it
abbrev pub apart : List ℕ → Bool
apart [] = true
apart (n ∷ ns) = ltb n (refused_code 0) && (every (λ m. not (eqb n m)) ns && apart ns)

abbrev reasons : List FailureReason
reasons =
    FailureReason.TooManyIncoming ∷ FailureReason.BucketFilter ∷ FailureReason.TableFilter ∷ FailureReason.KeyNonExistent
    ∷ FailureReason.BucketFull ∷ FailureReason.InvalidSelfUpdate ∷ []

abbrev updates : List UpdateResult
updates = UpdateResult.NotModified ∷ UpdateResult.Updated ∷ UpdateResult.UpdatedAndPromoted ∷ UpdateResult.UpdatedPending ∷ map UpdateResult.Failed reasons

abbrev inserts : ℕ → List InsertResult
inserts k =
    InsertResult.Inserted ∷ InsertResult.Pending k ∷ InsertResult.StatusUpdated false ∷ InsertResult.StatusUpdated true ∷ InsertResult.ValueUpdated
    ∷ InsertResult.Updated false ∷ InsertResult.Updated true ∷ InsertResult.UpdatedPending ∷ map InsertResult.Failed reasons

abbrev bucket_inserts : ℕ → List BucketInsertResult
bucket_inserts k =
    BucketInsertResult.Inserted ∷ BucketInsertResult.Pending k ∷ BucketInsertResult.FailedFilter ∷ BucketInsertResult.TooManyIncoming
    ∷ BucketInsertResult.Full ∷ BucketInsertResult.NodeExists ∷ []

abbrev kinds : List EntryKind
kinds =
    EntryKind.Absent ∷ EntryKind.SelfEntry ∷ EntryKind.Present false false ∷ EntryKind.Present false true ∷ EntryKind.Present true false
    ∷ EntryKind.Present true true ∷ EntryKind.Pending false false ∷ EntryKind.Pending false true ∷ EntryKind.Pending true false
    ∷ EntryKind.Pending true true ∷ []

pub results_apart : (k : ℕ) (r : EndedPending)
    → (apart (map update_code updates) ≡ true) × (apart (map insert_code (inserts k)) ≡ true) × (apart (map bucket_insert_code (bucket_inserts k)) ≡ true)
    × (apart (map entry_code kinds) ≡ true) × (apart (map applied_code (none ∷ some r ∷ [])) ≡ true)
results_apart k r = (refl, refl, refl, refl, refl)

pub found_apart : (n : ℕ) → n ≤ max_count → n < refused_code 0
found_apart n h = omega arith
