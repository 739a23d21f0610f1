-- How a call on one key starts: the question that fails, the local key, or the key's bucket.
use Rattle.std.specs.Prelude as code
use Rattle.std.specs.Prelude.{Result, Ok, Err, Some, None, ℕ, ◌≡◌, Bool, true, false, List, [], ◌∷◌, ◌++◌}
use Rattle.std.specs.Option.{is_some}
use Rattle.std.proofs.Math.Option.{Option, none, some}
use Rattle.model.specs.Bytes.{number}
use Rattle.model.specs.Table.{index_in}
use Rattle.model.specs.Layout.{table_of}
use Rattle.model.specs.Formed.{bucket_formed_at}
use Rattle.model.specs.Question.{first_failed}
use Rattle.key.specs.declared.Key.{Key}
use Rattle.key.specs.Key.{num}
use Rattle.node.specs.declared.Refusal.{Refusal}
use Rattle.node.specs.Refusal.{number_of}
use Rattle.on_key.specs.Answers.{first_five, failed_of_five, Ready}

-- 02, slip 7: question 2 of the key's own bucket; the local key has none
abbrev pub own_formed : List ℕ → Option ℕ → Bool
own_formed s none = true
own_formed s (some i) = bucket_formed_at s i

abbrev pub key_formed : (storage key : List ℕ) → Bool
key_formed s key = own_formed s (index_in (table_of s) (number key))

-- questions 1 to 5 of a call on one key, then 2 of its bucket
unfoldable pub failed_at_start : List ℕ → Bool → Option ℕ → List ℕ → Option ℕ
failed_at_start key codes now s = first_failed (first_five key codes now s ++ ((2, key_formed s key) ∷ []))

-- the key of number n is of bucket i, which passes question 2
pub record OfBucket (s : List ℕ) (n : ℕ) (k : Key) (i : ℕ) : Type 0 where
  pub key_is : num k ≡ n
  pub index : index_in (table_of s) n ≡ some i
  pub ready : Ready s i

-- where questions 1 to 5 have passed: question 2 of the key's bucket, the local key, or the bucket
abbrev pub Located : List ℕ → ℕ → Result (code.Option (Key × ℕ)) Refusal → Type 0
Located s n (Err r) = (r ≡ Refusal.Form) × (own_formed s (index_in (table_of s) n) ≡ false)
Located s n (Ok None) = index_in (table_of s) n ≡ none
Located s n (Ok (Some (k, i))) = OfBucket s n k i

-- no question failed, and the key is of bucket i
pub record AtBucket (s key : List ℕ) (codes : Bool) (now : Option ℕ) (k : Key) (i : ℕ) : Type 0 where
  pub passed : failed_of_five key codes now s ≡ none
  pub key_is : num k ≡ number key
  pub index : index_in (table_of s) (number key) ≡ some i
  pub ready : Ready s i

-- how a call starts: the question that fails, the local key, or the key's bucket with the arguments of the call
abbrev pub Begun : {T : Type 0} → List ℕ → List ℕ → code.Option T → Option ℕ → Result (code.Option (Key × ℕ × T)) Refusal → Type 0
Begun s key arguments now (Err r) = failed_at_start key (is_some arguments) now s ≡ some (number_of r)
Begun s key arguments now (Ok None) = (failed_of_five key (is_some arguments) now s ≡ none) × (index_in (table_of s) (number key) ≡ none)
Begun s key arguments now (Ok (Some (k, i, x))) = AtBucket s key (is_some arguments) now k i × (arguments ≡ Some x)
