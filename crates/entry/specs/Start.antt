-- How an action on the entry of a key starts.
use Rattle.std.specs.Prelude as code
use Rattle.std.specs.Prelude.{Result, Ok, Err, Some, ℕ, ◌≡◌, ◌⊎◌, List}
use Rattle.std.specs.Option.{is_some}
use Rattle.std.proofs.Math.Option.{Option, none, some}
use Rattle.model.specs.Bytes.{number}
use Rattle.model.specs.Table.{index_in}
use Rattle.model.specs.Layout.{table_of}
use Rattle.key.specs.declared.Key.{Key}
use Rattle.node.specs.declared.Refusal.{Refusal}
use Rattle.node.specs.Refusal.{number_of}
use Rattle.on_key.specs.Answers.{failed_of_five}
use Rattle.on_key.specs.Start.{failed_at_start, AtBucket}

-- a question that a call on the key asks at its start, or 7 of the local key; or the key's bucket with the arguments of the call
abbrev pub Started : {T : Type 0} → List ℕ → List ℕ → code.Option T → Option ℕ → Result (Key × ℕ × T) Refusal → Type 0
Started s key arguments now (Err r) =
    (failed_at_start key (is_some arguments) now s ≡ some (number_of r))
    ⊎ ((r ≡ Refusal.Kind) × (failed_of_five key (is_some arguments) now s ≡ none) × (index_in (table_of s) (number key) ≡ none))
Started s key arguments now (Ok (k, i, x)) = AtBucket s key (is_some arguments) now k i × (arguments ≡ Some x)
