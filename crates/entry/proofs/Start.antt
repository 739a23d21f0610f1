-- An action on the entry of a key that is refused at its start.
use mathlib.Core.Path.{◌≡◌, ap, ◌∙◌}
use mathlib.Core.Bool.{false}
use mathlib.Core.List.{List}
use Prim.Native.Nat.{ℕ}
use Rattle.std.specs.Prelude as code
use Rattle.std.specs.Prelude.{Err}
use Rattle.std.specs.Option.{is_some}
use mathlib.Core.Logic.{inl, inr}
use Rattle.model.specs.Table.{EntryKind, Answer}
use Rattle.model.specs.Call.{Call, KeyCall}
use Rattle.model.specs.Question.{key_arguments}
use Rattle.model.specs.StepBytes.{step_bytes}
use Rattle.node.specs.declared.Refusal.{Refusal}
use Rattle.node.specs.Refusal.{number_of}
use Rattle.on_key.specs.Answers.{Answers}
use Rattle.on_key.proofs.OneKey.{reads_none, refused_early, refused_kind}
use Rattle.entry.specs.Start.{Started}
use Rattle.entry.proofs.Kind.{kind_self}

-- where the local key's kind is not the one that the call needs
pub refused_start : (s key : List ℕ) (c : KeyCall) → (key_arguments c).kind EntryKind.SelfEntry ≡ false → {T : Type 0} (arguments : code.Option T)
    → is_some arguments ≡ (key_arguments c).codes → {r : Refusal} → Started s key arguments (key_arguments c).now (Err r)
    → Answers (Answer.Refused (number_of r)) s (step_bytes (Call.on_key key c) s)
refused_start s key c e arguments p {r} (inl x) = refused_early s key c (number_of r) (rw p at x)
refused_start s key c e arguments p {r} (inr x) = rw x.0 (refused_kind s key c (rw p at x.1) (reads_none s key c x.2) (ap (key_arguments c).kind (kind_self s key x.2) ∙ e))
