-- Each contract is the equation with `step_bytes`: what a call of the code answers and leaves is what the model says.
use Prim.Native.Nat.{ℕ}
use mathlib.Core.Path.{◌≡◌, refl, sym, ap₂}
use mathlib.Core.Bool.{false}
use mathlib.Core.List.{List, [], ◌∷◌}
use mathlib.Core.Option.{Option, none, some}
use Rattle.model.specs.Base.{joined}
use Rattle.model.specs.Bytes.{number, splice}
use Rattle.model.specs.Node.{EndedPending}
use Rattle.model.specs.Bucket.{Bucket}
use Rattle.model.specs.Table.{Table, Answer, Effect, index_in}
use Rattle.model.specs.Call.{Call}
use Rattle.model.specs.Listing.{Item}
use Rattle.model.specs.Question.{first_failed}
use Rattle.model.specs.Step.{on_key, own_answer, effect, take_oldest, act}
use Rattle.model.specs.Layout.{table_of}
use Rattle.model.specs.StepBytes.{all_questions, output_of, written, unless_refused_bytes, step_bytes}
use Rattle.laws.proofs.Tests.{clash}
use Rattle.table_log.specs.Pending.{lists}
use Rattle.on_key.specs.Answers.{Answers}
use Rattle.items.specs.Lists.{Lists}
use Rattle.claims.specs.Ran.{Ran}

-- a call that is no listing has no output

no_items : (c : Call) (t : Table) → lists c ≡ false → ((act c t).items ≡ []) × (output_of c ≡ [])
unfolding act
no_items (Call.new k timeout m tf bf) t h = (refl, refl)
no_items (Call.on_key k c) t h = (by_key (own_answer c) (effect c k t) (index_in t (number k)), refl)
  where
    by_key : (self : Answer) (f : ℕ → Bucket → Effect) (o : Option ℕ) → (on_key t self f o).items ≡ []
    by_key self f none = refl
    by_key self f (some i) = refl
no_items (Call.list l n now out) t h = clash refl h
no_items Call.take_applied_pending t h = (taken t.queue, refl)
  where
    taken : (q : List EndedPending) → (take_oldest t q).items ≡ []
    taken [] = refl
    taken (a ∷ q) = refl
no_items (Call.read bs) t h = (refl, refl)

pub no_output : (c : Call) (s : List ℕ) → lists c ≡ false → [] ≡ (step_bytes c s).output
unfolding step_bytes joined splice
no_output c s h = go (first_failed (all_questions c s))
  where
    go : (o : Option ℕ) → [] ≡ (unless_refused_bytes o c s).output
    go (some n) = sym (no_items c (table_of s) h).1
    go none = let q = no_items c (table_of s) h in ap₂ (λ (is : List Item) (out : List ℕ). written is out) (sym q.0) (sym q.1)

quiet : (c : Call) (s : List ℕ) {a : Answer} {s' : List ℕ} → lists c ≡ false → Answers a s' (step_bytes c s) → Lists a s' [] (step_bytes c s)
quiet c s h p = record { answer = p.answer; storage = p.storage; output = no_output c s h }

pub equation : {c : Call} {s : List ℕ} {a : Answer} {s' out' : List ℕ} → Ran c s a s' out' → Lists a s' out' (step_bytes c s)
equation (Ran.new _ _ _ _ _ _ _ _ _ _ p) = quiet _ _ refl p
equation (Ran.update_node_status _ _ _ _ _ _ _ _ _ p) = quiet _ _ refl p
equation (Ran.update_node _ _ _ _ _ _ _ _ _ p) = quiet _ _ refl p
equation (Ran.insert_or_update _ _ _ _ _ _ _ _ _ _ p) = quiet _ _ refl p
equation (Ran.remove _ _ _ _ _ _ _ p) = quiet _ _ refl p
equation (Ran.entry _ _ _ _ _ _ _ p) = quiet _ _ refl p.0
equation (Ran.present_update _ _ _ _ _ _ _ _ p) = quiet _ _ refl p
equation (Ran.pending_update _ _ _ _ _ _ _ p) = quiet _ _ refl p
equation (Ran.absent_insert _ _ _ _ _ _ _ _ _ _ p) = quiet _ _ refl p
equation (Ran.iter _ _ _ _ _ _ _ _ _ _ p) = p
equation (Ran.nodes_by_distances _ _ _ _ _ _ _ _ _ _ _ _ p) = p
equation (Ran.closest_keys _ _ _ _ _ _ _ _ _ _ _ _ p) = p
equation (Ran.closest_values _ _ _ _ _ _ _ _ _ _ _ _ p) = p
equation (Ran.closest_values_predicate _ _ _ _ _ _ _ _ _ _ _ _ _ _ p) = p
equation (Ran.take_applied_pending _ _ _ _ _ p) = quiet _ _ refl p
equation (Ran.read _ _ _ _ _ _ p) = quiet _ _ refl p
