-- A MEMBER'S OWN OLD RECORD (02, slip 3). An update_node or insert_or_update that keeps the /24 of the key's held value does not answer
-- Failed(TableFilter) while at most ten are held there, the key's own among them: of the model's step on any table, of the code on any
-- storage, of the functions that a C host calls on the bytes of a table that fits. With eleven held it can: model/specs/Cases.
use Prim.Native.Nat.{ℕ}
use mathlib.Core.Path.{◌≡◌, refl, sym, ap, ◌∙◌}
use mathlib.Core.Bool.{Bool, false, not}
use mathlib.Core.List.{List}
use mathlib.Core.Logic.{◌⊎◌, inl, inr}
use mathlib.Core.Option.{Option, none, some, some-injective}
use borrow.Author.Tests.{not-true}
use Rattle.model.specs.Base.{is_some}
use Rattle.model.specs.Bytes.{number}
use Rattle.model.specs.Value.{Value}
use Rattle.model.specs.Bucket.{Bucket}
use Rattle.model.specs.Table.{Table, Answer, fails_table_filter, index_in}
use Rattle.model.specs.Call.{Call, KeyCall, value_of, optional}
use Rattle.model.specs.Question.{first_failed}
use Rattle.model.specs.Step.{node_of, on_key, own_answer, effect, act, questions, unless_refused, step}
use Rattle.model.specs.Layout.{bytes_of, table_of}
use Rattle.model.specs.StepBytes.{all_questions, unless_refused_bytes, step_bytes}
use Rattle.model.specs.Fits.{Fits, FitsCall}
use Rattle.laws.proofs.Tests.{clash}
use Rattle.laws.proofs.OwnNet.{own_net}
use Rattle.claims.specs.Ran.{Ran}
use Rattle.claims.specs.Exports.{Called, answer_of}
use Rattle.claims.specs.OwnRecord.{new_value, KeepsNet, failed_table_filter}
use Rattle.claims.proofs.Ran.{equation}
use Rattle.claims.proofs.Listed.{OfNode, OfInsert, update_node, insert_or_update}
use Rattle.claims.proofs.Exports.{refusal_read}
use Rattle.claims.proofs.HostDemand.{Answered, Short, told, host_reads}

-- the filter does not fail for the value that is given
passes : (key : List ℕ) (c : KeyCall) (t : Table) (i : ℕ) (v : Value) → new_value c ≡ some v → KeepsNet key c t → fails_table_filter t i (number key) v ≡ false
passes key c t i v e x =
    ap (fails_table_filter t i (number key)) (some-injective v x.value (sym e ∙ x.given))
    ∙ own_net t (number key) x.value x.bucket x.below x.node x.held x.net_kept x.at_most_ten i

-- an answer other than Failed(TableFilter)
abbrev other : Answer → Bool
other a = not (failed_table_filter a)

node_other : OfNode other
node_other = record { not_modified = refl; updated = refl; promoted = refl; pending = refl; too_many = refl; filtered = refl; no_key = refl }

insert_other : OfInsert other
insert_other =
    record { inserted = refl; pending = λ k. refl; status_updated = λ p. refl; value_updated = refl; updated = λ p. refl; too_many = refl; filtered = refl; full = refl }

-- a call that gives no value
gives_none : {A : Type 0} {v : Value} → none ≡ some v → A
gives_none e = clash refl (sym (ap is_some e))

effect_keeps : (key : List ℕ) (c : KeyCall) (t : Table) (i : ℕ) (b : Bucket) → KeepsNet key c t → failed_table_filter (effect c key t i b).answer ≡ false
effect_keeps key (KeyCall.update_node v st now) t i b x =
    not-true _
    (update_node other node_other t.settings.bucket (fails_table_filter t i (number key) (value_of v))
    (λ f. clash f (passes key (KeyCall.update_node v st now) t i (value_of v) refl x)) now (number key) (value_of v) (optional st) _)
effect_keeps key (KeyCall.insert_or_update v st dr now hs) t i b x =
    not-true _
    (insert_or_update other insert_other t.settings.bucket (fails_table_filter t i (number key) (value_of v))
    (λ f. clash f (passes key (KeyCall.insert_or_update v st dr now hs) t i (value_of v) refl x)) now (node_of key v st dr) _)
effect_keeps key (KeyCall.update_node_status st dr now) t i b x = gives_none x.given
effect_keeps key (KeyCall.remove now) t i b x = gives_none x.given
effect_keeps key (KeyCall.entry now) t i b x = gives_none x.given
effect_keeps key (KeyCall.present_update st dr) t i b x = gives_none x.given
effect_keeps key (KeyCall.pending_update st dr) t i b x = gives_none x.given
effect_keeps key (KeyCall.absent_insert v st dr now hs) t i b x = gives_none x.given

-- the local key is told otherwise
local_other : (c : KeyCall) → failed_table_filter (own_answer c) ≡ false
local_other (KeyCall.update_node_status st dr now) = refl
local_other (KeyCall.update_node v st now) = refl
local_other (KeyCall.insert_or_update v st dr now hs) = refl
local_other (KeyCall.remove now) = refl
local_other (KeyCall.entry now) = refl
local_other (KeyCall.present_update st dr) = refl
local_other (KeyCall.pending_update st dr) = refl
local_other (KeyCall.absent_insert v st dr now hs) = refl

act_keeps : (key : List ℕ) (c : KeyCall) (t : Table) → KeepsNet key c t → failed_table_filter (act (Call.on_key key c) t).answer ≡ false
unfolding act
act_keeps key c t x = at (index_in t (number key))
  where
    at : (o : Option ℕ) → failed_table_filter (on_key t (own_answer c) (effect c key t) o).answer ≡ false
    at none = local_other c
    at (some i) = effect_keeps key c t i (t.buckets i) x

-- of the model's step
pub step_keeps : (key : List ℕ) (c : KeyCall) (t : Table) → KeepsNet key c t → failed_table_filter (step (Call.on_key key c) t).answer ≡ false
unfolding step
step_keeps key c t x = by (first_failed (questions (Call.on_key key c) t))
  where
    by : (o : Option ℕ) → failed_table_filter (unless_refused o (Call.on_key key c) t).answer ≡ false
    by none = act_keeps key c t x
    by (some q) = refl

-- of a run of the code, whatever bytes it was lent
pub own_record : {key : List ℕ} {c : KeyCall} {s : List ℕ} {a : Answer} {s' out' : List ℕ} → Ran (Call.on_key key c) s a s' out' → KeepsNet key c (table_of s)
    → failed_table_filter a ≡ false
unfolding step_bytes
own_record {key} {c} {s} run x = ap failed_table_filter (equation run).answer ∙ by (first_failed (all_questions (Call.on_key key c) s))
  where
    by : (o : Option ℕ) → failed_table_filter (unless_refused_bytes o (Call.on_key key c) s).answer ≡ false
    by none = act_keeps key c (table_of s) x
    by (some q) = refl

-- of a function that a C host calls, by the answer that the host reads
pub export_own_record : {key : List ℕ} {c : KeyCall} {t : Table} {answer : List ℕ} {code : ℕ} {s' out' : List ℕ} → FitsCall (Call.on_key key c) → Fits t
    → Called (Call.on_key key c) answer (bytes_of t) code s' out' → KeepsNet key c t → failed_table_filter (answer_of (Call.on_key key c) code out') ≡ false
export_own_record {key} {c} {t} {code = code} {s'} {out'} h f run x = by (told run)
  where
    by : Answered (Call.on_key key c) (bytes_of t) code s' out' ⊎ Short (bytes_of t) code s' → failed_table_filter (answer_of (Call.on_key key c) code out') ≡ false
    by (inl y) = ap failed_table_filter (host_reads (Call.on_key key c) t h f y) ∙ step_keeps key c t x
    by (inr y) =
        ap failed_table_filter (ap (λ (n : ℕ). answer_of (Call.on_key key c) n out') y.code_is ∙ refusal_read (Call.on_key key c) y.question out')
