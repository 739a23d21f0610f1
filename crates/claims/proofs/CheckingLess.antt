-- CHECKING LESS, FOR THE CODE AND FOR A HOST (02, slip 7). A malformed bucket that a call does not read stops no call, and keeps its bytes, `new`
-- apart. On storage that is well formed throughout, so on every storage after an accepted `new` and calls that follow, question 2 refuses
-- nothing, and every call does what the model's step says.
use Prim.Native.Nat.{ℕ, ◌≤◌, ◌<◌}
use mathlib.Core.Path.{◌≡◌, refl, sym, ap, ◌∙◌, subst, subst⁻¹}
use mathlib.Core.Bool.{Bool, true, false, cond}
use mathlib.Core.List.{List, [], ◌∷◌}
use mathlib.Core.Logic.{◌⊎◌, inl, inr}
use mathlib.Core.Option.{Option}
use lib.ListN.{length}
use lib.Seq.{drop-length}
use Rattle.model.specs.Base.{given, same}
use Rattle.model.specs.Bytes.{splice}
use Rattle.model.specs.Table.{Table, Answer, num_buckets}
use Rattle.model.specs.Call.{Call}
use Rattle.model.specs.Question.{arguments}
use Rattle.model.specs.Layout.{bytes_of, bucket_part, table_of}
use Rattle.model.specs.StepBytes.{reads, step_bytes}
use Rattle.model.specs.Fits.{All, Fits, FitsCall}
use Rattle.laws.proofs.Tests.{clash}
use Rattle.laws.proofs.Lists.{lt_or_le}
use Rattle.laws.proofs.TableBytes.{length_bytes_of, bytes_bytes_of, formed_there, table_back, fits_back}
use Rattle.laws.proofs.ReadsOnly.{SameReply}
use Rattle.laws.proofs.Elsewhere as Elsewhere
use Rattle.table_log.specs.Log.{Entry}
use Rattle.table_log.specs.Pending.{lists}
use Rattle.codes.specs.Codes.{refused_code, answer_code, answer_bytes, answer_size}
use Rattle.codes.specs.Exported.{Writes, exported, exported_with}
use Rattle.codes.proofs.Thin
use Rattle.codes.proofs.Thin.{too_short}
use Rattle.claims.specs.Ran.{Ran}
use Rattle.claims.specs.Runs.{behind, Runs}
use Rattle.claims.specs.Exports.{Called, carries, answer_of, HostRuns}
use Rattle.claims.specs.CheckingLess.{InCommon, SameTold, Unread, Unwritten, WholeFormed, AsStep}
use Rattle.claims.proofs.Ran.{equation}
use Rattle.claims.proofs.Demand.{made}
use Rattle.claims.proofs.Left.{stepped_formed, stepped_records}
use Rattle.claims.proofs.Common.{reply, left_alike, five_same, output_as_step}
use Rattle.claims.proofs.Exports.{sees}
use Rattle.claims.proofs.HostDemand.{Answered, Short, carried_out, told, host_reads, host_made}

-- ---- a malformed bucket elsewhere stops no call: one call on two storages with the buckets that it reads on the first in common

pub reads_only : {c : Call} {s₁ : List ℕ} {a₁ : Answer} {r₁ out₁ s₂ : List ℕ} {a₂ : Answer} {r₂ out₂ : List ℕ} → Ran c s₁ a₁ r₁ out₁ → Ran c s₂ a₂ r₂ out₂
    → FitsCall c → InCommon (reads c (table_of s₁)) s₁ s₂ → SameTold a₁ s₁ r₁ out₁ a₂ s₂ r₂ out₂
reads_only {c} {s₁} {r₁ = r₁} {s₂ = s₂} {r₂ = r₂} run₁ run₂ h x =
    let o = reply c s₁ s₂ h x in
    let q₁ = equation run₁ in
    let q₂ = equation run₂ in
    record {
      answer = q₂.answer ∙ o.answer ∙ sym q₁.answer;
      output = q₂.output ∙ o.output ∙ sym q₁.output;
      records = left_alike c s₁ s₂ h x r₁ r₂ q₁.storage q₂.storage;
    }

-- a call whose answer carries something is handed a table
carries_table : (c : Call) → carries c ≡ true → (arguments c).table ≡ true
carries_table (Call.new k timeout m tf bf) e = clash e refl
carries_table (Call.on_key k c) e = refl
carries_table (Call.list l n now out) e = refl
carries_table Call.take_applied_pending e = refl
carries_table (Call.read bs) e = refl

-- storage that is left as it was has no record more
no_record : (s r : List ℕ) → r ≡ s → behind (table_of s).queue (table_of r).queue ≡ []
no_record s r e = ap (λ (y : List ℕ). behind (table_of s).queue (table_of y).queue) e ∙ drop-length (table_of s).queue

-- of an export, by its code, the room for the answer being the same
pub export_reads_only : {c : Call} {answer s₁ : List ℕ} {code₁ : ℕ} {r₁ out₁ s₂ : List ℕ} {code₂ : ℕ} {r₂ out₂ : List ℕ} → Called c answer s₁ code₁ r₁ out₁
    → Called c answer s₂ code₂ r₂ out₂ → FitsCall c → InCommon (reads c (table_of s₁)) s₁ s₂ → SameTold code₁ s₁ r₁ out₁ code₂ s₂ r₂ out₂
unfolding exported
export_reads_only {c} {answer} {s₁} {code₁} {r₁} {out₁} {s₂} {code₂} {r₂} {out₂} run₁ run₂ h x = by (carries c) refl (sees run₁) (sees run₂)
  where
    o : SameReply (step_bytes c s₂) (step_bytes c s₁)
    o = reply c s₁ s₂ h x

    room : carries c ≡ true → (length answer < answer_size) ⊎ (answer_size ≤ length answer) → Writes code₁ r₁ out₁ (exported_with c answer s₁)
        → Writes code₂ r₂ out₂ (exported_with c answer s₂) → SameTold code₁ s₁ r₁ out₁ code₂ s₂ r₂ out₂
    room e (inl l) w₁ w₂ =
        let z₁ = too_short c s₁ answer l refl refl in
        let z₂ = too_short c s₂ answer l refl refl in
        record {
          answer = w₂.code ∙ sym z₂.code ∙ ap (λ (q : Option ℕ). refused_code (given q 6)) (five_same c _ s₁ s₂ (carries_table c e) x) ∙ z₁.code ∙ sym w₁.code;
          output = w₂.output ∙ sym z₂.output ∙ z₁.output ∙ sym w₁.output;
          records = no_record s₂ r₂ (w₂.storage ∙ sym z₂.storage) ∙ sym (no_record s₁ r₁ (w₁.storage ∙ sym z₁.storage));
        }
    room e (inr l) w₁ w₂ =
        let z₁ = Thin.carries c s₁ answer l {a = (step_bytes c s₁).answer} (record { answer = refl; storage = refl }) refl refl in
        let z₂ = Thin.carries c s₂ answer l {a = (step_bytes c s₂).answer} (record { answer = refl; storage = refl }) refl refl in
        record {
          answer = w₂.code ∙ sym z₂.code ∙ ap answer_code o.answer ∙ z₁.code ∙ sym w₁.code;
          output = w₂.output ∙ sym z₂.output ∙ ap (λ (a : Answer). splice answer 0 (answer_bytes a)) o.answer ∙ z₁.output ∙ sym w₁.output;
          records = left_alike c s₁ s₂ h x r₁ r₂ (w₁.storage ∙ sym z₁.storage) (w₂.storage ∙ sym z₂.storage);
        }

    by : (b : Bool) → carries c ≡ b → Writes code₁ r₁ out₁ (cond b (exported_with c answer s₁) (exported c s₁))
        → Writes code₂ r₂ out₂ (cond b (exported_with c answer s₂) (exported c s₂)) → SameTold code₁ s₁ r₁ out₁ code₂ s₂ r₂ out₂
    by false e w₁ w₂ =
        record {
          answer = w₂.code ∙ ap answer_code o.answer ∙ sym w₁.code;
          output = w₂.output ∙ o.output ∙ sym w₁.output;
          records = left_alike c s₁ s₂ h x r₁ r₂ w₁.storage w₂.storage;
        }
    by true e w₁ w₂ = room e (lt_or_le (length answer) answer_size) w₁ w₂

-- ---- and it keeps its bytes, whether the call is accepted or refused

-- of every call, a bucket that it does not write back
pub elsewhere_stays : {c : Call} {s : List ℕ} {a : Answer} {s' out' : List ℕ} → Ran c s a s' out' → (i : ℕ) → i < num_buckets → Unwritten c s i
    → bucket_part s' i ≡ bucket_part s i
elsewhere_stays {c} {s} run i m u = ap (λ (y : List ℕ). bucket_part y i) (equation run).storage ∙ Elsewhere.elsewhere_stays c s i m u

-- of every call but `new`, which is handed no table, one that it does not read
pub unread_stays : {c : Call} {s : List ℕ} {a : Answer} {s' out' : List ℕ} → Ran c s a s' out' → (arguments c).table ≡ true → (i : ℕ) → i < num_buckets
    → Unread c s i → bucket_part s' i ≡ bucket_part s i
unread_stays {c} {s} run n i m u =
    let none_is_i : All (λ (j : ℕ). same i j ≡ false) (reads c (table_of s)) = u in
    ap (λ (y : List ℕ). bucket_part y i) (equation run).storage ∙ Elsewhere.unread_stays c s n i m none_is_i

-- the same of the exports

-- what the call keeps of the storage its export keeps: without room for the answer it keeps all
export_keeps : {c : Call} {answer s : List ℕ} {code : ℕ} {s' out' : List ℕ} → Called c answer s code s' out' → (i : ℕ)
    → bucket_part (step_bytes c s).storage i ≡ bucket_part s i → bucket_part s' i ≡ bucket_part s i
export_keeps {c} {answer} {s} {code} {s'} {out'} run i e = by (told run)
  where
    by : Answered c s code s' out' ⊎ Short s code s' → bucket_part s' i ≡ bucket_part s i
    by (inl x) = ap (λ (y : List ℕ). bucket_part y i) x.storage ∙ e
    by (inr x) = ap (λ (y : List ℕ). bucket_part y i) x.storage

pub export_elsewhere_stays : {c : Call} {answer s : List ℕ} {code : ℕ} {s' out' : List ℕ} → Called c answer s code s' out' → (i : ℕ) → i < num_buckets
    → Unwritten c s i → bucket_part s' i ≡ bucket_part s i
export_elsewhere_stays {c} {s = s} run i m u = export_keeps run i (Elsewhere.elsewhere_stays c s i m u)

pub export_unread_stays : {c : Call} {answer s : List ℕ} {code : ℕ} {s' out' : List ℕ} → Called c answer s code s' out' → (arguments c).table ≡ true → (i : ℕ)
    → i < num_buckets → Unread c s i → bucket_part s' i ≡ bucket_part s i
export_unread_stays {c} {s = s} run n i m u = export_keeps run i (Elsewhere.unread_stays c s n i m u)

-- ---- tables built by our own calls notice no difference

pub no_difference : {c : Call} {s : List ℕ} {a : Answer} {s' out' : List ℕ} → Ran c s a s' out' → FitsCall c → WholeFormed s → AsStep c s a s' out'
no_difference {c} {s} run h w =
    let q = equation run in
    let z = stepped_formed c s h w.bytes w.size w.well_formed in
    record {
      answer = q.answer ∙ z.same.answer;
      storage = q.storage ∙ z.same.storage;
      records = ap (λ (y : List ℕ). behind (table_of s).queue (table_of y).queue) q.storage ∙ stepped_records c s z;
      output = λ _. q.output ∙ output_as_step c s w.size w.well_formed;
    }

list_carries : (c : Call) → lists c ≡ true → carries c ≡ false
list_carries (Call.new k timeout m tf bf) e = refl
list_carries (Call.on_key k c) e = clash e refl
list_carries (Call.list l n now out) e = refl
list_carries Call.take_applied_pending e = clash e refl
list_carries (Call.read bs) e = refl

-- of an export that has room for its answer, by the answer that the host reads
pub export_no_difference : {c : Call} {answer s : List ℕ} {code : ℕ} {s' out' : List ℕ} → Called c answer s code s' out'
    → (carries c ≡ true → answer_size ≤ length answer) → FitsCall c → WholeFormed s → AsStep c s (answer_of c code out') s' out'
unfolding exported
export_no_difference {c} {answer} {s} {code} {s'} {out'} run l h w =
    let x = carried_out run l in
    let z = stepped_formed c s h w.bytes w.size w.well_formed in
    record {
      answer =
          host_reads c (table_of s) h (fits_back s w.bytes w.size w.well_formed)
          (subst⁻¹ (λ (y : List ℕ). Answered c y code s' out') (table_back s w.bytes w.size w.well_formed) x);
      storage = x.storage ∙ z.same.storage;
      records = ap (λ (y : List ℕ). behind (table_of s).queue (table_of y).queue) x.storage ∙ stepped_records c s z;
      output = λ e.
          (subst (λ (b : Bool). Writes code s' out' (cond b (exported_with c answer s) (exported c s))) (list_carries c e) (sees run)).output
          ∙ output_as_step c s w.size w.well_formed;
    }

-- the code's `new` answered New on whatever bytes s, then the calls cs followed: what they leave is well formed throughout

whole : (t : Table) → Fits t → WholeFormed (bytes_of t)
whole t f = record { bytes = bytes_bytes_of t f; size = length_bytes_of t f; well_formed = formed_there t f }

pub built : (k : List ℕ) (timeout m tf bf : ℕ) (cs : List Call) (s r out' : List ℕ) (es : List Entry) (s' : List ℕ)
    → All FitsCall (Call.new k timeout m tf bf ∷ cs)
    → Ran (Call.new k timeout m tf bf) s Answer.New r out' → Runs cs r es s' → WholeFormed s'
built k timeout m tf bf cs s r out' es s' h run runs =
    let f = (made k timeout m tf bf cs s r out' es s' h run runs).0 in
    subst⁻¹ WholeFormed f.storage (whole _ f.fits)

-- the same of the exports
pub export_built : (k : List ℕ) (timeout m tf bf : ℕ) (cs : List Call) (answer s r out' : List ℕ) (es : List Entry) (s' : List ℕ)
    → All FitsCall (Call.new k timeout m tf bf ∷ cs)
    → Called (Call.new k timeout m tf bf) answer s 0 r out' → HostRuns cs r es s' → WholeFormed s'
export_built k timeout m tf bf cs answer s r out' es s' h run runs =
    let f = host_made k timeout m tf bf cs answer s r out' es s' h run runs in
    subst⁻¹ WholeFormed f.storage (whole _ f.fits)
