-- What an accepted call leaves, on any storage: the queue that is read of it is that of its work, though of the buckets only those that the
-- call reads were asked (02, slip 7). So the records that stand behind the queue's former length are the call's.
use Prim.Native.Nat.{ℕ}
use mathlib.Core.Path.{◌≡◌, refl, sym, ap, ◌∙◌, subst, subst⁻¹}
use mathlib.Core.Bool.{true, false}
use mathlib.Core.List.{List, [], ◌∷◌}
use mathlib.Core.Option.{Option, none, some}
use lib.ListN.{length}
use lib.Seq.{drop-length}
use Rattle.model.specs.Bytes.{number, Bytes}
use Rattle.model.specs.Node.{EndedPending}
use Rattle.model.specs.Bucket.{Bucket}
use Rattle.model.specs.Table.{Table, Answer, Effect, index_in}
use Rattle.model.specs.Sizes.{storage_size}
use Rattle.model.specs.Call.{Call}
use Rattle.model.specs.Listing.{applies}
use Rattle.model.specs.Question.{first_failed, clock_fits}
use Rattle.model.specs.Step.{Outcome, on_key, own_answer, effect, take_oldest, act, bytes_fit, step}
use Rattle.model.specs.Layout.{table_of}
use Rattle.model.specs.Formed.{formed, header_formed}
use Rattle.model.specs.StepBytes.{reads, holds_header, touched, all_questions, unless_refused_bytes, step_bytes}
use Rattle.model.specs.Fits.{All, FitsRecord, FitsSettings, Fits, FitsCall}
use Rattle.laws.proofs.Tests.{clash}
use Rattle.laws.proofs.Questions.{AcceptedBytes, accepted_bytes}
use Rattle.laws.proofs.Frame.{touches_all, apply_all_settings}
use Rattle.laws.proofs.KeepStep.{endless, act_fits, queue_within, step_accepted, step_fits, new_fits}
use Rattle.laws.proofs.TableBytes.{table_there, table_back, fits_back}
use Rattle.laws.proofs.TableStep.{Same, step_bytes_lem, new_bytes}
use Rattle.laws.proofs.Touched.{reads_below, whole_formed}
use Rattle.laws.proofs.ReadBack.{FitsHeader, queue_back}
use Rattle.laws.proofs.Only.{only, only_same, only_fits}
use Rattle.laws.proofs.KeyReads.{Alike}
use Rattle.laws.proofs.ReadsOnly.{act_same}
use Rattle.laws.proofs.Elsewhere.{accepted_restored}
use Rattle.claims.specs.Runs.{behind}
use Rattle.claims.proofs.Records.{of_act, records_behind}

-- the model's step on a storage that is well formed throughout

pub record Stepped (c : Call) (s : List ℕ) : Type 0 where
  pub same : Same (step_bytes c s) (step c (table_of s))
  pub fits : Fits (step c (table_of s)).table

pub stepped_formed : (c : Call) (s : List ℕ) → FitsCall c → Bytes s → length s ≡ storage_size → formed s ≡ true → Stepped c s
stepped_formed c s h b l e =
    let f : Fits (table_of s) = fits_back s b l e in
    record {
      same = subst (λ (x : List ℕ). Same (step_bytes c x) (step c (table_of s))) (table_back s b l e) (step_bytes_lem c (table_of s) h f);
      fits = step_fits c (table_of s) h f;
    }

new_answers : (k : List ℕ) (timeout m tf bf : ℕ) (s : List ℕ) → first_failed (all_questions (Call.new k timeout m tf bf) s) ≡ none
    → (step_bytes (Call.new k timeout m tf bf) s).answer ≡ Answer.New
unfolding step_bytes act
new_answers k timeout m tf bf s e = ap (λ (o : Option ℕ). (unless_refused_bytes o (Call.new k timeout m tf bf) s).answer) e

stepped_new : (k : List ℕ) (timeout m tf bf : ℕ) (s : List ℕ) → FitsCall (Call.new k timeout m tf bf)
    → first_failed (all_questions (Call.new k timeout m tf bf) s) ≡ none → Stepped (Call.new k timeout m tf bf) s
stepped_new k timeout m tf bf s h e =
    let o = new_bytes k timeout m tf bf s h (new_answers k timeout m tf bf s e) in
    record { same = o.0; fits = new_fits k timeout m tf bf (table_of s) h o.1 }

pub stepped_records : (c : Call) (s : List ℕ) → Stepped c s → behind (table_of s).queue (table_of (step_bytes c s).storage).queue ≡ (step c (table_of s)).records
stepped_records c s z =
    let t : Table = table_of s in
    ap (λ (x : List ℕ). behind t.queue (table_of x).queue) z.same.storage
    ∙ ap (λ (x : Table). behind t.queue x.queue) (table_there (step c t).table z.fits)
    ∙ records_behind c t

-- a call that does not write all buckets, on a storage of which it has asked a part

act_settings : (c : Call) (t : Table) → touches_all c ≡ false → (act c t).table.settings ≡ t.settings
unfolding act
act_settings (Call.new k timeout m tf bf) t n = clash refl n
act_settings (Call.on_key k c) t n = by_key (own_answer c) (effect c k t) (index_in t (number k))
  where
    by_key : (self : Answer) (f : ℕ → Bucket → Effect) (o : Option ℕ) → (on_key t self f o).table.settings ≡ t.settings
    by_key self f none = refl
    by_key self f (some i) = refl
act_settings (Call.list l n now out) t m = apply_all_settings now (applies l n now t) t
act_settings Call.take_applied_pending t n = taken t.queue
  where
    taken : (q : List EndedPending) → (take_oldest t q).table.settings ≡ t.settings
    taken [] = refl
    taken (a ∷ q) = refl
act_settings (Call.read bs) t n = clash refl n

no_bytes : (c : Call) (t : Table) → touches_all c ≡ false → bytes_fit c t ≡ true
no_bytes (Call.new k timeout m tf bf) t n = refl
no_bytes (Call.on_key k c) t n = refl
no_bytes (Call.list l n now out) t m = refl
no_bytes Call.take_applied_pending t n = refl
no_bytes (Call.read bs) t n = clash refl n

header_asked : (c : Call) (s : List ℕ) → touches_all c ≡ false → holds_header c s ≡ true → header_formed s ≡ true
header_asked (Call.new k timeout m tf bf) s n e = clash refl n
header_asked (Call.on_key k c) s n e = e
header_asked (Call.list l n now out) s m e = e
header_asked Call.take_applied_pending s n e = e
header_asked (Call.read bs) s n e = clash refl n

-- by the table cut to the buckets that the call reads, which fits
work_fits : (c : Call) (s : List ℕ) → FitsCall c → Bytes s → touches_all c ≡ false → AcceptedBytes c s → FitsHeader (act c (table_of s)).table
unfolding clock_fits
work_fits c s h b n a =
    let t : Table = table_of s in
    let u : Table = only (reads c t) t in
    let f : Fits u = only_fits s b a.size (header_asked c s n a.header) (reads c t) (reads_below c t) a.buckets in
    let o : Alike (act c u) (act c t) = act_same t u.buckets c (only_same (reads c t) t) in
    record {
      settings = subst⁻¹ FitsSettings (act_settings c t n) f.settings;
      records = subst (All FitsRecord) o.queue (act_fits c u h a.answers.keys a.answers.codes a.answers.clock (no_bytes c u n) (endless u f)).records;
      queue = queue_within c t a.answers.queue;
    }

part_records : (c : Call) (s : List ℕ) → FitsCall c → Bytes s → touches_all c ≡ false → first_failed (all_questions c s) ≡ none
    → behind (table_of s).queue (table_of (step_bytes c s).storage).queue ≡ (act c (table_of s)).records
part_records c s h b n e =
    let t : Table = table_of s in
    ap (behind t.queue)
    (queue_back s (touched c t) (act c t).table (step_bytes c s).storage (accepted_restored c s n e) (work_fits c s h b n (accepted_bytes c s e)))
    ∙ of_act c t

-- every accepted call
pub accepted_records : (c : Call) (s : List ℕ) → FitsCall c → Bytes s → first_failed (all_questions c s) ≡ none
    → behind (table_of s).queue (table_of (step_bytes c s).storage).queue ≡ (act c (table_of s)).records
accepted_records (Call.new k timeout m tf bf) s h b e =
    let c : Call = Call.new k timeout m tf bf in
    stepped_records c s (stepped_new k timeout m tf bf s h e) ∙ ap (λ (o : Outcome). o.records) (step_accepted c (table_of s) (accepted_bytes c s e).passes)
accepted_records (Call.on_key k c) s h b e = part_records (Call.on_key k c) s h b refl e
accepted_records (Call.list l n now out) s h b e = part_records (Call.list l n now out) s h b refl e
accepted_records Call.take_applied_pending s h b e = part_records Call.take_applied_pending s h b refl e
accepted_records (Call.read bs) s h b e =
    let c : Call = Call.read bs in
    let a = accepted_bytes c s e in
    stepped_records c s (stepped_formed c s h b a.size (whole_formed s a.header a.buckets))
    ∙ ap (λ (o : Outcome). o.records) (step_accepted c (table_of s) a.passes)

-- and every call, refused or not
pub records_left : (c : Call) (s : List ℕ) → FitsCall c → Bytes s → behind (table_of s).queue (table_of (step_bytes c s).storage).queue ≡ (step_bytes c s).records
unfolding step_bytes
records_left c s h b = by (first_failed (all_questions c s)) refl
  where
    by : (o : Option ℕ) → first_failed (all_questions c s) ≡ o → behind (table_of s).queue (table_of (step_bytes c s).storage).queue ≡ (step_bytes c s).records
    by (some n) e =
        ap (λ (o : Option ℕ). behind (table_of s).queue (table_of (unless_refused_bytes o c s).storage).queue) e
        ∙ drop-length (table_of s).queue
        ∙ sym (ap (λ (o : Option ℕ). (unless_refused_bytes o c s).records) e)
    by none e = accepted_records c s h b e ∙ sym (ap (λ (o : Option ℕ). (unless_refused_bytes o c s).records) e)
