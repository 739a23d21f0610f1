-- DEMAND 3 FOR A HOST. For every list of calls of the table's exports on storage that `kbuckets_new` has just made and that nobody else
-- writes, calls refused for want of room for the answer included: what they leave in every bucket is what the log says, within the limits.
-- The log is fed what the host sees: the calls, their answers as it reads codes and bytes, and the records behind those that were there.
use Prim.Native.Nat.{ℕ, ◌≤◌, ◌<◌}
use native.Mathlib.Omega.{arith}
use mathlib.Core.Path.{◌≡◌, refl, sym, ap, ap₂, ◌∙◌, subst, subst⁻¹}
use mathlib.Core.Bool.{Bool, true, false, cond}
use mathlib.Core.List.{List, [], ◌∷◌, reverse}
use mathlib.Core.Logic.{◌⊎◌, inl, inr}
use mathlib.Core.Option.{Option, none, some}
use lib.ListN.{length}
use Rattle.model.specs.Base.{given}
use Rattle.model.specs.Bytes.{number, part}
use Rattle.model.specs.Bucket.{nodes, incoming_nodes}
use Rattle.model.specs.Table.{Table, Answer, index_in}
use Rattle.model.specs.Call.{Call}
use Rattle.model.specs.Question.{first_failed}
use Rattle.model.specs.Step.{act, questions, unless_refused, step}
use Rattle.model.specs.Layout.{bytes_of, table_of}
use Rattle.model.specs.StepBytes
use Rattle.model.specs.StepBytes.{all_questions, step_bytes}
use Rattle.model.specs.Fits.{All, Fits, FitsCall}
use Rattle.laws.proofs.Tests.{clash}
use Rattle.laws.proofs.Lists.{lt_or_le}
use Rattle.laws.proofs.Parts.{part_splice_same}
use Rattle.laws.proofs.KeepStep.{step_fits, new_fits}
use Rattle.laws.proofs.TableBytes.{table_there, formed_there}
use Rattle.laws.proofs.TableStep.{step_bytes_lem, new_bytes}
use Rattle.table_log.specs.Log.{Entry, Log, log_of, log_bucket, no_settings}
use Rattle.table_log.specs.Claim.{Claim, StorageClaim, table_after, entries}
use Rattle.theorem.proofs.Fold.{fresh}
use Rattle.theorem.proofs.Literal.{fold_literal}
use Rattle.theorem.proofs.Theorem.{theorem}
use Rattle.codes.specs.Codes.{refused_code, answer_code, answer_bytes, answer_size}
use Rattle.codes.specs.Exported.{Writes, exported, exported_with}
use Rattle.laws.proofs.Questions.{up_to_five}
use Rattle.codes.proofs.Thin
use Rattle.codes.proofs.Thin.{too_short}
use Rattle.claims.specs.Runs.{fed}
use Rattle.claims.specs.Exports.{Called, carries, answer_of, HostRuns}
use Rattle.claims.proofs.Demand.{fed_step}
use Rattle.claims.proofs.Heard.{heard_on, heard, log_heard}
use Rattle.claims.proofs.Exports.{sees, refusal_read, list_read, load_read}
use Rattle.claims.proofs.Reading.{Front, key_call_read, take_read, answer_short}

-- the call was carried out: the code, the storage and the answer's bytes are those of the model's outcome
pub record Answered (c : Call) (s : List ℕ) (code : ℕ) (s' out' : List ℕ) : Type 0 where
  pub code_is : code ≡ answer_code (step_bytes c s).answer
  pub storage : s' ≡ (step_bytes c s).storage
  pub front : carries c ≡ true → Front out' (answer_bytes (step_bytes c s).answer)

-- it was refused before that, since there is no room for the answer
pub record Short (s : List ℕ) (code : ℕ) (s' : List ℕ) : Type 0 where
  pub question : ℕ
  pub code_is : code ≡ refused_code question
  pub storage : s' ≡ s

-- with room for the answer it is carried out
pub carried_out : {c : Call} {answer s : List ℕ} {code : ℕ} {s' out' : List ℕ} → Called c answer s code s' out' → (carries c ≡ true → answer_size ≤ length answer)
    → Answered c s code s' out'
unfolding exported
carried_out {c} {answer} {s} {code} {s'} {out'} run l = by (carries c) refl (sees run)
  where
    by : (b : Bool) → carries c ≡ b → Writes code s' out' (cond b (exported_with c answer s) (exported c s)) → Answered c s code s' out'
    by false e w = record { code_is = w.code; storage = w.storage; front = λ t. clash t e }
    by true e w =
        let a = (step_bytes c s).answer in
        let z = Thin.carries c s answer (l e) {a = a} (record { answer = refl; storage = refl }) refl refl in
        record {
          code_is = w.code ∙ sym z.code;
          storage = w.storage ∙ sym z.storage;
          front = λ _.
              ap (λ (o : List ℕ). part o 0 (length (answer_bytes a))) (w.output ∙ sym z.output)
              ∙ part_splice_same answer 0 (answer_bytes a) (omega (arith, answer_short a, l e));
        }

pub told : {c : Call} {answer s : List ℕ} {code : ℕ} {s' out' : List ℕ} → Called c answer s code s' out' → Answered c s code s' out' ⊎ Short s code s'
told {c} {answer} {s} {code} {s'} {out'} run = by (carries c) refl (sees run)
  where
    room : (length answer < answer_size) ⊎ (answer_size ≤ length answer) → Writes code s' out' (exported_with c answer s) → Answered c s code s' out' ⊎ Short s code s'
    room (inl l) w =
        let z = too_short c s answer l refl refl in
        inr (record { question = given (first_failed (up_to_five c s)) 6; code_is = w.code ∙ sym z.code; storage = w.storage ∙ sym z.storage })
    room (inr l) w = inl (carried_out run (λ _. l))

    by : (b : Bool) → carries c ≡ b → Writes code s' out' (cond b (exported_with c answer s) (exported c s)) → Answered c s code s' out' ⊎ Short s code s'
    by false e w = inl (carried_out run (λ t. clash t e))
    by true e w = room (lt_or_le (length answer) answer_size) w

-- what the host reads is what the call answered

-- the calls that answer a number of nodes
abbrev counts : Call → Bool
counts (Call.new k timeout m tf bf) = false
counts (Call.on_key k c) = false
counts (Call.list l n now out) = true
counts Call.take_applied_pending = false
counts (Call.read r) = true

read_act : (c : Call) (t : Table) (bs : List ℕ) → counts c ≡ false → Fits t → (carries c ≡ true → Front bs (answer_bytes (act c t).answer))
    → answer_of c (answer_code (act c t).answer) bs ≡ (act c t).answer
unfolding act
read_act (Call.new k timeout m tf bf) t bs e f g = refl
read_act (Call.on_key k c) t bs e f g = key_call_read c k t bs f.buckets (index_in t (number k)) g
read_act (Call.list l n now out) t bs e f g = clash refl e
read_act Call.take_applied_pending t bs e f g = take_read t bs t.queue f.records (g refl)
read_act (Call.read r) t bs e f g = clash refl e

read_other : (c : Call) (t : Table) (bs : List ℕ) → counts c ≡ false → Fits t → (carries c ≡ true → Front bs (answer_bytes (step c t).answer))
    → answer_of c (answer_code (step c t).answer) bs ≡ (step c t).answer
unfolding step
read_other c t bs e f = go (first_failed (questions c t))
  where
    go : (o : Option ℕ) → (carries c ≡ true → Front bs (answer_bytes (unless_refused o c t).answer))
        → answer_of c (answer_code (unless_refused o c t).answer) bs ≡ (unless_refused o c t).answer
    go (some q) g = refusal_read c q bs
    go none g = read_act c t bs e f g

pub read_step : (c : Call) (t : Table) (bs : List ℕ) → FitsCall c → Fits t → (carries c ≡ true → Front bs (answer_bytes (step c t).answer))
    → answer_of c (answer_code (step c t).answer) bs ≡ (step c t).answer
read_step (Call.new k timeout m tf bf) t bs h f g = read_other (Call.new k timeout m tf bf) t bs refl f g
read_step (Call.on_key k c) t bs h f g = read_other (Call.on_key k c) t bs refl f g
read_step (Call.list l n now out) t bs h f g =
    subst (λ (a : Answer). answer_of (Call.list l n now out) (answer_code a) bs ≡ a) (step_bytes_lem (Call.list l n now out) t h f).answer
    (list_read l n now out (bytes_of t) bs)
read_step Call.take_applied_pending t bs h f g = read_other Call.take_applied_pending t bs refl f g
read_step (Call.read r) t bs h f g =
    subst (λ (a : Answer). answer_of (Call.read r) (answer_code a) bs ≡ a) (step_bytes_lem (Call.read r) t h f).answer (load_read r (bytes_of t) bs)

-- what the host reads of a call that was carried out on the bytes of a table
pub host_reads : (c : Call) (t : Table) {code : ℕ} {r out' : List ℕ} → FitsCall c → Fits t → Answered c (bytes_of t) code r out'
    → answer_of c code out' ≡ (step c t).answer
host_reads c t {out' = out'} h f x =
    let o = step_bytes_lem c t h f in
    ap (λ (n : ℕ). answer_of c n out') (x.code_is ∙ ap answer_code o.answer)
    ∙ read_step c t out' h f (λ w. subst (λ (y : Answer). Front out' (answer_bytes y)) o.answer (x.front w))

-- the calls that were not refused for want of room come to the model's steps, and what is heard is as if the log was fed those alone
pub record HostFollowed (t : Table) (es : List Entry) (s' : List ℕ) : Type 0 where
  pub calls : List Call
  pub log : heard es ≡ heard (entries calls t)
  pub storage : s' ≡ bytes_of (table_after calls t)
  pub fits : Fits (table_after calls t)

-- one call, with what follows it
one_followed : (c : Call) (t : Table) (s : List ℕ) (code : ℕ) (r out' : List ℕ) (es : List Entry) (s' : List ℕ) → FitsCall c → Fits t → s ≡ bytes_of t
    → ((u : Table) → Fits u → r ≡ bytes_of u → HostFollowed u es s') → Answered c (bytes_of t) code r out' ⊎ Short (bytes_of t) code r
    → HostFollowed t (fed c s (answer_of c code out') r ∷ es) s'
one_followed c t s code r out' es s' h f e rest (inl x) =
    let a : Answer = answer_of c code out' in
    let o = step_bytes_lem c t h f in
    let g = step_fits c t h f in
    let left : r ≡ bytes_of (step c t).table = x.storage ∙ o.storage in
    let read : a ≡ (step c t).answer = host_reads c t h f x in
    let k = rest (step c t).table g left in
    record {
      calls = c ∷ k.calls;
      log =
          ap₂ (λ (y : Entry) (ys : List Entry). heard_on y ys)
          (fed_step c s t a r (ap table_of e ∙ table_there t f) (ap table_of left ∙ table_there (step c t).table g) read) k.log;
      storage = k.storage;
      fits = k.fits;
    }
one_followed c t s code r out' es s' h f e rest (inr x) =
    let k = rest t f x.storage in
    let read : answer_of c code out' ≡ Answer.Refused x.question = ap (λ (n : ℕ). answer_of c n out') x.code_is ∙ refusal_read c x.question out' in
    record {
      calls = k.calls;
      log = ap (λ (y : Answer). heard_on (fed c s y r) (heard es)) read ∙ k.log;
      storage = k.storage;
      fits = k.fits;
    }

pub host_followed : (cs : List Call) (t : Table) (s : List ℕ) (es : List Entry) (s' : List ℕ) → All FitsCall cs → Fits t → s ≡ bytes_of t → HostRuns cs s es s'
    → HostFollowed t es s'
host_followed _ t s _ _ h f e HostRuns.start = record { calls = []; log = refl; storage = e; fits = f }
host_followed _ t s _ s' h f e (HostRuns.next {c} {cs} {code = code} {r} {out'} {es} run runs) =
    one_followed c t s code r out' es s' h.0 f e (λ u g left. host_followed cs u r es s' h.1 g left runs)
    (subst (λ (x : List ℕ). Answered c x code r out' ⊎ Short x code r) e (told run))

-- a claim is of what the log says
claim_by : (h h' : List Entry) (t : Table) → log_of h ≡ log_of h' → Claim h t → Claim h' t
claim_by h h' t e c =
    record {
      places = λ i. c.places i ∙ ap (λ (l : Log). log_bucket l i) e;
      settings = c.settings ∙ ap (λ (l : Log). l.settings) e;
      at_most_16 = c.at_most_16;
      incoming_within = λ i. subst (λ (l : Log). length (incoming_nodes (nodes (t.buckets i))) ≤ l.settings.bucket.max_incoming) e (c.incoming_within i);
      two_of_a_net = λ i f. c.two_of_a_net i (ap (λ (l : Log). l.settings.bucket.filter) e ∙ f);
      queue_within = c.queue_within;
    }

-- `new` that returns 0 was accepted
pub new_accepted : (k : List ℕ) (timeout m tf bf : ℕ) (s : List ℕ) → 0 ≡ answer_code (step_bytes (Call.new k timeout m tf bf) s).answer
    → (step_bytes (Call.new k timeout m tf bf) s).answer ≡ Answer.New
unfolding step_bytes act
new_accepted k timeout m tf bf s = go (first_failed (all_questions (Call.new k timeout m tf bf) s))
  where
    go : (o : Option ℕ) → 0 ≡ answer_code (StepBytes.unless_refused_bytes o (Call.new k timeout m tf bf) s).answer
        → (StepBytes.unless_refused_bytes o (Call.new k timeout m tf bf) s).answer ≡ Answer.New
    go (some q) e = absurd (omega (arith, e))
    go none e = refl

-- `kbuckets_new` returned 0 on whatever bytes s, and with the calls that followed the log is fed es.
pub record HostMade (c : Call) (s : List ℕ) (es : List Entry) (s' : List ℕ) : Type 0 where
  pub calls : List Call
  pub accepted : (step c (table_of s)).answer ≡ Answer.New
  pub log : heard es ≡ heard (entries (c ∷ calls) (table_of s))
  pub storage : s' ≡ bytes_of (table_after (c ∷ calls) (table_of s))
  pub fits : Fits (table_after (c ∷ calls) (table_of s))

pub host_made : (k : List ℕ) (timeout m tf bf : ℕ) (cs : List Call) (answer s r out' : List ℕ) (es : List Entry) (s' : List ℕ)
    → All FitsCall (Call.new k timeout m tf bf ∷ cs)
    → Called (Call.new k timeout m tf bf) answer s 0 r out' → HostRuns cs r es s'
    → HostMade (Call.new k timeout m tf bf) s (fed (Call.new k timeout m tf bf) s Answer.New r ∷ es) s'
unfolding exported
host_made k timeout m tf bf cs answer s r out' es s' h run runs =
    let c : Call = Call.new k timeout m tf bf in
    let w = sees run in
    let n : (step_bytes c s).answer ≡ Answer.New = new_accepted k timeout m tf bf s w.code in
    let t : Table = table_of s in
    let o = new_bytes k timeout m tf bf s h.0 n in
    let g = new_fits k timeout m tf bf t h.0 o.1 in
    let left : r ≡ bytes_of (step c t).table = w.storage ∙ o.0.storage in
    let f = host_followed cs (step c t).table r es s' h.1 g left runs in
    let a : Answer.New ≡ (step c t).answer = sym n ∙ o.0.answer in
    record {
      calls = f.calls;
      accepted = sym a;
      log =
          ap₂ (λ (y : Entry) (ys : List Entry). heard_on y ys)
          (fed_step c s t Answer.New r refl (ap table_of left ∙ table_there (step c t).table g) a) f.log;
      storage = f.storage;
      fits = f.fits;
    }

-- `kbuckets_new` returned 0 on whatever bytes s, then the calls cs followed.
pub export_demand_3 : (k : List ℕ) (timeout m tf bf : ℕ) (cs : List Call) (answer s r out' : List ℕ) (es : List Entry) (s' : List ℕ)
    → All FitsCall (Call.new k timeout m tf bf ∷ cs)
    → Called (Call.new k timeout m tf bf) answer s 0 r out' → HostRuns cs r es s'
    → StorageClaim (reverse (fed (Call.new k timeout m tf bf) s Answer.New r ∷ es)) s'
export_demand_3 k timeout m tf bf cs answer s r out' es s' h run runs =
    let c : Call = Call.new k timeout m tf bf in
    let t : Table = table_of s in
    let fs : List Entry = fed c s Answer.New r ∷ es in
    let f : HostMade c s fs s' = host_made k timeout m tf bf cs answer s r out' es s' h run runs in
    let log : log_of (reverse (entries (c ∷ f.calls) t)) ≡ log_of (reverse fs) =
    sym (fold_literal (entries (c ∷ f.calls) t)) ∙ log_heard (entries (c ∷ f.calls) t) fs (fresh no_settings) (sym f.log) ∙ fold_literal fs in
    let claim : Claim (reverse fs) (table_after (c ∷ f.calls) t) =
    claim_by (reverse (entries (c ∷ f.calls) t)) (reverse fs) (table_after (c ∷ f.calls) t) log (theorem k timeout m tf bf f.calls t f.accepted) in
    subst⁻¹ (λ (x : List ℕ). StorageClaim (reverse fs) x) f.storage
    (record {
      table = subst⁻¹ (λ (x : Table). Claim (reverse fs) x) (table_there (table_after (c ∷ f.calls) t) f.fits) claim;
      well_formed = formed_there (table_after (c ∷ f.calls) t) f.fits;
    })
