-- A TABLE THAT SURVIVES A BOX SWAP, FOR THE CODE AND FOR A HOST (02, slip 6). What the reader takes, the writer gives back byte for byte, on any
-- storage. After every list of the table's calls on storage that `new` has just made, what the writer puts out is taken by storage just made
-- with the same local key and settings, and every bucket then has the same held nodes in the same places.
use Prim.Native.Nat.{ℕ, ◌-◌, ◌≤◌}
use native.Mathlib.Omega.{arith}
use mathlib.Core.Path.{◌≡◌, refl, sym, ap, ap₂, ◌∙◌, subst⁻¹}
use mathlib.Core.Bool.{Bool, cond}
use mathlib.Core.List.{List, ◌∷◌}
use mathlib.Core.Option.{Option, some}
use lib.ListN.{length}
use borrow.Author.Tests.{le-leb, lt-leb}
use Rattle.model.specs.Bytes.{Bytes}
use Rattle.model.specs.Result.{Reply}
use Rattle.model.specs.Bucket.{nodes}
use Rattle.model.specs.Table.{Table, Answer}
use Rattle.model.specs.Call.{Call}
use Rattle.model.specs.Question.{first_failed, max_count}
use Rattle.model.specs.Layout.{bytes_of, table_of}
use Rattle.model.specs.Saved.{all_nodes, saved}
use Rattle.model.specs.StepBytes.{Replied, BytesOutcome, write_questions, tell_unless_refused, write_bytes, step_bytes}
use Rattle.model.specs.Fits.{All, Fits, FitsCall}
use Rattle.laws.proofs.TableBytes.{table_there}
use Rattle.laws.proofs.SavedSteps.{write_few, read_back}
use Rattle.table_log.specs.Log.{Entry}
use Rattle.table_log.specs.Claim.{StorageClaim}
use Rattle.theorem.proofs.Survives.{theorem_survives}
use Rattle.on_key.specs.Answers.{Replies}
use Rattle.codes.specs.Codes.{refused_code}
use Rattle.codes.specs.Exported.{reply_code, exported}
use Rattle.claims.specs.Ran.{Ran}
use Rattle.claims.specs.Runs.{Runs}
use Rattle.claims.specs.Exports.{Called, answer_of, HostRuns}
use Rattle.claims.specs.Saved.{Wrote, HostWrote, reply_of, held_count, saved_size, put_out, GivenBack, Survives, WriteRefusal}
use Rattle.claims.proofs.Ran.{equation}
use Rattle.claims.proofs.Demand.{made, demand_3}
use Rattle.claims.proofs.Exports.{sees, load_read}
use Rattle.claims.proofs.HostDemand.{new_accepted, host_made, export_demand_3}

-- each contract is the equation with `write_bytes`
abbrev pub Puts : (s out : List ℕ) (a : Reply ℕ) (out' : List ℕ) → Type 0
Puts s out a out' = Replies a out' (write_bytes out s)

pub puts : {s out : List ℕ} {a : Reply ℕ} {out' : List ℕ} → Wrote s out a out' → Puts s out a out'
puts (Wrote.write _ _ _ _ _ _ p) = p

-- what a host reads of the code is what the writer answered
reply_read : (a : Reply ℕ) → ((n : ℕ) → a ≡ Reply.Answered n → n ≤ max_count) → reply_of (reply_code a) ≡ a
reply_read (Reply.Refused q) f =
    let e : refused_code q - refused_code 0 ≡ q = omega arith in
    ap (λ (b : Bool). cond b (Reply.Refused (refused_code q - refused_code 0)) (Reply.Answered (refused_code q))) (le-leb (refused_code 0) (refused_code q) (omega arith))
    ∙ ap Reply.Refused e
reply_read (Reply.Answered n) f =
    ap (λ (b : Bool). cond b (Reply.Refused (n - refused_code 0)) (Reply.Answered n)) (lt-leb (refused_code 0) n (omega (arith, f n refl)))

pub host_puts : {s out : List ℕ} {code : ℕ} {out' : List ℕ} → HostWrote s out code out' → Puts s out (reply_of code) out'
host_puts (HostWrote.write _ s out _ _ _ p) =
    record { answer = ap reply_of p.code ∙ reply_read (write_bytes _ _).answer (λ n e. write_few _ _ n e); output = p.output }

-- demand 1
refused : (s out : List ℕ) {a : Reply ℕ} {out' : List ℕ} → Puts s out a out' → (q : ℕ) → first_failed (write_questions out s) ≡ some q → WriteRefusal q out a out'
unfolding write_bytes
refused s out p q e =
    let t : Table = table_of s in
    record {
      answer = p.answer ∙ ap (λ (o : Option ℕ). (tell_unless_refused o (length (all_nodes t)) (saved t) out).answer) e;
      output = p.output ∙ ap (λ (o : Option ℕ). (tell_unless_refused o (length (all_nodes t)) (saved t) out).output) e;
    }

pub write_demand_1 : {s out : List ℕ} {a : Reply ℕ} {out' : List ℕ} → Wrote s out a out' → (q : ℕ) → first_failed (write_questions out s) ≡ some q
    → WriteRefusal q out a out'
write_demand_1 {s} {out} run = refused s out (puts run)

pub export_write_demand_1 : {s out : List ℕ} {code : ℕ} {out' : List ℕ} → HostWrote s out code out' → (q : ℕ) → first_failed (write_questions out s) ≡ some q
    → WriteRefusal q out (reply_of code) out'
export_write_demand_1 {s} {out} run = refused s out (host_puts run)

-- byte for byte, of bytes bs that the reader took of storage s

back : (bs s s' : List ℕ) (n : ℕ) → Bytes bs → Bytes s → (step_bytes (Call.read bs) s).answer ≡ Answer.Read n → s' ≡ (step_bytes (Call.read bs) s).storage
    → (out : List ℕ) {a : Reply ℕ} {out' : List ℕ} → Puts s' out a out' → length bs ≤ length out → GivenBack bs n out a out'
back bs s s' n h b e left out p l =
    let r = ap (write_bytes out) left ∙ read_back bs s n h b e out l in
    record { answer = p.answer ∙ ap (λ (x : Replied). x.answer) r; output = p.output ∙ ap (λ (x : Replied). x.output) r }

pub given_back : {bs s : List ℕ} {n : ℕ} {s' none' : List ℕ} → Ran (Call.read bs) s (Answer.Read n) s' none' → Bytes bs → Bytes s
    → {out : List ℕ} {a : Reply ℕ} {out' : List ℕ} → Wrote s' out a out' → length bs ≤ length out → GivenBack bs n out a out'
given_back {bs} {s} {n} {s'} run h b {out} w l = let q = equation run in back bs s s' n h b (sym q.answer) q.storage out (puts w) l

pub export_given_back : {bs answer s : List ℕ} {n code : ℕ} {s' out₀ : List ℕ} → Called (Call.read bs) answer s code s' out₀ → answer_of (Call.read bs) code out₀ ≡ Answer.Read n
    → Bytes bs → Bytes s → {out : List ℕ} {c : ℕ} {out' : List ℕ} → HostWrote s' out c out' → length bs ≤ length out → GivenBack bs n out (reply_of c) out'
unfolding exported
export_given_back {bs} {s = s} {n} {s' = s'} {out₀} run e h b {out} w l =
    let q = sees run in
    back bs s s' n h b (sym (load_read bs s out₀) ∙ ap (λ (x : ℕ). answer_of (Call.read bs) x out₀) (sym q.code) ∙ e) q.storage out (host_puts w) l

-- the same places

-- storage s holds the bytes of a table that fits and of which the log tells; `new` answered New on whatever bytes z and left r, of the same settings
module _ (h : List Entry) (s : List ℕ) (claim : StorageClaim h s) (t : Table) (e : s ≡ bytes_of t) (f : Fits t) where
  own : table_of s ≡ t
  own = ap table_of e ∙ table_there t f

  moved : (out : List ℕ) {w : Reply ℕ} {out' : List ℕ} → Puts s out w out' → saved_size (held_count s) ≤ length out
      → (k : List ℕ) (timeout m tf bf : ℕ) (z r : List ℕ) → FitsCall (Call.new k timeout m tf bf) → (step_bytes (Call.new k timeout m tf bf) z).answer ≡ Answer.New
      → r ≡ (step_bytes (Call.new k timeout m tf bf) z).storage → (table_of r).settings ≡ (table_of s).settings
      → (a : Answer) (s' : List ℕ) → a ≡ (step_bytes (Call.read (put_out (held_count s) out')) r).answer → s' ≡ (step_bytes (Call.read (put_out (held_count s) out')) r).storage
      → Survives s w a s'
  moved out p l k timeout m tf bf z r g new left same a s' answer storage =
      let v =
      theorem_survives h s claim.table (subst⁻¹ Fits own f) (e ∙ ap bytes_of (sym own)) out k timeout m tf bf z g l new
      (ap (λ (x : List ℕ). (table_of x).settings) (sym left) ∙ same) in
      let is : step_bytes (Call.read (put_out (held_count s) _)) r ≡ step_bytes (Call.read (put_out (held_count s) (write_bytes out s).output)) (step_bytes (Call.new k timeout m tf bf) z).storage =
      ap₂ (λ (x y : List ℕ). step_bytes (Call.read (put_out (held_count s) x)) y) p.output left in
      record {
        written = p.answer ∙ v.0;
        taken = answer ∙ ap (λ (x : BytesOutcome). x.answer) is ∙ v.1;
        same_places = λ i. ap (λ (x : List ℕ). nodes ((table_of x).buckets i)) (storage ∙ ap (λ (x : BytesOutcome). x.storage) is) ∙ v.2 i;
      }

-- The code's `new` answered New on whatever bytes s, the calls cs followed and left s', which was written to an output that has room. `new`
-- answered New on whatever bytes z and left y, of the same settings; there the reader was given what was written.
pub survives : (k : List ℕ) (timeout m tf bf : ℕ) (cs : List Call) (s r none₀ : List ℕ) (es : List Entry) (s' : List ℕ)
    → All FitsCall (Call.new k timeout m tf bf ∷ cs)
    → Ran (Call.new k timeout m tf bf) s Answer.New r none₀ → Runs cs r es s'
    → {out : List ℕ} {w : Reply ℕ} {out' : List ℕ} → Wrote s' out w out' → saved_size (held_count s') ≤ length out
    → (k₁ : List ℕ) (timeout₁ m₁ tf₁ bf₁ : ℕ) (z y none₁ : List ℕ) → FitsCall (Call.new k₁ timeout₁ m₁ tf₁ bf₁)
    → Ran (Call.new k₁ timeout₁ m₁ tf₁ bf₁) z Answer.New y none₁ → (table_of y).settings ≡ (table_of s').settings
    → {a : Answer} {s'' none₂ : List ℕ} → Ran (Call.read (put_out (held_count s') out')) y a s'' none₂
    → Survives s' w a s''
survives k timeout m tf bf cs s r none₀ es s' h run runs {out} wrote room k₁ timeout₁ m₁ tf₁ bf₁ z y none₁ g made_new same {a} {s''} taken =
    let x = (made k timeout m tf bf cs s r none₀ es s' h run runs).0 in
    let n = equation made_new in
    let q = equation taken in
    moved _ s' (demand_3 k timeout m tf bf cs s r none₀ es s' h run runs) _ x.storage x.fits out (puts wrote) room k₁ timeout₁ m₁ tf₁ bf₁ z y g (sym n.answer) n.storage
    same a s'' q.answer q.storage

-- the same of the exports, with the codes as a host reads them
pub export_survives : (k : List ℕ) (timeout m tf bf : ℕ) (cs : List Call) (answer s r none₀ : List ℕ) (es : List Entry) (s' : List ℕ)
    → All FitsCall (Call.new k timeout m tf bf ∷ cs)
    → Called (Call.new k timeout m tf bf) answer s 0 r none₀ → HostRuns cs r es s'
    → {out : List ℕ} {code : ℕ} {out' : List ℕ} → HostWrote s' out code out' → saved_size (held_count s') ≤ length out
    → (k₁ : List ℕ) (timeout₁ m₁ tf₁ bf₁ : ℕ) (answer₁ z y none₁ : List ℕ) → FitsCall (Call.new k₁ timeout₁ m₁ tf₁ bf₁)
    → Called (Call.new k₁ timeout₁ m₁ tf₁ bf₁) answer₁ z 0 y none₁ → (table_of y).settings ≡ (table_of s').settings
    → {answer₂ : List ℕ} {code₂ : ℕ} {s'' none₂ : List ℕ} → Called (Call.read (put_out (held_count s') out')) answer₂ y code₂ s'' none₂
    → Survives s' (reply_of code) (answer_of (Call.read (put_out (held_count s') out')) code₂ none₂) s''
unfolding exported
export_survives k timeout m tf bf cs answer s r none₀ es s' h run runs {out} {out' = out'} wrote room k₁ timeout₁ m₁ tf₁ bf₁ answer₁ z y none₁ g made_new same {code₂ = code₂} {s''} {none₂} taken =
    let x = host_made k timeout m tf bf cs answer s r none₀ es s' h run runs in
    let n = sees made_new in
    let q = sees taken in
    let bs : List ℕ = put_out (held_count s') out' in
    moved _ s' (export_demand_3 k timeout m tf bf cs answer s r none₀ es s' h run runs) _ x.storage x.fits out (host_puts wrote) room k₁ timeout₁ m₁ tf₁ bf₁ z y g
    (new_accepted k₁ timeout₁ m₁ tf₁ bf₁ z n.code) n.storage same (answer_of (Call.read bs) code₂ none₂) s''
    (ap (λ (i : ℕ). answer_of (Call.read bs) i none₂) q.code ∙ load_read bs y none₂) q.storage
