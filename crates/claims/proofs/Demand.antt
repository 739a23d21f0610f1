-- DEMAND 3 FOR THE CODE. For every list of the table's calls on storage that `new` has just made and that nobody else writes, refused
-- calls, `new` again and clocks that go back included: what the code leaves in every bucket is what the log says, within the limits
-- (`StorageClaim`, crates/table_log, specs/Claim). The log is fed what a host sees: the calls, what the code answered, and the records that it
-- finds in the queue behind those that were there before.
use Prim.Native.Nat.{ℕ}
use mathlib.Core.Path.{◌≡◌, refl, sym, ap, ap₂, ◌∙◌, subst, subst⁻¹}
use mathlib.Core.List.{List, ◌∷◌, reverse}
use Rattle.model.specs.Node.{EndedPending}
use Rattle.model.specs.Table.{Table, Answer}
use Rattle.model.specs.Call.{Call}
use Rattle.model.specs.Step.{step}
use Rattle.model.specs.Layout.{bytes_of, table_of}
use Rattle.model.specs.StepBytes.{step_bytes}
use Rattle.model.specs.Fits.{All, Fits, FitsCall}
use Rattle.laws.proofs.KeepStep.{step_fits, new_fits}
use Rattle.laws.proofs.TableBytes.{table_there, formed_there}
use Rattle.laws.proofs.TableStep.{step_bytes_lem, new_bytes}
use Rattle.table_log.specs.Log.{Entry}
use Rattle.table_log.specs.Claim.{Claim, StorageClaim, table_after, entries}
use Rattle.items.specs.Lists.{Lists}
use Rattle.theorem.proofs.Theorem.{theorem}
use Rattle.claims.specs.Ran.{Ran}
use Rattle.claims.specs.Runs.{behind, fed, Runs}
use Rattle.claims.proofs.Records.{records_behind}
use Rattle.claims.proofs.Ran.{equation}

-- the runs come to what the model's steps come to
pub record Followed (cs : List Call) (t : Table) (es : List Entry) (s' : List ℕ) : Type 0 where
  pub log : es ≡ entries cs t
  pub storage : s' ≡ bytes_of (table_after cs t)
  pub fits : Fits (table_after cs t)

-- what is fed of one run, where the storage before holds t and the storage after is that of the model's step
pub fed_step : (c : Call) (s : List ℕ) (t : Table) (a : Answer) (r : List ℕ) → table_of s ≡ t → table_of r ≡ (step c t).table → a ≡ (step c t).answer
    → fed c s a r ≡ record { call = c; answer = (step c t).answer; records = (step c t).records }
fed_step c s t a r e f g =
    ap₂ (λ (x : Answer) (rs : List EndedPending). record { call = c; answer = x; records = rs }) g
    (ap₂ (λ (x y : Table). behind x.queue y.queue) e f ∙ records_behind c t)

pub followed : (cs : List Call) (t : Table) (s : List ℕ) (es : List Entry) (s' : List ℕ) → All FitsCall cs → Fits t → s ≡ bytes_of t → Runs cs s es s'
    → Followed cs t es s'
followed _ t s _ _ h f e Runs.none = record { log = refl; storage = e; fits = f }
followed _ t s _ s' h f e (Runs.next {c} {cs} {a = a} {r} {out'} {es} run runs) =
    let q : Lists a r out' (step_bytes c (bytes_of t)) = subst (λ (x : List ℕ). Lists a r out' (step_bytes c x)) e (equation run) in
    let o = step_bytes_lem c t h.0 f in
    let g = step_fits c t h.0 f in
    let left : r ≡ bytes_of (step c t).table = q.storage ∙ o.storage in
    let k = followed cs (step c t).table r es s' h.1 g left runs in
    record {
      log =
          ap₂ (λ (x : Entry) (xs : List Entry). x ∷ xs)
          (fed_step c s t a r (ap table_of e ∙ table_there t f) (ap table_of left ∙ table_there (step c t).table g) (q.answer ∙ o.answer)) k.log;
      storage = k.storage;
      fits = k.fits;
    }

-- The code's `new` answered New on whatever bytes s, then the calls cs followed.
pub made : (k : List ℕ) (timeout m tf bf : ℕ) (cs : List Call) (s r out' : List ℕ) (es : List Entry) (s' : List ℕ)
    → All FitsCall (Call.new k timeout m tf bf ∷ cs)
    → Ran (Call.new k timeout m tf bf) s Answer.New r out' → Runs cs r es s'
    → Followed (Call.new k timeout m tf bf ∷ cs) (table_of s) (fed (Call.new k timeout m tf bf) s Answer.New r ∷ es) s'
    × ((step (Call.new k timeout m tf bf) (table_of s)).answer ≡ Answer.New)
made k timeout m tf bf cs s r out' es s' h run runs =
    let c : Call = Call.new k timeout m tf bf in
    let q = equation run in
    let t : Table = table_of s in
    let o = new_bytes k timeout m tf bf s h.0 (sym q.answer) in
    let g = new_fits k timeout m tf bf t h.0 o.1 in
    let left : r ≡ bytes_of (step c t).table = q.storage ∙ o.0.storage in
    let f = followed cs (step c t).table r es s' h.1 g left runs in (
      record {
        log =
            ap₂ (λ (x : Entry) (xs : List Entry). x ∷ xs)
            (fed_step c s t Answer.New r refl (ap table_of left ∙ table_there (step c t).table g) (q.answer ∙ o.0.answer)) f.log;
        storage = f.storage;
        fits = f.fits;
      },
      sym (q.answer ∙ o.0.answer),
    )

pub demand_3 : (k : List ℕ) (timeout m tf bf : ℕ) (cs : List Call) (s r out' : List ℕ) (es : List Entry) (s' : List ℕ)
    → All FitsCall (Call.new k timeout m tf bf ∷ cs)
    → Ran (Call.new k timeout m tf bf) s Answer.New r out' → Runs cs r es s'
    → StorageClaim (reverse (fed (Call.new k timeout m tf bf) s Answer.New r ∷ es)) s'
demand_3 k timeout m tf bf cs s r out' es s' h run runs =
    let c : Call = Call.new k timeout m tf bf in
    let t : Table = table_of s in
    let z = made k timeout m tf bf cs s r out' es s' h run runs in
    let f = z.0 in
    let claim : Claim (reverse (entries (c ∷ cs) t)) (table_after (c ∷ cs) t) = theorem k timeout m tf bf cs t z.1 in
    subst⁻¹ (λ (x : List Entry). StorageClaim (reverse x) s') f.log
    (subst⁻¹ (λ (x : List ℕ). StorageClaim (reverse (entries (c ∷ cs) t)) x) f.storage
    (record {
      table = subst⁻¹ (λ (x : Table). Claim (reverse (entries (c ∷ cs) t)) x) (table_there (table_after (c ∷ cs) t) f.fits) claim;
      well_formed = formed_there (table_after (c ∷ cs) t) f.fits;
    }))
