-- THE THEOREMS. Demand 3: for every list of calls that follows an accepted `new`, refused calls, further `new` calls, reads and clocks that go
-- back included, every bucket, place by place, is what the log says, and the limits hold. The log reads calls, answers and records, and
-- no bucket. Then the closest list, and what became of pendings. The statements are those of crates/table_log, specs/Claim, Closest and Pending.
use Prim.Native.Nat.{ℕ}
use mathlib.Core.Path.{◌≡◌}
use mathlib.Core.Bool.{true, false}
use mathlib.Core.List.{List, ◌∷◌, reverse}
use mathlib.Core.Option.{some}
use Rattle.model.specs.Bytes.{Bytes}
use Rattle.model.specs.Table.{Table, Answer}
use Rattle.model.specs.Call.{Listing, Call}
use Rattle.model.specs.Step.{step}
use Rattle.model.specs.Formed.{formed}
use Rattle.model.specs.StepBytes.{step_bytes}
use Rattle.table_log.specs.Log.{is_refused}
use Rattle.table_log.specs.Claim.{Claim, table_after, entries}
use Rattle.table_log.specs.Closest.{ClosestClaim, target}
use Rattle.table_log.specs.Pending.{Conserved, due_ended, one_record}
use Rattle.theorem.proofs.Run
use Rattle.theorem.proofs.Net
use Rattle.theorem.proofs.Limits
use Rattle.theorem.proofs.Closest
use Rattle.theorem.proofs.Due
use Rattle.theorem.proofs.Balance

-- on the table; for the code, on its storage: crates/claims, Demand
pub theorem : (k : List ℕ) (timeout m tf bf : ℕ) (cs : List Call) (t : Table)
    → (step (Call.new k timeout m tf bf) t).answer ≡ Answer.New
    → Claim (reverse (entries (Call.new k timeout m tf bf ∷ cs) t)) (table_after (Call.new k timeout m tf bf ∷ cs) t)
theorem k timeout m tf bf cs t e =
    record {
      places = Run.places k timeout m tf bf t cs e;
      settings = Run.settings k timeout m tf bf t cs e;
      at_most_16 = Limits.at_most_16 k timeout m tf bf t cs e;
      incoming_within = Limits.incoming_within k timeout m tf bf t cs e;
      two_of_a_net = Net.two_of_a_net k timeout m tf bf t cs e;
      queue_within = Limits.queue_within k timeout m tf bf t cs e;
    }

-- the closest list of each of the three closest calls, accepted, on any storage that is well formed throughout
pub theorem_closest : (l : Listing) (x : List ℕ) (n now : ℕ) (out s : List ℕ) → target l ≡ some x → Bytes s → formed s ≡ true
    → is_refused (step_bytes (Call.list l n now out) s).answer ≡ false
    → ClosestClaim l x n now out s
theorem_closest = Closest.closest

-- inserts that answered Pending equal endings recorded plus pendings still waiting
pub theorem_conserved : (k : List ℕ) (timeout m tf bf : ℕ) (cs : List Call) (t : Table)
    → (step (Call.new k timeout m tf bf) t).answer ≡ Answer.New
    → Conserved (reverse (entries (Call.new k timeout m tf bf ∷ cs) t)) (table_after (Call.new k timeout m tf bf ∷ cs) t)
theorem_conserved = Balance.conserved

-- an accepted call ends what is due in the buckets that it applies, on any table
pub theorem_due : (c : Call) (t : Table) → is_refused (step c t).answer ≡ false → due_ended c t (step c t).records ≡ true
theorem_due = Due.ended_due

-- no call but a listing leaves more than one record, on any table
pub theorem_one : (c : Call) (t : Table) → one_record c (step c t).records ≡ true
theorem_one = Due.single_record
