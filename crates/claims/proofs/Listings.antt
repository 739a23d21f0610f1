-- THE CLOSEST LIST OF THE CODE: of each of the three closest calls, accepted, on any storage that is well formed throughout (02, slip 7).
use Prim.Native.Nat.{ℕ}
use mathlib.Core.Path.{◌≡◌, sym, ap, ◌∙◌}
use mathlib.Core.Bool.{true, false}
use mathlib.Core.List.{List}
use mathlib.Core.Option.{some}
use Rattle.model.specs.Bytes.{Bytes}
use Rattle.model.specs.Table.{Answer}
use Rattle.model.specs.Call.{Listing, Call}
use Rattle.model.specs.Formed.{formed}
use Rattle.table_log.specs.Log.{is_refused}
use Rattle.table_log.specs.Closest.{target, ClosestClaim}
use Rattle.theorem.proofs.Theorem.{theorem_closest}
use Rattle.claims.specs.Ran.{Ran}
use Rattle.claims.specs.Runs.{ClosestList}
use Rattle.claims.proofs.Ran.{equation}

-- x is the target of the call
pub closest_list : {l : Listing} {n time : ℕ} {out s : List ℕ} {a : Answer} {s' out' : List ℕ} → Ran (Call.list l n time out) s a s' out' → (x : List ℕ)
    → target l ≡ some x → Bytes s → formed s ≡ true → is_refused a ≡ false → ClosestList l x n time out s a out'
closest_list {l} {n} {time} {out} {s} run x e b f h =
    let r = equation run in
    let c : ClosestClaim l x n time out s = theorem_closest l x n time out s e b f (sym (ap is_refused r.answer) ∙ h) in
    record { answer = r.answer ∙ c.answer; output = r.output ∙ c.output; sorted = c.sorted; all_there = c.all_there }
