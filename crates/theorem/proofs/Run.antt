-- What the log says of every list of calls that follows an accepted `new`: the places and the settings (01, "What the log says").
use Prim.Native.Nat.{ℕ}
use mathlib.Core.Path.{◌≡◌, sym, ap, ap₂, ◌∙◌, subst}
use mathlib.Core.Bool.{true, false}
use mathlib.Core.List.{List, [], ◌∷◌, ◌++◌, reverse}
use Rattle.model.specs.Key.{bucket_index}
use Rattle.model.specs.Node.{Node}
use Rattle.model.specs.Bucket.{nodes}
use Rattle.model.specs.Table.{Settings, Table, Answer}
use Rattle.model.specs.Call.{Call}
use Rattle.model.specs.Step.{step}
use Rattle.table_log.specs.Log.{Log, log_of, group, log_bucket}
use Rattle.table_log.specs.Claim.{table_after, entries}
use Rattle.theorem.proofs.Fold.{enter, read_from}
use Rattle.theorem.proofs.Call.{AllAgree, step_ok, new_ok}
use Rattle.theorem.proofs.Literal.{fold_literal}

-- the table agrees with the log, call after call
pub run_ok : (cs : List Call) (l : Log) (t : Table) → AllAgree l t → AllAgree (read_from l (entries cs t)) (table_after cs t)
run_ok [] l t s = s
run_ok (c ∷ cs) l t s = run_ok cs (enter c (step c t).answer (step c t).records l) (step c t).table (step_ok c l t s)

pub all_agree : (k : List ℕ) (timeout m tf bf : ℕ) (t : Table) (cs : List Call) → (step (Call.new k timeout m tf bf) t).answer ≡ Answer.New
    → AllAgree (log_of (reverse (entries (Call.new k timeout m tf bf ∷ cs) t))) (table_after (Call.new k timeout m tf bf ∷ cs) t)
all_agree k timeout m tf bf t cs e =
    let c : Call = Call.new k timeout m tf bf in
    subst (λ (l : Log). AllAgree l (table_after (c ∷ cs) t)) (fold_literal (entries (c ∷ cs) t)) (run_ok cs _ _ (new_ok k timeout m tf bf _ t e))

-- bucket i, place by place, is what the log says
pub places : (k : List ℕ) (timeout m tf bf : ℕ) (t : Table) (cs : List Call) → (step (Call.new k timeout m tf bf) t).answer ≡ Answer.New → (i : ℕ)
    → nodes ((table_after (Call.new k timeout m tf bf ∷ cs) t).buckets i) ≡ log_bucket (log_of (reverse (entries (Call.new k timeout m tf bf ∷ cs) t))) i
places k timeout m tf bf t cs e i =
    let z = all_agree k timeout m tf bf t cs e in
    let l : Log = log_of (reverse (entries (Call.new k timeout m tf bf ∷ cs) t)) in
    ap₂ (λ (x y : List Node). x ++ y) (z.each i).disc (z.each i).conn
    ∙ ap (λ (s : Settings). group (bucket_index s.local_key) l i false ++ group (bucket_index s.local_key) l i true) (sym z.settings_agree)

-- the settings are those given to the last accepted `new`
pub settings : (k : List ℕ) (timeout m tf bf : ℕ) (t : Table) (cs : List Call) → (step (Call.new k timeout m tf bf) t).answer ≡ Answer.New
    → (table_after (Call.new k timeout m tf bf ∷ cs) t).settings ≡ (log_of (reverse (entries (Call.new k timeout m tf bf ∷ cs) t))).settings
settings k timeout m tf bf t cs e = sym (all_agree k timeout m tf bf t cs e).settings_agree
