-- What the records of a call enter in the log: only a placed one enters something, and the call's own step places none (02, slip 4).
use Prim.Native.Nat.{ℕ}
use mathlib.Core.Path.{◌≡◌, refl, ◌∙◌}
use mathlib.Core.Bool.{Bool, false, ◌&&◌}
use mathlib.Core.List.{List, [], ◌∷◌, ◌++◌}
use mathlib.Core.Option.{Option, none, some}
use Rattle.model.specs.Value.{Value}
use Rattle.model.specs.Node.{Node, PendingNode, Ending, EndedPending, is_placed, ended_if}
use Rattle.model.specs.Result.{BucketInsertResult, is_inserted, is_failed}
use Rattle.model.specs.Bucket.{Bucket, BucketSettings, nodes, holds, of_key, insert, insert_endings, is_first, status_endings, update_value}
use Rattle.model.specs.Table.{given_status_endings, update_node_endings, insert_or_update_endings}
use Rattle.laws.proofs.Tests.{clash, cases}
use Rattle.table_log.specs.Log.{Log, without}
use Rattle.theorem.proofs.Fold.{enter_ending, enter_records}
use Rattle.theorem.proofs.Keys.{Distinct, distinct_without, distinct_placed}

-- records enter neither a key twice nor settings
ending_distinct : (k : ℕ) (e : Ending) (l : Log) → Distinct l.held → Distinct (enter_ending k e l).held
ending_distinct k (Ending.Placed none) l d = distinct_placed k l.held d
ending_distinct k (Ending.Placed (some n)) l d = distinct_placed k (without n.key l.held) (distinct_without n.key l.held d)
ending_distinct k Ending.FirstConnected l d = d
ending_distinct k Ending.BucketFilter l d = d
ending_distinct k Ending.TooManyIncoming l d = d
ending_distinct k Ending.Inserted l d = d
ending_distinct k Ending.FirstConfirmed l d = d

pub records_distinct : (rs : List EndedPending) (l : Log) → Distinct l.held → Distinct (enter_records rs l).held
records_distinct [] l d = d
records_distinct (r ∷ rs) l d = records_distinct rs (enter_ending r.key r.ending l) (ending_distinct r.key r.ending l d)

ending_settings : (k : ℕ) (e : Ending) (l : Log) → (enter_ending k e l).settings ≡ l.settings
ending_settings k (Ending.Placed none) l = refl
ending_settings k (Ending.Placed (some n)) l = refl
ending_settings k Ending.FirstConnected l = refl
ending_settings k Ending.BucketFilter l = refl
ending_settings k Ending.TooManyIncoming l = refl
ending_settings k Ending.Inserted l = refl
ending_settings k Ending.FirstConfirmed l = refl

pub records_settings : (rs : List EndedPending) (l : Log) → (enter_records rs l).settings ≡ l.settings
records_settings [] l = refl
records_settings (r ∷ rs) l = records_settings rs (enter_ending r.key r.ending l) ∙ ending_settings r.key r.ending l

pub records_append : (xs ys : List EndedPending) (l : Log) → enter_records (xs ++ ys) l ≡ enter_records ys (enter_records xs l)
records_append [] ys l = refl
records_append (x ∷ xs) ys l = records_append xs ys (enter_ending x.key x.ending l)

-- records that enter nothing
abbrev pub Quiet : List EndedPending → Type 0
Quiet rs = (l : Log) → enter_records rs l ≡ l

pub nothing_quiet : Quiet []
nothing_quiet l = refl

unplaced_quiet : (k : ℕ) (e : Ending) (l : Log) → is_placed e ≡ false → enter_ending k e l ≡ l
unplaced_quiet k (Ending.Placed n) l h = clash refl h
unplaced_quiet k Ending.FirstConnected l h = refl
unplaced_quiet k Ending.BucketFilter l h = refl
unplaced_quiet k Ending.TooManyIncoming l h = refl
unplaced_quiet k Ending.Inserted l h = refl
unplaced_quiet k Ending.FirstConfirmed l h = refl

ended_quiet : (e : Ending) (p : Option PendingNode) → is_placed e ≡ false → Quiet (ended_if e p)
ended_quiet e none h l = refl
ended_quiet e (some p) h l = unplaced_quiet p.node.key e l h

-- the records of a call's own step
pub status_quiet : (k : ℕ) (u : Bool) (b : Bucket) → Quiet (status_endings k u b)
status_quiet k u b = cases Quiet (u && is_first k (nodes b)) (λ _. ended_quiet Ending.FirstConfirmed b.pending refl) (λ _. nothing_quiet)

pub insert_quiet : (n : Node) (b : Bucket) (r : BucketInsertResult) → Quiet (insert_endings n b r)
insert_quiet n b r = cases Quiet (is_inserted r) (λ _. ended_quiet Ending.Inserted (of_key n.key b.pending) refl) (λ _. nothing_quiet)

given_quiet : (k : ℕ) (u : Option Bool) (b : Bucket) → Quiet (given_status_endings k u b)
given_quiet k none b = nothing_quiet
given_quiet k (some u) b = status_quiet k u b

pub update_node_quiet : (s : BucketSettings) (fails : Bool) (k : ℕ) (v : Value) (u : Option Bool) (b : Bucket) → Quiet (update_node_endings s fails k v u b)
update_node_quiet s fails k v u b =
    cases Quiet fails (λ _. nothing_quiet)
    (λ _. cases Quiet (is_failed (update_value s k v b).0) (λ _. nothing_quiet) (λ _. given_quiet k u (update_value s k v b).1))

pub insert_or_update_quiet : (s : BucketSettings) (fails : Bool) (now : ℕ) (n : Node) (b : Bucket) → Quiet (insert_or_update_endings s fails now n b)
insert_or_update_quiet s fails now n b =
    cases Quiet fails (λ _. nothing_quiet)
    (λ _. cases Quiet (holds n.key b) (λ _. status_quiet n.key n.connected b) (λ _. insert_quiet n b (insert s now n b).0))

-- they add nothing to what the applied pending enters
pub quiet : (rs own : List EndedPending) (l : Log) → Quiet own → enter_records (rs ++ own) l ≡ enter_records rs l
quiet rs own l q = records_append rs own l ∙ q (enter_records rs l)
