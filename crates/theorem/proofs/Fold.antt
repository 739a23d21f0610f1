-- The log worked out entry by entry, oldest first. Literal shows that it is `log_of`.
use Prim.Native.Nat.{ℕ}
use mathlib.Core.Bool.{Bool, false, cond, ◌&&◌, ◌||◌}
use mathlib.Core.List.{List, [], ◌∷◌, ◌++◌}
use mathlib.Core.Option.{Option, none, some}
use Rattle.model.specs.Base.{same, at}
use Rattle.model.specs.Value.{Value}
use Rattle.model.specs.Node.{Node, Ending, EndedPending}
use Rattle.model.specs.Table.{Settings, Answer}
use Rattle.model.specs.Call.{Call}
use Rattle.table_log.specs.Log.{Log, Entry, Naming, Role, role, is_refused, answers_failed, answers_removed, answers_inserted, given_of, without, no_settings, no_value}

abbrev pub mem : ℕ → List ℕ → Bool
mem k [] = false
mem k (x ∷ xs) = same x k || mem k xs

abbrev pub fresh : Settings → Log
fresh s = record { settings = s; held = []; connected = λ k. false; incoming = λ k. false; value = λ k. no_value }

abbrev pub with_held : List ℕ → Log → Log
with_held ks l = record { settings = l.settings; held = ks; connected = l.connected; incoming = l.incoming; value = l.value }

-- the two events
abbrev pub depart : ℕ → Log → Log
depart k l = with_held (without k l.held) l

abbrev pub place : ℕ → Log → Log
place k l = with_held (without k l.held ++ (k ∷ [])) l

abbrev pub evict : Option Node → Log → Log
evict none l = l
evict (some n) l = depart n.key l

-- only a placed record enters
abbrev pub enter_ending : ℕ → Ending → Log → Log
enter_ending k (Ending.Placed n) l = place k (evict n l)
enter_ending k Ending.FirstConnected l = l
enter_ending k Ending.BucketFilter l = l
enter_ending k Ending.TooManyIncoming l = l
enter_ending k Ending.Inserted l = l
enter_ending k Ending.FirstConfirmed l = l

abbrev pub enter_records : List EndedPending → Log → Log
enter_records [] l = l
enter_records (r ∷ rs) l = enter_records rs (enter_ending r.key r.ending l)

-- what a call gives, each by itself
abbrev pub at_given : {A : Type 0} → ℕ → Option A → (ℕ → A) → ℕ → A
at_given k none f = f
at_given k (some a) f = at k a f

abbrev pub give : ℕ → Option Bool → Option Bool → Option Value → Log → Log
give k u d v l =
    record { settings = l.settings; held = l.held; connected = at_given k u l.connected; incoming = at_given k d l.incoming; value = at_given k v l.value }

abbrev pub gave_by : ℕ → Naming → Log → Log
gave_by k n l = give k n.connected n.incoming n.value l

-- loaded nodes, in the order read
abbrev pub enter_loaded : List Node → Log → Log
enter_loaded [] l = l
enter_loaded (n ∷ ns) l = enter_loaded ns (place n.key (gave_by n.key (given_of n) l))

abbrev pub enter_role : Role → Answer → Log → Log
enter_role (Role.names k n) a l =
    cond (answers_failed a) (depart k l)
    (cond (answers_removed a) (depart k (gave_by k n l)) (cond (answers_inserted a || (n.status_step && mem k l.held)) (place k (gave_by k n l)) (gave_by k n l)))
enter_role (Role.empties s) a l = fresh s
enter_role (Role.loads ns) a l = enter_loaded ns l
enter_role Role.silent a l = l

unfoldable pub enter : Call → Answer → List EndedPending → Log → Log
enter c a rs l = cond (is_refused a) l (enter_role (role c) a (enter_records rs l))

abbrev pub read_from : Log → List Entry → Log
read_from l [] = l
read_from l (e ∷ es) = read_from (enter e.call e.answer e.records l) es

-- the entries, oldest first
abbrev pub fold_of : List Entry → Log
fold_of es = read_from (fresh no_settings) es
