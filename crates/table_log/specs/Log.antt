-- The log (01, "What the log says"), read word for word. It is fed each call's arguments, its answer and the records that it adds to
-- the queue, and reads no bucket.
use Rattle.std.specs.Prelude.{ℕ, suc, Bool, true, false, cond, ◌&&◌, ◌||◌, List, [], ◌∷◌, ◌++◌, length}
use Rattle.std.specs.Bool.{beq}
use Rattle.std.proofs.Math.Option.{Option, none, some}
use Rattle.model.specs.Base.{same, is_some, given}
use Rattle.model.specs.Bytes.{number}
use Rattle.model.specs.Key.{bucket_index}
use Rattle.model.specs.Value.{Value}
use Rattle.model.specs.Node.{Node, Ending, EndedPending}
use Rattle.model.specs.Result.{InsertResult, is_inserted, is_failed}
use Rattle.model.specs.Table.{Settings, Answer}
use Rattle.model.specs.Call.{Call, KeyCall, is_one, optional, value_of}
use Rattle.model.specs.Step.{settings_of}
use Rattle.model.specs.Formed.{is_at}
use Rattle.model.specs.Saved.{loaded_nodes}

-- what the log is fed of one call
pub record Entry : Type 0 where
  pub call : Call
  pub answer : Answer
  pub records : List EndedPending

-- What the log reads of an answer: that the call was refused; any Failed answer; remove answering true; Inserted.
pub record Verdict : Type 0 where
  pub refused : Bool
  pub failed : Bool
  pub removed : Bool
  pub inserted : Bool

abbrev pub says : (refused failed removed inserted : Bool) → Verdict
says r f m i = record { refused = r; failed = f; removed = m; inserted = i }

abbrev pub insert_verdict : InsertResult → Verdict
insert_verdict InsertResult.Inserted = says false false false true
insert_verdict (InsertResult.Pending k) = says false false false false
insert_verdict (InsertResult.StatusUpdated p) = says false false false false
insert_verdict InsertResult.ValueUpdated = says false false false false
insert_verdict (InsertResult.Updated p) = says false false false false
insert_verdict InsertResult.UpdatedPending = says false false false false
insert_verdict (InsertResult.Failed r) = says false true false false

abbrev pub verdict : Answer → Verdict
verdict (Answer.Refused n) = says true false false false
verdict Answer.New = says false false false false
verdict (Answer.Update r) = says false (is_failed r) false false
verdict (Answer.InsertOrUpdate r) = says false (insert_verdict r).failed false (insert_verdict r).inserted
verdict (Answer.Insert r) = says false false false (is_inserted r)
verdict (Answer.Remove r) = says false false r false
verdict (Answer.Entry k) = says false false false false
verdict (Answer.Found n) = says false false false false
verdict (Answer.TakeAppliedPending r) = says false false false false
verdict (Answer.Read n) = says false false false false

abbrev pub is_refused : Answer → Bool
is_refused a = (verdict a).refused

abbrev pub answers_failed : Answer → Bool
answers_failed a = (verdict a).failed

abbrev pub answers_removed : Answer → Bool
answers_removed a = (verdict a).removed

abbrev pub answers_inserted : Answer → Bool
answers_inserted a = (verdict a).inserted

-- Departure: any Failed answer for the key; remove answering true.
abbrev pub departs : Answer → Bool
departs a = answers_failed a || answers_removed a

-- What a call that names a key has: a status step or none, and the state, the direction and the value that it gives.
pub record Naming : Type 0 where
  pub status_step : Bool
  pub connected : Option Bool
  pub incoming : Option Bool
  pub value : Option Value

-- What a call has to do with the log: it names a key; or it is `new`; or it loads nodes (02, slip 6); or it names no key.
pub data Role : Type 0 where
  names : (key : ℕ) → Naming → Role
  empties : Settings → Role
  loads : List Node → Role
  silent : Role

abbrev pub gives : (status_step : Bool) (connected incoming : Option Bool) (value : Option Value) → Naming
gives step u d v = record { status_step = step; connected = u; incoming = d; value = v }

-- A status step belongs to every insert_or_update, update_node_status and Present update, and to update_node given a state.
abbrev pub naming : KeyCall → Naming
naming (KeyCall.update_node_status st dr now) = gives true (some (is_one st)) (optional dr) none
naming (KeyCall.update_node v st now) = gives (is_some (optional st)) (optional st) none (some (value_of v))
naming (KeyCall.insert_or_update v st dr now hs) = gives true (some (is_one st)) (some (is_one dr)) (some (value_of v))
naming (KeyCall.remove now) = gives false none none none
naming (KeyCall.entry now) = gives false none none none
naming (KeyCall.present_update st dr) = gives true (some (is_one st)) (optional dr) none
naming (KeyCall.pending_update st dr) = gives false (some (is_one st)) (some (is_one dr)) none
naming (KeyCall.absent_insert v st dr now hs) = gives false (some (is_one st)) (some (is_one dr)) (some (value_of v))

abbrev pub role : Call → Role
role (Call.new k timeout m tf bf) = Role.empties (settings_of (number k) timeout m tf bf)
role (Call.on_key k c) = Role.names (number k) (naming c)
role (Call.list l n now out) = Role.silent
role Call.take_applied_pending = Role.silent
role (Call.read bs) = Role.loads (loaded_nodes bs)

-- Events, newest first.
pub data Event : Type 0 where
  placement : ℕ → Event
  departure : ℕ → Event

-- A key is held in the log when its last event is a placement.
abbrev pub held_now : ℕ → List Event → Bool
held_now k [] = false
held_now k (Event.placement x ∷ es) = cond (same x k) true (held_now k es)
held_now k (Event.departure x ∷ es) = cond (same x k) false (held_now k es)

abbrev pub eviction_events : Option Node → List Event → List Event
eviction_events none es = es
eviction_events (some n) es = Event.departure n.key ∷ es

-- The records' events come first, oldest record first: an eviction is a departure, the applied key a placement. 02, slip 4: only placed
-- records are placements.
abbrev pub ending_events : ℕ → Ending → List Event → List Event
ending_events k (Ending.Placed n) es = Event.placement k ∷ eviction_events n es
ending_events k Ending.FirstConnected es = es
ending_events k Ending.BucketFilter es = es
ending_events k Ending.TooManyIncoming es = es
ending_events k Ending.Inserted es = es
ending_events k Ending.FirstConfirmed es = es

abbrev pub record_events : List EndedPending → List Event → List Event
record_events [] es = es
record_events (r ∷ rs) es = record_events rs (ending_events r.key r.ending es)

-- 02, slip 6: loaded nodes count as placed in the order read
abbrev pub load_events : List Node → List Event → List Event
load_events [] es = es
load_events (n ∷ ns) es = load_events ns (Event.placement n.key ∷ es)

-- Then come the call's own. Placement: Inserted; on a held key (held after the records: docs/DECISIONS.md, 10), a status step in a call
-- that does not answer Failed.
abbrev pub own_events : Role → Answer → List Event → List Event
own_events (Role.names k n) a es =
    cond (departs a) (Event.departure k ∷ es) (cond (answers_inserted a || (n.status_step && held_now k es)) (Event.placement k ∷ es) es)
own_events (Role.empties s) a es = []
own_events (Role.loads ns) a es = load_events ns es
own_events Role.silent a es = es

-- The log starts empty; a further accepted `new` empties it; a refused call enters nothing. A history is the entries, newest first.
abbrev pub events : List Entry → List Event
events [] = []
events (e ∷ h) = cond (is_refused e.answer) (events h) (own_events (role e.call) e.answer (record_events e.records (events h)))

-- 02, slip 6: loaded nodes count as given the state, direction and value read
abbrev pub given_of : Node → Naming
given_of n = gives false (some n.connected) (some n.incoming) (some n.value)

abbrev pub load_given : {A : Type 0} → (Naming → Option A) → List Node → ℕ → A → A
load_given pick [] x before = before
load_given pick (n ∷ ns) x before = load_given pick ns x (cond (same x n.key) (given (pick (given_of n)) before) before)

-- The last given in a call that names the key and is neither refused nor answered Failed. `pick` takes the state, the direction or
-- the value of what a call gives.
abbrev pub now_given : {A : Type 0} → (Naming → Option A) → A → Role → Answer → ℕ → A → A
now_given pick first (Role.names k n) a x before = cond (answers_failed a) before (cond (same x k) (given (pick n) before) before)
now_given pick first (Role.empties s) a x before = first
now_given pick first (Role.loads ns) a x before = load_given pick ns x before
now_given pick first Role.silent a x before = before

abbrev pub last_given : {A : Type 0} → (Naming → Option A) → A → ℕ → List Entry → A
last_given pick first x [] = first
last_given pick first x (e ∷ h) =
    cond (is_refused e.answer) (last_given pick first x h) (now_given pick first (role e.call) e.answer x (last_given pick first x h))

-- The settings are those given to the last accepted `new`.
abbrev pub now_settings : Role → Settings → Settings
now_settings (Role.names k n) before = before
now_settings (Role.empties s) before = s
now_settings (Role.loads ns) before = before
now_settings Role.silent before = before

abbrev pub last_settings : Settings → List Entry → Settings
last_settings s [] = s
last_settings s (e ∷ h) = cond (is_refused e.answer) (last_settings s h) (now_settings (role e.call) (last_settings s h))

abbrev pub without : ℕ → List ℕ → List ℕ
without k [] = []
without k (x ∷ xs) = cond (same x k) (without k xs) (x ∷ without k xs)

-- The held keys in the order of their last placements (crates/theorem, Literal: this list and no other).
abbrev pub held_order : List Event → List ℕ
held_order [] = []
held_order (Event.placement k ∷ es) = without k (held_order es) ++ (k ∷ [])
held_order (Event.departure k ∷ es) = without k (held_order es)

-- when the key's last placement was
abbrev pub last_placement : ℕ → List Event → ℕ
last_placement k [] = 0
last_placement k (Event.placement x ∷ es) = cond (same x k) (suc (length es)) (last_placement k es)
last_placement k (Event.departure x ∷ es) = last_placement k es

-- What the log says: the settings, the held keys, and the state, direction and value of each key.
pub record Log : Type 0 where
  pub settings : Settings
  pub held : List ℕ
  pub connected : ℕ → Bool
  pub incoming : ℕ → Bool
  pub value : ℕ → Value

abbrev pub no_settings : Settings
no_settings = record { local_key = 0; bucket = record { pending_timeout = 0; max_incoming = 0; filter = false }; table_filter = false }

abbrev pub no_value : Value
no_value = record { address = none; slot = 0 }

abbrev pub log_of : List Entry → Log
log_of h =
    record {
      settings = last_settings no_settings h;
      held = held_order (events h);
      connected = λ k. last_given (λ n. n.connected) false k h;
      incoming = λ k. last_given (λ n. n.incoming) false k h;
      value = λ k. last_given (λ n. n.value) no_value k h;
    }

-- what the log says of a key
abbrev pub node_of : Log → ℕ → Node
node_of l k = record { key = k; value = l.value k; connected = l.connected k; incoming = l.incoming k }

abbrev pub collect : (ℕ → Bool) → (ℕ → Node) → List ℕ → List Node
collect p f [] = []
collect p f (k ∷ ks) = cond (p k) (f k ∷ collect p f ks) (collect p f ks)

-- the held keys of index i in one state, in the order of last placements, each with the log's state, direction and value
unfoldable pub group : (ℕ → Option ℕ) → Log → ℕ → Bool → List Node
group index l i u = collect (λ k. is_at (index k) i && beq (l.connected k) u) (node_of l) l.held

-- Bucket i: disconnected first, then connected.
abbrev pub log_bucket : Log → ℕ → List Node
log_bucket l i = group (bucket_index l.settings.local_key) l i false ++ group (bucket_index l.settings.local_key) l i true
