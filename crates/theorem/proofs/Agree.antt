-- A bucket agrees with the log.
use Prim.Native.Nat.{ℕ, ◌≤◌, ◌<◌}
use mathlib.Core.Path.{◌≡◌, refl, sym, ap, ap₂, ◌∙◌, subst⁻¹, subst₂}
use mathlib.Core.Bool.{Bool, true, false, cond, ◌&&◌, beq}
use mathlib.Core.List.{List, [], ◌∷◌, ◌++◌}
use mathlib.Core.Option.{Option, none, some}
use native.Mathlib.Omega.{arith}
use Rattle.model.specs.Base.{same}
use Rattle.model.specs.Node.{Node, PendingNode}
use Rattle.model.specs.Bucket.{Bucket, max_nodes_per_bucket, find, or_else, get, omit, take_out, put, with_pending, cleared, num_entries}
use Rattle.model.specs.Formed.{is_at}
use Rattle.laws.proofs.Tests.{same_self, same_true, same_sym, clash, cases, split}
use Rattle.table_log.specs.Log.{Log, node_of, collect, group, without}
use Rattle.theorem.proofs.Fold.{mem, depart, place}
use Rattle.theorem.proofs.Keys.{mem_append, mem_without_other, without_absent}
use Rattle.theorem.proofs.Groups.{collect_append, collect_other, collect_without, find_collect}
use Rattle.laws.proofs.KeepLists.{length_omit}
use Rattle.laws.proofs.KeepFormed.{count_put}

-- of index i and in state u
abbrev pub chosen : (ℕ → Option ℕ) → ℕ → Bool → (ℕ → Node) → ℕ → Bool
chosen ix i u f k = is_at (ix k) i && beq (f k).connected u

-- the pending is of index i, not held, and with what the log says of its key
abbrev pub PendingAgrees : (ℕ → Option ℕ) → Log → ℕ → Option PendingNode → Type 0
PendingAgrees ix l i none = Unit {0}
PendingAgrees ix l i (some p) = (ix p.node.key ≡ some i) × (mem p.node.key l.held ≡ false) × (p.node ≡ node_of l p.node.key)

-- the pending is of another key
abbrev pub NotPending : ℕ → Option PendingNode → Type 0
NotPending k none = Unit {0}
NotPending k (some p) = same p.node.key k ≡ false

-- Bucket b is what the log says of index i. ix: the index of a key.
pub record Agree (ix : ℕ → Option ℕ) (l : Log) (i : ℕ) (b : Bucket) : Type 0 where
  pub disc : b.disconnected ≡ group ix l i false
  pub conn : b.connected ≡ group ix l i true
  pub pend : PendingAgrees ix l i b.pending
  pub room : num_entries b ≤ max_nodes_per_bucket

-- two logs that differ at one key only
pub record Only (k : ℕ) (l l' : Log) : Type 0 where
  pub same_nodes : (x : ℕ) → same x k ≡ false → node_of l' x ≡ node_of l x
  pub same_held : without k l'.held ≡ without k l.held

pub Only_refl : (k : ℕ) (l : Log) → Only k l l
Only_refl k l = record { same_nodes = λ x e. refl; same_held = refl }

pub group_only : (ix : ℕ → Option ℕ) (i : ℕ) (u : Bool) (k : ℕ) (l l' : Log) → Only k l l'
    → collect (chosen ix i u (node_of l')) (node_of l') (without k l'.held) ≡ omit k (group ix l i u)
unfolding group
group_only ix i u k l l' o =
    ap (collect (chosen ix i u (node_of l')) (node_of l')) o.same_held
    ∙ collect_other (chosen ix i u (node_of l)) (chosen ix i u (node_of l')) (node_of l) (node_of l') k l.held
    (λ x e. ap (λ (n : Node). is_at (ix x) i && beq n.connected u) (o.same_nodes x e)) o.same_nodes
    ∙ collect_without (chosen ix i u (node_of l)) (node_of l) (λ x. refl) k l.held

pub pending_other : (ix : ℕ → Option ℕ) (i k : ℕ) (l l' l'' : Log) → Only k l l' → (hs : (x : ℕ) → same x k ≡ false → mem x l''.held ≡ mem x (without k l'.held))
    → ((x : ℕ) → node_of l'' x ≡ node_of l' x)
    → (p : Option PendingNode) → PendingAgrees ix l i p → NotPending k p → PendingAgrees ix l'' i p
pending_other ix i k l l' l'' o hs hn none w nw = tt
pending_other ix i k l l' l'' o hs hn (some p) w nw = (
  w.0,
  hs p.node.key nw ∙ ap (mem p.node.key) o.same_held ∙ mem_without_other k p.node.key l.held nw ∙ w.1,
  w.2 ∙ sym (o.same_nodes p.node.key nw) ∙ sym (hn p.node.key),
)

pub count_take_out : (k : ℕ) (b : Bucket) → num_entries (take_out k b) ≤ num_entries b
count_take_out k b = let g = length_omit k b.disconnected in let h = length_omit k b.connected in omega arith

-- what the bucket holds of a key of its index, the log says
pub get_agree : (ix : ℕ → Option ℕ) (l : Log) (i k : ℕ) (b : Bucket) → Agree ix l i b → ix k ≡ some i
    → get k b ≡ cond (mem k l.held) (some (node_of l k)) none
unfolding group
get_agree ix l i k b a h =
    ap₂ (λ (s t : List Node). or_else (find k s) (find k t)) a.disc a.conn
    ∙ rw (find_collect (chosen ix i false (node_of l)) (node_of l) (λ x. refl) k l.held, find_collect (chosen ix i true (node_of l)) (node_of l) (λ x. refl) k l.held, h, same_self i)
    (split (mem k l.held) (λ m. rw m (split (l.connected k) (λ u. rw u) (λ u. rw u))) (λ m. rw m))

pub take_out_absent : (ix : ℕ → Option ℕ) (l : Log) (i k : ℕ) (b : Bucket) → Agree ix l i b → mem k l.held ≡ false → take_out k b ≡ b
unfolding group
take_out_absent ix l i k b a m = λ j. record { disconnected = go b.disconnected false a.disc j; connected = go b.connected true a.conn j; pending = b.pending }
  where
    go : (ns : List Node) (u : Bool) → ns ≡ group ix l i u → omit k ns ≡ ns
    go ns u e = ap (omit k) e ∙ sym (group_only ix i u k l l (Only_refl k l)) ∙ ap (collect (chosen ix i u (node_of l)) (node_of l)) (without_absent k l.held m) ∙ sym e

-- a departure
pub agree_take_out : (ix : ℕ → Option ℕ) (l l' : Log) (i k : ℕ) (b : Bucket) → Agree ix l i b → Only k l l' → NotPending k b.pending → Agree ix (depart k l') i (take_out k b)
unfolding group
agree_take_out ix l l' i k b a o nw = record {
  disc = ap (omit k) a.disc ∙ sym (group_only ix i false k l l' o);
  conn = ap (omit k) a.conn ∙ sym (group_only ix i true k l l' o);
  pend = pending_other ix i k l l' (depart k l') o (λ x e. refl) (λ x. refl) b.pending a.pend nw;
  room = let g = count_take_out k b in let r = a.room in omega arith;
}

-- a placement
pub agree_put : (ix : ℕ → Option ℕ) (l l' : Log) (i k : ℕ) (b : Bucket) → Agree ix l i b → Only k l l' → NotPending k b.pending → ix k ≡ some i
    → num_entries (take_out k b) < max_nodes_per_bucket → Agree ix (place k l') i (put (node_of l' k) (take_out k b))
unfolding group
agree_put ix l l' i k b a o nw h r = record {
  disc = ap₂ (λ (s t : List Node). s ++ t) (ap (omit k) a.disc ∙ sym (group_only ix i false k l l' o)) (rw (h, same_self i) (split (l'.connected k) (λ u. rw u) (λ u. rw u)))
      ∙ sym (collect_append (chosen ix i false (node_of l')) (node_of l') (without k l'.held) (k ∷ []));
  conn = ap₂ (λ (s t : List Node). s ++ t) (ap (omit k) a.conn ∙ sym (group_only ix i true k l l' o)) (rw (h, same_self i) (split (l'.connected k) (λ u. rw u) (λ u. rw u)))
      ∙ sym (collect_append (chosen ix i true (node_of l')) (node_of l') (without k l'.held) (k ∷ []));
  pend = pending_other ix i k l l' (place k l') o
      (λ x e. mem_append x (without k l'.held) (k ∷ []) ∙ rw (same_sym k x, e) (split (mem x (without k l'.held)) (λ m. rw m) (λ m. rw m)))
      (λ x. refl) b.pending a.pend nw;
  room = let g = count_put (node_of l' k) (take_out k b) in omega arith;
}

-- a placement of a key that is not held
pub agree_add : (ix : ℕ → Option ℕ) (l l' : Log) (i k : ℕ) (n : Node) (b : Bucket) → Agree ix l i b → Only k l l' → NotPending k b.pending → ix k ≡ some i
    → mem k l.held ≡ false → node_of l' k ≡ n → num_entries b < max_nodes_per_bucket → Agree ix (place k l') i (put n b)
agree_add ix l l' i k n b a o nw h m e r =
    let q : take_out k b ≡ b = take_out_absent ix l i k b a m in
    let r' : num_entries (take_out k b) < max_nodes_per_bucket = subst⁻¹ (λ (c : Bucket). num_entries c < max_nodes_per_bucket) q r in
    subst₂ (λ (x : Node) (c : Bucket). Agree ix (place k l') i (put x c)) e q (agree_put ix l l' i k b a o nw h r')

-- another pending
pub agree_with_pending : (ix : ℕ → Option ℕ) (l : Log) (i : ℕ) (b : Bucket) (p : Option PendingNode) → Agree ix l i b → PendingAgrees ix l i p → Agree ix l i (with_pending p b)
agree_with_pending ix l i b p a w = record { disc = a.disc; conn = a.conn; pend = w; room = a.room }

-- what is given for a key that is not held
pub record Gives (k : ℕ) (l l' : Log) : Type 0 where
  pub other_nodes : (x : ℕ) → same x k ≡ false → node_of l' x ≡ node_of l x
  pub all_held : l'.held ≡ l.held

pub Gives_only : (k : ℕ) (l l' : Log) → Gives k l l' → Only k l l'
Gives_only k l l' g = record { same_nodes = g.other_nodes; same_held = ap (without k) g.all_held }

pub agree_given : (ix : ℕ → Option ℕ) (l l' : Log) (i k : ℕ) (b : Bucket) → Agree ix l i b → Gives k l l' → mem k l.held ≡ false
    → (p : Option PendingNode) → PendingAgrees ix l' i p → Agree ix l' i (with_pending p b)
unfolding group
agree_given ix l l' i k b a g m p w = record { disc = a.disc ∙ go false; conn = a.conn ∙ go true; pend = w; room = a.room }
  where
    go : (u : Bool) → group ix l i u ≡ group ix l' i u
    go u =
        let e : without k l.held ≡ l.held = without_absent k l.held m in
        let c : collect (chosen ix i u (node_of l')) (node_of l') (without k l.held) ≡ collect (chosen ix i u (node_of l)) (node_of l) (without k l.held) =
        collect_other (chosen ix i u (node_of l)) (chosen ix i u (node_of l')) (node_of l) (node_of l') k l.held
        (λ x q. ap (λ (n : Node). is_at (ix x) i && beq n.connected u) (g.other_nodes x q)) g.other_nodes in
        sym (rw e at c) ∙ ap (collect (chosen ix i u (node_of l')) (node_of l')) (sym g.all_held)

pub pending_cleared : (ix : ℕ → Option ℕ) (l : Log) (i k : ℕ) (p : Option PendingNode) → PendingAgrees ix l i p → PendingAgrees ix l i (cleared k p)
pending_cleared ix l i k none w = tt
pending_cleared ix l i k (some p) w = cases (PendingAgrees ix l i) (same p.node.key k) (λ e. tt) (λ e. w)

pub cleared_not_pending : (k : ℕ) (p : Option PendingNode) → NotPending k (cleared k p)
cleared_not_pending k none = tt
cleared_not_pending k (some p) = cases (NotPending k) (same p.node.key k) (λ e. tt) (λ e. e)

-- a held key is not the pending's
pub held_not_pending : (ix : ℕ → Option ℕ) (l : Log) (i k : ℕ) (p : Option PendingNode) → PendingAgrees ix l i p → mem k l.held ≡ true → NotPending k p
held_not_pending ix l i k none w m = tt
held_not_pending ix l i k (some p) w m = split (same p.node.key k) (λ e. clash m (ap (λ (x : ℕ). mem x l.held) (sym (same_true p.node.key k e)) ∙ w.1)) (λ e. e)

-- a departure of a key that is not held changes nothing
pub depart_absent : (k : ℕ) (l : Log) → mem k l.held ≡ false → depart k l ≡ l
depart_absent k l m = λ j. record { settings = l.settings; held = without_absent k l.held m j; connected = l.connected; incoming = l.incoming; value = l.value }

pub pending_gives : (ix : ℕ → Option ℕ) (l l' : Log) (i k : ℕ) (p : Option PendingNode) → Gives k l l' → NotPending k p → PendingAgrees ix l i p → PendingAgrees ix l' i p
pending_gives ix l l' i k none g nw w = tt
pending_gives ix l l' i k (some p) g nw w = (w.0, ap (mem p.node.key) g.all_held ∙ w.1, w.2 ∙ sym (g.other_nodes p.node.key nw))

pub Gives_back : (k : ℕ) (l l' : Log) → Gives k l l' → Gives k l' l
Gives_back k l l' g = record { other_nodes = λ x e. sym (g.other_nodes x e); all_held = sym g.all_held }
