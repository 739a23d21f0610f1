-- Insert, apply pending and remove keep a bucket in agreement with the log.
use Prim.Native.Nat.{ℕ, suc, ◌+◌, ◌<◌}
use mathlib.Core.Path.{◌≡◌, refl, sym, ap, ◌∙◌}
use mathlib.Core.Bool.{Bool, true, false, cond, beq}
use mathlib.Core.List.{List, [], ◌∷◌}
use mathlib.Core.Option.{Option, none, some}
use native.Mathlib.Omega.{arith}
use lib.ListN.{length}
use lib.Dec.{leb}
use Rattle.model.specs.Base.{same, given, is_some}
use Rattle.model.specs.Value.{Value}
use Rattle.model.specs.Node.{Node, PendingNode, EndedPending, ended}
use Rattle.model.specs.Result.{BucketInsertResult, is_inserted}
use Rattle.model.specs.Bucket.{Bucket, BucketSettings, max_nodes_per_bucket, num_entries, is_full, holds, fails_bucket_filter, is_max_incoming, with_pending, cleared, placed, take_out, insert_full, insert, insert_ending, apply_full, apply_due, apply_if_due, apply_pending, remove}
use Rattle.model.specs.Formed.{is_at}
use Rattle.laws.proofs.Tests.{same_self, clash, cases, and_left, and_right}
use Rattle.table_log.specs.Log.{Log, node_of, group}
use Rattle.theorem.proofs.Fold.{mem, depart, place, enter_records, at_given, give}
use Rattle.theorem.proofs.Keys.{Distinct, mem_false_without}
use Rattle.theorem.proofs.Groups.{collect_head, collect_tail, collect_skip}
use Rattle.theorem.proofs.Agree.{chosen, PendingAgrees, Agree, Only, Only_refl, get_agree, agree_add, agree_with_pending, Gives, agree_given, pending_cleared, cleared_not_pending}
use Rattle.theorem.proofs.Frame.{Frame, Frame_refl, Frame_trans, Frame_depart, Frame_place}
use Rattle.laws.proofs.KeepFormed.{free_count}
use Rattle.laws.proofs.TableBytes.{index_at}

-- what is given, key by key
at_given_lem : {A : Type 0} (k : ℕ) (o : Option A) (f : ℕ → A) → at_given k o f k ≡ given o (f k)
at_given_lem k none f = refl
at_given_lem k (some a) f = rw (same_self k)

at_other : {A : Type 0} (k x : ℕ) (o : Option A) (f : ℕ → A) → same x k ≡ false → at_given k o f x ≡ f x
at_other k x none f e = refl
at_other k x (some a) f e = rw e

pub node_give : (k : ℕ) (u d : Option Bool) (v : Option Value) (l : Log)
    → node_of (give k u d v l) k ≡ record { key = k; value = given v (l.value k); connected = given u (l.connected k); incoming = given d (l.incoming k) }
node_give k u d v l = λ j. record { key = k; value = at_given_lem k v l.value j; connected = at_given_lem k u l.connected j; incoming = at_given_lem k d l.incoming j }

pub node_other : (k x : ℕ) (u d : Option Bool) (v : Option Value) (l : Log) → same x k ≡ false → node_of (give k u d v l) x ≡ node_of l x
node_other k x u d v l e = λ j. record { key = x; value = at_other k x v l.value e j; connected = at_other k x u l.connected e j; incoming = at_other k x d l.incoming e j }

pub gives : (k : ℕ) (u d : Option Bool) (v : Option Value) (l : Log) → Gives k l (give k u d v l)
gives k u d v l = record { other_nodes = λ x e. node_other k x u d v l e; all_held = refl }

-- Inserted, of a key that is not held
pub agree_placed : (ix : ℕ → Option ℕ) (l l' : Log) (i : ℕ) (n : Node) (b : Bucket) → Agree ix l i b → ix n.key ≡ some i → mem n.key l.held ≡ false
    → num_entries b < max_nodes_per_bucket → Only n.key l l' → node_of l' n.key ≡ n → Agree ix (place n.key l') i (placed n b)
agree_placed ix l l' i n b a h m c o e =
    agree_add ix l l' i n.key n (with_pending (cleared n.key b.pending) b)
    (agree_with_pending ix l i b (cleared n.key b.pending) a (pending_cleared ix l i n.key b.pending a.pend))
    o (cleared_not_pending n.key b.pending) h m e c

-- insert, of a key that is not held
abbrev pub InsertOk : (ℕ → Option ℕ) → Log → ℕ → Node → Bucket → BucketInsertResult → Bucket → Type 0
InsertOk ix l i n b BucketInsertResult.Inserted b' = (l' : Log) → Only n.key l l' → node_of l' n.key ≡ n → Agree ix (place n.key l') i b'
InsertOk ix l i n b (BucketInsertResult.Pending d) b' = (l' : Log) → Gives n.key l l' → node_of l' n.key ≡ n → Agree ix l' i b'
InsertOk ix l i n b BucketInsertResult.FailedFilter b' = b' ≡ b
InsertOk ix l i n b BucketInsertResult.TooManyIncoming b' = b' ≡ b
InsertOk ix l i n b BucketInsertResult.Full b' = b' ≡ b
InsertOk ix l i n b BucketInsertResult.NodeExists b' = ⊥

-- a step at bucket i: the agreement afterwards, and what the step leaves alone
pub record Goes (ix : ℕ → Option ℕ) (i : ℕ) (l l' : Log) (b' : Bucket) : Type 0 where
  pub agree : Agree ix l' i b'
  pub frame : Frame ix i l l'

beq_flip : (t : Bool) → beq t false ≡ true → beq t true ≡ false
beq_flip true e = clash e refl
beq_flip false e = refl

module _ (ix : ℕ → Option ℕ) (s : BucketSettings) (now : ℕ) where
  insert_full_ok : (l : Log) (i : ℕ) (n : Node) (b : Bucket) → Agree ix l i b → ix n.key ≡ some i → mem n.key l.held ≡ false
      → (u : Bool) (ds : List Node) (p : Option PendingNode) → InsertOk ix l i n b (insert_full s now n b u ds p).0 (insert_full s now n b u ds p).1
  insert_full_ok l i n b a h m false ds p = refl
  insert_full_ok l i n b a h m true [] p = refl
  insert_full_ok l i n b a h m true (d ∷ ds) none =
      λ l' g e. agree_given ix l l' i n.key b a g m (some (record { node = n; deadline = now + s.pending_timeout })) (h, ap (mem n.key) g.all_held ∙ m, sym e)
  insert_full_ok l i n b a h m true (d ∷ ds) (some p) = refl

  pub insert_ok : (l : Log) (i : ℕ) (n : Node) (b : Bucket) → Agree ix l i b → ix n.key ≡ some i → mem n.key l.held ≡ false
      → InsertOk ix l i n b (insert s now n b).0 (insert s now n b).1
  unfolding insert
  insert_ok l i n b a h m =
      let P : BucketInsertResult × Bucket → Type 0 = λ (r : BucketInsertResult × Bucket). InsertOk ix l i n b r.0 r.1 in
      cases P (holds n.key b) (λ e. clash e (ap is_some (get_agree ix l i n.key b a h) ∙ rw m))
      (λ _. cases P (fails_bucket_filter s n.value b) (λ _. refl)
      (λ _. cases P (is_max_incoming s n b) (λ _. refl)
      (λ _. cases P (is_full b) (λ _. insert_full_ok l i n b a h m n.connected b.disconnected b.pending)
      (λ f l' o e. agree_placed ix l l' i n b a h m (free_count b f) o e))))

  abbrev AppliedOk : Log → ℕ → Bucket × List EndedPending → Type 0
  AppliedOk l i r = Goes ix i l (enter_records r.1 l) r.0

  -- nothing is due, or the pending is dropped: its record enters nothing
  dropped_ok : (l : Log) (i : ℕ) (b : Bucket) → Agree ix l i b → Goes ix i l l b
  dropped_ok l i b a = record { agree = a; frame = Frame_refl ix i l }

  apply_free_ok : (l : Log) (i : ℕ) (n : Node) (b : Bucket) → Agree ix l i b → ix n.key ≡ some i → n ≡ node_of l n.key
      → (r : BucketInsertResult) (b' : Bucket) → InsertOk ix l i n b r b' → AppliedOk l i (cond (is_inserted r) b' b, ended n (insert_ending r))
  apply_free_ok l i n b a h e BucketInsertResult.Inserted b' ok = record { agree = ok l (Only_refl n.key l) (sym e); frame = Frame_place ix i n.key l h }
  apply_free_ok l i n b a h e (BucketInsertResult.Pending d) b' ok = dropped_ok l i b a
  apply_free_ok l i n b a h e BucketInsertResult.FailedFilter b' ok = dropped_ok l i b a
  apply_free_ok l i n b a h e BucketInsertResult.TooManyIncoming b' ok = dropped_ok l i b a
  apply_free_ok l i n b a h e BucketInsertResult.Full b' ok = dropped_ok l i b a
  apply_free_ok l i n b a h e BucketInsertResult.NodeExists b' ok = dropped_ok l i b a

  -- the bucket after an eviction
  evicted_ok : (l : Log) (i : ℕ) (b : Bucket) (d : Node) (ds : List Node) → Agree ix l i b → Distinct l.held → b.disconnected ≡ d ∷ ds
      → (ix d.key ≡ some i) × Agree ix (depart d.key l) i (record { disconnected = ds; connected = b.connected; pending = none })
      × (length ds + length b.connected < max_nodes_per_bucket)
  unfolding group
  evicted_ok l i b d ds a u e =
      let g : group ix l i false ≡ d ∷ ds = sym a.disc ∙ e in
      let hd = collect_head (chosen ix i false (node_of l)) (node_of l) (λ x. refl) d ds l.held g in
      let here : is_at (ix d.key) i ≡ true = and_left (is_at (ix d.key) i) _ hd.0 in
      let dn : beq (l.connected d.key) false ≡ true = and_right (is_at (ix d.key) i) _ hd.0 in
      let r : length ds + length b.connected < max_nodes_per_bucket = (let q : length b.disconnected ≡ suc (length ds) = ap length e in let r0 = a.room in omega arith) in (
        index_at (ix d.key) i here,
        record {
          disc = sym (collect_tail (chosen ix i false (node_of l)) (node_of l) (λ x. refl) d ds l.held u g);
          conn = a.conn ∙ sym (collect_skip (chosen ix i true (node_of l)) (node_of l) d.key l.held (rw (here, beq_flip (l.connected d.key) dn)));
          pend = tt;
          room = omega arith;
        },
        r,
      )

  apply_full_ok : (l : Log) (i : ℕ) (n : Node) (b : Bucket) → Agree ix l i b → Distinct l.held → ix n.key ≡ some i → mem n.key l.held ≡ false
      → n ≡ node_of l n.key → (ds : List Node) → b.disconnected ≡ ds → AppliedOk l i (apply_full s n b ds)
  apply_full_ok l i n b a u h m e [] q = dropped_ok l i b a
  apply_full_ok l i n b a u h m e (d ∷ ds) q =
      cases (AppliedOk l i) (fails_bucket_filter s n.value b) (λ _. dropped_ok l i b a)
      (λ _. cases (AppliedOk l i) (is_max_incoming s n b) (λ _. dropped_ok l i b a)
      (λ _. let v = evicted_ok l i b d ds a u q in record {
        agree = agree_add ix (depart d.key l) (depart d.key l) i n.key n (record { disconnected = ds; connected = b.connected; pending = none })
            v.1 (Only_refl n.key (depart d.key l)) tt h (mem_false_without d.key n.key l.held m) (sym e) v.2;
        frame = Frame_trans ix i l (depart d.key l) (place n.key (depart d.key l)) (Frame_depart ix i d.key l v.0) (Frame_place ix i n.key (depart d.key l) h);
      }))

  apply_due_ok : (l : Log) (i : ℕ) (n : Node) (b : Bucket) → Agree ix l i b → Distinct l.held → ix n.key ≡ some i → mem n.key l.held ≡ false
      → n ≡ node_of l n.key → AppliedOk l i (apply_due s now n b)
  unfolding apply_due
  apply_due_ok l i n b a u h m e =
      cases (AppliedOk l i) (is_full b) (λ _. apply_full_ok l i n b a u h m e b.disconnected refl)
      (λ _. apply_free_ok l i n b a h e (insert s now n b).0 (insert s now n b).1 (insert_ok l i n b a h m))

  apply_if_due_ok : (l : Log) (i : ℕ) (b : Bucket) → Agree ix l i b → Distinct l.held → (p : Option PendingNode) → PendingAgrees ix l i p → AppliedOk l i (apply_if_due s now b p)
  apply_if_due_ok l i b a u none w = dropped_ok l i b a
  apply_if_due_ok l i b a u (some p) w =
      cases (AppliedOk l i) (leb p.deadline now)
      (λ _. apply_due_ok l i p.node (with_pending none b) (agree_with_pending ix l i b none a tt) u w.0 w.1 w.2)
      (λ _. dropped_ok l i b a)

  pub apply_ok : (l : Log) (i : ℕ) (b : Bucket) → Agree ix l i b → Distinct l.held → Goes ix i l (enter_records (apply_pending s now b).1 l) (apply_pending s now b).0
  unfolding apply_pending
  apply_ok l i b a u = apply_if_due_ok l i b a u b.pending a.pend

-- no pending is due
abbrev pub Settled : ℕ → Option PendingNode → Type 0
Settled now none = Unit {0}
Settled now (some p) = leb p.deadline now ≡ false

module _ (s : BucketSettings) (now : ℕ) where
  abbrev AppliedSettled : Bucket × List EndedPending → Type 0
  AppliedSettled r = Settled now r.0.pending

  abbrev InsertSettled : Bucket → BucketInsertResult × Bucket → Type 0
  InsertSettled b r = b.pending ≡ none → Settled now (cond (is_inserted r.0) r.1 b).pending

  none_settled : (b : Bucket) → b.pending ≡ none → Settled now b.pending
  none_settled b e = rw e tt

  cleared_none : (k : ℕ) (p : Option PendingNode) → p ≡ none → cleared k p ≡ none
  cleared_none k p e = rw e

  insert_full_settled : (n : Node) (b : Bucket) (u : Bool) (ds : List Node) (p : Option PendingNode) → InsertSettled b (insert_full s now n b u ds p)
  insert_full_settled n b false ds p e = none_settled b e
  insert_full_settled n b true [] p e = none_settled b e
  insert_full_settled n b true (d ∷ ds) none e = none_settled b e
  insert_full_settled n b true (d ∷ ds) (some p) e = none_settled b e

  insert_settled : (n : Node) (b : Bucket) → InsertSettled b (insert s now n b)
  unfolding insert
  insert_settled n b =
      cases (InsertSettled b) (holds n.key b) (λ _ e. none_settled b e)
      (λ _. cases (InsertSettled b) (fails_bucket_filter s n.value b) (λ _ e. none_settled b e)
      (λ _. cases (InsertSettled b) (is_max_incoming s n b) (λ _ e. none_settled b e)
      (λ _. cases (InsertSettled b) (is_full b) (λ _. insert_full_settled n b n.connected b.disconnected b.pending)
      (λ _ e. rw (cleared_none n.key b.pending e) tt))))

  apply_full_settled : (n : Node) (b : Bucket) (ds : List Node) → b.pending ≡ none → AppliedSettled (apply_full s n b ds)
  apply_full_settled n b [] e = none_settled b e
  apply_full_settled n b (d ∷ ds) e =
      cases AppliedSettled (fails_bucket_filter s n.value b) (λ _. none_settled b e)
      (λ _. cases AppliedSettled (is_max_incoming s n b) (λ _. none_settled b e) (λ _. tt))

  apply_due_settled : (n : Node) (b : Bucket) → b.pending ≡ none → AppliedSettled (apply_due s now n b)
  unfolding apply_due
  apply_due_settled n b e = cases AppliedSettled (is_full b) (λ _. apply_full_settled n b b.disconnected e) (λ _. insert_settled n b e)

  apply_if_due_settled : (b : Bucket) (p : Option PendingNode) → b.pending ≡ p → AppliedSettled (apply_if_due s now b p)
  apply_if_due_settled b none e = none_settled b e
  apply_if_due_settled b (some p) e = cases AppliedSettled (leb p.deadline now) (λ _. apply_due_settled p.node (with_pending none b) refl) (λ q. rw e q)

  -- after applying, nothing is due
  pub apply_settled : (b : Bucket) → Settled now (apply_pending s now b).0.pending
  unfolding apply_pending
  apply_settled b = apply_if_due_settled b b.pending refl

  apply_if_due_idle : (b : Bucket) (p : Option PendingNode) → Settled now p → (apply_if_due s now b p).0 ≡ b
  apply_if_due_idle b none e = refl
  apply_if_due_idle b (some p) e = rw e

  apply_idle : (b : Bucket) → Settled now b.pending → (apply_pending s now b).0 ≡ b
  unfolding apply_pending
  apply_idle b e = apply_if_due_idle b b.pending e

  pub remove_settled : (k : ℕ) (b : Bucket) → Settled now b.pending → remove s now k b ≡ cond (holds k b) (true, take_out k b) (false, b)
  unfolding remove
  remove_settled k b e = rw (apply_idle (take_out k b) e)
