-- What a call on one key does to the key's bucket keeps it in agreement with the log.
use Prim.Native.Nat.{ℕ}
use mathlib.Core.Path.{◌≡◌, refl, sym, ap, ◌∙◌, subst, subst⁻¹, subst₂}
use mathlib.Core.Bool.{Bool, true, false, cond, ◌&&◌, ◌||◌}
use mathlib.Core.List.{[], ◌∷◌}
use mathlib.Core.Option.{Option, none, some}
use Rattle.model.specs.Base.{is_some, same}
use Rattle.model.specs.Value.{Value}
use Rattle.model.specs.Node.{Node, PendingNode, with_status}
use Rattle.model.specs.Result.{BucketInsertResult, UpdateResult, is_failed}
use Rattle.model.specs.Bucket.{Bucket, BucketSettings, holds, with_pending, insert, update_status, update_value, pending_with_status, update_pending, remove}
use Rattle.model.specs.Table.{EntryKind, Answer, both_updates, then_status, update_node_in, insert_updates, inserts, then_value, insert_or_update_in, kind_if_pending, kind_of_node, kind_of}
use Rattle.model.specs.Question.{is_present, is_pending, is_absent}
use Rattle.laws.proofs.Tests.{same_self, clash, cases, split}
use Rattle.table_log.specs.Log.{Log, Verdict, says, insert_verdict, answers_failed, answers_removed, answers_inserted, without}
use Rattle.theorem.proofs.Fold.{mem, depart, place, give}
use Rattle.theorem.proofs.Keys.{Distinct, mem_append, mem_without, without_twice, without_placed, distinct_without, distinct_placed}
use Rattle.theorem.proofs.Agree.{PendingAgrees, NotPending, Agree, Only, Only_refl, get_agree, agree_take_out, agree_given, Gives, Gives_only, Gives_back, pending_gives, held_not_pending, depart_absent}
use Rattle.theorem.proofs.Frame.{Frame, Frame_trans, Frame_only, Frame_depart, Frame_place}
use Rattle.theorem.proofs.Ops.{node_give, node_other, gives, InsertOk, insert_ok, Settled, remove_settled}
use Rattle.theorem.proofs.Updates.{IsPending, StepOk, FreeOk, held_get, free_get, pending_changed, status_held, status_free, status_pending, value_held, value_free}

-- What `enter_role` makes of a call that names k. g: the log with what the call gives.
abbrev pub own : ℕ → Bool → Answer → Log → Log → Log
own k step a l g = cond (answers_failed a) (depart k l) (cond (answers_removed a) (depart k g) (cond (answers_inserted a || (step && mem k l.held)) (place k g) g))

-- what it leaves alone
pub own_frame : (ix : ℕ → Option ℕ) (i k : ℕ) (step : Bool) (a : Answer) (l g : Log) → ix k ≡ some i → Gives k l g → Frame ix i l (own k step a l g)
own_frame ix i k step a l g h e =
    let f : Frame ix i l g = Frame_only ix i k l g h (Gives_only k l g e) in
    cases (Frame ix i l) (answers_failed a) (λ _. Frame_depart ix i k l h)
    (λ _. cases (Frame ix i l) (answers_removed a) (λ _. Frame_trans ix i l g (depart k g) f (Frame_depart ix i k g h))
    (λ _. cases (Frame ix i l) (answers_inserted a || (step && mem k l.held)) (λ _. Frame_trans ix i l g (place k g) f (Frame_place ix i k g h)) (λ _. f)))

pub own_only : (k : ℕ) (step : Bool) (a : Answer) (l g : Log) → Gives k l g → Only k l (own k step a l g)
own_only k step a l g e =
    let f : Only k l g = Gives_only k l g e in
    cases (Only k l) (answers_failed a) (λ _. record { same_nodes = λ x q. refl; same_held = without_twice k l.held })
    (λ _. cases (Only k l) (answers_removed a) (λ _. record { same_nodes = f.same_nodes; same_held = without_twice k g.held ∙ f.same_held })
    (λ _. cases (Only k l) (answers_inserted a || (step && mem k l.held)) (λ _. record { same_nodes = f.same_nodes; same_held = without_placed k g.held ∙ f.same_held }) (λ _. f)))

pub own_distinct : (k : ℕ) (step : Bool) (a : Answer) (l g : Log) → Gives k l g → Distinct l.held → Distinct (own k step a l g).held
own_distinct k step a l g e d =
    let dg : Distinct g.held = subst⁻¹ Distinct e.all_held d in
    cases (λ (x : Log). Distinct x.held) (answers_failed a) (λ _. distinct_without k l.held d)
    (λ _. cases (λ (x : Log). Distinct x.held) (answers_removed a) (λ _. distinct_without k g.held dg)
    (λ _. cases (λ (x : Log). Distinct x.held) (answers_inserted a || (step && mem k l.held)) (λ _. distinct_placed k g.held dg) (λ _. dg)))

pub own_settings : (k : ℕ) (step : Bool) (a : Answer) (l g : Log) → g.settings ≡ l.settings → (own k step a l g).settings ≡ l.settings
own_settings k step a l g e =
    cases (λ (x : Log). x.settings ≡ l.settings) (answers_failed a) (λ _. refl)
    (λ _. cases (λ (x : Log). x.settings ≡ l.settings) (answers_removed a) (λ _. e)
    (λ _. cases (λ (x : Log). x.settings ≡ l.settings) (answers_inserted a || (step && mem k l.held)) (λ _. e) (λ _. e)))

-- update_node answers Failed where its status step does
both_failed : (v r : UpdateResult) → is_failed v ≡ false → is_failed (both_updates v r) ≡ is_failed r
both_failed v (UpdateResult.Failed x) e = refl
both_failed (UpdateResult.Failed x) UpdateResult.UpdatedAndPromoted e = clash refl e
both_failed UpdateResult.Updated UpdateResult.UpdatedAndPromoted e = refl
both_failed UpdateResult.UpdatedAndPromoted UpdateResult.UpdatedAndPromoted e = refl
both_failed UpdateResult.UpdatedPending UpdateResult.UpdatedAndPromoted e = refl
both_failed UpdateResult.NotModified UpdateResult.UpdatedAndPromoted e = refl
both_failed (UpdateResult.Failed x) UpdateResult.Updated e = clash refl e
both_failed (UpdateResult.Failed x) UpdateResult.UpdatedPending e = clash refl e
both_failed (UpdateResult.Failed x) UpdateResult.NotModified e = clash refl e
both_failed UpdateResult.Updated UpdateResult.Updated e = refl
both_failed UpdateResult.Updated UpdateResult.UpdatedPending e = refl
both_failed UpdateResult.Updated UpdateResult.NotModified e = refl
both_failed UpdateResult.UpdatedAndPromoted UpdateResult.Updated e = refl
both_failed UpdateResult.UpdatedAndPromoted UpdateResult.UpdatedPending e = refl
both_failed UpdateResult.UpdatedAndPromoted UpdateResult.NotModified e = refl
both_failed UpdateResult.UpdatedPending UpdateResult.Updated e = refl
both_failed UpdateResult.UpdatedPending UpdateResult.UpdatedPending e = refl
both_failed UpdateResult.UpdatedPending UpdateResult.NotModified e = refl
both_failed UpdateResult.NotModified UpdateResult.Updated e = refl
both_failed UpdateResult.NotModified UpdateResult.UpdatedPending e = refl
both_failed UpdateResult.NotModified UpdateResult.NotModified e = refl

-- insert_or_update on a held key answers Failed where its value step does, and never Inserted
insert_updates_says : (v r : UpdateResult) → is_failed r ≡ false → insert_verdict (insert_updates v r) ≡ says false (is_failed v) false false
insert_updates_says UpdateResult.Updated UpdateResult.Updated e = refl
insert_updates_says UpdateResult.Updated UpdateResult.UpdatedAndPromoted e = refl
insert_updates_says UpdateResult.Updated UpdateResult.UpdatedPending e = refl
insert_updates_says UpdateResult.Updated UpdateResult.NotModified e = refl
insert_updates_says UpdateResult.Updated (UpdateResult.Failed x) e = clash refl e
insert_updates_says UpdateResult.NotModified UpdateResult.Updated e = refl
insert_updates_says UpdateResult.NotModified UpdateResult.UpdatedAndPromoted e = refl
insert_updates_says UpdateResult.NotModified UpdateResult.UpdatedPending e = refl
insert_updates_says UpdateResult.NotModified UpdateResult.NotModified e = refl
insert_updates_says UpdateResult.NotModified (UpdateResult.Failed x) e = clash refl e
insert_updates_says UpdateResult.UpdatedPending r e = refl
insert_updates_says UpdateResult.UpdatedAndPromoted r e = refl
insert_updates_says (UpdateResult.Failed x) r e = refl

-- the log with all that a node says
abbrev pub give_node : Node → Log → Log
give_node n l = give n.key (some n.connected) (some n.incoming) (some n.value) l

mem_placed : (k : ℕ) (l : Log) → mem k (place k l).held ≡ true
mem_placed k l = mem_append k (without k l.held) (k ∷ []) ∙ rw (same_self k, mem_without k l.held)

only_placed : (l : Log) (k : ℕ) (u d : Bool) → Only k (place k (give k (some u) (some d) none l)) l
only_placed l k u d = record { same_nodes = λ x e. sym (node_other k x (some u) (some d) none l e); same_held = sym (without_placed k l.held) }

module _ (ix : ℕ → Option ℕ) where
  join : (i : ℕ) (b : Bucket) (t : Bool) (x y : Log) → cond t (Agree ix x i b) (Agree ix y i b) → Agree ix (cond t x y) i b
  join i b true x y a = a
  join i b false x y a = a

  join_free : (i k : ℕ) (b b' : Bucket) (t : Bool) (x y : Log) → Agree ix x i b → cond t (b' ≡ b) (Agree ix y i b' × IsPending k b'.pending) → Agree ix (cond t x y) i b'
  join_free i k b b' true x y a e = subst⁻¹ (λ (c : Bucket). Agree ix x i c) e a
  join_free i k b b' false x y a e = e.0

  -- by the two tests' outcomes
  own_by : (k : ℕ) (step : Bool) (a : Answer) (l g : Log) (i : ℕ) (b : Bucket) (t w : Bool) → answers_failed a ≡ t → answers_removed a ≡ false
      → (answers_inserted a || (step && mem k l.held)) ≡ w → Agree ix (cond t (depart k l) (cond w (place k g) g)) i b → Agree ix (own k step a l g) i b
  own_by k step a l g i b t w p n q z =
      subst⁻¹ (λ (y : Bool). Agree ix (cond (answers_failed a) (depart k l) (cond y (depart k g) (cond (answers_inserted a || (step && mem k l.held)) (place k g) g))) i b) n
      (subst₂ (λ (x y : Bool). Agree ix (cond x (depart k l) (cond y (place k g) g)) i b) (sym p) (sym q) z)

  own_failed : (k : ℕ) (step : Bool) (a : Answer) (l g : Log) (i : ℕ) (b : Bucket) → answers_failed a ≡ true → Agree ix (depart k l) i b → Agree ix (own k step a l g) i b
  own_failed k step a l g i b p z =
      subst⁻¹ (λ (x : Bool). Agree ix (cond x (depart k l) (cond (answers_removed a) (depart k g) (cond (answers_inserted a || (step && mem k l.held)) (place k g) g))) i b) p z

  leave_absent : (l : Log) (i k : ℕ) (b : Bucket) → Agree ix l i b → mem k l.held ≡ false → Agree ix (depart k l) i b
  leave_absent l i k b a m = subst⁻¹ (λ (x : Log). Agree ix x i b) (depart_absent k l m) a

  pub holds_agree : (l : Log) (i k : ℕ) (b : Bucket) → Agree ix l i b → ix k ≡ some i → holds k b ≡ mem k l.held
  holds_agree l i k b a h = ap is_some (get_agree ix l i k b a h) ∙ split (mem k l.held) (λ m. rw m) (λ m. rw m)

  module _ (s : BucketSettings) where
    -- update_node_status, and a Present update
    pub status_call : (l : Log) (i k : ℕ) (u : Bool) (d : Option Bool) (b : Bucket) → Agree ix l i b → ix k ≡ some i
        → Agree ix (own k true (Answer.Update (update_status s k u d b).0) l (give k (some u) d none l)) i (update_status s k u d b).1
    status_call l i k u d b a h =
        let g : Log = give k (some u) d none l in
        let r = update_status s k u d b in
        let f : Bool = is_failed r.0 in
        split (mem k l.held)
        (λ m. own_by k true (Answer.Update r.0) l g i r.1 f true refl refl m
        (join i r.1 f (depart k l) (place k g) (status_held ix s l l i k u d b a h m (Only_refl k l))))
        (λ m. own_by k true (Answer.Update r.0) l g i r.1 f false refl refl m
        (join_free i k b r.1 f (depart k l) g (leave_absent l i k b a m) (status_free ix s l i k u d b a h m)))

    -- the status step of update_node, after a value step that did not fail
    abbrev UpdateNodeOk : Log → ℕ → ℕ → Value → Option Bool → Answer × Bucket → Type 0
    UpdateNodeOk l i k v u r = Agree ix (own k (is_some u) r.0 l (give k u none (some v) l)) i r.1

    then_status_held : (l : Log) (i k : ℕ) (v : Value) (u : Option Bool) (x : UpdateResult) (b : Bucket) → ix k ≡ some i → mem k l.held ≡ true → is_failed x ≡ false
        → Agree ix (give k none none (some v) l) i b → UpdateNodeOk l i k v u (then_status s k u x b)
    then_status_held l i k v none x b h m f g = own_by k false (Answer.Update x) l (give k none none (some v) l) i b false false f refl refl g
    then_status_held l i k v (some u) x b h m f g =
        let r = update_status s k u none b in
        let y : Log = give k none none (some v) l in
        let z : Log = give k (some u) none (some v) l in
        own_by k true (Answer.Update (both_updates x r.0)) l z i r.1 (is_failed r.0) true (both_failed x r.0 f) refl m
        (join i r.1 (is_failed r.0) (depart k l) (place k z)
        (status_held ix s y l i k u none b g h m (Gives_only k y l (Gives_back k l y (gives k none none (some v) l)))))

    then_status_free : (l : Log) (i k : ℕ) (v : Value) (u : Option Bool) (x : UpdateResult) (b : Bucket) → ix k ≡ some i → mem k l.held ≡ false → is_failed x ≡ false
        → Agree ix (give k none none (some v) l) i b → IsPending k b.pending → UpdateNodeOk l i k v u (then_status s k u x b)
    then_status_free l i k v none x b h m f g w = own_by k false (Answer.Update x) l (give k none none (some v) l) i b false false f refl refl g
    then_status_free l i k v (some u) x b h m f g w =
        let r = update_status s k u none b in
        let y : Log = give k none none (some v) l in
        let z : Log = give k (some u) none (some v) l in
        let q : is_failed r.0 ≡ false = status_pending ix s y i k u none b g h m w in
        let o : FreeOk ix i k z b r = status_free ix s y i k u none b g h m in
        own_by k true (Answer.Update (both_updates x r.0)) l z i r.1 false false (both_failed x r.0 f ∙ q) refl m
        (subst (λ (t : Bool). cond t (r.1 ≡ b) (Agree ix z i r.1 × IsPending k r.1.pending)) q o).0

    -- insert_or_update on a held key: the value step after the status step
    abbrev InsertOrUpdateOk : Log → ℕ → Node → Answer × Bucket → Type 0
    InsertOrUpdateOk l i n r = Agree ix (own n.key true r.0 l (give_node n l)) i r.1

    then_value_ok : (l : Log) (i : ℕ) (n : Node) (x : UpdateResult) (b : Bucket) → ix n.key ≡ some i → mem n.key l.held ≡ true
        → StepOk ix i n.key l (place n.key (give n.key (some n.connected) (some n.incoming) none l)) (x, b)
        → InsertOrUpdateOk l i n (then_value s n.key n.value x b)
    then_value_ok l i n x b h m z =
        let k : ℕ = n.key in
        let p : Log = place k (give k (some n.connected) (some n.incoming) none l) in
        let F : Bool → Type 0 = λ t. cond t (Agree ix (depart k l) i b) (Agree ix p i b) in
        let r = update_value s k n.value b in
        cases (InsertOrUpdateOk l i n) (is_failed x) (λ f. subst F f z)
        (λ f. let w = insert_updates_says r.0 x f in
        own_by k true (Answer.InsertOrUpdate (insert_updates r.0 x)) l (give_node n l) i r.1 (is_failed r.0) true
        (ap (λ (v : Verdict). v.failed) w) refl (ap (λ (v : Verdict). v.inserted || mem k l.held) w ∙ m)
        (join i r.1 (is_failed r.0) (depart k l) (place k (give_node n l))
        (value_held ix s p l i k n.value b (subst F f z) h (mem_placed k (give k (some n.connected) (some n.incoming) none l)) (only_placed l k n.connected n.incoming))))

    inserts_ok : (l : Log) (i : ℕ) (n : Node) (b : Bucket) → Agree ix l i b → mem n.key l.held ≡ false
        → (r : BucketInsertResult) (b' : Bucket) → InsertOk ix l i n b r b' → InsertOrUpdateOk l i n (Answer.InsertOrUpdate (inserts r), b')
    inserts_ok l i n b a m BucketInsertResult.Inserted b' ok =
        ok (give_node n l) (Gives_only n.key l (give_node n l) (gives n.key (some n.connected) (some n.incoming) (some n.value) l)) (node_give n.key (some n.connected) (some n.incoming) (some n.value) l)
    inserts_ok l i n b a m (BucketInsertResult.Pending x) b' ok =
        rw m (ok (give_node n l) (gives n.key (some n.connected) (some n.incoming) (some n.value) l) (node_give n.key (some n.connected) (some n.incoming) (some n.value) l))
    inserts_ok l i n b a m BucketInsertResult.FailedFilter b' ok = subst⁻¹ (λ (c : Bucket). Agree ix (depart n.key l) i c) ok (leave_absent l i n.key b a m)
    inserts_ok l i n b a m BucketInsertResult.TooManyIncoming b' ok = subst⁻¹ (λ (c : Bucket). Agree ix (depart n.key l) i c) ok (leave_absent l i n.key b a m)
    inserts_ok l i n b a m BucketInsertResult.Full b' ok = subst⁻¹ (λ (c : Bucket). Agree ix (depart n.key l) i c) ok (leave_absent l i n.key b a m)
    inserts_ok l i n b a m BucketInsertResult.NodeExists b' ok = absurd ok

    module _ (now : ℕ) where
      -- remove
      pub remove_call : (l : Log) (i k : ℕ) (b : Bucket) → Agree ix l i b → ix k ≡ some i → Settled now b.pending
          → Agree ix (own k false (Answer.Remove (remove s now k b).0) l l) i (remove s now k b).1
      remove_call l i k b a h q =
          subst⁻¹ (λ (r : Bool × Bucket). Agree ix (own k false (Answer.Remove r.0) l l) i r.1) (remove_settled s now k b q)
          (split (mem k l.held)
          (λ m. rw (held_get ix l i k b a h m) (agree_take_out ix l l i k b a (Only_refl k l) (held_not_pending ix l i k b.pending a.pend m)))
          (λ m. rw (free_get ix l i k b a h m) a))

      -- the key taken out where the table filter fails
      remove_gone : (l : Log) (i k : ℕ) (b : Bucket) → Agree ix l i b → ix k ≡ some i → Settled now b.pending → Agree ix (depart k l) i (remove s now k b).1
      remove_gone l i k b a h q =
          subst⁻¹ (λ (r : Bool × Bucket). Agree ix (depart k l) i r.1) (remove_settled s now k b q)
          (split (mem k l.held)
          (λ m. rw (held_get ix l i k b a h m) (agree_take_out ix l l i k b a (Only_refl k l) (held_not_pending ix l i k b.pending a.pend m)))
          (λ m. rw (free_get ix l i k b a h m) (leave_absent l i k b a m)))

      -- update_node
      pub update_node_call : (l : Log) (i k : ℕ) (v : Value) (u : Option Bool) (b : Bucket) (fails : Bool) → Agree ix l i b → ix k ≡ some i → Settled now b.pending
          → UpdateNodeOk l i k v u (update_node_in s fails now k v u b)
      update_node_call l i k v u b fails a h q =
          let P : Answer × Bucket → Type 0 = UpdateNodeOk l i k v u in
          let r = update_value s k v b in
          let g : Log = give k none none (some v) l in
          let failed : is_failed r.0 ≡ true → Agree ix (depart k l) i r.1 → P (Answer.Update r.0, r.1) =
          λ f z. own_failed k (is_some u) (Answer.Update r.0) l (give k u none (some v) l) i r.1 f z in
          cases P fails (λ _. remove_gone l i k b a h q)
          (λ _. split (mem k l.held)
          (λ m. let z : StepOk ix i k l g r = value_held ix s l l i k v b a h m (Only_refl k l) in
          let F : Bool → Type 0 = λ x. cond x (Agree ix (depart k l) i r.1) (Agree ix g i r.1) in
          cases P (is_failed r.0) (λ f. failed f (subst F f z)) (λ f. then_status_held l i k v u r.0 r.1 h m f (subst F f z)))
          (λ m. let z : FreeOk ix i k g b r = value_free ix s l i k v b a h m in
          let F : Bool → Type 0 = λ x. cond x (r.1 ≡ b) (Agree ix g i r.1 × IsPending k r.1.pending) in
          cases P (is_failed r.0)
          (λ f. failed f (subst⁻¹ (λ (c : Bucket). Agree ix (depart k l) i c) (subst F f z) (leave_absent l i k b a m)))
          (λ f. let y = subst F f z in then_status_free l i k v u r.0 r.1 h m f y.0 y.1)))

      -- insert_or_update
      pub insert_or_update_call : (l : Log) (i : ℕ) (n : Node) (b : Bucket) (fails : Bool) → Agree ix l i b → ix n.key ≡ some i → Settled now b.pending
          → InsertOrUpdateOk l i n (insert_or_update_in s fails now n b)
      insert_or_update_call l i n b fails a h q =
          let r = update_status s n.key n.connected (some n.incoming) b in
          cases (InsertOrUpdateOk l i n) fails (λ _. remove_gone l i n.key b a h q)
          (λ _. cases (InsertOrUpdateOk l i n) (holds n.key b)
          (λ e. let m = sym (holds_agree l i n.key b a h) ∙ e in
          then_value_ok l i n r.0 r.1 h m (status_held ix s l l i n.key n.connected (some n.incoming) b a h m (Only_refl n.key l)))
          (λ e. let m = sym (holds_agree l i n.key b a h) ∙ e in
          inserts_ok l i n b a m (insert s now n b).0 (insert s now n b).1 (insert_ok ix s now l i n b a h m)))

  -- the entry's Pending and Absent actions
  pending_kind : (k : ℕ) (p : Option PendingNode) → is_pending (kind_if_pending k p) ≡ true → IsPending k p
  pending_kind k none e = clash e refl
  pending_kind k (some p) e = split (same p.node.key k) (λ f. f) (λ f. clash e (rw f))

  absent_kind : (k : ℕ) (p : Option PendingNode) → is_absent (kind_if_pending k p) ≡ true → NotPending k p
  absent_kind k none e = tt
  absent_kind k (some p) e = split (same p.node.key k) (λ f. clash e (rw f)) (λ f. f)

  kind_free : (l : Log) (i k : ℕ) (b : Bucket) → Agree ix l i b → ix k ≡ some i → is_present (kind_of k b) ≡ false → mem k l.held ≡ false
  kind_free l i k b a h e = split (mem k l.held) (λ m. clash (ap (λ (o : Option Node). is_present (kind_of_node k b o)) (held_get ix l i k b a h m)) e) (λ m. m)

  pending_not_present : (x : EntryKind) → is_pending x ≡ true → is_present x ≡ false
  pending_not_present (EntryKind.Present u d) e = clash e refl
  pending_not_present (EntryKind.Pending u d) e = refl
  pending_not_present EntryKind.Absent e = refl
  pending_not_present EntryKind.SelfEntry e = refl

  absent_not_present : (x : EntryKind) → is_absent x ≡ true → is_present x ≡ false
  absent_not_present (EntryKind.Present u d) e = clash e refl
  absent_not_present (EntryKind.Pending u d) e = refl
  absent_not_present EntryKind.Absent e = refl
  absent_not_present EntryKind.SelfEntry e = refl

  update_pending_ok : (l : Log) (i k : ℕ) (u d : Bool) (b : Bucket) → Agree ix l i b → ix k ≡ some i → mem k l.held ≡ false
      → (p : Option PendingNode) → IsPending k p → PendingAgrees ix l i p → Agree ix (give k (some u) (some d) none l) i (with_pending (pending_with_status u d p) b)
  update_pending_ok l i k u d b a h m none e w = absurd e
  update_pending_ok l i k u d b a h m (some p) e w =
      (pending_changed ix (with_status u (some d)) l (give k (some u) (some d) none l) i k b p a h m (gives k (some u) (some d) none l) (sym (node_give k (some u) (some d) none l)) e w).0

  pub pending_call : (l : Log) (i k : ℕ) (u d : Bool) (b : Bucket) → Agree ix l i b → ix k ≡ some i → is_pending (kind_of k b) ≡ true
      → Agree ix (own k false (Answer.Update UpdateResult.UpdatedPending) l (give k (some u) (some d) none l)) i (update_pending u d b)
  unfolding update_pending
  pending_call l i k u d b a h e =
      let m = kind_free l i k b a h (pending_not_present (kind_of k b) e) in
      let w = pending_kind k b.pending (ap (λ (o : Option Node). is_pending (kind_of_node k b o)) (sym (free_get ix l i k b a h m)) ∙ e) in
      update_pending_ok l i k u d b a h m b.pending w a.pend

  abbrev AbsentOk : Log → ℕ → Node → BucketInsertResult → Bucket → Type 0
  AbsentOk l i n r b = Agree ix (own n.key false (Answer.Insert r) l (give_node n l)) i b

  absent_ok : (l : Log) (i : ℕ) (n : Node) (b : Bucket) → Agree ix (give_node n l) i b
      → (r : BucketInsertResult) (b' : Bucket) → InsertOk ix l i n b r b' → AbsentOk l i n r b'
  absent_ok l i n b a BucketInsertResult.Inserted b' ok =
      ok (give_node n l) (Gives_only n.key l (give_node n l) (gives n.key (some n.connected) (some n.incoming) (some n.value) l)) (node_give n.key (some n.connected) (some n.incoming) (some n.value) l)
  absent_ok l i n b a (BucketInsertResult.Pending x) b' ok =
      ok (give_node n l) (gives n.key (some n.connected) (some n.incoming) (some n.value) l) (node_give n.key (some n.connected) (some n.incoming) (some n.value) l)
  absent_ok l i n b a BucketInsertResult.FailedFilter b' ok = subst⁻¹ (λ (c : Bucket). Agree ix (give_node n l) i c) ok a
  absent_ok l i n b a BucketInsertResult.TooManyIncoming b' ok = subst⁻¹ (λ (c : Bucket). Agree ix (give_node n l) i c) ok a
  absent_ok l i n b a BucketInsertResult.Full b' ok = subst⁻¹ (λ (c : Bucket). Agree ix (give_node n l) i c) ok a
  absent_ok l i n b a BucketInsertResult.NodeExists b' ok = absurd ok

  pub absent_call : (s : BucketSettings) (now : ℕ) (l : Log) (i : ℕ) (n : Node) (b : Bucket) → Agree ix l i b → ix n.key ≡ some i → is_absent (kind_of n.key b) ≡ true
      → AbsentOk l i n (insert s now n b).0 (insert s now n b).1
  absent_call s now l i n b a h e =
      let k : ℕ = n.key in
      let g = gives k (some n.connected) (some n.incoming) (some n.value) l in
      let m = kind_free l i k b a h (absent_not_present (kind_of k b) e) in
      let w = absent_kind k b.pending (ap (λ (o : Option Node). is_absent (kind_of_node k b o)) (sym (free_get ix l i k b a h m)) ∙ e) in
      absent_ok l i n b (agree_given ix l (give_node n l) i k b a g m b.pending (pending_gives ix l (give_node n l) i k b.pending g w a.pend))
      (insert s now n b).0 (insert s now n b).1 (insert_ok ix s now l i n b a h m)
