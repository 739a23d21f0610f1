-- 02, slip 4: the pending that a call's own step ends. What the code tells from the pending before and after the step is what the
-- definition says of the step.
use Prim.Native.Nat.{ℕ}
use mathlib.Core.Path.{◌≡◌, refl, sym, ap, ◌∙◌, subst, subst⁻¹}
use mathlib.Core.Bool.{Bool, true, false, cond, ◌&&◌}
use mathlib.Core.List.{List, [], ◌∷◌, ◌++◌, append-nil}
use mathlib.Core.Option.{Option, none, some}
use lib.ListN.{length}
use lib.Dec.{leb}
use native.Mathlib.Omega.{arith}
use Rattle.model.specs.Base.{same, is_some}
use Rattle.model.specs.Value.{Value, same_value}
use Rattle.model.specs.Node.{Node, PendingNode, Ending, EndedPending, ended, ended_if, with_status, with_value}
use Rattle.model.specs.Result.{FailureReason, BucketInsertResult, UpdateResult, is_inserted, is_failed}
use Rattle.model.specs.Bucket.{Bucket, BucketSettings, nodes, find, get, holds, is_full, fails_bucket_filter, is_max_incoming, cleared, with_pending, take_out, of_key, insert_endings, insert_full, insert, apply_due, apply_if_due, apply_pending, reinsert, is_first, taken_out, status_endings, update_if_pending, update_status_of, update_status, update_value_of, update_value, remove}
use Rattle.model.specs.Table.{Answer, kind_if_pending, kind_of_node, kind_of, then_status, update_node_in, given_status_endings, update_node_endings, then_value, insert_or_update_in, insert_or_update_endings}
use Rattle.model.specs.Question.{is_absent}
use Rattle.model.specs.Fits.{Opt, Formed}
use Rattle.laws.proofs.Tests.{cases, clash, split, same_not}
use Rattle.laws.proofs.KeepLists.{get_nodes, get_key}
use Rattle.laws.proofs.KeepFormed.{update_value_formed}
use Rattle.laws.proofs.Applied.{apply_ends, apply_again, due_one}
use Rattle.bucket.specs.declared.KBucket.{KBucket}
use Rattle.bucket.specs.Bucket.{pending_of, bucket_of, Becomes}
use Rattle.bucket.proofs.Sound.{formed_of}
use Rattle.on_key.specs.Answers.{is_due, either_of, gone}
use Rattle.on_key.proofs.Due.{not_due}

-- what is gone

gone_same : (k : ℕ) (p : Option PendingNode) → gone k p p ≡ []
gone_same k none = refl
gone_same k (some p) = refl

gone_waits : (k : ℕ) (p q : Option PendingNode) → is_some q ≡ true → gone k p q ≡ []
gone_waits k none q h = refl
gone_waits k (some p) none h = clash h refl
gone_waits k (some p) (some q) h = refl

-- the pending is not of key k
abbrev Apart : ℕ → Option PendingNode → Type 0
Apart k = Opt (λ (p : PendingNode). same p.node.key k ≡ false)

gone_if : (k : ℕ) (p : Option PendingNode) → Apart k p → (t : Bool) → gone k p (cond t none p) ≡ cond t (ended_if Ending.FirstConfirmed p) []
gone_if k none a true = refl
gone_if k none a false = refl
gone_if k (some p) a true = rw a
gone_if k (some p) a false = refl

-- the record of the pending that was applied, or of the one that the step ended: not both
either_nothing : (xs : List EndedPending) → either_of xs [] ≡ xs ++ []
either_nothing [] = refl
either_nothing (x ∷ xs) = ap (λ (l : List EndedPending). x ∷ l) (sym (append-nil xs))

-- the records of a call that applies first and has no ending of its own
pub no_own : {rs xs : List EndedPending} → rs ≡ xs → rs ≡ xs ++ []
no_own {rs} {xs} e = e ∙ sym (append-nil xs)

with_own : (s : BucketSettings) (now : ℕ) (b : Bucket) (k : ℕ) (q : Option PendingNode)
    → either_of (apply_pending s now b).1 (gone k (apply_pending s now b).0.pending q) ≡ (apply_pending s now b).1 ++ gone k (apply_pending s now b).0.pending q
with_own s now b k q =
    apply_ends s now (λ (rs : List EndedPending) (o : Option PendingNode). either_of rs (gone k o q) ≡ rs ++ gone k o q) (λ o. refl) either_nothing b

-- nothing is due once the due pending was applied

undue : (s : BucketSettings) (now : ℕ) (b : Bucket) → (apply_pending s now b).1 ≡ [] → is_due now b.pending ≡ false
unfolding apply_pending
undue s now b = go b.pending
  where
    never : (x : ℕ) → x ≡ 0 → x ≡ 1 → ⊥
    never x e f = omega arith

    go : (o : Option PendingNode) → (apply_if_due s now b o).1 ≡ [] → is_due now o ≡ false
    go none e = refl
    go (some p) e =
        split (leb p.deadline now)
        (λ t. absurd (never (length (apply_due s now p.node (with_pending none b)).1) (ap length (rw t at e)) (due_one s now p.node (with_pending none b))))
        (λ t. t)

pub applied_undue : (s : BucketSettings) (now : ℕ) (b : Bucket) → is_due now (apply_pending s now b).0.pending ≡ false
applied_undue s now b = undue s now (apply_pending s now b).0 (ap (λ (r : Bucket × List EndedPending). r.1) (apply_again s now b))

-- the steps

-- a step on the pending alone leaves it there
if_pending_after : (j k : ℕ) (f : Node → Node) (b : Bucket) (p o : Option PendingNode) → b.pending ≡ o → gone j p (update_if_pending k f b o).1.pending ≡ gone j p b.pending
if_pending_after j k f b p none h = refl
if_pending_after j k f b p (some o) h =
    cases (λ (r : UpdateResult × Bucket). gone j p r.1.pending ≡ gone j p b.pending) (same o.node.key k)
    (λ _. gone_waits j p (some _) refl ∙ sym (gone_waits j p b.pending (ap is_some h))) (λ _. refl)

-- a key that is not held does not stand at place 0
first_absent : (k : ℕ) (b : Bucket) → get k b ≡ none → is_first k (nodes b) ≡ false
first_absent k b e = go (nodes b) (sym (get_nodes k b) ∙ e)
  where
    go : (ns : List Node) → find k ns ≡ none → is_first k ns ≡ false
    go [] h = refl
    go (n ∷ ns) h = split (same n.key k) (λ t. clash refl (ap is_some (rw t at h))) (λ t. t)

not_cleared : (k : ℕ) (p : Option PendingNode) → Apart k p → cleared k p ≡ p
not_cleared k none a = refl
not_cleared k (some p) a = rw a

-- 01, question 2: the pending is not of a held key
apart : (k : ℕ) (b : Bucket) → holds k b ≡ true → (o : Option PendingNode) → Opt (λ (p : PendingNode). holds p.node.key b ≡ false) o → Apart k o
apart k b e none h = tt
apart k b e (some p) h = same_not p.node.key k (λ z. clash (ap (λ (j : ℕ). holds j b) z ∙ e) h)

-- update_status: place 0 given Connected
pub status_told : (s : BucketSettings) (k : ℕ) (u : Bool) (d : Option Bool) (b : Bucket) {m : ℕ} → Formed m b
    → gone k b.pending (update_status s k u d b).1.pending ≡ status_endings k u b
unfolding update_status reinsert
status_told s k u d b w = go (get k b) refl
  where
    never : (t : Bool) → cond (t && false) (ended_if Ending.FirstConfirmed b.pending) [] ≡ []
    never true = refl
    never false = refl

    go : (o : Option Node) → get k b ≡ o → gone k b.pending (update_status_of s k u d b o).1.pending ≡ status_endings k u b
    go none e =
        if_pending_after k k (with_status u d) b b.pending b.pending refl
        ∙ gone_same k b.pending
        ∙ sym (ap (λ (t : Bool). cond (u && t) (ended_if Ending.FirstConfirmed b.pending) []) (first_absent k b e) ∙ never u)
    go (some n) e =
        let P : Option FailureReason × Bucket → Type 0 = λ r. gone k b.pending r.1.pending ≡ status_endings k u b in
        let a : Apart k b.pending = apart k b (ap is_some e) b.pending w.pending_apart in
        let own : n.key ≡ k = subst (Opt (λ (m : Node). m.key ≡ k)) e (get_key k b) in
        let told : gone k b.pending (cond (u && is_first k (nodes b)) none b.pending) ≡ status_endings k u b = gone_if k b.pending a (u && is_first k (nodes b)) in
        let there : cleared n.key (cond (u && is_first k (nodes b)) none b.pending) ≡ cond (u && is_first k (nodes b)) none b.pending =
        cases (λ (o : Option PendingNode). cleared n.key o ≡ o) (u && is_first k (nodes b)) (λ _. refl)
        (λ _. not_cleared n.key b.pending (subst⁻¹ (λ (j : ℕ). Apart j b.pending) own a)) in
        cases P (fails_bucket_filter s n.value (taken_out k u b)) (λ _. told)
        (λ _. cases P (is_max_incoming s (with_status u d n) (taken_out k u b)) (λ _. told)
        (λ _. ap (gone k b.pending) there ∙ told))

-- update_value leaves a pending where there was one, of the same key
value_after : (s : BucketSettings) (j k : ℕ) (v : Value) (b : Bucket) (p : Option PendingNode) → gone j p (update_value s k v b).1.pending ≡ gone j p b.pending
unfolding update_value
value_after s j k v b p = go (get k b)
  where
    go : (o : Option Node) → gone j p (update_value_of s k v b o).1.pending ≡ gone j p b.pending
    go none = if_pending_after j k (with_value v) b p b.pending refl
    go (some n) =
        let P : UpdateResult × Bucket → Type 0 = λ r. gone j p r.1.pending ≡ gone j p b.pending in
        cases P (same_value n.value v) (λ _. refl) (λ _. cases P (fails_bucket_filter s v (take_out k b)) (λ _. refl) (λ _. refl))

value_before : (s : BucketSettings) (j k : ℕ) (v : Value) (b : Bucket) (q : Option PendingNode) → gone j b.pending q ≡ gone j (update_value s k v b).1.pending q
unfolding update_value
value_before s j k v b q = go (get k b)
  where
    changed : (p : PendingNode) (q : Option PendingNode) → gone j (some p) q ≡ gone j (some (record { node = with_value v p.node; deadline = p.deadline })) q
    changed p none = refl
    changed p (some q) = refl

    pending : (o : Option PendingNode) → b.pending ≡ o → gone j b.pending q ≡ gone j (update_if_pending k (with_value v) b o).1.pending q
    pending none h = refl
    pending (some p) h =
        cases (λ (r : UpdateResult × Bucket). gone j b.pending q ≡ gone j r.1.pending q) (same p.node.key k)
        (λ _. ap (λ (o : Option PendingNode). gone j o q) h ∙ changed p q) (λ _. refl)

    go : (o : Option Node) → gone j b.pending q ≡ gone j (update_value_of s k v b o).1.pending q
    go none = pending b.pending refl
    go (some n) =
        let P : UpdateResult × Bucket → Type 0 = λ r. gone j b.pending q ≡ gone j r.1.pending q in
        cases P (same_value n.value v) (λ _. refl) (λ _. cases P (fails_bucket_filter s v (take_out k b)) (λ _. refl) (λ _. refl))

-- remove, with nothing due
remove_gone : (s : BucketSettings) (now k : ℕ) (b : Bucket) → is_due now b.pending ≡ false → gone k b.pending (remove s now k b).1.pending ≡ []
unfolding remove
remove_gone s now k b h =
    cases (λ (r : Bool × Bucket). gone k b.pending r.1.pending ≡ []) (holds k b)
    (λ _. ap (λ (r : Bucket × List EndedPending). gone k b.pending r.0.pending) (not_due s now (take_out k b) h) ∙ gone_same k b.pending)
    (λ _. gone_same k b.pending)

-- update_node
pub update_told : (s : BucketSettings) (fails : Bool) (now k : ℕ) (v : Value) (u : Option Bool) (b : Bucket) → Formed s.max_incoming b → is_due now b.pending ≡ false
    → gone k b.pending (update_node_in s fails now k v u b).1.pending ≡ update_node_endings s fails k v u b
update_told s true now k v u b w h = remove_gone s now k b h
update_told s false now k v u b w h = go (is_failed (update_value s k v b).0) refl
  where
    kept : gone k b.pending (update_value s k v b).1.pending ≡ []
    kept = value_after s k k v b b.pending ∙ gone_same k b.pending

    then : (u : Option Bool)
        → gone k b.pending (then_status s k u (update_value s k v b).0 (update_value s k v b).1).1.pending ≡ given_status_endings k u (update_value s k v b).1
    then none = kept
    then (some u) =
        value_before s k k v b (update_status s k u none (update_value s k v b).1).1.pending
        ∙ status_told s k u none (update_value s k v b).1 (update_value_formed s k v b w)

    go : (t : Bool) → is_failed (update_value s k v b).0 ≡ t
        → gone k b.pending (update_node_in s false now k v u b).1.pending ≡ update_node_endings s false k v u b
    go true e = rw e kept
    go false e = rw e (then u)

-- insert: a pending of its key
insert_told : (s : BucketSettings) (now : ℕ) (n : Node) (b : Bucket) → gone n.key b.pending (insert s now n b).1.pending ≡ insert_endings n b (insert s now n b).0
unfolding insert
insert_told s now n b =
    let P : BucketInsertResult × Bucket → Type 0 = λ r. gone n.key b.pending r.1.pending ≡ insert_endings n b r.0 in
    cases P (holds n.key b) (λ _. gone_same n.key b.pending)
    (λ _. cases P (fails_bucket_filter s n.value b) (λ _. gone_same n.key b.pending)
    (λ _. cases P (is_max_incoming s n b) (λ _. gone_same n.key b.pending)
    (λ _. cases P (is_full b) (λ _. full n.connected b.disconnected b.pending) (λ _. own b.pending))))
  where
    own : (p : Option PendingNode) → gone n.key p (cleared n.key p) ≡ ended_if Ending.Inserted (of_key n.key p)
    own none = refl
    own (some p) = go (same p.node.key n.key) refl
      where
        go : (t : Bool) → same p.node.key n.key ≡ t → gone n.key (some p) (cond t none (some p)) ≡ ended_if Ending.Inserted (cond t (some p) none)
        go true e = ap (λ (x : Bool). ended p.node (cond x Ending.Inserted Ending.FirstConfirmed)) e
        go false e = refl

    full : (u : Bool) (ds : List Node) (p : Option PendingNode)
        → gone n.key b.pending (insert_full s now n b u ds p).1.pending ≡ insert_endings n b (insert_full s now n b u ds p).0
    full false ds p = gone_same n.key b.pending
    full true [] p = gone_same n.key b.pending
    full true (d ∷ ds) none = gone_waits n.key b.pending (some _) refl
    full true (d ∷ ds) (some p) = gone_same n.key b.pending

-- insert_or_update
pub insert_or_update_told : (s : BucketSettings) (fails : Bool) (now : ℕ) (n : Node) (b : Bucket) → Formed s.max_incoming b → is_due now b.pending ≡ false
    → gone n.key b.pending (insert_or_update_in s fails now n b).1.pending ≡ insert_or_update_endings s fails now n b
insert_or_update_told s true now n b w h = remove_gone s now n.key b h
insert_or_update_told s false now n b w h = go (holds n.key b) refl
  where
    held : gone n.key b.pending (update_status s n.key n.connected (some n.incoming) b).1.pending ≡ status_endings n.key n.connected b
    held = status_told s n.key n.connected (some n.incoming) b w

    then : gone n.key b.pending
        (then_value s n.key n.value (update_status s n.key n.connected (some n.incoming) b).0 (update_status s n.key n.connected (some n.incoming) b).1).1.pending
        ≡ status_endings n.key n.connected b
    then =
        cases (λ (r : Answer × Bucket). gone n.key b.pending r.1.pending ≡ status_endings n.key n.connected b)
        (is_failed (update_status s n.key n.connected (some n.incoming) b).0) (λ _. held)
        (λ _. value_after s n.key n.key n.value (update_status s n.key n.connected (some n.incoming) b).1 b.pending ∙ held)

    go : (t : Bool) → holds n.key b ≡ t → gone n.key b.pending (insert_or_update_in s false now n b).1.pending ≡ insert_or_update_endings s false now n b
    go true e = rw e then
    go false e = rw e (insert_told s now n b)

-- Absent insert: the key is not pending
pub absent_ends_none : (n : Node) (b : Bucket) (r : BucketInsertResult) → is_absent (kind_of n.key b) ≡ true → insert_endings n b r ≡ []
absent_ends_none n b r h = cases (λ (l : List EndedPending). l ≡ []) (is_inserted r) (λ _. found (get n.key b) h) (λ _. refl)
  where
    waits : (o : Option PendingNode) → is_absent (kind_if_pending n.key o) ≡ true → ended_if Ending.Inserted (of_key n.key o) ≡ []
    waits none h = refl
    waits (some p) h = split (same p.node.key n.key) (λ t. clash (rw t at h) refl) (λ t. rw t)

    found : (o : Option Node) → is_absent (kind_of_node n.key b o) ≡ true → ended_if Ending.Inserted (of_key n.key b.pending) ≡ []
    found none h = waits b.pending h
    found (some m) h = clash h refl

-- The records that the calls give, as the code tells them. b is the bucket as the call's own step found it, c as it left it.

becomes_formed : {s : BucketSettings} {m : Bucket} {b : KBucket} → Becomes s m b → Formed s.max_incoming m
becomes_formed {s} {m} {b} x =
    subst (λ (t : BucketSettings). Formed t.max_incoming m) x.settings (subst (Formed b.settings.max_incoming) x.bucket (formed_of b x.sound))

-- after a due pending was applied
module _ (s : BucketSettings) (now : ℕ) (m : Bucket) (b c : KBucket) (x : Becomes s (apply_pending s now m).0 b) {xs : List EndedPending} (y : xs ≡ (apply_pending s now m).1)
    {j k : ℕ} (e : j ≡ k) {rs : List EndedPending} (h : rs ≡ either_of xs (gone j (pending_of b.pending) (pending_of c.pending))) where
  abbrev found : Bucket
  found = (apply_pending s now m).0

  told : {n : Bucket} → bucket_of c ≡ n → {g : List EndedPending} → gone k found.pending n.pending ≡ g → rs ≡ (apply_pending s now m).1 ++ g
  told {n} z w =
      h ∙ ap (λ (l : List EndedPending). either_of l (gone j (pending_of b.pending) (pending_of c.pending))) y
      ∙ ap (λ (i : ℕ). either_of (apply_pending s now m).1 (gone i (pending_of b.pending) (pending_of c.pending))) e
      ∙ ap (λ (f : Bucket). either_of (apply_pending s now m).1 (gone k f.pending (pending_of c.pending))) x.bucket
      ∙ with_own s now m k (pending_of c.pending)
      ∙ ap (λ (f : Bucket). (apply_pending s now m).1 ++ gone k found.pending f.pending) z
      ∙ ap (λ (l : List EndedPending). (apply_pending s now m).1 ++ l) w

  pub status_records : (u : Bool) (d : Option Bool) → bucket_of c ≡ (update_status s k u d found).1 → rs ≡ (apply_pending s now m).1 ++ status_endings k u found
  status_records u d z = told z (status_told s k u d found (becomes_formed x))

  pub update_records : (fails : Bool) (v : Value) (u : Option Bool) → bucket_of c ≡ (update_node_in s fails now k v u found).1
      → rs ≡ (apply_pending s now m).1 ++ update_node_endings s fails k v u found
  update_records fails v u z = told z (update_told s fails now k v u found (becomes_formed x) (applied_undue s now m))

  pub insert_or_update_records : (fails : Bool) (n : Node) → n.key ≡ k → bucket_of c ≡ (insert_or_update_in s fails now n found).1
      → rs ≡ (apply_pending s now m).1 ++ insert_or_update_endings s fails now n found
  insert_or_update_records fails n o z =
      told z (ap (λ (i : ℕ). gone i found.pending (insert_or_update_in s fails now n found).1.pending) (sym o) ∙ insert_or_update_told s fails now n found (becomes_formed x) (applied_undue s now m))

-- with nothing applied
module _ (s : BucketSettings) (m : Bucket) (b c : KBucket) (x : Becomes s m b) {j k : ℕ} (e : j ≡ k) {rs : List EndedPending}
    (h : rs ≡ gone j (pending_of b.pending) (pending_of c.pending)) where
  stored_told : {n : Bucket} → bucket_of c ≡ n → rs ≡ gone k m.pending n.pending
  stored_told z =
      h ∙ ap (λ (i : ℕ). gone i (pending_of b.pending) (pending_of c.pending)) e
      ∙ ap (λ (f : Bucket). gone k f.pending (pending_of c.pending)) x.bucket ∙ ap (λ (f : Bucket). gone k m.pending f.pending) z

  pub stored_status_records : (u : Bool) (d : Option Bool) → bucket_of c ≡ (update_status s k u d m).1 → rs ≡ status_endings k u m
  stored_status_records u d z = stored_told z ∙ status_told s k u d m (becomes_formed x)
