-- Nodes loaded into a table that holds nothing (02, slip 6): each bucket agrees with the log that they were placed in, one by one.
use Prim.Native.Nat.{ℕ, zero, suc, ◌+◌, ◌≤◌, ◌<◌}
use native.Mathlib.Omega.{arith}
use native.Mathlib.Nat.{not-suc-le-zero, eq-or-lt_of_le}
use mathlib.Core.Path.{◌≡◌, refl, sym, ap, ◌∙◌, subst, subst⁻¹}
use mathlib.Core.Bool.{Bool, true, false, cond, not}
use mathlib.Core.List.{List, [], ◌∷◌, ◌++◌, append-nil, append_assoc}
use mathlib.Core.Option.{Option, none, some}
use mathlib.Core.Logic.{⊎_elim}
use lib.ListN.{length}
use Rattle.model.specs.Base.{same, select}
use Rattle.model.specs.Node.{Node}
use Rattle.model.specs.Bucket.{Bucket, max_nodes_per_bucket, empty_bucket, nodes, num_entries, only, put}
use Rattle.model.specs.Table.{Table, num_buckets, held_nodes, index_in}
use Rattle.model.specs.Formed.{is_at}
use Rattle.model.specs.Fits.{All, Different, Formed}
use Rattle.model.specs.Saved.{loaded_nodes, loaded_bucket}
use Rattle.laws.proofs.Tests.{same_self, same_not, same_sym, clash, cases, split}
use Rattle.laws.proofs.Lists.{lt_or_le}
use Rattle.laws.proofs.All.{all_map, all_zip, all_pass}
use Rattle.laws.proofs.KeepLists.{select_append}
use Rattle.laws.proofs.KeepFormed.{count_nodes, count_put}
use Rattle.laws.proofs.KeepStep.{bucket_index_below}
use Rattle.laws.proofs.TableBytes.{index_at}
use Rattle.laws.proofs.Loaded.{Loads, loaded_past, loaded_well_formed, loaded_pending, nothing_at}
use Rattle.laws.proofs.SavedBack.{loaded_are_read}
use Rattle.table_log.specs.Log.{Log, node_of, collect, group, without}
use Rattle.theorem.proofs.Fold.{mem, place, enter_loaded}
use Rattle.theorem.proofs.Keys.{Distinct, mem_append, mem_false_without, without_placed, distinct_placed}
use Rattle.theorem.proofs.Agree.{chosen, NotPending, Agree, Only, Gives_only, agree_add}
use Rattle.theorem.proofs.Frame.{agree_skip}
use Rattle.theorem.proofs.Ops.{node_give, node_other, gives}
use Rattle.theorem.proofs.Steps.{give_node, holds_agree}

-- loading enters neither a key twice nor settings
pub load_distinct : (ns : List Node) (l : Log) → Distinct l.held → Distinct (enter_loaded ns l).held
load_distinct [] l d = d
load_distinct (n ∷ ns) l d = load_distinct ns (place n.key (give_node n l)) (distinct_placed n.key l.held d)

pub load_settings : (ns : List Node) (l : Log) → (enter_loaded ns l).settings ≡ l.settings
load_settings [] l = refl
load_settings (n ∷ ns) l = load_settings ns (place n.key (give_node n l))

-- ---- a bucket is its nodes, put in place by place

abbrev puts : List Node → Bucket → Bucket
puts [] b = b
puts (n ∷ ns) b = puts ns (put n b)

abbrev bucket_of : (disconnected connected : List Node) → Bucket
bucket_of ds cs = record { disconnected = ds; connected = cs; pending = none }

put_disconnected : (n : Node) (xs : List Node) → n.connected ≡ false → put n (bucket_of xs []) ≡ bucket_of (xs ++ (n ∷ [])) []
put_disconnected n xs e = ap (λ (u : Bool). bucket_of (xs ++ only (not u) n) ([] ++ only u n)) e

put_connected : (n : Node) (xs ys : List Node) → n.connected ≡ true → put n (bucket_of xs ys) ≡ bucket_of xs (ys ++ (n ∷ []))
put_connected n xs ys e = ap (λ (u : Bool). bucket_of (xs ++ only (not u) n) (ys ++ only u n)) e ∙ ap (λ (zs : List Node). bucket_of zs (ys ++ (n ∷ []))) (append-nil xs)

puts_disconnected : (xs ns ms : List Node) → All (λ (n : Node). n.connected ≡ false) ns → puts (ns ++ ms) (bucket_of xs []) ≡ puts ms (bucket_of (xs ++ ns) [])
puts_disconnected xs [] ms a = ap (λ (zs : List Node). puts ms (bucket_of zs [])) (sym (append-nil xs))
puts_disconnected xs (n ∷ ns) ms a =
    ap (puts (ns ++ ms)) (put_disconnected n xs a.0) ∙ puts_disconnected (xs ++ (n ∷ [])) ns ms a.1
    ∙ ap (λ (zs : List Node). puts ms (bucket_of zs [])) (append_assoc xs (n ∷ []) ns)

puts_connected : (xs ys ns : List Node) → All (λ (n : Node). n.connected ≡ true) ns → puts ns (bucket_of xs ys) ≡ bucket_of xs (ys ++ ns)
puts_connected xs ys [] a = ap (bucket_of xs) (sym (append-nil ys))
puts_connected xs ys (n ∷ ns) a =
    ap (puts ns) (put_connected n xs ys a.0) ∙ puts_connected xs (ys ++ (n ∷ [])) ns a.1 ∙ ap (bucket_of xs) (append_assoc ys (n ∷ []) ns)

puts_all : (m : ℕ) (b : Bucket) → Formed m b → b.pending ≡ none → puts (nodes b) empty_bucket ≡ b
puts_all m b f e =
    puts_disconnected [] b.disconnected b.connected f.disconnected_first
    ∙ puts_connected b.disconnected [] b.connected f.then_connected
    ∙ (λ j. record { disconnected = b.disconnected; connected = b.connected; pending = sym e j })

-- ---- one bucket and the log, node after node

-- a key that is not held is not, when another is placed
still_free : (k : ℕ) (l : Log) (ms : List Node) → All (λ (m : Node). same m.key k ≡ false) ms → All (λ (m : Node). mem m.key l.held ≡ false) ms
    → All (λ (m : Node). mem m.key (place k l).held ≡ false) ms
still_free k l ms =
    all_zip (λ (m : Node). same m.key k ≡ false) (λ (m : Node). mem m.key l.held ≡ false) (λ (m : Node). mem m.key (place k l).held ≡ false)
    (λ m d e. mem_append m.key (without k l.held) (k ∷ []) ∙ rw (mem_false_without k m.key l.held e, same_sym k m.key, d)) ms

only_loaded : (n : Node) (l : Log) → Only n.key l (place n.key (give_node n l))
only_loaded n l =
    record {
      same_nodes = λ x e. node_other n.key x (some n.connected) (some n.incoming) (some n.value) l e;
      same_held = without_placed n.key l.held;
    }

module _ (ix : ℕ → Option ℕ) (j : ℕ) where
  abbrev is_here : Node → Bool
  is_here n = is_at (ix n.key) j

  -- the nodes ms can be put in the bucket, and the log holds none of them
  record Free (l : Log) (b : Bucket) (ms : List Node) : Type 0 where
    no_pending : b.pending ≡ none
    different : Different ms
    free : All (λ (m : Node). mem m.key l.held ≡ false) ms
    room : num_entries b + length ms ≤ max_nodes_per_bucket

  not_pending : (k : ℕ) (b : Bucket) → b.pending ≡ none → NotPending k b.pending
  not_pending k b e = rw e tt

  load_agree : (ns : List Node) (l : Log) (b : Bucket) → Agree ix l j b → Free l b (select is_here ns) → Agree ix (enter_loaded ns l) j (puts (select is_here ns) b)
  load_agree [] l b a = λ f. a
  load_agree (n ∷ ns) l b a =
      let k : ℕ = n.key in
      let g : Log = give_node n l in
      let ms : List Node = select is_here ns in
      cases (λ (xs : List Node). Free l b xs → Agree ix (enter_loaded ns (place k g)) j (puts xs b)) (is_at (ix k) j)
      (λ e f. load_agree ns (place k g) (put n b)
      (agree_add ix l g j k n b a (Gives_only k l g (gives k (some n.connected) (some n.incoming) (some n.value) l)) (not_pending k b f.no_pending) (index_at (ix k) j e)
      f.free.0 (node_give k (some n.connected) (some n.incoming) (some n.value) l) (let r = f.room in omega arith))
      (record {
        no_pending = f.no_pending;
        different = f.different.1;
        free = still_free k g ms f.different.0 f.free.1;
        room = let r = f.room in let c = count_put n b in omega arith;
      }))
      (λ e f. load_agree ns (place k g) b (agree_skip ix j k l (place k g) b e (only_loaded n l) a)
      (record {
        no_pending = f.no_pending;
        different = f.different;
        free = still_free k g ms (all_map (λ (m : Node). is_here m ≡ true) (λ (m : Node). same m.key k ≡ false) (λ m q. elsewhere k m.key e q) ms (all_pass is_here ns)) f.free;
        room = f.room;
      }))
    where
      elsewhere : (k x : ℕ) → is_at (ix k) j ≡ false → is_at (ix x) j ≡ true → same x k ≡ false
      elsewhere k x e q = same_not x k (λ p. clash q (ap (λ (y : ℕ). is_at (ix y) j) p ∙ e))

  -- ---- the nodes of bucket j among all

  select_here : (i : ℕ) (ns : List Node) → All (λ (n : Node). ix n.key ≡ some i) ns → select is_here ns ≡ cond (same i j) ns []
  select_here i [] a = cases (λ (xs : List Node). [] ≡ xs) (same i j) (λ _. refl) (λ _. refl)
  select_here i (n ∷ ns) a =
      cases (λ (xs : List Node). cond (is_here n) (n ∷ select is_here ns) (select is_here ns) ≡ xs) (same i j)
      (λ e. rw (a.0, e) (ap (λ (xs : List Node). n ∷ xs) (select_here i ns a.1 ∙ rw e)))
      (λ e. rw (a.0, e) (select_here i ns a.1 ∙ rw e))

  module _ (bs : ℕ → Bucket) (of_the_index : (i : ℕ) → All (λ (n : Node). ix n.key ≡ some i) (nodes (bs i))) where
    held_past : (n : ℕ) → n ≤ j → select is_here (held_nodes n bs) ≡ []
    unfolding held_nodes
    held_past zero h = refl
    held_past (suc n) h =
        select_append is_here (held_nodes n bs) (nodes (bs n))
        ∙ rw (held_past n (omega arith), select_here n (nodes (bs n)) (of_the_index n), same_not n j (λ p. absurd (omega arith)))

    held_here : (n : ℕ) → j < n → select is_here (held_nodes n bs) ≡ nodes (bs j)
    unfolding held_nodes
    held_here zero h = absurd (not-suc-le-zero h)
    held_here (suc n) h =
        let le : j ≤ n = omega arith in
        select_append is_here (held_nodes n bs) (nodes (bs n))
        ∙ ⊎_elim
        (λ e. rw (held_past n (omega arith), select_here n (nodes (bs n)) (of_the_index n), ← e, same_self j))
        (λ l. rw (held_here n l, select_here n (nodes (bs n)) (of_the_index n), same_not n j (λ p. absurd (omega arith))) (append-nil (nodes (bs j))))
        (eq-or-lt_of_le le)

-- ---- the log says nothing of a table that holds nothing

no_nodes : (ns : List Node) → length ns ≡ 0 → ns ≡ []
no_nodes [] e = refl
no_nodes (n ∷ ns) e = absurd (omega arith)

collect_none : (p : ℕ → Bool) (f : ℕ → Node) (xs : List ℕ) → ((x : ℕ) → p x ≡ false) → collect p f xs ≡ []
collect_none p f [] h = refl
collect_none p f (x ∷ xs) h = rw (h x) (collect_none p f xs h)

none_agree : (ix : ℕ → Option ℕ) (l : Log) (j : ℕ) (b : Bucket) → Agree ix l j b → num_entries b ≡ 0 → Agree ix l j empty_bucket
none_agree ix l j b a e = record {
  disc = sym (no_nodes b.disconnected (omega arith)) ∙ a.disc;
  conn = sym (no_nodes b.connected (omega arith)) ∙ a.conn;
  pend = tt;
  room = omega arith;
}

-- no key is of this index
past_agree : (ix : ℕ → Option ℕ) (l : Log) (j : ℕ) → ((k : ℕ) → ix k ≡ some j → ⊥) → Agree ix l j empty_bucket
unfolding group
past_agree ix l j h = record { disc = sym (all false); conn = sym (all true); pend = tt; room = omega arith }
  where
    not_here : (k : ℕ) → is_at (ix k) j ≡ false
    not_here k = split (is_at (ix k) j) (λ e. absurd (h k (index_at (ix k) j e))) (λ e. e)

    all : (u : Bool) → collect (chosen ix j u (node_of l)) (node_of l) l.held ≡ []
    all u = collect_none (chosen ix j u (node_of l)) (node_of l) l.held (λ x. rw (not_here x))

-- ---- the loaded table

module _ (bs : List ℕ) (l : Log) (t : Table) (g : Loads bs t) (each : (j : ℕ) → Agree (index_in t) l j (t.buckets j)) where
  nothing_agrees : (j : ℕ) → Agree (index_in t) l j empty_bucket
  nothing_agrees j =
      ⊎_elim
      (λ m. none_agree (index_in t) l j (t.buckets j) (each j) (nothing_at t g.nothing j m).0)
      (λ m. past_agree (index_in t) l j (λ k e. let z = bucket_index_below t.settings.local_key k j e in absurd (omega arith)))
      (lt_or_le j num_buckets)

  read_here : (j : ℕ) → select (is_here (index_in t) j) (loaded_nodes bs) ≡ nodes (loaded_bucket bs j)
  read_here j =
      ap (select (is_here (index_in t) j)) (sym (loaded_are_read bs g.size t))
      ∙ ⊎_elim
      (held_here (index_in t) j (loaded_bucket bs) (λ i. (loaded_well_formed bs t g i).of_the_index.held) num_buckets)
      (λ m. held_past (index_in t) j (loaded_bucket bs) (λ i. (loaded_well_formed bs t g i).of_the_index.held) num_buckets m ∙ sym (ap nodes (loaded_past bs j m)))
      (lt_or_le j num_buckets)

  can_load : (j : ℕ) → Free (index_in t) j l empty_bucket (nodes (loaded_bucket bs j))
  can_load j =
      let w = loaded_well_formed bs t g j in
      record {
        no_pending = refl;
        different = w.formed.different;
        free = all_map (λ (n : Node). index_in t n.key ≡ some j) (λ (n : Node). mem n.key l.held ≡ false)
            (λ n e. sym (holds_agree (index_in t) l j n.key empty_bucket (nothing_agrees j) e)) (nodes (loaded_bucket bs j)) w.of_the_index.held;
        room = let r = w.formed.at_most in let c = count_nodes (loaded_bucket bs j) in omega arith;
      }

  pub loaded_agrees : (j : ℕ) → Agree (index_in t) (enter_loaded (loaded_nodes bs) l) j (loaded_bucket bs j)
  loaded_agrees j =
      let m : Log = enter_loaded (loaded_nodes bs) l in
      let e = read_here j in
      let a : Agree (index_in t) m j (puts (nodes (loaded_bucket bs j)) empty_bucket) =
      subst (λ (ns : List Node). Agree (index_in t) m j (puts ns empty_bucket)) e
      (load_agree (index_in t) j (loaded_nodes bs) l empty_bucket (nothing_agrees j) (subst⁻¹ (Free (index_in t) j l empty_bucket) e (can_load j))) in
      subst (Agree (index_in t) m j) (puts_all t.settings.bucket.max_incoming (loaded_bucket bs j) (loaded_well_formed bs t g j).formed (loaded_pending bs t g j)) a
