-- What a sound bucket tells, and when a bucket is sound.
use Rattle.std.specs.Prelude as code
use Rattle.std.proofs.Common.{Some, None}
use Prim.Native.Nat.{ℕ, ◌+◌, ◌-◌, ◌≤◌}
use native.Mathlib.Omega.{arith}
use mathlib.Core.Path.{◌≡◌, refl, sym, ap, ◌∙◌, subst}
use mathlib.Core.Bool.{Bool, true, false, cond, not}
use mathlib.Core.Option.{none, some}
use mathlib.Core.List.{List, [], ◌∷◌, ◌++◌, map}
use lib.ListN.{length, take, drop, replicate, length-map, length-drop, take-append-drop}
use lib.Seq.{take_all, length-take-le, take-take}
use lib.Dec.{eqb, leb}
use borrow.Author.Tests.{leb-true, eqb-true, not-true, eq-eqb, ne_eqb}
use Rattle.model.specs.Base.{every}
use Rattle.model.specs.Node as model
use Rattle.model.specs.Bucket.{Bucket, BucketSettings, max_nodes_per_bucket, nodes, first_connected, first_connected_pos, num_entries, holds, incoming_nodes}
use Rattle.model.specs.Fits.{All, Opt, Different, Formed}
use Rattle.laws.proofs.KeepFormed.{count_nodes}
use Rattle.key.specs.Key.{num, Words}
use Rattle.node.specs.declared.Node.{Node}
use Rattle.laws.proofs.NodeFormed.{flag_back}
use Rattle.node.specs.Node.{node_of, node_codes, is_zero, stored_node, zero_node}
use Rattle.node.proofs.Tests.{and_both}
use Rattle.node.proofs.Stored.{stored_node_of, zero_is}
use Rattle.places.specs.Places.{padded, in_state, different}
use Rattle.places.proofs.Model.{map_take, map_drop, all_of_every, all_of_map, different_true}
use Rattle.bucket.specs.declared.PendingNode.{PendingNode}
use Rattle.bucket.specs.declared.KBucket.{KBucket}
use Rattle.bucket.specs.Bucket as specs
use Rattle.bucket.specs.Settings.{stored_settings}
use Rattle.bucket.specs.Bucket.{pending_of, held_of, bucket_of, settings_of, stored_pending, stored, pending_sound, PendingWords, sound, Sound, Becomes}
use Rattle.bucket.proofs.Stored.{same_parts, bucket_stored, settings_stored, sound_stored}
use Rattle.laws.proofs.All.{all_map, all_append}

-- the tests of question 2, one by one
pub record Passed (b : KBucket) : Type 0 where
  pub at_most : leb b.count max_nodes_per_bucket ≡ true
  pub first_within : leb b.first_connected_pos b.count ≡ true
  pub different_keys : different (map node_of (held_of b)) ≡ true
  pub disconnected_first : every (in_state 0) (take b.first_connected_pos b.nodes) ≡ true
  pub then_connected : every (in_state 1) (drop b.first_connected_pos (held_of b)) ≡ true
  pub incoming_within : leb (length (incoming_nodes (map node_of (held_of b)))) b.settings.max_incoming ≡ true
  pub pending_fits : pending_sound (bucket_of b) b.pending ≡ true
  pub unused_zero : every is_zero (drop b.count (take max_nodes_per_bucket b.nodes)) ≡ true
  pub maximum : leb b.settings.max_incoming max_nodes_per_bucket ≡ true
  pub filter_code : leb b.settings.filter 1 ≡ true

pub passed : (b : KBucket) → sound b ≡ true → Passed b
unfolding sound
passed b e =
    let t₁ = and_both _ _ e in
    let t₂ = and_both _ _ t₁.1 in
    let t₃ = and_both _ _ t₂.1 in
    let t₄ = and_both _ _ t₃.1 in
    let t₅ = and_both _ _ t₄.1 in
    let t₆ = and_both _ _ t₅.1 in
    let t₇ = and_both _ _ t₆.1 in
    let t₈ = and_both _ _ t₇.1 in
    let t₉ = and_both _ _ t₈.1 in
    record {
      at_most = t₁.0;
      first_within = t₂.0;
      different_keys = t₃.0;
      disconnected_first = t₄.0;
      then_connected = t₅.0;
      incoming_within = t₆.0;
      pending_fits = t₇.0;
      unused_zero = t₈.0;
      maximum = t₉.0;
      filter_code = t₉.1;
    }

pub nodes_of : (b : KBucket) → nodes (bucket_of b) ≡ map node_of (held_of b)
nodes_of b = take-append-drop b.first_connected_pos (map node_of (held_of b))

off : (n : Node) → in_state 0 n ≡ true → (node_of n).connected ≡ false
off n e = let p = and_both (eqb n.status.state 0) (node_codes n) e in ap (λ (x : ℕ). eqb x 1) (eqb-true n.status.state 0 p.0)

on : (n : Node) → in_state 1 n ≡ true → (node_of n).connected ≡ true
on n e = (and_both (eqb n.status.state 1) (node_codes n) e).0

codes : (s : ℕ) (n : Node) → in_state s n ≡ true → node_codes n ≡ true
codes s n e = (and_both (eqb n.status.state s) (node_codes n) e).1

apart : (b : Bucket) (p : code.Option PendingNode) → pending_sound b p ≡ true → Opt (λ (q : model.PendingNode). holds q.node.key b ≡ false) (pending_of p)
apart b None e = tt
apart b (Some p) e = not-true _ (and_both (not (holds (num p.node.key) b)) (node_codes p.node) e).0

-- the disconnected nodes of a bucket, place by place
front_nodes : (b : KBucket) → b.first_connected_pos ≤ b.count → take b.first_connected_pos (map node_of (held_of b)) ≡ map node_of (take b.first_connected_pos b.nodes)
front_nodes b h = sym (map_take node_of b.first_connected_pos (held_of b)) ∙ ap (map node_of) (take-take b.first_connected_pos b.count b.nodes h)

back_nodes : (b : KBucket) → drop b.first_connected_pos (map node_of (held_of b)) ≡ map node_of (drop b.first_connected_pos (held_of b))
back_nodes b = sym (map_drop node_of b.first_connected_pos (held_of b))

module _ (b : KBucket) (s : Sound b) where
  pub count_of : b.count ≡ num_entries (bucket_of b)
  count_of = ap (λ (k : KBucket). k.count) s.exact

  pub first_of : b.first_connected_pos ≡ length (bucket_of b).disconnected
  first_of = ap (λ (k : KBucket). k.first_connected_pos) s.exact

  pub places_of : b.nodes ≡ padded (map stored_node (nodes (bucket_of b)))
  places_of = ap (λ (k : KBucket). k.nodes) s.exact

  pub pending_of_lem : b.pending ≡ stored_pending (bucket_of b).pending
  pending_of_lem = ap (λ (k : KBucket). k.pending) s.exact

  pub kept_settings : b.settings ≡ stored_settings (settings_of b)
  kept_settings = ap (λ (k : KBucket). k.settings) s.exact

  pub held_count : length (held_of b) ≡ b.count
  held_count = sym (length-map (held_of b) node_of) ∙ ap length (sym (nodes_of b)) ∙ sym (count_nodes (bucket_of b)) ∙ sym count_of

  pub first≤count : b.first_connected_pos ≤ b.count
  first≤count = leb-true b.first_connected_pos b.count (passed b s.test).first_within

  pub maximum_of : b.settings.max_incoming ≤ max_nodes_per_bucket
  maximum_of = leb-true b.settings.max_incoming max_nodes_per_bucket (passed b s.test).maximum

  pub formed_of : Formed b.settings.max_incoming (bucket_of b)
  formed_of =
      let t = passed b s.test in
      record {
        at_most = subst (λ (k : ℕ). k ≤ max_nodes_per_bucket) count_of s.few;
        different = subst Different (sym (nodes_of b)) (different_true (map node_of (held_of b)) t.different_keys);
        disconnected_first =
            subst (All (λ (n : model.Node). n.connected ≡ false)) (sym (front_nodes b first≤count))
            (all_of_map (λ (n : model.Node). n.connected ≡ false) node_of (take b.first_connected_pos b.nodes)
            (all_map (λ (n : Node). in_state 0 n ≡ true) (λ (n : Node). (node_of n).connected ≡ false) off (take b.first_connected_pos b.nodes)
            (all_of_every (in_state 0) (take b.first_connected_pos b.nodes) t.disconnected_first)));
        then_connected =
            subst (All (λ (n : model.Node). n.connected ≡ true)) (sym (back_nodes b))
            (all_of_map (λ (n : model.Node). n.connected ≡ true) node_of (drop b.first_connected_pos (held_of b))
            (all_map (λ (n : Node). in_state 1 n ≡ true) (λ (n : Node). (node_of n).connected ≡ true) on (drop b.first_connected_pos (held_of b))
            (all_of_every (in_state 1) (drop b.first_connected_pos (held_of b)) t.then_connected)));
        incoming_within =
            subst (λ (ns : List model.Node). length (incoming_nodes ns) ≤ b.settings.max_incoming) (sym (nodes_of b))
            (leb-true (length (incoming_nodes (map node_of (held_of b)))) b.settings.max_incoming t.incoming_within);
        pending_apart = apart (bucket_of b) b.pending t.pending_fits;
      }

-- 01, question 2 and position 7: first_connected_pos is the model's first connected place where it is below the count, and at the count
-- the model has none
first_place : (f c : ℕ) (cs : List model.Node) → c ≡ f + length cs → first_connected f cs ≡ cond (eqb f c) none (some f)
first_place f c [] e = sym (ap (λ (t : Bool). cond t none (some f)) (eq-eqb f c (omega (arith, e))))
first_place f c (n ∷ ns) e = sym (ap (λ (t : Bool). cond t none (some f)) (ne_eqb f c (λ q. omega (arith, e, q))))

pub first_connected_pos_lem : (b : KBucket) → Sound b → first_connected_pos (bucket_of b) ≡ specs.first_connected b
unfolding first_connected_pos
first_connected_pos_lem b s =
    ap (λ (f : ℕ). first_connected f (bucket_of b).connected) (sym (first_of b s))
    ∙ first_place b.first_connected_pos b.count (bucket_of b).connected
    (count_of b s ∙ ap (λ (f : ℕ). f + length (bucket_of b).connected) (sym (first_of b s)))

-- What is stored of a well-formed bucket is sound.

sound_of_stored : (s : BucketSettings) (m : Bucket) → Formed s.max_incoming m → s.max_incoming ≤ max_nodes_per_bucket → Sound (stored s m)
sound_of_stored s m w h =
    record {
      few = w.at_most;
      test = sound_stored s m w h;
      exact = ap (λ (t : BucketSettings). stored t m) (sym (settings_stored s m)) ∙ ap (stored (settings_of (stored s m))) (sym (bucket_stored s m));
    }

pub becomes : (s : BucketSettings) (m : Bucket) (r : KBucket) → r ≡ stored s m → Formed s.max_incoming m → s.max_incoming ≤ max_nodes_per_bucket → Becomes s m r
becomes s m r e w h =
    record {
      bucket = ap bucket_of e ∙ bucket_stored s m;
      settings = ap settings_of e ∙ settings_stored s m;
      sound = subst Sound (sym e) (sound_of_stored s m w h);
    }

-- and it is what is stored
pub becomes_stored : {s : BucketSettings} {m : Bucket} {r : KBucket} → Becomes s m r → r ≡ stored s m
becomes_stored {s} {m} {r} b = b.sound.exact ∙ ap (λ (t : BucketSettings). stored t (bucket_of r)) b.settings ∙ ap (stored s) b.bucket

-- a sound bucket stands for what it stands for
pub becomes_itself : (b : KBucket) → Sound b → Becomes (settings_of b) (bucket_of b) b
becomes_itself b s = record { bucket = refl; settings = refl; sound = s }

-- A bucket that passes question 2, and whose keys are words, is sound.

nodes_there : (ns : List Node) → All (λ (n : Node). Words n.key) ns → All (λ (n : Node). node_codes n ≡ true) ns → map stored_node (map node_of ns) ≡ ns
nodes_there [] w c = refl
nodes_there (n ∷ ns) w c =
    ap (λ (m : Node). m ∷ map stored_node (map node_of ns)) (stored_node_of n w.0 c.0) ∙ ap (λ (ms : List Node). n ∷ ms) (nodes_there ns w.1 c.1)

zero_run : (ns : List Node) → All (λ (n : Node). is_zero n ≡ true) ns → ns ≡ replicate (length ns) zero_node
zero_run [] h = refl
zero_run (n ∷ ns) h = ap (λ (m : Node). m ∷ ns) (zero_is n h.0) ∙ ap (λ (ms : List Node). zero_node ∷ ms) (zero_run ns h.1)

pending_there : (b : Bucket) (p : code.Option PendingNode) → PendingWords p → pending_sound b p ≡ true → p ≡ stored_pending (pending_of p)
pending_there b None w e = refl
pending_there b (Some p) w e =
    ap (λ (m : Node). Some (record { node = m; deadline = p.deadline })) (sym (stored_node_of p.node w (and_both (not (holds (num p.node.key) b)) (node_codes p.node) e).1))

module _ (b : KBucket) (e : sound b ≡ true) (len : length b.nodes ≡ max_nodes_per_bucket)
    (w₁ : All (λ (n : Node). Words n.key) (take b.first_connected_pos b.nodes))
    (w₂ : All (λ (n : Node). Words n.key) (drop b.first_connected_pos (held_of b))) (w₃ : PendingWords b.pending) where
  split_held : take b.first_connected_pos b.nodes ++ drop b.first_connected_pos (held_of b) ≡ held_of b
  split_held =
      let f = b.first_connected_pos in
      ap (λ (ns : List Node). ns ++ drop f (held_of b))
      (sym (take-take f b.count b.nodes (leb-true f b.count (passed b e).first_within)))
      ∙ take-append-drop f (held_of b)

  held_there : map stored_node (map node_of (held_of b)) ≡ held_of b
  held_there =
      let f = b.first_connected_pos in
      let W : Node → Type 0 = λ n. Words n.key in
      let C : Node → Type 0 = λ n. node_codes n ≡ true in
      let t = passed b e in
      nodes_there (held_of b) (subst (All W) split_held (all_append W (take f b.nodes) (drop f (held_of b)) w₁ w₂))
      (subst (All C) split_held
      (all_append C (take f b.nodes) (drop f (held_of b))
      (all_map (λ (n : Node). in_state 0 n ≡ true) C (codes 0) (take f b.nodes) (all_of_every (in_state 0) (take f b.nodes) t.disconnected_first))
      (all_map (λ (n : Node). in_state 1 n ≡ true) C (codes 1) (drop f (held_of b)) (all_of_every (in_state 1) (drop f (held_of b)) t.then_connected))))

  held_long : length (held_of b) ≡ b.count
  held_long = length-take-le b.count b.nodes (omega (arith, leb-true b.count max_nodes_per_bucket (passed b e).at_most))

  places_there : b.nodes ≡ padded (map stored_node (nodes (bucket_of b)))
  places_there =
      let free = drop b.count b.nodes in
      let all : take max_nodes_per_bucket b.nodes ≡ b.nodes = take_all max_nodes_per_bucket b.nodes (omega arith) in
      let zero_free : every is_zero free ≡ true = ap (λ (ns : List Node). every is_zero (drop b.count ns)) (sym all) ∙ (passed b e).unused_zero in
      let many : length free ≡ max_nodes_per_bucket - length (held_of b) = length-drop b.count b.nodes ∙ omega (arith, held_long) in
      let tail : free ≡ replicate (max_nodes_per_bucket - length (held_of b)) zero_node =
      zero_run free (all_of_every is_zero free zero_free) ∙ ap (λ (k : ℕ). replicate k zero_node) many in
      sym (take-append-drop b.count b.nodes) ∙ ap (λ (ns : List Node). held_of b ++ ns) tail
      ∙ ap padded (sym held_there ∙ ap (map stored_node) (sym (nodes_of b)))

  pub sound_of : Sound b
  sound_of =
      let t = passed b e in
      let few = leb-true b.count max_nodes_per_bucket t.at_most in
      let f = b.first_connected_pos in
      record {
        few = few;
        test = e;
        exact =
            same_parts places_there
            (sym held_long ∙ sym (length-map (held_of b) node_of) ∙ ap length (sym (nodes_of b)) ∙ sym (count_nodes (bucket_of b)))
            (sym (length-take-le f (map node_of (held_of b)) (omega (arith, length-map (held_of b) node_of, held_long, leb-true f b.count t.first_within))))
            (pending_there (bucket_of b) b.pending w₃ t.pending_fits) (ap (λ (f : ℕ). record { pending_timeout = b.settings.pending_timeout; max_incoming = b.settings.max_incoming; filter = f }) (sym (flag_back b.settings.filter t.filter_code)));
      }
