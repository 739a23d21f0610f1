-- A bucket and its stored form: there and back, and question 2 of what is stored.
use Rattle.std.specs.Prelude as code
use Prim.Native.Nat.{ℕ, zero, suc, ◌-◌, ◌≤◌}
use native.Mathlib.Omega.{arith}
use mathlib.Core.Path.{◌≡◌, refl, sym, ap, ◌∙◌}
use mathlib.Core.Bool.{Bool, true, false, not, ◌&&◌}
use mathlib.Core.List.{List, [], ◌∷◌, map}
use mathlib.Core.Option.{Option, none, some}
use lib.ListN.{length, take, drop, replicate, length-map}
use lib.Seq.{take-append_seam, drop-append_seam, drop_at, take_all, take-take}
use lib.Dec.{leb}
use borrow.Author.Tests.{le-leb, eq-eqb}
use Rattle.model.specs.Base.{every}
use Rattle.model.specs.Node as model
use Rattle.model.specs.Bucket.{Bucket, BucketSettings, max_nodes_per_bucket, nodes, num_entries, holds, incoming_nodes}
use Rattle.model.specs.Fits.{All, Opt, Formed}
use Rattle.laws.proofs.KeepFormed.{count_nodes}
use Rattle.node.specs.declared.Node.{Node}
use Rattle.laws.proofs.NodeBytes.{flag_there}
use Rattle.laws.proofs.NodeFormed.{flag_code}
use Rattle.key.proofs.Words.{num_key_of}
use Rattle.model.specs.Layout.{flag_byte}
use Rattle.node.specs.Node.{node_of, is_zero, stored_node, zero_node}
use Rattle.node.proofs.Stored.{node_of_stored, codes_stored}
use Rattle.places.specs.Places.{in_state, different}
use Rattle.places.proofs.Model.{map_take, map_drop, every_of_all, all_of_map, different_of}
use Rattle.places.proofs.Padded.{padded_held, padded_length}
use Rattle.bucket.specs.declared.PendingNode.{PendingNode}
use Rattle.bucket.specs.declared.KBucket.{KBucket}
use Rattle.bucket.specs.declared.settings.Settings.{Settings}
use Rattle.bucket.specs.Bucket.{pending_of, held_of, bucket_of, settings_of, stored_pending, stored, pending_sound, sound}
use Rattle.laws.proofs.All.{all_map}

-- two buckets are equal where their parts are
pub same_parts : {ns ns' : List Node} {k k' f f' : ℕ} {p p' : code.Option PendingNode} {s s' : Settings} → ns ≡ ns' → k ≡ k' → f ≡ f' → p ≡ p' → s ≡ s'
    → ◌≡◌ {A = KBucket}
    (record { nodes = ns; count = k; first_connected_pos = f; pending = p; settings = s })
    (record { nodes = ns'; count = k'; first_connected_pos = f'; pending = p'; settings = s' })
same_parts e₁ e₂ e₃ e₄ e₅ = cc

same_bucket : {ds ds' cs cs' : List model.Node} {p p' : Option model.PendingNode} → ds ≡ ds' → cs ≡ cs' → p ≡ p'
    → ◌≡◌ {A = Bucket} (record { disconnected = ds; connected = cs; pending = p }) (record { disconnected = ds'; connected = cs'; pending = p' })
same_bucket e₁ e₂ e₃ = cc

same_settings : {t t' m m' : ℕ} {f f' : Bool} → t ≡ t' → m ≡ m' → f ≡ f'
    → ◌≡◌ {A = BucketSettings} (record { pending_timeout = t; max_incoming = m; filter = f }) (record { pending_timeout = t'; max_incoming = m'; filter = f' })
same_settings e₁ e₂ e₃ = cc

-- From a bucket to its stored form and back.

nodes_back : (ns : List model.Node) → map node_of (map stored_node ns) ≡ ns
nodes_back [] = refl
nodes_back (n ∷ ns) = ap (λ (m : model.Node). m ∷ map node_of (map stored_node ns)) (node_of_stored n) ∙ ap (λ (ms : List model.Node). n ∷ ms) (nodes_back ns)

pending_back : (p : Option model.PendingNode) → pending_of (stored_pending p) ≡ p
pending_back none = refl
pending_back (some p) = ap (λ (n : model.Node). some (record { node = n; deadline = p.deadline })) (node_of_stored p.node)

module _ (s : BucketSettings) (m : Bucket) where
  size : length (map stored_node (nodes m)) ≡ num_entries m
  size = length-map (nodes m) stored_node ∙ sym (count_nodes m)

  held_places : held_of (stored s m) ≡ map stored_node (nodes m)
  held_places = padded_held (map stored_node (nodes m)) (num_entries m) size

  held_stored : map node_of (held_of (stored s m)) ≡ nodes m
  held_stored = ap (map node_of) held_places ∙ nodes_back (nodes m)

  pub bucket_stored : bucket_of (stored s m) ≡ m
  bucket_stored =
      same_bucket (ap (take (length m.disconnected)) held_stored ∙ take-append_seam m.disconnected m.connected)
      (ap (drop (length m.disconnected)) held_stored ∙ drop-append_seam m.disconnected m.connected) (pending_back m.pending)

  pub settings_stored : settings_of (stored s m) ≡ s
  settings_stored = same_settings refl refl (flag_there s.filter)

-- What is stored of a well-formed bucket passes question 2.

every_map_stored : (p : Node → Bool) (ns : List model.Node) → All (λ (n : model.Node). p (stored_node n) ≡ true) ns → every p (map stored_node ns) ≡ true
every_map_stored p ns h = every_of_all p (map stored_node ns) (all_of_map (λ (n : Node). p n ≡ true) stored_node ns h)

and_two : {a b : Bool} → a ≡ true → b ≡ true → (a && b) ≡ true
and_two e f = rw (e, f)

in_state_lem : (u : Bool) (n : model.Node) → n.connected ≡ u → in_state (flag_byte u) (stored_node n) ≡ true
in_state_lem u n e = and_two (eq-eqb (flag_byte n.connected) (flag_byte u) (ap flag_byte e)) (codes_stored n)

zeros : (k : ℕ) → every is_zero (replicate k zero_node) ≡ true
zeros zero = refl
zeros (suc k) = zeros k

all_ten : {a b c d e f g h i j : Bool} → a ≡ true → b ≡ true → c ≡ true → d ≡ true → e ≡ true → f ≡ true → g ≡ true → h ≡ true → i ≡ true → j ≡ true
    → (a && (b && (c && (d && (e && (f && (g && (h && (i && j))))))))) ≡ true
all_ten e₁ e₂ e₃ e₄ e₅ e₆ e₇ e₈ e₉ e₁₀ = rw (e₁, e₂, e₃, e₄, e₅, e₆, e₇, e₈, e₉, e₁₀)

module _ (s : BucketSettings) (m : Bucket) (w : Formed s.max_incoming m) (h : s.max_incoming ≤ max_nodes_per_bucket) where
  front : take (length m.disconnected) (stored s m).nodes ≡ map stored_node m.disconnected
  front =
      let k = length m.disconnected in
      let e : take k (take (num_entries m) (stored s m).nodes) ≡ take k (stored s m).nodes = take-take k (num_entries m) (stored s m).nodes (omega arith) in
      sym e ∙ ap (take k) (held_places s m) ∙ sym (map_take stored_node k (nodes m)) ∙ ap (map stored_node) (take-append_seam m.disconnected m.connected)

  back : drop (length m.disconnected) (held_of (stored s m)) ≡ map stored_node m.connected
  back =
      let k = length m.disconnected in
      ap (drop k) (held_places s m) ∙ sym (map_drop stored_node k (nodes m)) ∙ ap (map stored_node) (drop-append_seam m.disconnected m.connected)

  rest : drop (num_entries m) (take max_nodes_per_bucket (stored s m).nodes) ≡ replicate (max_nodes_per_bucket - length (map stored_node (nodes m))) zero_node
  rest =
      let e = size s m in
      let w' = w.at_most in
      ap (drop (num_entries m)) (take_all max_nodes_per_bucket (stored s m).nodes (omega (arith, padded_length (map stored_node (nodes m)) (omega arith))))
      ∙ drop_at (map stored_node (nodes m)) (replicate (max_nodes_per_bucket - length (map stored_node (nodes m))) zero_node) (num_entries m) e

  pending_sound_lem : (p : Option model.PendingNode) → Opt (λ (q : model.PendingNode). holds q.node.key m ≡ false) p
      → pending_sound (bucket_of (stored s m)) (stored_pending p) ≡ true
  pending_sound_lem none a = refl
  pending_sound_lem (some p) a =
      and_two
      (ap not
      (ap (λ (k : ℕ). holds k (bucket_of (stored s m))) (num_key_of p.node.key) ∙ ap (holds p.node.key) (bucket_stored s m) ∙ a))
      (codes_stored p.node)

  pub sound_stored : sound (stored s m) ≡ true
  unfolding sound
  sound_stored =
      let e₁ = le-leb (num_entries m) max_nodes_per_bucket w.at_most in
      let e₂ : leb (length m.disconnected) (num_entries m) ≡ true = le-leb (length m.disconnected) (num_entries m) (omega arith) in
      let e₃ : different (map node_of (held_of (stored s m))) ≡ true = rw (held_stored s m) (different_of (nodes m) w.different) in
      let e₄ : every (in_state 0) (take (length m.disconnected) (stored s m).nodes) ≡ true =
      rw front (every_map_stored (in_state 0) m.disconnected (all_map (λ (n : model.Node). n.connected ≡ false) (λ (n : model.Node). in_state 0 (stored_node n) ≡ true) (in_state_lem false) m.disconnected w.disconnected_first)) in
      let e₅ : every (in_state 1) (drop (length m.disconnected) (held_of (stored s m))) ≡ true =
      rw back (every_map_stored (in_state 1) m.connected (all_map (λ (n : model.Node). n.connected ≡ true) (λ (n : model.Node). in_state 1 (stored_node n) ≡ true) (in_state_lem true) m.connected w.then_connected)) in
      let e₆ : leb (length (incoming_nodes (map node_of (held_of (stored s m))))) s.max_incoming ≡ true =
      rw (held_stored s m) (le-leb (length (incoming_nodes (nodes m))) s.max_incoming w.incoming_within) in
      let e₇ = pending_sound_lem m.pending w.pending_apart in
      let e₈ : every is_zero (drop (num_entries m) (take max_nodes_per_bucket (stored s m).nodes)) ≡ true = rw rest (zeros (max_nodes_per_bucket - length (map stored_node (nodes m)))) in
      let e₉ = le-leb s.max_incoming max_nodes_per_bucket h in
      all_ten e₁ e₂ e₃ e₄ e₅ e₆ e₇ e₈ e₉ (flag_code s.filter)
