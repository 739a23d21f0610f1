-- A declared node and the model's node that it stands for, there and back.
use Prim.Native.Nat.{ℕ, ◌≤◌}
use mathlib.Core.Path.{◌≡◌, refl, sym, ap, ◌∙◌}
use mathlib.Core.Bool.{Bool, true, false, cond, ◌&&◌}
use mathlib.Core.Option.{Option, none, some}
use lib.Dec.{eqb, leb}
use borrow.Author.Tests.{eqb-true, le-leb}
use Rattle.std.specs.Prelude as std
use Rattle.std.specs.Prelude.{Some, None, MatchOption}
use Rattle.std.specs.Bool.{⊤}
use Rattle.model.specs.Value as model-value
use Rattle.model.specs.Node as model
use Rattle.model.specs.Call.{is_one}
use Rattle.laws.proofs.Tests.{and_left, and_right, or_rest}
use Rattle.laws.proofs.NodeBytes.{flag_there}
use Rattle.laws.proofs.NodeFormed.{flag_code, flag_back}
use Rattle.key.proofs.Words.{num_key_of, key_of_num}
use Rattle.node.proofs.Tests.{and_both}
use Rattle.key.specs.declared.Key.{Key}
use Rattle.key.specs.Key.{Words}
use Rattle.node.specs.declared.Value.{Value}
use Rattle.node.specs.declared.Node.{Node}
use Rattle.node.specs.Status.{optional_of}
use Rattle.node.specs.Node.{value_of, node_of, value_codes, node_codes, stored_address, stored_value, stored_node, zero_node, is_zero, restated, revalued}

same_words : {a a' b b' c c' d d' : ℕ} → a ≡ a' → b ≡ b' → c ≡ c' → d ≡ d'
    → ◌≡◌ {A = Key} (record { w0 = a; w1 = b; w2 = c; w3 = d }) (record { w0 = a'; w1 = b'; w2 = c'; w3 = d' })
same_words p q r s = cc

-- Values.

pub value_of_stored : (v : model-value.Value) → value_of (stored_value v) ≡ v
value_of_stored v = of_address v.slot v.address
  where
    of_address : (slot : ℕ) (x : Option model-value.Address) → value_of (stored_address slot x) ≡ record { address = x; slot = slot }
    of_address slot none = refl
    of_address slot (some x) = refl

same_octets : {f f' a a' b b' c c' d d' : ℕ} (s : ℕ) → f ≡ f' → a ≡ a' → b ≡ b' → c ≡ c' → d ≡ d'
    → ◌≡◌ {A = Value} (record { flag = f; a = a; b = b; c = c; d = d; slot = s }) (record { flag = f'; a = a'; b = b'; c = c'; d = d'; slot = s })
same_octets s p q r t u = cc

stored_by : (v : Value) (t : Bool) → eqb v.flag 1 ≡ t → value_codes v ≡ true → stored_address v.slot (cond t (some (record { a = v.a; b = v.b; c = v.c; d = v.d })) none) ≡ v
stored_by v true e h = same_octets v.slot (sym (eqb-true _ _ e)) refl refl refl refl
stored_by v false e h =
    let z : (eqb v.flag 0 && (eqb v.a 0 && (eqb v.b 0 && (eqb v.c 0 && eqb v.d 0)))) ≡ true = or_rest (eqb v.flag 1) _ h e in
    let f = and_left (eqb v.flag 0) _ z in
    let z1 = and_right (eqb v.flag 0) _ z in
    let z2 = and_right (eqb v.a 0) _ z1 in
    let z3 = and_right (eqb v.b 0) _ z2 in
    same_octets v.slot (sym (eqb-true _ _ f)) (sym (eqb-true _ _ (and_left (eqb v.a 0) _ z1))) (sym (eqb-true _ _ (and_left (eqb v.b 0) _ z2)))
    (sym (eqb-true _ _ (and_left (eqb v.c 0) _ z3))) (sym (eqb-true _ _ (and_right (eqb v.c 0) _ z3)))

pub stored_value_of : (v : Value) → value_codes v ≡ true → stored_value (value_of v) ≡ v
stored_value_of v h = stored_by v (eqb v.flag 1) refl h

zero_value : {f a b c d s : ℕ} → f ≡ 0 → a ≡ 0 → b ≡ 0 → c ≡ 0 → d ≡ 0 → s ≡ 0
    → ◌≡◌ {A = Value} (record { flag = f; a = a; b = b; c = c; d = d; slot = s }) (record { flag = 0; a = 0; b = 0; c = 0; d = 0; slot = 0 })
zero_value p q r s t u = cc

-- Nodes.

same_node : {k k' : ℕ} {v v' : model-value.Value} {c c' i i' : Bool} → k ≡ k' → v ≡ v' → c ≡ c' → i ≡ i'
    → ◌≡◌ {A = model.Node} (record { key = k; value = v; connected = c; incoming = i }) (record { key = k'; value = v'; connected = c'; incoming = i' })
same_node p q r s = cc

pub node_of_stored : (n : model.Node) → node_of (stored_node n) ≡ n
node_of_stored n = same_node (num_key_of n.key) (value_of_stored n.value) (flag_there n.connected) (flag_there n.incoming)

same_parts : {k k' : Key} {v v' : Value} {s s' d d' : ℕ} → k ≡ k' → v ≡ v' → s ≡ s' → d ≡ d'
    → ◌≡◌ {A = Node} (record { key = k; value = v; status = record { state = s; direction = d } }) (record { key = k'; value = v'; status = record { state = s'; direction = d' } })
same_parts p q r s = cc

pub stored_node_of : (n : Node) → Words n.key → node_codes n ≡ true → stored_node (node_of n) ≡ n
stored_node_of n w h =
    let r = and_right (leb n.status.state 1) _ h in
    same_parts (key_of_num n.key w) (stored_value_of n.value (and_right (leb n.status.direction 1) _ r))
    (flag_back n.status.state (and_left (leb n.status.state 1) _ h)) (flag_back n.status.direction (and_left (leb n.status.direction 1) _ r))

codes_of : (slot : ℕ) (x : Option model-value.Address) → value_codes (stored_address slot x) ≡ true
codes_of slot none = refl
codes_of slot (some x) = refl

pub codes_stored : (n : model.Node) → node_codes (stored_node n) ≡ true
codes_stored n = rw (flag_code n.connected, flag_code n.incoming) (codes_of n.value.slot n.value.address)

-- a node that is zero all over
pub zero_is : (n : Node) → is_zero n ≡ true → n ≡ zero_node
zero_is n h =
    let p = and_both _ _ h in
    let k = and_both _ _ p.0 in
    let k1 = and_both _ _ k.1 in
    let k2 = and_both _ _ k1.1 in
    let q = and_both _ _ p.1 in
    let v = and_both _ _ q.0 in
    let v1 = and_both _ _ v.1 in
    let v2 = and_both _ _ v1.1 in
    let v3 = and_both _ _ v2.1 in
    let v4 = and_both _ _ v3.1 in
    let t = and_both _ _ q.1 in
    same_parts
    (same_words (eqb-true _ _ k.0) (eqb-true _ _ k1.0) (eqb-true _ _ k2.0) (eqb-true _ _ k2.1))
    (zero_value (eqb-true _ _ v.0) (eqb-true _ _ v1.0) (eqb-true _ _ v2.0) (eqb-true _ _ v3.0) (eqb-true _ _ v4.0) (eqb-true _ _ v4.1))
    (eqb-true _ _ t.0) (eqb-true _ _ t.1)

-- A stored node with another status or value.

pub stored_codes : (n : Node) → n ≡ stored_node (node_of n) → node_codes n ≡ true
stored_codes n e = ap node_codes e ∙ codes_stored (node_of n)

pub node_of_restated : (state : ℕ) (direction : std.Option ℕ) (n : Node)
    → node_of (restated state direction n) ≡ model.with_status (is_one state) (optional_of direction) (node_of n)
node_of_restated state None n = refl
node_of_restated state (Some d) n = refl

pub stored_restated : (state : ℕ) (direction : std.Option ℕ) (n : Node) → n ≡ stored_node (node_of n) → state ≤ 1
    → MatchOption direction ⊤ (λ d. d ≤ 1)
    → restated state direction n ≡ stored_node (model.with_status (is_one state) (optional_of direction) (node_of n))
stored_restated state None n e h k =
    same_parts (ap (λ (x : Node). x.key) e) (ap (λ (x : Node). x.value) e) (sym (flag_back state (le-leb state 1 h))) (ap (λ (x : Node). x.status.direction) e)
stored_restated state (Some d) n e h k =
    same_parts (ap (λ (x : Node). x.key) e) (ap (λ (x : Node). x.value) e) (sym (flag_back state (le-leb state 1 h))) (sym (flag_back d (le-leb d 1 k)))

pub stored_revalued : (v : Value) (n : Node) → n ≡ stored_node (node_of n) → value_codes v ≡ true
    → revalued v n ≡ stored_node (model.with_value (value_of v) (node_of n))
stored_revalued v n e h =
    same_parts (ap (λ (x : Node). x.key) e) (sym (stored_value_of v h)) (ap (λ (x : Node). x.status.state) e) (ap (λ (x : Node). x.status.direction) e)
