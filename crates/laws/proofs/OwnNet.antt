-- A member's own old record (02, slip 3): a value that keeps the /24 of the key's held one does not fail the table filter while at most ten are
-- held there, the key's own among them. On any table.
use Prim.Native.Nat.{ℕ, zero, suc, ◌≤◌, ◌<◌}
use native.Mathlib.Nat.{not-suc-le-zero, eq-or-lt_of_le}
use native.Mathlib.Omega.{arith}
use mathlib.Core.Path.{◌≡◌, refl, sym, ap, ◌∙◌, subst}
use mathlib.Core.Bool.{Bool, true, false, not, ◌&&◌}
use mathlib.Core.List.{List, [], ◌∷◌}
use mathlib.Core.Logic.{⊎_elim}
use mathlib.Core.Option.{some, some-injective}
use lib.ListN.{length}
use lib.Dec.{leb}
use borrow.Author.Tests.{lt-leb}
use Rattle.model.specs.Base.{same, is_some}
use Rattle.model.specs.Value.{Value, shares_net, has_address, same_value}
use Rattle.model.specs.Node.{Node}
use Rattle.model.specs.Filter.{counts, counted, of_net, ip_filter_fails, max_nodes_per_subnet_table}
use Rattle.model.specs.Bucket.{Bucket, nodes, find, get, omit}
use Rattle.model.specs.Table.{Table, num_buckets, held_nodes, other_nodes, filter_runs, fails_table_filter}
use Rattle.laws.proofs.Tests.{clash, split, and_none}
use Rattle.laws.proofs.KeepLists.{length_select_append, get_nodes, omit_append}

-- a node is of the /24 of v
abbrev shares : Value → Node → Bool
shares v n = shares_net v.address n.value.address

module _ (v : Value) (k : ℕ) where
  -- what is counted is of the /24
  fewer : (ns : List Node) → length (counted v (omit k ns)) ≤ length (of_net v ns)
  unfolding counts
  fewer [] = omega arith
  fewer (n ∷ ns) =
      let h = fewer ns in
      split (same n.key k)
      (λ e. rw e (split (shares v n) (λ p. rw p (omega (arith, h))) (λ p. rw p h)))
      (λ e. rw e (split (shares v n)
      (λ p. split (not (same_value n.value v)) (λ q. rw (p, q) (omega (arith, h))) (λ q. rw (p, q) (omega (arith, h))))
      (λ p. rw p h)))

  -- and the key's own node is of the /24 and not counted
  own_fewer : (ns : List Node) (n : Node) → find k ns ≡ some n → shares v n ≡ true → length (counted v (omit k ns)) < length (of_net v ns)
  unfolding counts
  own_fewer [] n e h = clash refl (sym (ap is_some e))
  own_fewer (m ∷ ns) n e h =
      split (same m.key k)
      (λ c.
      let g : m ≡ n = some-injective m n (rw c at e) in
      let p : shares v m ≡ true = ap (shares v) g ∙ h in
      rw (c, p) (let f = fewer ns in omega (arith, f)))
      (λ c.
      let f = own_fewer ns n (rw c at e) h in
      rw c (split (shares v m)
      (λ p. split (not (same_value m.value v)) (λ q. rw (p, q) (omega (arith, f))) (λ q. rw (p, q) (omega (arith, f))))
      (λ p. rw p f)))

  module _ (bs : ℕ → Bucket) (i : ℕ) (n : Node) (h : get k (bs i) ≡ some n) (e : shares v n ≡ true) where
    own_below : (m : ℕ) → i < m → length (counted v (omit k (held_nodes m bs))) < length (of_net v (held_nodes m bs))
    unfolding held_nodes
    own_below zero l = absurd (not-suc-le-zero l)
    own_below (suc m) l =
        let a =
        ap (λ (ns : List Node). length (counted v ns)) (omit_append k (held_nodes m bs) (nodes (bs m)))
        ∙ length_select_append (λ (x : Node). counts v x.value) (omit k (held_nodes m bs)) (omit k (nodes (bs m))) in
        let b = length_select_append (shares v) (held_nodes m bs) (nodes (bs m)) in
        ⊎_elim
        (λ (q : i ≡ m).
        let c = fewer (held_nodes m bs) in
        let d = own_fewer (nodes (bs m)) n (subst (λ (j : ℕ). find k (nodes (bs j)) ≡ some n) q (sym (get_nodes k (bs i)) ∙ h)) e in
        omega (arith, a, b, c, d))
        (λ (q : i < m). let c = own_below m q in let d = fewer (nodes (bs m)) in omega (arith, a, b, c, d))
        (eq-or-lt_of_le (omega arith))

-- The key k is held in bucket i, with a value of the /24 of v; at most ten of that /24 are held. Then v, as a value of k, passes the table filter.
pub own_net : (t : Table) (k : ℕ) (v : Value) (i : ℕ) → i < num_buckets → (n : Node) → get k (t.buckets i) ≡ some n → shares_net v.address n.value.address ≡ true
    → length (of_net v (held_nodes num_buckets t.buckets)) ≤ max_nodes_per_subnet_table → (j : ℕ) → fails_table_filter t j k v ≡ false
unfolding fails_table_filter ip_filter_fails
own_net t k v i l n h e m j =
    let f = own_below v k t.buckets i n h e num_buckets l in
    let c : ℕ = length (counted v (other_nodes k t.buckets)) in
    let g : leb max_nodes_per_subnet_table c ≡ false = lt-leb max_nodes_per_subnet_table c (omega (arith, f, m)) in
    and_none (filter_runs t j k v) (has_address v && leb max_nodes_per_subnet_table c) (and_none (has_address v) (leb max_nodes_per_subnet_table c) g)
