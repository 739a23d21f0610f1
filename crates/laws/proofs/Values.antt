-- Laws of the tests on values: equality, and being of one /24.
use mathlib.Core.Path.{◌≡◌, refl, sym, ◌∙◌}
use mathlib.Core.Bool.{true}
use mathlib.Core.Option.{Option, none, some}
use Rattle.model.specs.Base.{same}
use Rattle.model.specs.Value.{Address, Value, same_net, same_address, same_value, shares_net}
use Rattle.laws.proofs.Tests.{same_self, same_true, same_of, clash, and_left, and_right}

-- the first three octets of two addresses of one /24
pub record SameNet (x y : Address) : Type 0 where
  pub a : x.a ≡ y.a
  pub b : x.b ≡ y.b
  pub c : x.c ≡ y.c

pub same_net_true : (x y : Address) → same_net x y ≡ true → SameNet x y
unfolding same_net
same_net_true x y e =
    let r = and_right (same x.a y.a) _ e in
    record {
      a = same_true x.a y.a (and_left (same x.a y.a) _ e);
      b = same_true x.b y.b (and_left (same x.b y.b) _ r);
      c = same_true x.c y.c (and_right (same x.b y.b) _ r);
    }

pub same_net_of : (x y : Address) → SameNet x y → same_net x y ≡ true
unfolding same_net
same_net_of x y h = rw (same_of x.a y.a h.a, same_of x.b y.b h.b, same_of x.c y.c h.c)

pub same_net_self : (x : Address) → same_net x x ≡ true
same_net_self x = same_net_of x x (record { a = refl; b = refl; c = refl })

pub same_address_true : (x y : Option Address) → same_address x y ≡ true → x ≡ y
same_address_true none none e = refl
same_address_true none (some y) e = clash e refl
same_address_true (some x) none e = clash e refl
same_address_true (some x) (some y) e =
    let h = same_net_true x y (and_left (same_net x y) _ e) in
    let q = same_true x.d y.d (and_right (same_net x y) _ e) in
    λ j. some (record { a = h.a j; b = h.b j; c = h.c j; d = q j })

pub same_address_self : (x : Option Address) → same_address x x ≡ true
same_address_self none = refl
same_address_self (some x) = rw (same_net_self x, same_self x.d)

pub same_value_true : (v w : Value) → same_value v w ≡ true → v ≡ w
unfolding same_value
same_value_true v w e =
    let p = same_address_true v.address w.address (and_left (same_address v.address w.address) _ e) in
    let q = same_true v.slot w.slot (and_right (same_address v.address w.address) _ e) in
    λ j. record { address = p j; slot = q j }

pub same_value_self : (v : Value) → same_value v v ≡ true
unfolding same_value
same_value_self v = rw (same_address_self v.address, same_self v.slot)

pub shares_net_sym : (x y : Option Address) → shares_net x y ≡ true → shares_net y x ≡ true
shares_net_sym none y e = clash e refl
shares_net_sym (some x) none e = clash e refl
shares_net_sym (some x) (some y) e = let h = same_net_true x y e in same_net_of y x (record { a = sym h.a; b = sym h.b; c = sym h.c })

pub shares_net_trans : (x y z : Option Address) → shares_net x y ≡ true → shares_net y z ≡ true → shares_net x z ≡ true
shares_net_trans none y z e f = clash e refl
shares_net_trans (some x) none z e f = clash e refl
shares_net_trans (some x) (some y) none e f = clash f refl
shares_net_trans (some x) (some y) (some z) e f =
    let g = same_net_true x y e in
    let h = same_net_true y z f in
    same_net_of x z (record { a = g.a ∙ h.a; b = g.b ∙ h.b; c = g.c ∙ h.c })
