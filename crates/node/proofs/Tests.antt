-- The tests on declared values are the model's tests on what they stand for.
use mathlib.Core.Path.{◌≡◌, refl}
use mathlib.Core.Bool.{Bool, true, false, cond, not, ◌&&◌, ◌||◌, or-false}
use mathlib.Core.Option.{none, some}
use lib.Dec.{eqb}
use Rattle.model.specs.Base.{same}
use Rattle.laws.proofs.Tests.{clash}
use Rattle.model.specs.Value.{Address, same_net, same_address, shares_net, same_value}
use Rattle.model.specs.Filter.{counts}
use Rattle.node.specs.declared.Value.{Value}
use Rattle.node.specs.Node.{value_of}

pub and_both : (a b : Bool) → (a && b) ≡ true → (a ≡ true) × (b ≡ true)
and_both true b e = (refl, e)
and_both false b e = (e, clash e refl)

-- both have an address, and it is the same; or neither has one
same_address_lem : (p q : Bool) (x y : Address)
    → (((p && q) && (same_net x y && same x.d y.d)) || (not p && not q)) ≡ same_address (cond p (some x) none) (cond q (some y) none)
same_address_lem true true x y = or-false (same_net x y && same x.d y.d)
same_address_lem true false x y = refl
same_address_lem false true x y = refl
same_address_lem false false x y = refl

pub same_value_lem : (v w : Value)
    → ((((eqb v.flag 1 && eqb w.flag 1) && ((eqb v.a w.a && (eqb v.b w.b && eqb v.c w.c)) && eqb v.d w.d))
    || (not (eqb v.flag 1) && not (eqb w.flag 1)))
    && eqb v.slot w.slot)
    ≡ same_value (value_of v) (value_of w)
unfolding same_value same_net same
same_value_lem v w =
    rw (same_address_lem (eqb v.flag 1) (eqb w.flag 1) (record { a = v.a; b = v.b; c = v.c; d = v.d })
    (record { a = w.a; b = w.b; c = w.c; d = w.d }))

shares_net_lem : (p q : Bool) (x y : Address) → ((p && q) && same_net x y) ≡ shares_net (cond p (some x) none) (cond q (some y) none)
shares_net_lem true true x y = refl
shares_net_lem true false x y = refl
shares_net_lem false true x y = refl
shares_net_lem false false x y = refl

pub counts_is : (v w : Value) (t : Bool) → t ≡ same_value (value_of w) (value_of v)
    → (((eqb v.flag 1 && eqb w.flag 1) && (eqb v.a w.a && (eqb v.b w.b && eqb v.c w.c))) && not t)
    ≡ counts (value_of v) (value_of w)
unfolding counts same_net same
counts_is v w t e =
    rw (
      e,
      shares_net_lem (eqb v.flag 1) (eqb w.flag 1) (record { a = v.a; b = v.b; c = v.c; d = v.d })
          (record { a = w.a; b = w.b; c = w.c; d = w.d }),
    )
