use Rattle.std.proofs.Common.{refl, sym, ◌∙◌}
use Rattle.model.specs.Layout.{table_of}
use Rattle.laws.proofs.Touched.{distance_of}
use Rattle.distances.proofs.Passes.{asked_none, asked_some, ready_of}
use Rattle.distances.proofs.Named.{yields_by, yields_none, yields_nothing, yields_again, yields_first}
use Rattle.distances.proofs.pass.given_at.Goals as goal

pub returns-in_default : goal.returns-in_default
returns-in_default c =
    let z = c.default.ensures in
    let e = sym c.in_default.ensures in
    (asked_none _ e, yields_none _ _ _ _ z.1.0 z.1.1 z.0 e)

pub bucket_formed_at-requires : goal.bucket_formed_at-requires
bucket_formed_at-requires c = (distance_of c.args.d _ (sym c.in-Some.ensures)).below

pub returns-then-not-bucket_formed_at : goal.returns-then-not-bucket_formed_at
returns-then-not-bucket_formed_at c =
    (asked_some _ (sym c.in-Some.ensures) (sym c.bucket_formed_at.ensures ∙ c.if-not-bucket_formed_at.true), refl)

pub given_in-g-requires : goal.given_in-g-requires
given_in-g-requires c =
    ready_of c.args.s.now _ _ (record { size = c.told-s; header = c.requires }) (sym c.in-Some.ensures) (sym c.bucket_formed_at.ensures ∙ c.if-not-bucket_formed_at.false)

pub returns-then-g-eq0 : goal.returns-then-g-eq0
returns-then-g-eq0 c =
    let a = c.args in
    let e = sym c.in-Some.ensures in (
      asked_some _ e (sym c.bucket_formed_at.ensures ∙ c.if-not-bucket_formed_at.false),
      yields_by e (yields_nothing a.time a.before.now (table_of a.s.now) _ _ e c.given_in-g.ensures c.if-g-eq0.true),
    )

pub returns-then-contains : goal.returns-then-contains
returns-then-contains c =
    let a = c.args in
    let e = sym c.in-Some.ensures in
    let z = c.default-then-contains.ensures in (
      asked_some _ e (sym c.bucket_formed_at.ensures ∙ c.if-not-bucket_formed_at.false),
      yields_by e (yields_again a.time a.before.now (table_of a.s.now) _ _ e _ z.1.0 z.1.1 z.0 (sym c.contains.ensures.value ∙ c.if-contains.true)),
    )

pub returns : goal.returns
returns c =
    let a = c.args in
    let e = sym c.in-Some.ensures in (
      asked_some _ e (sym c.bucket_formed_at.ensures ∙ c.if-not-bucket_formed_at.false),
      yields_by e (yields_first a.time a.before.now (table_of a.s.now) _ _ e c.given_in-g.ensures (sym c.contains.ensures.value ∙ c.if-contains.false)),
    )
