use Rattle.std.proofs.Common.{refl}
use Rattle.distances.proofs.Named.{gives_nothing, gives_record}
use Rattle.distances.proofs.pass.given_in.Goals as goal

pub returns-then-g : goal.returns-then-g
returns-then-g c = gives_record c.args.s.now c.args.time c.args.i c.fits-s c.requires c.given_at-g.ensures c.if-g.true

pub returns : goal.returns
returns c =
    gives_nothing c.args.s.now c.args.time c.args.i c.fits-s c.requires c.given_at-g.ensures c.if-g.false refl
    c.default.ensures.1.1 c.default.ensures.0
