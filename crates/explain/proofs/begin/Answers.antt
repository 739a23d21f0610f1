use Rattle.std.proofs.Common.{sym}
use Rattle.std.proofs.lemmas.Result.{err_from_is_err_and}
use Rattle.std.specs.Option.{is_some}
use borrow.Author.Tests.{le-leb, lt-leb}
use Rattle.key.specs.Answers.{option_of}
use Rattle.on_key.proofs.Questions.{passed_five}
use Rattle.explain.proofs.Ends.{opened_refused, opened_short, opened_malformed}
use Rattle.explain.proofs.begin.Goals as goal

pub returns-in_err-k : goal.returns-in_err-k
returns-in_err-k g c =
    let p = err_from_is_err_and c.from_residual.result c.from_residual.ensures.1 in
    rw (p.1, p.2) (opened_refused c.args.s.now c.args.key.now (is_some c.args.arguments) (option_of c.args.time) _ _ (sym c.in_err-k.ensures.failed))

pub returns-then-room-lt-ROOM : goal.returns-then-room-lt-ROOM
returns-then-room-lt-ROOM g c =
    opened_short c.args.s.now c.args.key.now (is_some c.args.arguments) (option_of c.args.time) _ (sym c.in_ok-k.ensures.failed) (lt-leb _ _ c.if-room-lt-ROOM.true)

pub located-requires : goal.located-requires
located-requires g c = (passed_five c.args.s.now c.args.key.now (is_some c.args.arguments) (option_of c.args.time) (sym c.in_ok-k.ensures.failed)).header

pub returns-in_err-k-2 : goal.returns-in_err-k-2
returns-in_err-k-2 g c =
    let p = err_from_is_err_and c.from_residual-in_err-k-2.result c.from_residual-in_err-k-2.ensures.1 in
    rw (p.1, p.2)
    (opened_malformed c.args.s.now c.args.key.now (is_some c.args.arguments) (option_of c.args.time) _ (sym c.in_ok-k.ensures.failed) (le-leb _ _ c.if-room-lt-ROOM.false)
    (rw c.in_ok-k.ensures.given.0 at c.in_err-k-2.ensures))
