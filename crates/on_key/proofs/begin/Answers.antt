use Rattle.std.proofs.Common.{sym}
use Rattle.std.specs.Option.{is_some}
use Rattle.std.proofs.lemmas.Result.{err_from_is_err_and}
use Rattle.key.specs.Answers.{option_of}
use Rattle.on_key.proofs.Ended.{size_told}
use Rattle.on_key.proofs.Steps.{begun_short, begun_refused, begun_malformed}
use Rattle.on_key.proofs.begin.Goals as goal

pub returns-in_err-s : goal.returns-in_err-s
returns-in_err-s g c =
    let v = c.in_err-s.ensures in
    let n = rw v.ok_part at c.as_array.ensures.cases in
    let p = err_from_is_err_and c.from_residual.result c.from_residual.ensures.1 in
    rw (p.1, p.2, size_told v.value v.ok_part) (begun_short c.args.s.now c.args.key.now (is_some c.args.arguments) (option_of c.args.time) n)

pub returns-in_err-key : goal.returns-in_err-key
returns-in_err-key g c =
    let w = rw c.in_ok-s.ensures.ok_part at c.as_array.ensures.cases in
    let p = err_from_is_err_and c.from_residual-in_err-key.result c.from_residual-in_err-key.ensures.1 in
    rw (← w.same, p.1, p.2) (begun_refused c.in_ok-s.s.now c.args.key.now (is_some c.args.arguments) (option_of c.args.time) _ (sym c.in_err-key.ensures.failed))

pub returns-in_err-key-2 : goal.returns-in_err-key-2
returns-in_err-key-2 g c =
    let w = rw c.in_ok-s.ensures.ok_part at c.as_array.ensures.cases in
    let p = err_from_is_err_and c.from_residual-in_err-key-2.result c.from_residual-in_err-key-2.ensures.1 in
    rw (← w.same, p.1, p.2)
    (begun_malformed c.in_ok-s.s.now c.args.key.now c.args.arguments (option_of c.args.time) (sym c.in_ok-key.ensures.failed) (rw c.in_ok-key.ensures.given.0 at c.in_err-key-2.ensures))
